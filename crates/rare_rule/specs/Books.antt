-- Books of rules: each rule with whether it is shipped.
use Rattle.std.specs.Prelude.{ℕ, Bool, List, map, bytes_eq, slice_get, Option}
use Rattle.std.specs.Option.{option_map}
use Rattle.std.specs.List.{list_any}
use Rattle.rare_sort.specs.Each.{Each}
use Rattle.rare_rule.specs.TypedRule.{TypedRule, IsTypedRule}

pub record BookRule : Type 0 where
  pub typed : TypedRule
  pub shipped : Bool

abbrev pub book_rule : TypedRule → Bool → BookRule
book_rule t shipped = record { typed = t; shipped = shipped }

abbrev pub rule_name : BookRule → List ℕ
rule_name b = b.typed.rule.name

abbrev pub rule_names : List BookRule → List (List ℕ)
rule_names bs = map rule_name bs

-- whether the rule has this name
abbrev pub has_name : List ℕ → BookRule → Bool
has_name name b = bytes_eq name b.typed.rule.name

-- whether a rule of this name stands in the book
abbrev pub is_name_in : List ℕ → List BookRule → Bool
is_name_in name bs = list_any (has_name name) bs

abbrev pub typed_at : List BookRule → ℕ → Option TypedRule
typed_at bs k = option_map (λ b. b.typed) (slice_get bs k)

abbrev pub shipped_at : List BookRule → ℕ → Option Bool
shipped_at bs k = option_map (λ b. b.shipped) (slice_get bs k)

-- each rule is in form, with the constraints of its typing
abbrev pub AreTyped : List BookRule → Type 0
AreTyped bs = Each (λ b. IsTypedRule b.typed) bs
