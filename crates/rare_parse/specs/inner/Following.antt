-- What mentions do to the numbers that are found, in their order.
use Rattle.std.specs.Prelude.{◌≡◌, ℕ, ℤ, pos, nat_eq, Bool, true, false, ◌+◌, ◌&&◌, ◌||◌, List, [], ◌∷◌, ◌++◌, flat_map, reverse, Option, Some, None}
use Rattle.std.specs.List.{list_any}
use Rattle.std.specs.Ordering.{int_eq}
use Rattle.rare_linear.specs.Linears.{Part}
use Rattle.rare_sort.specs.SortRules.{width_needs}
use Rattle.rare_sort.specs.declared.sort.Sort.{Sort}
use Rattle.rare_rule.specs.Params.{is_alone_kind, kind_at}
use Rattle.rare_rule.specs.declared.param.Param.{Param}
use Rattle.rare_rule.specs.Determination.{Mention, Determines, Uses, are_in_order, determines}

-- the last that is found comes first
abbrev pub in_order : List ℕ → List Mention → Bool
in_order found ms = are_in_order (reverse found) ms

-- whether the mentions use only what is found before, and what is found behind them
pub record Follows (ms : List Mention) (old new : List ℕ) (ok : Bool) : Type 0 where
  pub order : (rest : List Mention) → in_order old (ms ++ rest) ≡ (ok && in_order new rest)
  pub found : ok ≡ true → (k : ℕ) → list_any (nat_eq k) new ≡ (list_any (nat_eq k) old || list_any (determines k) ms)

-- a name alone, or the names that are used
abbrev pub mention_by : List Part → Option ℕ → Mention
mention_by parts (Some k) = Determines k
mention_by parts None = Uses parts

-- one part is a width or an index alone
abbrev pub is_lone : List Param → ℤ → Part → Bool
is_lone ps constant p = int_eq constant (pos 0) && (int_eq p.1 (pos 1) && is_alone_kind (kind_at ps p.0))

-- the names in the sort of a list
abbrev pub needs_mentions : Sort → List Mention
needs_mentions s = flat_map (λ e. Uses e.parts ∷ []) (width_needs s)

-- whether no name is used before it is found, and what is found
abbrev pub IsOrder : List Mention → Option (List ℕ) → Type 0
IsOrder ms None = are_in_order [] ms ≡ false
IsOrder ms (Some found) = (are_in_order [] ms ≡ true) × ((k : ℕ) → list_any (nat_eq k) found ≡ list_any (determines k) ms)

-- the parameters from number k on are found
abbrev pub are_all_found : List ℕ → ℕ → List Param → Bool
are_all_found found k [] = true
are_all_found found k (p ∷ ps) = list_any (nat_eq k) found && are_all_found found (k + 1) ps
