-- Rewrites that are true, and rules that hold.
use Rattle.std.specs.Prelude.{◌≡◌, ℕ, true, false, nat_eq, List, slice_get, Some}
use Rattle.std.specs.List.{list_any}
use Rattle.rare_sort.specs.declared.declarations.Declarations.{Declarations}
use Rattle.rare_meaning.specs.Interpretations.{FunctionClass}
use Rattle.rare_meaning.specs.TrueRewrite.{MeansSame}
use Rattle.rare_rule.specs.Books.{BookRule, shipped_at}
use Rattle.rare_proof.specs.RulesHold.{HoldsAt}
use Rattle.rare_text.specs.Problems.{StatedRewrite}

-- the rewrites at these places are true
abbrev pub PlacesAreTrue : FunctionClass → Declarations → List StatedRewrite → List ℕ → Type 0
PlacesAreTrue c d rewrites places =
    (k : ℕ) (r : StatedRewrite) → list_any (nat_eq k) places ≡ true → slice_get rewrites k ≡ Some r → MeansSame c d r.left r.right

-- the rules with these numbers hold, but for those that are shipped
abbrev pub NamedHold : FunctionClass → List BookRule → List ℕ → Type 0
NamedHold c book named = (k : ℕ) → list_any (nat_eq k) named ≡ true → shipped_at book k ≡ Some false → HoldsAt c book k

-- where the rules that are named hold, what is concluded is true
abbrev pub AreSound : Declarations → List BookRule → List StatedRewrite → (named concluded : List ℕ) → Type 0
AreSound d book rewrites named concluded = (c : FunctionClass) → NamedHold c book named → PlacesAreTrue c d rewrites concluded
