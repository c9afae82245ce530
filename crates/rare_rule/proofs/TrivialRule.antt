-- The rule without parameters that rewrites `true` to itself types.
use Rattle.std.proofs.Common.{ℕ, ◌≡◌, List, [], refl, sym, subst}
use Rattle.rare_linear.specs.declared.constraint.Constraint.{Constraint}
use Rattle.rare_sort.specs.declared.head.Head.TheVariants as head
use Rattle.rare_sort.specs.declared.sort.Sort.{Bool}
use Rattle.rare_sort.proofs.SortingLemmas.{sorting-node}
use Rattle.rare_rule.specs.RuleSorting.{Types}
use Rattle.rare_rule.specs.Written.{apply, plain_rule}
use Rattle.rare_rule.specs.declared.rule.Rule.{Rule}
use Rattle.rare_rule.proofs.TypingLemmas.{shaped}

abbrev pub trivial : List ℕ → Rule
trivial name = plain_rule name [] [] (apply head.True []) (apply head.True [])

trivial_types : (name : List ℕ) → Types (trivial name) []
trivial_types name = record {
  typed = record {
    sort = Bool;
    left = shaped _ (apply head.True []) Bool [] (simp sorting-node (refl, tt, refl));
    right = shaped _ (apply head.True []) Bool [] (simp sorting-node (refl, tt, refl));
    context = tt;
    premises = tt;
  };
  same = refl;
  possible = refl;
}

pub types_as : (name : List ℕ) (r : Rule) (cs : List Constraint) → r ≡ trivial name → cs ≡ [] → Types r cs
types_as name r cs is none = subst (λ x. Types x cs) (sym is) (subst (Types (trivial name)) (sym none) (trivial_types name))
