use Rattle.std.proofs.Common.{◌≡◌, drop, map, flat_map, Option}
use Rattle.rare_sort.specs.SortRules.{number_in}
use Rattle.rare_sort.specs.Trees.{nesting}
use Rattle.rare_sort.specs.declared.head.Head.{Head}
use Rattle.rare_rule.specs.Nodes.{Walk, walk}
use Rattle.rare_inst.specs.Admission.{fits_literals}
use Rattle.rare_inst.specs.Substituting.{Substitution}
use Rattle.rare_inst.specs.inner.Standing.{StandsFor}
use Rattle.rare_inst.proofs.literals.+fits_literals.Given as goal

abbrev pub decreases-fits_literals : goal.decreases-fits_literals
decreases-fits_literals l = nesting l.tree.now

-- what is left decides
abbrev pub invariant-loop-arg : goal.invariant-loop-arg
invariant-loop-arg l =
    (a : Substitution) → StandsFor a l.numbers → number_in (a.number l.k) ≡ l.value → (parent : Option Head) →
    fits_literals a l.k (flat_map (λ (w : Walk). w.nodes parent) (map walk l.arg-items))
    ≡ fits_literals a l.k (flat_map (λ (w : Walk). w.nodes parent) (map walk (drop l.arg-index l.arg-items)))
