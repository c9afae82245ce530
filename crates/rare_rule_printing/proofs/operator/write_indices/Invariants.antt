use Rattle.std.proofs.Common.{◌≡◌, ◌++◌, take}
use Rattle.std.specs.Prelude.{flat_map}
use Rattle.rare_rule_printing.specs.inner.RulePieces.{spaced_linear}
use Rattle.rare_rule_printing.proofs.operator.write_indices.Given as goal

abbrev pub invariant-loop-index : goal.invariant-loop-index
invariant-loop-index l = l.out ≡ l.fn.out ++ flat_map (spaced_linear l.params) (take l.index-index l.indices)
