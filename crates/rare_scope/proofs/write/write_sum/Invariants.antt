use Rattle.std.proofs.Common.{◌≡◌, ◌++◌, take}
use Rattle.std.specs.Prelude.{codes, flat_map}
use Rattle.rare_scope.specs.inner.Pieces.{spaced_part}
use Rattle.rare_scope.proofs.write.write_sum.Given as goal

abbrev pub invariant-loop-part : goal.invariant-loop-part
invariant-loop-part g l = l.out ≡ (l.fn.out ++ codes "(+") ++ flat_map (spaced_part (g.N.WrittenNames.text l.names)) (take l.part-index l.parts)
