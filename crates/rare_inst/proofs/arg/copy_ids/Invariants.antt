use Rattle.std.proofs.Common.{◌≡◌, take}
use Rattle.rare_inst.proofs.arg.copy_ids.Given as goal

abbrev pub invariant-loop-id : goal.invariant-loop-id
invariant-loop-id l = l.to ≡ take l.id-index l.from
