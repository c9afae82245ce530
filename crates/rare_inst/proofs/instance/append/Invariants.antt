use Rattle.std.proofs.Common.{◌≡◌, ◌++◌, take}
use Rattle.rare_inst.proofs.instance.append.Given as goal

abbrev pub invariant-loop-id : goal.invariant-loop-id
invariant-loop-id l = l.to ≡ l.initial.to ++ take l.id-index l.from
