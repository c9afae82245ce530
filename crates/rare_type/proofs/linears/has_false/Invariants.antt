use Rattle.std.proofs.Common.{◌≡◌, drop}
use Rattle.rare_type.specs.FirstCase.{some_never_holds}
use Rattle.rare_type.proofs.linears.has_false.Given as goal

-- what is left decides
abbrev pub invariant-loop-need : goal.invariant-loop-need
invariant-loop-need l = some_never_holds l.needs ≡ some_never_holds (drop l.need-index l.needs)
