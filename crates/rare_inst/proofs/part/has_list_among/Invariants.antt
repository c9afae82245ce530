use Rattle.std.proofs.Common.{◌≡◌, drop}
use Rattle.rare_rule.specs.Holds.{has_list}
use Rattle.rare_inst.proofs.part.has_list_among.Given as goal

-- what is left decides
abbrev pub invariant-loop-arg : goal.invariant-loop-arg
invariant-loop-arg l = has_list l.params l.args ≡ has_list l.params (drop l.arg-index l.args)
