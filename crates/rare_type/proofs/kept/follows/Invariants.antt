use Rattle.std.proofs.Common.{◌≡◌, drop}
use Rattle.rare_linear.specs.EntailmentTest.{is_plainly_met}
use Rattle.rare_rule.specs.Params.{rule_lows}
use Rattle.rare_type.proofs.Following.{Left}
use Rattle.rare_type.proofs.kept.follows.Given as goal

-- what is left decides, by what is missing
abbrev pub invariant-loop-name : goal.invariant-loop-name
invariant-loop-name l = is_plainly_met (rule_lows l.params) l.need ≡ Left l.params l.missing (drop l.name-index l.name-items)
