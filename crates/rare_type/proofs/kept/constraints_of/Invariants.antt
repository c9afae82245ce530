use Rattle.std.proofs.Common.{◌≡◌, [], ◌++◌, drop}
use Rattle.rare_rule.specs.Params.{rule_lows}
use Rattle.rare_rule.specs.RuleSorting.{constraints_after}
use Rattle.rare_type.specs.FirstCase.{floors}
use Rattle.rare_type.proofs.kept.constraints_of.Given as goal

-- those kept stand before those of what is left
abbrev pub invariant-loop-need : goal.invariant-loop-need
invariant-loop-need l = constraints_after (rule_lows l.params) [] l.needs ≡ l.kept ++ constraints_after (rule_lows l.params) (floors l.kept) (drop l.need-index l.needs)
