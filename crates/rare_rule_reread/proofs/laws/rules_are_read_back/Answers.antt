use Rattle.rare_rule_reread.proofs.RuleAgain.{rule_back}
use Rattle.rare_rule_reread.proofs.laws.rules_are_read_back.Goals as goal

pub returns : goal.returns
returns c = rule_back
