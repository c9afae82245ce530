use Rattle.rare_rule.proofs.Refuting.{lists_fail, premise_fails}
use Rattle.rare_rule.proofs.laws.wrong_rules_fail.Goals as goal

pub returns : goal.returns
returns c = record { lists = lists_fail; premise = premise_fails }
