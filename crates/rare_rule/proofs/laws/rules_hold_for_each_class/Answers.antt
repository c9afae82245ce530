use Rattle.rare_rule.proofs.ClassLemmas.{any_holds_each}
use Rattle.rare_rule.proofs.laws.rules_hold_for_each_class.Goals as goal

pub returns : goal.returns
returns c = any_holds_each
