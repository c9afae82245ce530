use Rattle.rare_rule.proofs.TrivialRule.{types_as}
use Rattle.rare_rule.proofs.tests.named.Goals as goal

pub from_parts-requires-clause-typing : goal.from_parts-requires-clause-typing
from_parts-requires-clause-typing c = types_as c.args.name.now c.in_ok-rule.rule c.new.result c.in_ok-rule.ensures c.new.ensures
