use Rattle.rare_type.proofs.Sound.{sound}
use Rattle.rare_type.proofs.typing.type_rule.Goals as goal

pub from_parts-requires-clause-typing : goal.from_parts-requires-clause-typing
from_parts-requires-clause-typing c = sound c.args.rule c.in_ok-constraints.constraints c.in_ok-constraints.ensures
