use Rattle.rare_law_parts.proofs.SameRule.{types_as}
use Rattle.rare_law_parts.proofs.rules.typed.Goals as goal

pub from_parts-requires-clause-typing : goal.from_parts-requires-clause-typing
from_parts-requires-clause-typing c =
    types_as c.in_ok-rule.rule _ c.in_ok-constraints.constraints _ c.in_ok-rule.ensures c.in_ok-constraints.ensures c.requires.types
