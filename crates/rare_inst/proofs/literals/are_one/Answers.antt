use Rattle.std.proofs.Common.{pos}
use Rattle.rare_inst.proofs.LiteralTests.{more_parts}
use Rattle.rare_inst.proofs.literals.are_one.Goals as goal

pub returns-in_default-2 : goal.returns-in_default-2
returns-in_default-2 c = more_parts c.args.parts.now (c.args.k, pos 1) c.in_default.len_at_least
