use Rattle.std.proofs.Common.{arith}
use Rattle.rare_sexpr.proofs.Turns.{skipped_gone, skipped_turn}
use Rattle.rare_sexpr.proofs.parser.Parser.turn.Goals as goal

pub returns-then-self-bytes : goal.returns-then-self-bytes
returns-then-self-bytes c = (omega arith, skipped_gone c.args.bytes.now c.args.ended c.args.self.now c.skip.new.self c.skip.ensures)

pub returns : goal.returns
returns c = skipped_turn c.args.bytes.now c.args.ended c.args.self.now c.skip.new.self c.take-2.result _ c.skip.ensures c.take-2.ensures
