use Rattle.rare_sexpr.proofs.Turns.{gone_none, turn_goes, turn_command, turn_refused, turn_waits, read_end}
use Rattle.rare_sexpr.proofs.parser.Parser.read.Goals as goal

pub words-init : goal.words-init
words-init c = gone_none c.args.bytes.now c.args.ended c.args.self.now c.requires

pub words-preserved : goal.words-preserved
words-preserved c = (turn_goes c.args.bytes.now c.args.ended c.args.self.now c.words.self c.in_ok-turn.field-0 c.turn.new.self c.words.invariant c.in_ok-turn.ensures c.in-Goes.is).1

pub returns-in-Command : goal.returns-in-Command
returns-in-Command c = turn_command c.args.bytes.now c.args.ended c.args.self.now c.words.self c.in_ok-turn.field-0 c.in-Command.command c.turn.new.self c.words.invariant c.in_ok-turn.ensures c.in-Command.is

pub returns-in-Refused : goal.returns-in-Refused
returns-in-Refused c = turn_refused c.args.bytes.now c.args.ended c.args.self.now c.words.self c.in_ok-turn.field-0 c.in-Refused.place c.in-Refused.reason c.turn.new.self c.words.invariant c.in_ok-turn.ensures c.in-Refused.is

pub returns-in-Waits : goal.returns-in-Waits
returns-in-Waits c = turn_waits c.args.bytes.now c.args.ended c.args.self.now c.words.self c.in_ok-turn.field-0 c.turn.new.self c.words.invariant c.in_ok-turn.ensures c.in-Waits.is

pub returns : goal.returns
returns c = read_end c.args.bytes.now c.args.ended c.args.self.now c.words.self c.end.result c.words.invariant c.words-test.false c.end.ensures
