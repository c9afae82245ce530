use Rattle.rare_sexpr.proofs.Scans.{scanned_end}
use Rattle.rare_sexpr.proofs.scan.scan_on.Goals as goal

pub returns-then-ended : goal.returns-then-ended
returns-then-ended c = scanned_end c.args.word.now c.args.at c.args.part c.word.i c.word.part c.args.ended c.end_word.result c.word.invariant c.word-test.false c.if-ended.true c.end_word.ensures
