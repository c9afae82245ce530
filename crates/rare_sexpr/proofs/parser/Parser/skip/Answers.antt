use Rattle.rare_sexpr.proofs.Turns.{gap_skipped}
use Rattle.rare_sexpr.proofs.parser.Parser.skip.Goals as goal

pub returns : goal.returns
returns c = gap_skipped c.args.bytes.now c.args.self.now c.is_comment.result c.skip_gap-gap.result c.behind_gap-self.result c.requires.parsing c.is_comment.ensures c.behind_gap-self.ensures c.skip_gap-gap.ensures
