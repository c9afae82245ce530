use Rattle.rare_term_printing.proofs.Sameness.{same_test}
use Rattle.rare_term_printing.proofs.words.is_same_operator.Goals as goal

pub returns : goal.returns
returns c = same_test c.args.a c.args.b c.is_same_head.result c.is_same_head.ensures
