use Rattle.rare_type.proofs.indexed.longer.Goals as goal

pub returns : goal.returns
returns c = c.word.ensures _ c.sum.ensures
