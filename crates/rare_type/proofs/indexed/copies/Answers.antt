use Rattle.rare_type.proofs.indexed.copies.Goals as goal

pub returns : goal.returns
returns c = c.word.ensures _ c.product.ensures
