use Rattle.rare_linear.specs.Linears.{LinearExpression, NamesBelow}
use Rattle.rare_inst.proofs.Copies.{ok_along}
use Rattle.rare_inst.proofs.PuttingSorts.{word_named}
use Rattle.rare_inst.proofs.elements.width_of_sort.Goals as goal

pub returns-in-BitVec-clause-named : goal.returns-in-BitVec-clause-named
returns-in-BitVec-clause-named c n named =
    ok_along (λ (w : LinearExpression). NamesBelow n w.parts) c.copy.result c.in-BitVec.width c.copy.ensures (word_named n c.args.sort.now c.in-BitVec.width c.in-BitVec.is named)
