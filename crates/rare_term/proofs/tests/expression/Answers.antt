use Rattle.rare_linear.specs.Linears.{NamesBelow}
use Rattle.rare_linear.proofs.Names.{NamesBelow-add}
use Rattle.rare_term.proofs.tests.expression.Goals as goal

pub returns : goal.returns
returns c =
    let names : NamesBelow 2 c.in_ok-names.names.parts =
    rw c.in_ok-names.ensures.sum (NamesBelow-add 2 c.in_ok-first.first c.in_ok-second.second c.in_ok-first.ensures c.in_ok-second.ensures) in
    let number : NamesBelow 2 c.constant.result.parts = rw c.constant.ensures tt in
    rw c.in_ok-sum.ensures.sum (NamesBelow-add 2 c.in_ok-names.names c.constant.result names number)
