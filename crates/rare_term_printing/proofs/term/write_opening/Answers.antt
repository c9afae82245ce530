use Rattle.std.proofs.Common.{◌++◌, refl}
use Rattle.std.specs.Prelude.{codes}
use Rattle.rare_sort.specs.Ids.{tree_at}
use Rattle.rare_sort.specs.Trees.{head_of, indices_of}
use Rattle.rare_term_printing.specs.OperatorTexts.{operator_text}
use Rattle.rare_term_printing.proofs.Texts.{err_both}
use Rattle.rare_term_printing.proofs.term.write_opening.Goals as goal

pub returns-clause-err : goal.returns-clause-err
returns-clause-err g c =
    let t = tree_at (g.T.Terms.state c.args.terms.now).trees c.args.id.0 in
    let text = operator_text c.args.scope.now (head_of t) (indices_of t) in
    err_both c.write_operator.result c.args.out.now (codes "(") text (codes "(" ++ text) c.push.new.self c.write_operator.new.out refl c.in_ok-push.ensures.ok c.write_operator.ensures.err
