use Rattle.std.proofs.Common.{◌++◌}
use Rattle.std.specs.Prelude.{codes}
use Rattle.std.specs.Fmt.{decimal}
use Rattle.rare_sort.specs.Ids.{tree_at}
use Rattle.rare_sort.specs.Trees.{indices_of}
use Rattle.rare_sort.specs.declared.head.Head.TheVariants as head
use Rattle.rare_term_printing.specs.OperatorTexts.{operator_text}
use Rattle.rare_term_printing.specs.inner.Writing.{indices_end}
use Rattle.rare_term_printing.proofs.Texts.{given_text, ok_both, err_both, err_first}
use Rattle.rare_term_printing.proofs.operator.write_given.Goals as goal

pub returns-in_err-write_number-clause-err : goal.returns-in_err-write_number-clause-err
returns-in_err-write_number-clause-err g c =
    let held = c.args.scope.now in
    let v = c.args.value in
    let ix = indices_of (tree_at (g.T.Terms.state c.args.terms.now).trees c.args.id.0) in
    err_first c.from_residual.result c.args.out.now (codes "(_ bv" ++ decimal v) (indices_end held ix) (operator_text held (head.Bits v) ix) c.write_number.new.out (given_text held v ix) c.in_err-write_number.ensures.err

pub returns-clause-ok : goal.returns-clause-ok
returns-clause-ok g c =
    let held = c.args.scope.now in
    let v = c.args.value in
    let ix = indices_of (tree_at (g.T.Terms.state c.args.terms.now).trees c.args.id.0) in
    ok_both c.write_indices.result c.args.out.now (codes "(_ bv" ++ decimal v) (indices_end held ix) (operator_text held (head.Bits v) ix) c.write_number.new.out c.write_indices.new.out (given_text held v ix) c.in_ok-write_number.ensures.ok c.write_indices.ensures.ok

pub returns-clause-err : goal.returns-clause-err
returns-clause-err g c =
    let held = c.args.scope.now in
    let v = c.args.value in
    let ix = indices_of (tree_at (g.T.Terms.state c.args.terms.now).trees c.args.id.0) in
    err_both c.write_indices.result c.args.out.now (codes "(_ bv" ++ decimal v) (indices_end held ix) (operator_text held (head.Bits v) ix) c.write_number.new.out c.write_indices.new.out (given_text held v ix) c.in_ok-write_number.ensures.ok c.write_indices.ensures.err
