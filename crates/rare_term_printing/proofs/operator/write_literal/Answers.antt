use Rattle.std.specs.Prelude.{codes}
use Rattle.rare_sort.specs.Ids.{tree_at}
use Rattle.rare_sort.specs.Trees.{indices_of}
use Rattle.rare_sort.specs.declared.head.Head.TheVariants as head
use Rattle.rare_term_printing.specs.OperatorTexts.{operator_text}
use Rattle.rare_term_printing.specs.inner.Writing.{indices_end}
use Rattle.rare_term_printing.proofs.Texts.{literal_text, ok_both, err_both}
use Rattle.rare_term_printing.proofs.operator.write_literal.Goals as goal

pub returns-clause-ok : goal.returns-clause-ok
returns-clause-ok g c =
    let held = c.args.scope.now in
    let ix = indices_of (tree_at (g.T.Terms.state c.args.terms.now).trees c.args.id.0) in
    ok_both c.write_indices.result c.args.out.now (codes "(bv") (indices_end held ix) (operator_text held head.Literal ix) c.append.new.self c.write_indices.new.out (literal_text held ix) c.in_ok-append.ensures.ok c.write_indices.ensures.ok

pub returns-clause-err : goal.returns-clause-err
returns-clause-err g c =
    let held = c.args.scope.now in
    let ix = indices_of (tree_at (g.T.Terms.state c.args.terms.now).trees c.args.id.0) in
    err_both c.write_indices.result c.args.out.now (codes "(bv") (indices_end held ix) (operator_text held head.Literal ix) c.append.new.self c.write_indices.new.out (literal_text held ix) c.in_ok-append.ensures.ok c.write_indices.ensures.err
