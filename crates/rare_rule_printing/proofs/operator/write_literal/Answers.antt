use Rattle.std.proofs.Common.{[]}
use Rattle.std.specs.Prelude.{codes}
use Rattle.rare_sort.specs.declared.head.Head.TheVariants as head
use Rattle.rare_term_printing.proofs.Texts.{ok_both, err_both}
use Rattle.rare_rule_printing.specs.RulePrinting.{node_text}
use Rattle.rare_rule_printing.specs.inner.RulePieces.{indices_and_end}
use Rattle.rare_rule_printing.proofs.TermTexts.{literal_parts}
use Rattle.rare_rule_printing.proofs.operator.write_literal.Goals as goal

pub returns-clause-ok : goal.returns-clause-ok
returns-clause-ok c =
    let ps = c.args.params.now in
    let ix = c.args.indices.now in
    ok_both c.write_end.result c.args.out.now (codes "(bv") (indices_and_end ps ix) (node_text ps head.Literal ix []) c.append.new.self c.write_end.new.out (literal_parts ps ix) c.in_ok-append.ensures.ok c.write_end.ensures.ok

pub returns-clause-err : goal.returns-clause-err
returns-clause-err c =
    let ps = c.args.params.now in
    let ix = c.args.indices.now in
    err_both c.write_end.result c.args.out.now (codes "(bv") (indices_and_end ps ix) (node_text ps head.Literal ix []) c.append.new.self c.write_end.new.out (literal_parts ps ix) c.in_ok-append.ensures.ok c.write_end.ensures.err
