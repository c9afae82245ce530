use Rattle.rare_term_printing.proofs.Texts.{ok_both, err_both, err_first}
use Rattle.rare_rule_printing.specs.RulePrinting.{index_texts, bits_text}
use Rattle.rare_rule_printing.specs.inner.RulePieces.{bits_opening, indices_and_end}
use Rattle.rare_rule_printing.proofs.TermTexts.{given_parts}
use Rattle.rare_rule_printing.proofs.operator.write_given.Goals as goal

pub returns-in_err-write_value-clause-err : goal.returns-in_err-write_value-clause-err
returns-in_err-write_value-clause-err c =
    let ps = c.args.params.now in
    let ix = c.args.indices.now in
    let v = c.args.value in
    err_first c.from_residual.result c.args.out.now (bits_opening v) (indices_and_end ps ix) (bits_text v (index_texts ps ix)) c.write_value.new.out (given_parts ps v ix) c.in_err-write_value.ensures.err

pub returns-clause-ok : goal.returns-clause-ok
returns-clause-ok c =
    let ps = c.args.params.now in
    let ix = c.args.indices.now in
    let v = c.args.value in
    ok_both c.write_end.result c.args.out.now (bits_opening v) (indices_and_end ps ix) (bits_text v (index_texts ps ix)) c.write_value.new.out c.write_end.new.out (given_parts ps v ix) c.in_ok-write_value.ensures.ok c.write_end.ensures.ok

pub returns-clause-err : goal.returns-clause-err
returns-clause-err c =
    let ps = c.args.params.now in
    let ix = c.args.indices.now in
    let v = c.args.value in
    err_both c.write_end.result c.args.out.now (bits_opening v) (indices_and_end ps ix) (bits_text v (index_texts ps ix)) c.write_value.new.out c.write_end.new.out (given_parts ps v ix) c.in_ok-write_value.ensures.ok c.write_end.ensures.err
