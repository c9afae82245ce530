use Rattle.std.proofs.Common.{[], ◌++◌, ◌∙◌}
use Rattle.std.specs.Prelude.{codes}
use Rattle.rare_scope.proofs.Cutting.{cut_here}
use Rattle.rare_term_printing.proofs.Texts.{ok_both, err_first}
use Rattle.rare_rule_printing.specs.RulePrinting.{index_texts, application_text}
use Rattle.rare_rule_printing.specs.inner.RulePieces.{application_opening}
use Rattle.rare_rule_printing.proofs.Steps.{err_last}
use Rattle.rare_rule_printing.proofs.TermTexts.{application_parts}
use Rattle.rare_rule_printing.proofs.operator.write_bare.Goals as goal

pub returns-in_err-write_opening-clause-err : goal.returns-in_err-write_opening-clause-err
returns-in_err-write_opening-clause-err c =
    let ps = c.args.params.now in
    let ix = c.args.indices.now in
    let h = c.args.head in
    err_first c.from_residual.result c.args.out.now (application_opening ps h ix) (codes ")") (application_text h (index_texts ps ix) []) c.write_opening.new.out (application_parts ps h ix []) c.in_err-write_opening.ensures.err

pub returns-clause-ok : goal.returns-clause-ok
returns-clause-ok c =
    let ps = c.args.params.now in
    let ix = c.args.indices.now in
    let h = c.args.head in
    ok_both c.push.result c.args.out.now (application_opening ps h ix) (codes ")") (application_text h (index_texts ps ix) []) c.write_opening.new.out c.push.new.self (application_parts ps h ix []) c.in_ok-write_opening.ensures.ok c.push.ensures.ok

pub returns-clause-err : goal.returns-clause-err
returns-clause-err c =
    let ps = c.args.params.now in
    let ix = c.args.indices.now in
    let h = c.args.head in
    err_last c.push.result c.args.out.now (application_opening ps h ix ++ codes ")") (application_text h (index_texts ps ix) []) c.push.new.self c.write_opening.new.out (application_parts ps h ix []) c.push.ensures.err
    (λ e. cut_here c.args.out.now (application_opening ps h ix) (codes ")") c.push.new.self (e ∙ c.in_ok-write_opening.ensures.ok))
