use Rattle.std.proofs.Common.{◌++◌, ◌∙◌, refl}
use Rattle.std.specs.Prelude.{codes, flat_map}
use Rattle.rare_scope.proofs.Cutting.{cut_here}
use Rattle.rare_term_printing.proofs.Texts.{err_first}
use Rattle.rare_rule_printing.specs.inner.RulePieces.{spaced_linear, indices_and_end}
use Rattle.rare_rule_printing.proofs.Steps.{err_last}
use Rattle.rare_rule_printing.proofs.operator.write_end.Goals as goal

pub returns-in_err-write_indices-clause-err : goal.returns-in_err-write_indices-clause-err
returns-in_err-write_indices-clause-err c =
    let text = flat_map (spaced_linear c.args.params.now) c.args.indices.now in
    err_first c.from_residual.result c.args.out.now text (codes ")") (indices_and_end c.args.params.now c.args.indices.now) c.write_indices.new.out refl c.in_err-write_indices.ensures.err

pub returns-clause-err : goal.returns-clause-err
returns-clause-err c =
    let text = flat_map (spaced_linear c.args.params.now) c.args.indices.now in
    err_last c.push.result c.args.out.now (text ++ codes ")") (indices_and_end c.args.params.now c.args.indices.now) c.push.new.self c.write_indices.new.out refl c.push.ensures.err
    (λ h. cut_here c.args.out.now text (codes ")") c.push.new.self (h ∙ c.in_ok-write_indices.ensures.ok))
