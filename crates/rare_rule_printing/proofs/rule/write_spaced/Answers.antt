use Rattle.std.proofs.Common.{refl}
use Rattle.std.specs.Prelude.{codes}
use Rattle.rare_term_printing.proofs.Texts.{err_both}
use Rattle.rare_rule_printing.specs.RulePrinting.{rule_term_text}
use Rattle.rare_rule_printing.specs.inner.RulePieces.{spaced_term}
use Rattle.rare_rule_printing.proofs.rule.write_spaced.Goals as goal

pub returns-clause-err : goal.returns-clause-err
returns-clause-err c =
    let ps = c.args.params.now in
    let t = c.args.tree.now in
    err_both c.write_term.result c.args.out.now (codes " ") (rule_term_text ps t) (spaced_term ps t) c.push.new.self c.write_term.new.out refl c.in_ok-push.ensures.ok c.write_term.ensures.err
