use Rattle.std.proofs.Common.{◌≡◌, ◌++◌, List, ℕ, ap}
use Rattle.std.specs.Prelude.{codes, flat_map}
use Rattle.rare_term_printing.proofs.Texts.{err_both, err_first}
use Rattle.rare_rule_printing.specs.inner.RulePieces.{spaced_linear, application_opening}
use Rattle.rare_rule_printing.proofs.operator.write_opening.Goals as goal

pub returns-in_err-write_led-clause-err : goal.returns-in_err-write_led-clause-err
returns-in_err-write_led-clause-err c =
    let ps = c.args.params.now in
    let ix = c.args.indices.now in
    let indices = flat_map (spaced_linear ps) ix in
    let word = c.word_for.result.now in
    let same : (codes "(" ++ word) ++ indices ≡ application_opening ps c.args.head ix = ap (λ (w : List ℕ). (codes "(" ++ w) ++ indices) c.word_for.ensures in
    err_first c.from_residual.result c.args.out.now (codes "(" ++ word) indices (application_opening ps c.args.head ix) c.write_led.new.out same c.in_err-write_led.ensures.err

pub returns-clause-err : goal.returns-clause-err
returns-clause-err c =
    let ps = c.args.params.now in
    let ix = c.args.indices.now in
    let indices = flat_map (spaced_linear ps) ix in
    let word = c.word_for.result.now in
    let same : (codes "(" ++ word) ++ indices ≡ application_opening ps c.args.head ix = ap (λ (w : List ℕ). (codes "(" ++ w) ++ indices) c.word_for.ensures in
    err_both c.write_indices.result c.args.out.now (codes "(" ++ word) indices (application_opening ps c.args.head ix) c.write_led.new.out c.write_indices.new.out same c.in_ok-write_led.ensures.ok c.write_indices.ensures.err
