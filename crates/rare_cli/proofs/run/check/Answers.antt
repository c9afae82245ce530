use Rattle.std.proofs.Common.{◌≡◌, Result, Err, sym, subst, ◌∙◌, arith, rules}
use Rattle.rare_base.proofs.ReadsLemmas.{one_in_turn, then_in_turn}
use Rattle.rare_cli.specs.Calls.{library}
use Rattle.rare_cli.specs.declared.outcome.Answer.{Answer}
use Rattle.rare_cli.specs.declared.outcome.Stop.{Stop}
use Rattle.rare_cli.specs.inner.Prepared.{IsChecked, names_asked}
use Rattle.rare_cli.proofs.Parts.{checked_by, proof_stop}
use Rattle.rare_cli.proofs.Turns.{rules_in_turn, then_behind_rules}
use Rattle.rare_cli.proofs.run.check.Goals as goal

pub returns-in_err-book-clause-reads : goal.returns-in_err-book-clause-reads
returns-in_err-book-clause-reads g c = rules_in_turn _ _ _ _ c.in_err-book.ensures.reads

pub returns-in_err-problem-clause-reads : goal.returns-in_err-problem-clause-reads
returns-in_err-problem-clause-reads g c = then_behind_rules _ _ _ _ _ c.in_ok-book.ensures.end (one_in_turn _ _ _ _ c.in_err-problem.ensures.reads)

pub returns-in_err-proof-clause-reads : goal.returns-in_err-proof-clause-reads
returns-in_err-proof-clause-reads g c = then_behind_rules _ _ _ _ _ c.in_ok-book.ensures.end (then_in_turn _ _ _ _ _ c.in_ok-problem.ensures.end c.in_err-proof.ensures.reads)

pub returns-clause-reads : goal.returns-clause-reads
returns-clause-reads g c = then_behind_rules _ _ _ _ _ c.in_ok-book.ensures.end (then_in_turn _ _ _ _ _ c.in_ok-problem.ensures.end c.in_ok-proof.ensures.reads)

pub returns-in_err-proof-clause-checked : goal.returns-in_err-proof-clause-checked
returns-in_err-proof-clause-checked g c =
    let text = g.L.Library.text in
    let faults = g.L.Library.faults in
    let files = c.args.files.now in
    let names = names_asked c.args.names in
    let same : c.from_residual-in_err-proof.result ≡ Err c.in_err-proof.field-0.0 = search rules in
    let P : Result Answer Stop → Type 0 = λ r. IsChecked (library text faults files c.read_text.new.files) names r in
    subst P (sym same)
    (proof_stop (text files) (text c.read_rules.new.files) (text c.read_problem_file.new.files) (faults files) (faults c.read_rules.new.files)
    (faults c.read_problem_file.new.files) (faults c.read_text.new.files) c.in_ok-book.ensures.texts
    (λ w. c.in_ok-problem.ensures.texts w ∙ c.in_ok-book.ensures.texts w) (λ w. omega (arith, c.in_ok-book.ensures.later w, c.in_ok-problem.ensures.later w)) names
    _ c.in_ok-book.ensures.book _ c.in_ok-problem.problem c.in_ok-problem.ensures.problem c.in_err-proof.field-0.0 c.in_err-proof.ensures.text)

pub returns-clause-checked : goal.returns-clause-checked
returns-clause-checked g c =
    let text = g.L.Library.text in
    let faults = g.L.Library.faults in
    let files = c.args.files.now in
    checked_by (text files) (text c.read_rules.new.files) (text c.read_problem_file.new.files) (faults files) (faults c.read_rules.new.files)
    (faults c.read_problem_file.new.files) (faults c.read_text.new.files) c.in_ok-book.ensures.texts
    (λ w. c.in_ok-problem.ensures.texts w ∙ c.in_ok-book.ensures.texts w) (λ w. omega (arith, c.in_ok-book.ensures.later w, c.in_ok-problem.ensures.later w))
    (names_asked c.args.names) _ c.in_ok-book.ensures.book _ c.in_ok-problem.problem c.in_ok-problem.ensures.problem c.in_ok-proof.proof c.bytes.result.now c.judge.result (search rules) c.in_ok-proof.ensures.text c.judge.ensures
