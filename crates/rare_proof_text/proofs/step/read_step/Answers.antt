use Rattle.std.proofs.Common.{◌≡◌, true, length, drop, Ok, sym, ap, ◌∙◌, subst}
use Rattle.std.proofs.lemmas.Result.{err_from_is_err_and}
use Rattle.rare_scope.proofs.InOrder.{fails_on, goes_on}
use Rattle.rare_scope.specs.Answers.{Fails}
use Rattle.rare_scope.specs.Names.{names_of}
use Rattle.rare_scope.specs.Reading.{Read}
use Rattle.rare_sexpr.specs.Tree.{items_of}
use Rattle.rare_term_text.proofs.Naming.{are_kept}
use Rattle.rare_proof_text.specs.ProofText.{StepEnd, end_by}
use Rattle.rare_proof_text.specs.ProofCommands.{ProofCommand}
use Rattle.rare_proof_text.specs.declared.words.ProofWord.TheVariants as word
use Rattle.rare_proof_text.specs.inner.Parts.{behind_word, end_at, first_items, is_step_count, start, start_at, with_end}
use Rattle.rare_proof_text.proofs.Growing.{pair_kept, read_kept}
use Rattle.rare_proof_text.proofs.Shapes.{step_counted, with_rest}
use Rattle.rare_proof_text.proofs.step.read_step.Goals as goal

pub returns-in_err-start-clause-read : goal.returns-in_err-start-clause-read
returns-in_err-start-clause-read g c =
    let s = g.T.Terms.state c.args.terms.now in
    let names = names_of s.trees c.args.scope.now in
    let book = c.args.book.now in
    let e = g.E.Expr.tree c.args.e.now in
    let xs = items_of e in
    let n : is_step_count (length xs) ≡ true = ap is_step_count (sym c.len.ensures) ∙ sym c.is_step_count.ensures ∙ c.if-not-is_step_count.false in
    let p = err_from_is_err_and c.from_residual.result c.from_residual.ensures.1 in
    rw (p.1, p.2) (fails_on c.in_err-start.field-0.0 (first_items s.declared names e xs) (with_rest s.declared names book e xs) (behind_word s.declared names book e word.Step xs)
    (step_counted s.declared names book e xs n) c.in_err-start.ensures.read)

pub read_end-requires : goal.read_end-requires
read_end-requires g c = are_kept (g.T.Terms.state c.args.terms.now) (g.T.Terms.state c.read_first.new.terms) c.args.scope.now c.in_ok-start.ensures.grows c.requires

pub returns-in_err-end-clause-read : goal.returns-in_err-end-clause-read
returns-in_err-end-clause-read g c =
    let s = g.T.Terms.state c.args.terms.now in
    let m = g.T.Terms.state c.read_first.new.terms in
    let names = names_of s.trees c.args.scope.now in
    let book = c.args.book.now in
    let e = g.E.Expr.tree c.args.e.now in
    let xs = items_of e in
    let n : is_step_count (length xs) ≡ true = ap is_step_count (sym c.len.ensures) ∙ sym c.is_step_count.ensures ∙ c.if-not-is_step_count.false in
    let first = c.in_ok-start.start in
    let f = c.in_err-end.field-0.0 in
    let whole = behind_word s.declared names book e word.Step xs in
    let kept = read_kept (λ d names. end_by d names book e (drop 5 xs) first.word) s m c.args.scope.now c.in_ok-start.ensures.grows c.requires in
    let p = err_from_is_err_and c.from_residual-in_err-end.result c.from_residual-in_err-end.ensures.1 in
    rw (p.1, p.2) (fails_on f (end_by s.declared names book e (drop 5 xs) first.word) (λ x. Ok (with_end (start_at m.trees first) x)) whole
    (goes_on (first_items s.declared names e xs) (start_at m.trees first) (with_rest s.declared names book e xs) whole (step_counted s.declared names book e xs n) c.in_ok-start.ensures.read)
    (subst (λ (r : Read StepEnd). Fails f r) kept c.in_err-end.ensures.read))

pub returns-clause-read : goal.returns-clause-read
returns-clause-read g c =
    let s = g.T.Terms.state c.args.terms.now in
    let m = g.T.Terms.state c.read_first.new.terms in
    let last = g.T.Terms.state c.read_end.new.terms in
    let names = names_of s.trees c.args.scope.now in
    let book = c.args.book.now in
    let tree = g.E.Expr.tree in
    let e = tree c.args.e.now in
    let xs = items_of e in
    let n : is_step_count (length xs) ≡ true = ap is_step_count (sym c.len.ensures) ∙ sym c.is_step_count.ensures ∙ c.if-not-is_step_count.false in
    let first = c.in_ok-start.start in
    let behind = end_at tree last.trees c.in_ok-end.end in
    let whole = behind_word s.declared names book e word.Step xs in
    let kept = read_kept (λ d names. end_by d names book e (drop 5 xs) first.word) s m c.args.scope.now c.in_ok-start.ensures.grows c.requires in
    goes_on (end_by s.declared names book e (drop 5 xs) first.word) behind (λ x. Ok (with_end (start_at m.trees first) x)) whole
    (goes_on (first_items s.declared names e xs) (start_at m.trees first) (with_rest s.declared names book e xs) whole (step_counted s.declared names book e xs n) c.in_ok-start.ensures.read)
    (sym kept ∙ c.in_ok-end.ensures.read)
    ∙ ap (λ sides. let r : Read ProofCommand = Ok (with_end (start first.id.now sides first.word) behind) in r) (sym (pair_kept m last first.sides c.in_ok-end.ensures.grows c.in_ok-start.ensures.ids))
