use Rattle.std.proofs.Common.{sym, ap, ◌∙◌, subst}
use Rattle.rare_base.specs.declared.answers.Fault.{Fault}
use Rattle.rare_scope.specs.Answers.{Fails}
use Rattle.rare_scope.specs.Entries.{entry}
use Rattle.rare_scope.specs.Names.{names_of}
use Rattle.rare_scope.specs.Reading.{Read}
use Rattle.rare_proof_text.specs.Commands.{AnswersCommand}
use Rattle.rare_proof_text.specs.ProofText.{proof_command, proof_words}
use Rattle.rare_proof_text.specs.ProofCommands.{ProofCommand}
use Rattle.rare_proof_text.proofs.Shapes.{empty_command, no_symbol, no_word, one_word}
use Rattle.rare_proof_text.proofs.read.read_command.Goals as goal

pub returns-then-len-eq0-clause-read : goal.returns-then-len-eq0-clause-read
returns-then-len-eq0-clause-read g c =
    let s = g.T.Terms.state c.args.terms.now in
    let names = names_of s.trees c.args.scope.now in
    let e = g.E.Expr.tree c.args.e.now in
    subst (λ (f : Fault). Fails f (proof_command s.declared names c.args.book.now e)) (sym c.refusal_at.ensures) (empty_command s.declared names c.args.book.now e (sym c.len.ensures ∙ c.if-len-eq0.true))

pub returns-then-not-is_symbol-clause-read : goal.returns-then-not-is_symbol-clause-read
returns-then-not-is_symbol-clause-read g c =
    let s = g.T.Terms.state c.args.terms.now in
    let names = names_of s.trees c.args.scope.now in
    let e = g.E.Expr.tree c.args.e.now in
    subst (λ (f : Fault). Fails f (proof_command s.declared names c.args.book.now e)) (sym c.refusal_at-then-not-is_symbol.ensures)
    (no_symbol s.declared names c.args.book.now e (g.E.Expr.tree c.item-head.result.now) c.item-head.ensures (sym c.is_symbol.ensures ∙ c.if-not-is_symbol.true))

pub returns-in-Some-clause-read : goal.returns-in-Some-clause-read
returns-in-Some-clause-read g c =
    let s = g.T.Terms.state c.args.terms.now in
    let tree = g.E.Expr.tree in
    let names = names_of s.trees c.args.scope.now in
    subst (λ (r : Read ProofCommand). AnswersCommand tree (g.T.Terms.state c.read_by_word.new.terms).trees c.read_by_word.result r)
    (sym (one_word s.declared names c.args.book.now (tree c.args.e.now) (tree c.item-head.result.now) c.in-Some.word c.item-head.ensures (sym c.is_symbol.ensures ∙ c.if-not-is_symbol.false)
    (ap (entry proof_words) (sym c.text.ensures) ∙ sym c.word_of.ensures ∙ c.in-Some.is))) c.read_by_word.ensures.read

pub returns-in-None-clause-read : goal.returns-in-None-clause-read
returns-in-None-clause-read g c =
    let s = g.T.Terms.state c.args.terms.now in
    let names = names_of s.trees c.args.scope.now in
    let e = g.E.Expr.tree c.args.e.now in
    subst (λ (f : Fault). Fails f (proof_command s.declared names c.args.book.now e)) (sym c.refusal_at-in-None.ensures)
    (no_word s.declared names c.args.book.now e (g.E.Expr.tree c.item-head.result.now) c.item-head.ensures (sym c.is_symbol.ensures ∙ c.if-not-is_symbol.false)
    (ap (entry proof_words) (sym c.text.ensures) ∙ sym c.word_of.ensures ∙ c.in-None.is))
