use Rattle.std.proofs.Common.{sym, subst}
use Rattle.rare_scope.specs.Names.{names_of}
use Rattle.rare_sexpr.specs.Tree.{items_of}
use Rattle.rare_proof_text.specs.Commands.{AnswersCommand}
use Rattle.rare_proof_text.specs.declared.words.ProofWord.{ProofWord}
use Rattle.rare_proof_text.specs.inner.Parts.{behind_word}
use Rattle.rare_proof_text.proofs.read.read_by_word.Goals as goal

pub returns-in-DefineFun-clause-read : goal.returns-in-DefineFun-clause-read
returns-in-DefineFun-clause-read g c =
    let s = g.T.Terms.state c.args.terms.now in
    let tree = g.E.Expr.tree in
    let e = tree c.args.e.now in
    let book = c.args.book.now in
    subst (λ (w : ProofWord). AnswersCommand tree (g.T.Terms.state c.read_definition.new.terms).trees c.read_definition.result (behind_word s.declared (names_of s.trees c.args.scope.now) book e w (items_of e)))
    (sym c.in-DefineFun.is) (c.read_definition.ensures.read book)

pub returns-in-Conclude-clause-ids : goal.returns-in-Conclude-clause-ids
returns-in-Conclude-clause-ids g c = c.read_conclusion.ensures.ids _

pub returns-in-Conclude-clause-new : goal.returns-in-Conclude-clause-new
returns-in-Conclude-clause-new g c = c.read_conclusion.ensures.new _
