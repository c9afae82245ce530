use Rattle.std.proofs.Common.{sym, ◌∙◌, subst}
use Rattle.rare_scope.specs.Names.{names_of}
use Rattle.rare_scope.specs.Reading.{Read}
use Rattle.rare_sexpr.specs.Tree.{items_of}
use Rattle.rare_proof_text.specs.Commands.{AnswersCommand}
use Rattle.rare_proof_text.specs.ProofCommands.{ProofCommand}
use Rattle.rare_proof_text.proofs.Shapes.{definition_items}
use Rattle.rare_proof_text.proofs.definition.read_definition.Goals as goal

pub returns-clause-read : goal.returns-clause-read
returns-clause-read g c = λ book.
    let s = g.T.Terms.state c.args.terms.now in
    let tree = g.E.Expr.tree in
    subst (λ (r : Read ProofCommand). AnswersCommand tree (g.T.Terms.state c.read_parts.new.terms).trees c.read_parts.result r)
    (sym (definition_items s.declared (names_of s.trees c.args.scope.now) book (tree c.args.e.now) (items_of (tree c.args.e.now)) (tree c.item-name.result.now) (tree c.item-list.result.now) (tree c.item-sort.result.now) (tree c.item-term.result.now)
    (sym c.len.ensures ∙ c.if-len-ne5.false) c.item-name.ensures c.item-list.ensures c.item-sort.ensures c.item-term.ensures)) c.read_parts.ensures.read
