use Rattle.std.proofs.Common.{sym, ◌∙◌, subst}
use Rattle.rare_base.specs.declared.answers.Fault.{Fault}
use Rattle.rare_scope.specs.Answers.{Fails}
use Rattle.rare_scope.specs.Names.{names_of}
use Rattle.rare_proof_text.specs.ProofText.{free_definition_name}
use Rattle.rare_proof_text.proofs.Naming.{name_taken, name_free, name_reserved, name_plain}
use Rattle.rare_proof_text.proofs.definition.free_name.Goals as goal

pub returns-then-declares-clause-read : goal.returns-then-declares-clause-read
returns-then-declares-clause-read g c = λ ts.
    let e = g.E.Expr.tree c.args.e.now in
    subst (λ (f : Fault). Fails f (free_definition_name (names_of ts c.args.scope.now) e c.args.name.now)) (sym c.refusal_at.ensures)
    (name_taken ts c.args.scope.now e c.args.name.now (sym c.declares.ensures ∙ c.if-declares.true))

pub returns-then-is_proof_name-clause-read : goal.returns-then-is_proof_name-clause-read
returns-then-is_proof_name-clause-read g c = λ ts.
    name_free ts c.args.scope.now (g.E.Expr.tree c.args.e.now) c.args.name.now (sym c.declares.ensures ∙ c.if-declares.false) (sym c.is_proof_name.ensures ∙ c.if-is_proof_name.true)

pub returns-then-is_reserved_name-clause-read : goal.returns-then-is_reserved_name-clause-read
returns-then-is_reserved_name-clause-read g c = λ ts.
    let e = g.E.Expr.tree c.args.e.now in
    subst (λ (f : Fault). Fails f (free_definition_name (names_of ts c.args.scope.now) e c.args.name.now)) (sym c.refusal_at-then-is_reserved_name.ensures)
    (name_reserved ts c.args.scope.now e c.args.name.now (sym c.declares.ensures ∙ c.if-declares.false) (sym c.is_proof_name.ensures ∙ c.if-is_proof_name.false)
    (sym c.is_reserved_name.ensures ∙ c.if-is_reserved_name.true))

pub returns-else-is_reserved_name-clause-read : goal.returns-else-is_reserved_name-clause-read
returns-else-is_reserved_name-clause-read g c = λ ts.
    let e = g.E.Expr.tree c.args.e.now in
    subst (λ (f : Fault). Fails f (free_definition_name (names_of ts c.args.scope.now) e c.args.name.now)) (sym c.refusal_at-else-is_reserved_name.ensures)
    (name_plain ts c.args.scope.now e c.args.name.now (sym c.declares.ensures ∙ c.if-declares.false) (sym c.is_proof_name.ensures ∙ c.if-is_proof_name.false)
    (sym c.is_reserved_name.ensures ∙ c.if-is_reserved_name.false))
