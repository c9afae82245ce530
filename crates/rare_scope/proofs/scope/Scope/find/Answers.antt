use Rattle.std.proofs.Common.{◌≡◌, ap, sym, ◌∙◌, subst, bytes_eq, Some}
use Rattle.rare_scope.specs.Names.{Held, found, IsNumbered}
use Rattle.rare_scope.proofs.ScopeLemmas.{is_found, not_found, is_numbered, meaning_at}
use Rattle.rare_scope.proofs.scope.Scope.find.Goals as goal

pub returns-in-Some-clause-found : goal.returns-in-Some-clause-found
returns-in-Some-clause-found c =
    let here = meaning_at c.args.name.now c.self.inside.names c.self.inside.meanings.items c.in-Some.place c.index.result.now c.self.invariant.even (sym c.in-Some.ensures) c.index.ensures in
    is_found c.args.name.now c.self.inside.names c.self.inside.meanings.items c.in-Some.place c.index.result.now c.self.invariant.even c.self.invariant.scope (sym c.in-Some.ensures) here
    ∙ ap (λ (held : Held). found held c.args.name.now) c.self.view_is

pub returns-in-Some-clause-numbered : goal.returns-in-Some-clause-numbered
returns-in-Some-clause-numbered c =
    let here = meaning_at c.args.name.now c.self.inside.names c.self.inside.meanings.items c.in-Some.place c.index.result.now c.self.invariant.even (sym c.in-Some.ensures) c.index.ensures in
    subst (λ (held : Held). IsNumbered held c.index.result.now) c.self.view_is
    (is_numbered c.self.inside.names c.self.inside.meanings.items c.in-Some.place c.index.result.now c.self.invariant.even c.self.invariant.scope here)

pub returns-in-None-clause-found : goal.returns-in-None-clause-found
returns-in-None-clause-found c =
    not_found c.args.name.now c.self.inside.names c.self.inside.meanings.items (sym c.in-None.ensures) ∙ ap (λ (held : Held). found held c.args.name.now) c.self.view_is
