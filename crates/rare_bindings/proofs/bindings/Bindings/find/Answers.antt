use Rattle.std.proofs.Common.{ap, ◌∙◌}
use Rattle.rare_scope.specs.Names.{Held, found}
use Rattle.rare_scope.specs.declared.meaning.Meaning.TheVariants as meaning
use Rattle.rare_bindings.proofs.Finding.{found_bound, found_outside}
use Rattle.rare_bindings.proofs.bindings.Bindings.find.Goals as goal

pub returns-in-Some : goal.returns-in-Some
returns-in-Some c =
    found_bound c.args.name.now c.self.inside.scope.now c.self.inside.bound.now (meaning.Term c.in-Some.term) c.in-Some.ensures
    ∙ ap (λ (held : Held). found held c.args.name.now) c.self.view_is

pub returns-in-None : goal.returns-in-None
returns-in-None c =
    c.find-in-None.ensures.found ∙ found_outside c.args.name.now c.self.inside.scope.now c.self.inside.bound.now c.in-None.ensures
    ∙ ap (λ (held : Held). found held c.args.name.now) c.self.view_is
