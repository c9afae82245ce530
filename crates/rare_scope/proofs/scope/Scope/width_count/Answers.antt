use Rattle.std.proofs.Common.{ap, ◌∙◌, subst, length}
use Rattle.rare_scope.specs.LinearText.{AreBelow, widths_held}
use Rattle.rare_scope.specs.Names.{Held, width_names}
use Rattle.rare_scope.proofs.ScopeLemmas.{numbers_below, count_places}
use Rattle.rare_scope.proofs.scope.Scope.width_count.Goals as goal

pub returns-clause-count : goal.returns-clause-count
returns-clause-count c =
    ap length c.as_slice.ensures.value ∙ count_places c.self.inside.names c.self.inside.meanings.items c.self.inside.widths.items c.self.invariant.widths
    ∙ ap (λ (held : Held). length (width_names held)) c.self.view_is

pub returns-clause-below : goal.returns-clause-below
returns-clause-below c =
    subst (λ (held : Held). AreBelow (length (width_names held)) (widths_held held)) c.self.view_is
    (numbers_below c.self.inside.names c.self.inside.meanings.items c.self.invariant.even c.self.invariant.scope)
