use Rattle.std.proofs.Common.{ap, sym, ◌∙◌, length}
use Rattle.rare_scope.specs.Names.{Held}
use Rattle.rare_scope.proofs.ScopeLemmas.{as_long}
use Rattle.rare_scope.proofs.scope.Scope.len.Goals as goal

pub returns : goal.returns
returns c = c.len.ensures ∙ sym (as_long c.self.inside.names c.self.inside.meanings.items c.self.invariant.even) ∙ ap (λ (held : Held). length held) c.self.view_is
