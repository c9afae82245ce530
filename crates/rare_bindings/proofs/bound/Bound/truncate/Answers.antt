use Rattle.std.proofs.Common.{ap, sym, ◌∙◌, take}
use Rattle.std.proofs.lemmas.List.{take-map}
use Rattle.rare_scope.specs.Names.{Held}
use Rattle.rare_scope.specs.declared.meaning.Meaning.TheVariants as meaning
use Rattle.rare_bindings.specs.inner.Bound.{held_bindings}
use Rattle.rare_bindings.proofs.bound.Bound.truncate.Goals as goal

pub returns : goal.returns
returns c =
    ap held_bindings c.truncate.ensures.items ∙ sym (take-map (λ b. (b.name, meaning.Term b.term)) c.args.count c.self.inside.bindings.items)
    ∙ ap (λ (held : Held). take c.args.count held) c.self.view_is
