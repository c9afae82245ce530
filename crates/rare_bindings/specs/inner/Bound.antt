-- The names that bindings are seen as.
use Rattle.std.specs.Prelude.{List, map}
use Rattle.rare_scope.specs.Names.{Held}
use Rattle.rare_scope.specs.declared.meaning.Meaning.TheVariants as meaning
use Rattle.rare_bindings.specs.declared.bound.Binding.{Binding}

abbrev pub held_bindings : List Binding → Held
held_bindings bindings = map (λ b. (b.name, meaning.Term b.term)) bindings
