use Rattle.std.proofs.Common.{◌≡◌, drop, option_map}
use Rattle.rare_bindings.specs.inner.Bound.{held_bindings}
use Rattle.rare_scope.specs.Names.{found, found_from}
use Rattle.rare_scope.specs.declared.meaning.Meaning.TheVariants as meaning
use Rattle.rare_bindings.proofs.bound.Bound.find.Given as goal

-- what is found is what the bindings that are left give from here
abbrev pub invariant-loop-binding : goal.invariant-loop-binding
invariant-loop-binding l = found_from l.name (option_map meaning.Term l.term) (held_bindings (drop l.binding-index l.binding-items)) ≡ found l.self l.name
