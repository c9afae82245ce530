use Rattle.std.proofs.Common.{◌≡◌, drop, map}
use Rattle.rare_bindings.specs.inner.Bound.{held_bindings}
use Rattle.rare_scope.specs.Reserved.{is_among}
use Rattle.rare_bindings.proofs.bound.Bound.binds.Given as goal

abbrev pub invariant-loop-binding : goal.invariant-loop-binding
invariant-loop-binding l = is_among (map (λ n. n.0) (held_bindings (drop l.binding-index l.binding-items))) l.name ≡ is_among (map (λ n. n.0) l.self) l.name
