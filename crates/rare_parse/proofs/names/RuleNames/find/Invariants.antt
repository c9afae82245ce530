use Rattle.std.proofs.Common.{◌≡◌, drop, bytes_eq, position}
use Rattle.std.specs.List.{position_from}
use Rattle.rare_parse.proofs.names.RuleNames.find.Given as goal

abbrev pub invariant-loop-k : goal.invariant-loop-k
invariant-loop-k l = position_from (λ p. bytes_eq l.name p.name) l.k (drop l.k l.params) ≡ position (λ p. bytes_eq l.name p.name) l.self
