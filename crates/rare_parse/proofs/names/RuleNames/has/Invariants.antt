use Rattle.std.proofs.Common.{◌≡◌, drop, map}
use Rattle.rare_scope.specs.Reserved.{is_among}
use Rattle.rare_parse.proofs.names.RuleNames.has.Given as goal

abbrev pub invariant-loop-param : goal.invariant-loop-param
invariant-loop-param l = is_among (map (λ p. p.name) (drop l.param-index l.param-items)) l.name ≡ is_among (map (λ p. p.name) l.self) l.name
