use Rattle.std.proofs.Common.{flat_map, take, true, ◌∷◌, []}
use Rattle.rare_rule.specs.Determination.{mention}
use Rattle.rare_parse.specs.inner.Following.{Follows}
use Rattle.rare_parse.proofs.order.follow_linears.Given as goal

abbrev pub invariant-loop-index : goal.invariant-loop-index
invariant-loop-index l = Follows (flat_map (λ e. mention l.params e ∷ []) (take l.index-index l.indices)) l.initial.found l.found true
