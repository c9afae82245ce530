use Rattle.std.proofs.Common.{flat_map, take, true}
use Rattle.rare_rule.specs.Determination.{list_uses}
use Rattle.rare_parse.specs.inner.Following.{Follows}
use Rattle.rare_parse.proofs.order.follow_lists.Given as goal

abbrev pub invariant-loop-param : goal.invariant-loop-param
invariant-loop-param l = Follows (flat_map list_uses (take l.param-index l.params)) l.found l.found true
