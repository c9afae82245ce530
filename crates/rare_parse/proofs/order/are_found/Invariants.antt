use Rattle.std.proofs.Common.{◌≡◌, drop}
use Rattle.rare_rule.specs.Determination.{are_among}
use Rattle.rare_parse.proofs.order.are_found.Given as goal

abbrev pub invariant-loop-part : goal.invariant-loop-part
invariant-loop-part l = are_among l.found (drop l.part-index l.parts) ≡ are_among l.found l.parts
