use Rattle.std.proofs.Common.{◌≡◌, map, take}
use Rattle.rare_law_parts.specs.RowRules.{param_of_row}
use Rattle.rare_law_parts.proofs.rules.params.Given as goal

abbrev pub invariant-loop-row : goal.invariant-loop-row
invariant-loop-row l = l.all ≡ map param_of_row (take l.row-index l.rows)
