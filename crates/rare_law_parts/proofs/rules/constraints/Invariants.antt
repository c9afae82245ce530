use Rattle.std.proofs.Common.{◌≡◌, take}
use Rattle.rare_law_parts.specs.RowRules.{constraints_of_rows}
use Rattle.rare_law_parts.proofs.rules.constraints.Given as goal

abbrev pub invariant-loop-row : goal.invariant-loop-row
invariant-loop-row l = l.all ≡ constraints_of_rows (take l.row-index l.rows)
