use Rattle.std.proofs.Common.{◌-◌, ◌≤◌, length}
use Rattle.rare_cli.proofs.tests.report_in_pieces.Given as goal

abbrev pub invariant-loop-at : goal.invariant-loop-at
invariant-loop-at g l = (l.at ≤ length l.proof) × (l.checker.left.fed ≤ l.at)

abbrev pub decreases-loop-at : goal.decreases-loop-at
decreases-loop-at g l = length l.proof - l.at
