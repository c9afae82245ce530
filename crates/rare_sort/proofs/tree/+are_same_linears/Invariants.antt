use Rattle.std.proofs.Common.{length}
use Rattle.rare_sort.proofs.tree.+are_same_linears.Given as goal

abbrev pub decreases-are_same_linears : goal.decreases-are_same_linears
decreases-are_same_linears l = length l.a.now
