use Rattle.std.proofs.Common.{◌≡◌, take}
use Rattle.rare_law_parts.specs.RowTerms.{sums_of}
use Rattle.rare_law_parts.proofs.terms.linears.Given as goal

abbrev pub invariant-loop-sum : goal.invariant-loop-sum
invariant-loop-sum l = l.all ≡ sums_of (take l.sum-index l.sums)
