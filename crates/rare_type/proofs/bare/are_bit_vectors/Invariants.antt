use Rattle.std.proofs.Common.{◌≡◌, drop}
use Rattle.rare_sort.specs.inner.Within.{all_words}
use Rattle.rare_type.proofs.bare.are_bit_vectors.Given as goal

-- what is left decides
abbrev pub invariant-loop-sort : goal.invariant-loop-sort
invariant-loop-sort l = all_words l.sorts ≡ all_words (drop l.sort-index l.sorts)
