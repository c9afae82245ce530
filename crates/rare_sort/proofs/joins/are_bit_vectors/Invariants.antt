use Rattle.std.proofs.Common.{◌≡◌, drop}
use Rattle.rare_sort.specs.Ids.{sorts_at}
use Rattle.rare_sort.specs.inner.Within.{all_words}
use Rattle.rare_sort.proofs.joins.are_bit_vectors.Given as goal

-- what is left decides
abbrev pub invariant-loop-id : goal.invariant-loop-id
invariant-loop-id l = all_words (sorts_at l.sorts l.args) ≡ all_words (sorts_at l.sorts (drop l.id-index l.args))
