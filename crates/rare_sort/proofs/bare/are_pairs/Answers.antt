use Rattle.std.proofs.Common.{◌≡◌, sym, ◌∙◌, arith, drop}
use Rattle.rare_sort.specs.Ids.{sorts_at}
use Rattle.rare_sort.proofs.RulingLemmas.{no_pairs}
use Rattle.rare_sort.proofs.bare.are_pairs.Goals as goal

pub returns-in-empty : goal.returns-in-empty
returns-in-empty c = sym (no_pairs (sorts_at c.args.sorts.now (drop c.loop-id.id-index c.args.args.now)) c.loop-id.rest.now c.in-empty.len_below) ∙ sym c.loop-id.invariant
