use Rattle.std.proofs.Common.{◌≡◌, ◌+◌, drop}
use Rattle.rare_term_printing.specs.inner.Writing.{id_from}
use Rattle.rare_term_printing.proofs.term.number_of.Given as goal

abbrev pub invariant-loop-k : goal.invariant-loop-k
invariant-loop-k l = id_from (l.k + 1) (drop l.k l.ids) l.id ≡ id_from 1 l.ids l.id
