use Rattle.std.proofs.Common.{◌≡◌, sym, ◌∙◌, subst, IfOk, arith}
use Rattle.std.proofs.lemmas.Bool.Decides.{nat_tests}
use Rattle.std.specs.Prelude.{nat_le, length, true}
use Rattle.rare_sort.specs.Ids.{sorts_at}
use Rattle.rare_sort.proofs.RulingLemmas.{concat_ruled, concat_other, length_sorts_at}
use Rattle.rare_sort.proofs.joins.concat.Goals as goal

pub returns-then-not-are_bit_vectors : goal.returns-then-not-are_bit_vectors
returns-then-not-are_bit_vectors c =
    concat_other c.args.declared.now (sorts_at c.args.sorts.now c.args.args.now) (sym c.are_bit_vectors.ensures ∙ c.if-not-are_bit_vectors.true)

pub returns : goal.returns
returns c =
    let ss = sorts_at c.args.sorts.now c.args.args.now in
    let n = length_sorts_at c.args.sorts.now c.args.args.now in
    let two : nat_le 2 (length ss) ≡ true = grind (arith, nat_tests, n, c.if-args-lt2.false) in
    let e = concat_ruled c.args.declared.now ss c.in_ok-sum_of_widths.field-0 two (sym c.are_bit_vectors.ensures ∙ c.if-not-are_bit_vectors.false) c.in_ok-sum_of_widths.ensures.sum in
    subst (λ x. IfOk c.formed.result (λ r. r ≡ x)) e c.formed.ensures
