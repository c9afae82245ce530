use Rattle.std.proofs.Common.{◌≡◌, true, sym, ◌∙◌, subst, arith, length}
use Rattle.std.specs.Prelude.{nat_le}
use Rattle.std.proofs.lemmas.Bool.Decides.{nat_tests}
use Rattle.rare_type.specs.inner.Answering.{Reports}
use Rattle.rare_type.proofs.Sorts.{concat_clash, concat_joined}
use Rattle.rare_type.proofs.bare.concat.Goals as goal

pub returns-then-not-are_bit_vectors : goal.returns-then-not-are_bit_vectors
returns-then-not-are_bit_vectors c = concat_clash c.args.least c.args.sorts.now (sym c.are_bit_vectors.ensures ∙ c.if-not-are_bit_vectors.true)

pub returns : goal.returns
returns c =
    let few : nat_le c.args.least (length c.args.sorts.now) ≡ true = grind (arith, nat_tests, c.if-sorts-least.false) in
    subst (λ t. Reports t c.joined.result)
    (sym (concat_joined c.args.least c.args.sorts.now few (sym c.are_bit_vectors.ensures ∙ c.if-not-are_bit_vectors.false)))
    c.joined.ensures
