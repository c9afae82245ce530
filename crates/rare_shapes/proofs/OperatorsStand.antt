-- The operators whose arguments may be lists, and joins.
use Rattle.std.specs.Prelude.{ℕ, ℤ}
use Rattle.rare_sort.specs.declared.head.Head.TheVariants as head
use Rattle.rare_shapes.specs.TheOperators.{TheOperators, JoinsAreTold}
use Rattle.rare_shapes.proofs.TruthLemmas.{truth_and, truth_or}
use Rattle.rare_shapes.proofs.WholeLemmas.{whole_sum, whole_product}
use Rattle.rare_shapes.proofs.WordLemmas.{at_width}
use Rattle.rare_shapes.proofs.WordOperators.{word_sum, word_product, word_and, word_or, word_xor}
use Rattle.rare_shapes.proofs.JoinLemmas.{wide_each, join_is, joined-below}

pub the_operators : TheOperators
the_operators = record {
  and = truth_and;
  or = truth_or;
  sum = whole_sum;
  product = whole_product;
  word_sum = at_width head.BvAdd word_sum;
  word_product = at_width head.BvMul word_product;
  word_and = at_width head.BvAnd word_and;
  word_or = at_width head.BvOr word_or;
  word_xor = at_width head.BvXor word_xor;
}

pub joins_told : JoinsAreTold
joins_told is h = (join_is is (wide_each is h), joined-below is (wide_each is h))
