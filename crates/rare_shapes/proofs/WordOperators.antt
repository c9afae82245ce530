-- The five operators on bit vectors whose arguments may be lists, and what `bvnot` and `bvneg` make of them.
use Rattle.std.proofs.Common.{ℕ, ◌-◌, ◌%◌, ◌^◌, refl}
use Rattle.std.proofs.lemmas.Nat.{pow_pos}
use Rattle.rare_bits.specs.Bits.{bvadd, bvneg, bvmul, bvnot, bvand, bvor, bvxor}
use Rattle.rare_bits.proofs.BitsLemmas.{bvnot-below, bvand-below, bvor-below, bvxor-below}
use Rattle.rare_bit_operators.proofs.OperatorLemmas.{ones-below, one-below, bvadd-below, bvneg-below, bvmul-below, bvand_laws, bvor_laws, bvxor_laws, bvadd_laws, bvmul_laws}
use Rattle.rare_sort.specs.declared.head.Head.TheVariants as head
use Rattle.rare_meaning.specs.Values.{BitVectors, bits_number}
use Rattle.rare_meaning.specs.Settings.{item, one}
use Rattle.rare_shapes.specs.RuleShapes.{words}
use Rattle.rare_shapes.proofs.Shapes.{Maps}
use Rattle.rare_shapes.proofs.ApplyLemmas.{means_one}
use Rattle.rare_shapes.proofs.WordLemmas.{WordOperator, word_map, width_in}

abbrev pub word_and : WordOperator head.BvAnd
word_and = record {
  op = bvand;
  unit = λ n. 2 ^ n - 1;
  applies = λ e g. refl;
  below = bvand-below;
  unit_below = ones-below;
  assoc = bvand_laws.assoc;
  comm = bvand_laws.comm;
  neutral = bvand_laws.ones;
}

abbrev pub word_or : WordOperator head.BvOr
word_or = record {
  op = bvor;
  unit = λ n. 0;
  applies = λ e g. refl;
  below = bvor-below;
  unit_below = pow_pos;
  assoc = bvor_laws.assoc;
  comm = bvor_laws.comm;
  neutral = bvor_laws.zero;
}

abbrev pub word_xor : WordOperator head.BvXor
word_xor = record {
  op = bvxor;
  unit = λ n. 0;
  applies = λ e g. refl;
  below = bvxor-below;
  unit_below = pow_pos;
  assoc = bvxor_laws.assoc;
  comm = bvxor_laws.comm;
  neutral = bvxor_laws.zero;
}

abbrev pub word_sum : WordOperator head.BvAdd
word_sum = record {
  op = bvadd;
  unit = λ n. 0;
  applies = λ e g. refl;
  below = bvadd-below;
  unit_below = pow_pos;
  assoc = bvadd_laws.assoc;
  comm = bvadd_laws.comm;
  neutral = bvadd_laws.zero;
}

abbrev pub word_product : WordOperator head.BvMul
word_product = record {
  op = bvmul;
  unit = λ n. 1 % 2 ^ n;
  applies = λ e g. refl;
  below = bvmul-below;
  unit_below = one-below;
  assoc = bvmul_laws.assoc;
  comm = bvmul_laws.comm;
  neutral = bvmul_laws.one;
}

pub not_maps : Maps words head.BvNot (word_map bvnot)
not_maps names e t v x =
    let n = width_in e.number in record { means = means_one e head.BvNot t (one (item (BitVectors n) v)) x.means; fits = (refl, bvnot-below n (bits_number v)) }

pub neg_maps : Maps words head.BvNeg (word_map bvneg)
neg_maps names e t v x =
    let n = width_in e.number in record { means = means_one e head.BvNeg t (one (item (BitVectors n) v)) x.means; fits = (refl, bvneg-below n (bits_number v)) }
