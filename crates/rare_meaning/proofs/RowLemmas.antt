-- Each value is met by computation.
use Rattle.std.proofs.Common.{refl, ap}
use Rattle.std.specs.Prelude.{pos, map}
use Rattle.rare_bits.specs.Bits.{number_of_bits}
use Rattle.rare_meaning.specs.Settings.{Setting, item, one}
use Rattle.rare_meaning.specs.Splicing.{joined, values}
use Rattle.rare_meaning.specs.Operators.{whole}
use Rattle.rare_meaning.specs.rows.CoreRows.{CoreRows}
use Rattle.rare_meaning.specs.rows.IntRows.{IntRows}
use Rattle.rare_meaning.specs.rows.ArrayRows.{ArrayRows}
use Rattle.rare_meaning.specs.rows.ArithmeticRows.{ArithmeticRows}
use Rattle.rare_meaning.specs.rows.BitwiseRows.{BitwiseRows}
use Rattle.rare_meaning.specs.rows.SliceRows.{SliceRows}
use Rattle.rare_meaning.specs.rows.CollapseRows.{CollapseRows}
use Rattle.rare_meaning.specs.rows.NameRows.{NameRows}

pub core_rows : (e : Setting) → CoreRows e
core_rows e = record {
  constants = ((refl, tt), (refl, tt));
  not = (refl, (refl, tt));
  implies = (refl, (refl, (refl, (refl, tt))));
  implies_of_three = (refl, (refl, tt));
  xor = (refl, (refl, (refl, tt)));
  xor_of_three = (refl, (refl, tt));
  and = (refl, (refl, (refl, tt)));
  or = (refl, (refl, (refl, tt)));
  equal = (refl, (refl, (refl, (refl, tt))));
  equal_bits = (refl, (refl, tt));
  equal_truths = (refl, (refl, tt));
  distinct = (refl, (refl, tt));
  distinct_of_three = (refl, (refl, tt));
  ite_true = refl;
  ite_false = refl;
}

pub ints_rows : (e : Setting) → IntRows e
ints_rows e = record {
  numerals = ((refl, tt), (refl, tt));
  neg = (refl, (refl, (refl, tt)));
  minus = (refl, (refl, tt));
  minus_of_three = (refl, tt);
  add = (refl, (refl, tt));
  mul = (refl, (refl, (refl, tt)));
  div_by_signs = (refl, (refl, (refl, (refl, tt))));
  div_exactly = (refl, (refl, (refl, (refl, tt))));
  div_of_three = (refl, tt);
  div_by_zero = (refl, (refl, (refl, tt)));
  mod_by_signs = (refl, (refl, (refl, (refl, tt))));
  mod_of_others = (refl, (refl, (refl, (refl, tt))));
  mod_by_zero = (refl, (refl, tt));
  abs = (refl, (refl, (refl, tt)));
  le = (refl, (refl, (refl, tt)));
  lt = (refl, (refl, (refl, tt)));
  ge = (refl, (refl, (refl, tt)));
  gt = (refl, (refl, (refl, tt)));
}

pub arrays_rows : (e : Setting) → ArrayRows e
arrays_rows e = record {
  read = refl;
  read_missing = refl;
  write = refl;
  write_over = refl;
  write_zero = refl;
  read_written = refl;
  read_beside = refl;
  read_over_two = refl;
  equal_histories = refl;
  equal_erased = refl;
  unequal = refl;
  distinct = refl;
  nested_read = refl;
  nested_zero = refl;
}

pub arithmetic_rows : (e : Setting) → ArithmeticRows e
unfolding number_of_bits
arithmetic_rows e = record {
  bvneg = (refl, (refl, (refl, tt)));
  bvadd = (refl, (refl, tt));
  bvmul = (refl, (refl, tt));
  bvsub = (refl, (refl, (refl, tt)));
  bvudiv = (refl, (refl, (refl, (refl, tt))));
  bvurem = (refl, (refl, (refl, tt)));
  bvsdiv_by_signs = (refl, (refl, (refl, (refl, (refl, tt)))));
  bvsdiv_by_zero = (refl, (refl, (refl, tt)));
  bvsrem_by_signs = (refl, (refl, (refl, (refl, tt))));
  bvsrem_by_zero = (refl, (refl, tt));
  bvsmod_by_signs = (refl, (refl, (refl, (refl, (refl, tt)))));
  bvsmod_exactly = (refl, (refl, (refl, (refl, tt))));
  bvsmod_by_zero = (refl, (refl, (refl, tt)));
  bvult = (refl, (refl, (refl, tt)));
  bvule = (refl, (refl, tt));
  bvugt = (refl, (refl, tt));
  bvuge = (refl, (refl, tt));
  bvslt = (refl, (refl, (refl, tt)));
  bvsle = (refl, (refl, tt));
  bvsgt = (refl, (refl, (refl, tt)));
  bvsge = (refl, (refl, tt));
  wide = refl;
}

pub bitwise_rows : (e : Setting) → BitwiseRows e
unfolding number_of_bits
bitwise_rows e = record {
  bvnot = (refl, (refl, tt));
  bvand = (refl, (refl, tt));
  bvor = (refl, (refl, tt));
  bvxor = (refl, (refl, (refl, tt)));
  bvnand = (refl, (refl, tt));
  bvnor = (refl, (refl, tt));
  bvxnor = (refl, (refl, tt));
  bvcomp_equal = refl;
  bvcomp_other = refl;
  bvshl = (refl, (refl, (refl, (refl, tt))));
  bvlshr = (refl, (refl, (refl, tt)));
  bvashr = (refl, (refl, (refl, (refl, (refl, tt)))));
  rotate_left = (refl, (refl, (refl, (refl, (refl, tt)))));
  rotate_right = (refl, (refl, (refl, (refl, tt))));
  wide = refl;
}

pub slices_rows : (e : Setting) → SliceRows e
slices_rows e = record {
  concat = refl;
  concat_of_three = refl;
  extract = refl;
  extract_high_bit = refl;
  extract_low_bit = refl;
  extract_all = refl;
  zero_extend = (refl, (refl, tt));
  sign_extend = (refl, (refl, (refl, tt)));
  repeat_once = (refl, tt);
  repeat_thrice = refl;
  given = refl;
  given_reduced = refl;
  literal_below_zero = refl;
  literal_reduced = refl;
  literal_far_below_zero = refl;
  literal_of_width_one = refl;
}

pub lists_rows : (e : Setting) → CollapseRows e
unfolding number_of_bits
lists_rows e = record {
  and_none = (refl, refl);
  or_none = (refl, refl);
  add_none = (refl, refl);
  mul_none = (refl, refl);
  bvadd_none = (refl, refl);
  bvmul_none = (refl, refl);
  bvand_none = (refl, refl);
  bvor_none = (refl, refl);
  bvxor_none = (refl, refl);
  and_one = ((refl, refl), (refl, refl));
  or_one = ((refl, refl), (refl, refl));
  add_one = (refl, refl);
  mul_one = (refl, refl);
  bvadd_one = (refl, refl);
  bvmul_one = (refl, refl);
  bvand_one = (refl, refl);
  bvor_one = (refl, refl);
  bvxor_one = (refl, refl);
  concat_one = (refl, refl);
  and_list = refl;
  bvadd_lists = refl;
  concat_list = refl;
}

pub names_rows : (e : Setting) → NameRows e
names_rows e = record {
  symbol = refl;
  constant = refl;
  parameter = λ g. refl;
  hole = λ g. refl;
  entry = refl;
  no_entry = (refl, refl, refl);
  point = refl;
  no_point = refl;
  missing = λ read is. ap (λ v. one (item (e.symbol_sort 2) v)) (read.symbols 2 (values (joined (map one is)).items));
  missing_quotient = λ read. ap (λ z. one (whole z)) (read.quotients (pos 7));
  missing_remainder = λ read. ap (λ z. one (whole z)) (read.remainders (pos 7));
}
