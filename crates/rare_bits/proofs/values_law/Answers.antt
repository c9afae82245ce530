use Rattle.std.proofs.Common.{refl}
use Rattle.rare_bits.specs.Bits.{number_of_bits}
use Rattle.rare_bits.proofs.values_law.Goals as goal

pub returns : goal.returns
unfolding number_of_bits
returns c = record { bvnot = refl; bvand = refl; bvor = refl; bvxor = refl; bvnand = refl; bvnor = refl; bvxnor = refl; bvcomp = refl; bvadd = refl; bvsub = refl; bvmul = refl; bvneg = refl; bvudiv = refl; bvurem = refl; bvsdiv = refl; bvsrem = refl; bvsmod = refl; bvshl = refl; bvlshr = refl; bvashr = refl; rotate_left = refl; rotate_right = refl; extract = refl; concat = refl; repeat = refl; sign_extend = refl }
