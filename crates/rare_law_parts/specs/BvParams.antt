-- The parameters of rules on bit vectors.
use Rattle.std.specs.Prelude.{codes}
use Rattle.rare_sort.specs.Sorting.{name}
use Rattle.rare_sort.specs.declared.sort.Sort.{BitVec}
use Rattle.rare_rule.specs.Written.{declared_param, fresh_param}
use Rattle.rare_rule.specs.declared.param.Param.{Param}
use Rattle.rare_rule.specs.declared.param.ParamKind.TheVariants as kind

-- a width, which stands first where it stands
abbrev pub bv_n : Param
bv_n = declared_param (codes "n") kind.Width

-- indices
abbrev pub bv_i : Param
bv_i = declared_param (codes "i") kind.Index

abbrev pub bv_j : Param
bv_j = declared_param (codes "j") kind.Index

abbrev pub bv_k : Param
bv_k = declared_param (codes "k") kind.Index

abbrev pub bv_l : Param
bv_l = declared_param (codes "l") kind.Index

-- bit vectors of width n
abbrev pub bv_x : Param
bv_x = declared_param (codes "x") (kind.Term (BitVec (name 0)))

abbrev pub bv_y : Param
bv_y = declared_param (codes "y") (kind.Term (BitVec (name 0)))

-- lists of them
abbrev pub bv_xs : Param
bv_xs = declared_param (codes "xs") (kind.List (BitVec (name 0)))

abbrev pub bv_ys : Param
bv_ys = declared_param (codes "ys") (kind.List (BitVec (name 0)))

abbrev pub bv_zs : Param
bv_zs = declared_param (codes "zs") (kind.List (BitVec (name 0)))

-- lists of bit vectors, each of a width of its own
abbrev pub bv_us : Param
bv_us = declared_param (codes "us") kind.WideList

abbrev pub bv_vs : Param
bv_vs = declared_param (codes "vs") kind.WideList

-- a bit vector whose width is parameter 4, and that width
abbrev pub bv_w : Param
bv_w = declared_param (codes "w") (kind.Term (BitVec (name 4)))

abbrev pub bv_w_width : Param
bv_w_width = fresh_param (codes "w") kind.Width
