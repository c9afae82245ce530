-- The parameters of the rules of theory ArraysEx.
use Rattle.std.specs.Prelude.{codes}
use Rattle.rare_sort.specs.declared.sort.Sort.{Named}
use Rattle.rare_sort.specs.declared.sort.Sort.TheVariants as sort
use Rattle.rare_rule.specs.Written.{declared_param}
use Rattle.rare_rule.specs.declared.param.Param.{Param}
use Rattle.rare_rule.specs.declared.param.ParamKind.TheVariants as kind

-- the sorts of indices and of entries, which stand first
abbrev pub array_a : Param
array_a = declared_param (codes "a") kind.SortName

abbrev pub array_b : Param
array_b = declared_param (codes "b") kind.SortName

-- an array between them
abbrev pub array_t : Param
array_t = declared_param (codes "t") (kind.Term (sort.Array (Named 0) (Named 1)))

-- indices
abbrev pub array_i : Param
array_i = declared_param (codes "i") (kind.Term (Named 0))

abbrev pub array_j : Param
array_j = declared_param (codes "j") (kind.Term (Named 0))

-- entries
abbrev pub array_u : Param
array_u = declared_param (codes "u") (kind.Term (Named 1))

abbrev pub array_v : Param
array_v = declared_param (codes "v") (kind.Term (Named 1))
