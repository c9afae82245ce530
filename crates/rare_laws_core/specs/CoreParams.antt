-- The parameters of the rules of theory Core.
use Rattle.std.specs.Prelude.{codes}
use Rattle.rare_sort.specs.declared.sort.Sort.{Bool, Named}
use Rattle.rare_rule.specs.Written.{declared_param}
use Rattle.rare_rule.specs.declared.param.Param.{Param}
use Rattle.rare_rule.specs.declared.param.ParamKind.TheVariants as kind

-- a sort, which stands first where it stands
abbrev pub core_a : Param
core_a = declared_param (codes "a") kind.SortName

-- truth values
abbrev pub core_p : Param
core_p = declared_param (codes "p") (kind.Term Bool)

abbrev pub core_q : Param
core_q = declared_param (codes "q") (kind.Term Bool)

-- terms of sort a
abbrev pub core_x : Param
core_x = declared_param (codes "x") (kind.Term (Named 0))

abbrev pub core_y : Param
core_y = declared_param (codes "y") (kind.Term (Named 0))

abbrev pub core_z : Param
core_z = declared_param (codes "z") (kind.Term (Named 0))

-- lists of truth values
abbrev pub core_ps : Param
core_ps = declared_param (codes "ps") (kind.List Bool)

abbrev pub core_qs : Param
core_qs = declared_param (codes "qs") (kind.List Bool)

abbrev pub core_rs : Param
core_rs = declared_param (codes "rs") (kind.List Bool)
