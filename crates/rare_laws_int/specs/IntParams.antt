-- The parameters of the rules of theory Ints.
use Rattle.std.specs.Prelude.{codes}
use Rattle.rare_sort.specs.declared.sort.Sort.{Int}
use Rattle.rare_rule.specs.Written.{declared_param}
use Rattle.rare_rule.specs.declared.param.Param.{Param}
use Rattle.rare_rule.specs.declared.param.ParamKind.TheVariants as kind

abbrev pub int_i : Param
int_i = declared_param (codes "i") (kind.Term Int)

abbrev pub int_j : Param
int_j = declared_param (codes "j") (kind.Term Int)

abbrev pub int_k : Param
int_k = declared_param (codes "k") (kind.Term Int)

-- lists
abbrev pub int_is : Param
int_is = declared_param (codes "is") (kind.List Int)

abbrev pub int_js : Param
int_js = declared_param (codes "js") (kind.List Int)

abbrev pub int_ks : Param
int_ks = declared_param (codes "ks") (kind.List Int)
