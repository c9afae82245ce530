-- What stands for the names of a rule at its arguments.
use Rattle.std.specs.Prelude.{ℕ, IsTrue}
use Rattle.rare_rule.specs.declared.param.ParamKind.{ParamKind}
use Rattle.rare_rule.specs.declared.param.ParamKind.TheVariants as kind
use Rattle.rare_inst.specs.Answers.{is_named_sort}
use Rattle.rare_inst.specs.Substituting.{Substitution}
use Rattle.rare_inst.specs.inner.Standing.{StandsFor, HasSorts}
use Rattle.rare_inst.specs.declared.obeying.Site.{Site}

-- numbers and sorts stand for the names as at the site
pub record IsPutAt (a : Substitution) (x : Site) : Type 0 where
  pub numbers : StandsFor a x.numbers.now
  pub sorts : HasSorts a x.args.now

-- the names of expressions in the sort of the elements are below the bound
abbrev pub HasNamedSort : ℕ → ParamKind → Type 0
HasNamedSort n (kind.Term s) = IsTrue (is_named_sort n s)
HasNamedSort n (kind.List s) = IsTrue (is_named_sort n s)
HasNamedSort n c = Unit {0}
