-- What a rule's names stand for where its arguments stand for them.
use Rattle.std.specs.Prelude.{ℕ, flat_map}
use Rattle.rare_linear.specs.Linears.{linear_value}
use Rattle.rare_meaning.specs.Meaning.{meaning}
use Rattle.rare_meaning.specs.Settings.{Group, Setting, group_of, sort_in, with_others}
use Rattle.rare_meaning.specs.Values.{ClosedSort}
use Rattle.rare_inst.specs.Substituting.{TreeGroup, Substitution}

-- what the terms of one place mean
abbrev pub group_meaning : Setting → TreeGroup → Group
group_meaning e g = group_of (sort_in e g.element) (flat_map (λ t. (meaning e t).items) g.trees)

-- the setting of the rule, by one of the problem: each name stands for what its argument means
abbrev pub induced : Setting → Substitution → Setting
induced e a = with_others (λ k. linear_value e.number (a.number k)) (λ k. group_meaning e (a.group k)) (group_meaning e a.hole) e

-- the sorts that sort names stand for
abbrev pub induced_sorts : Setting → Substitution → ℕ → ClosedSort
induced_sorts e a k = sort_in e (a.sort k)
