-- The same rules are in form.
use Rattle.rare_rule.specs.Rules.{IsInForm}
use Rattle.rare_rule.specs.RuleRows.{and_true, ite_cond, and_de_morgan, shift_left, low_slice, concat_low}

pub record FormRows : Type 0 where
  pub lists : IsInForm and_true
  pub premise : IsInForm ite_cond
  pub context : IsInForm and_de_morgan
  pub shift : IsInForm shift_left
  pub slice : IsInForm low_slice
  pub wide : IsInForm concat_low
