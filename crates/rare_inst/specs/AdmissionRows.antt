-- Which arguments written rules admit, and the first fault of those that they don't.
use Rattle.std.specs.Prelude.{◌≡◌, ℕ, pos, negsuc, true, false, List, [], ◌∷◌, Some, None, codes}
use Rattle.rare_linear.specs.Linears.{linear}
use Rattle.rare_linear.specs.declared.constraint.Constraint.{Constraint}
use Rattle.rare_sort.specs.Sorting.{name}
use Rattle.rare_sort.specs.declared.head.Head.TheVariants as head
use Rattle.rare_sort.specs.declared.sort.Sort.{Bool, Int}
use Rattle.rare_sort.specs.declared.tree.Tree.{Tree}
use Rattle.rare_rule.specs.RuleRows.{ite_cond}
use Rattle.rare_rule.specs.TypedRule.{TypedRule}
use Rattle.rare_rule.specs.Written.{param, apply, bound, plain_rule}
use Rattle.rare_rule.specs.declared.param.ParamKind.TheVariants as kind
use Rattle.rare_rule.specs.declared.rule.Rule.{Rule}
use Rattle.rare_inst.specs.Admission.{admission_fault}
use Rattle.rare_inst.specs.Arguments.{OfSort, OfLinear, OfTerm, OfList}
use Rattle.rare_inst.specs.InstanceRows.{word_sort, problem, p, q, x, y, named_problem, z, all_ones, joining, adding, index_given}
use Rattle.rare_inst.specs.declared.fault.InstFault.TheVariants.{ArgMissorted, Unentailed}

abbrev pub typed : Rule → List Constraint → TypedRule
typed r cs = record { rule = r; constraints = cs }

-- `(define-rule c ((k Int :const)) (+ k 0) k)`
abbrev pub on_constant : Rule
on_constant =
    plain_rule (codes "c") (record { name = codes "k"; kind = kind.Term Int; constant = true; fresh = false } ∷ []) []
    (apply head.Add (param 0 ∷ apply (head.Numeral 0) [] ∷ [])) (param 0)

abbrev pub numeral_term : ℕ → Tree
numeral_term n = apply (head.Numeral n) []

-- n - 1 and n - 9
abbrev pub two_bounds : List Constraint
two_bounds = bound (linear (negsuc 0) ((0, pos 1) ∷ [])) ∷ bound (linear (negsuc 8) ((0, pos 1) ∷ [])) ∷ []

pub record AdmissionRows : Type 0 where
  pub terms : admission_fault problem (typed ite_cond []) (OfSort Bool ∷ OfTerm p ∷ OfTerm q ∷ OfTerm p ∷ []) ≡ None
  -- a sort whose width is not at least 1, a term of another sort, and one of another width
  pub sort : admission_fault problem (typed ite_cond []) (OfSort (word_sort 0) ∷ OfTerm p ∷ OfTerm q ∷ OfTerm p ∷ []) ≡ Some (ArgMissorted 1)
  pub term : admission_fault problem (typed ite_cond []) (OfSort Bool ∷ OfTerm p ∷ OfTerm x ∷ OfTerm p ∷ []) ≡ Some (ArgMissorted 3)
  pub width : admission_fault problem (typed all_ones []) (index_given 4 ∷ OfTerm x ∷ OfList [] ∷ []) ≡ Some (ArgMissorted 2)
  pub list : admission_fault problem (typed all_ones []) (index_given 8 ∷ OfTerm x ∷ OfList (x ∷ y ∷ []) ∷ []) ≡ Some (ArgMissorted 3)
  pub words : admission_fault problem (typed joining []) (OfTerm x ∷ OfList (x ∷ p ∷ []) ∷ []) ≡ Some (ArgMissorted 2)
  -- a literal of the left side that is k alone
  pub literal : admission_fault problem (typed adding []) (index_given 8 ∷ index_given 255 ∷ OfTerm x ∷ []) ≡ None
  pub large_literal : admission_fault problem (typed adding []) (index_given 8 ∷ index_given 256 ∷ OfTerm x ∷ []) ≡ Some (ArgMissorted 2)
  -- a numeral, its negation, a negation of 0, and a sum
  pub value : admission_fault problem (typed on_constant []) (OfTerm (numeral_term 3) ∷ []) ≡ None
  pub negative : admission_fault problem (typed on_constant []) (OfTerm (apply head.Neg (numeral_term 3 ∷ [])) ∷ []) ≡ None
  pub zero : admission_fault problem (typed on_constant []) (OfTerm (apply head.Neg (numeral_term 0 ∷ [])) ∷ []) ≡ Some (ArgMissorted 1)
  pub sum : admission_fault problem (typed on_constant []) (OfTerm (apply head.Add (numeral_term 1 ∷ numeral_term 2 ∷ [])) ∷ []) ≡ Some (ArgMissorted 1)
  -- the first follows at 8 bits, the second doesn't
  pub constraint : admission_fault problem (typed all_ones two_bounds) (index_given 8 ∷ OfTerm x ∷ OfList [] ∷ []) ≡ Some (Unentailed 2)
  pub named : admission_fault named_problem (typed all_ones two_bounds) (OfLinear (name 0) ∷ OfTerm z ∷ OfList [] ∷ []) ≡ None
