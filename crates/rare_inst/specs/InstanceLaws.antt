-- Laws of instances: they are well sorted, they mean what the rule means, and a rule that holds may be applied (the RARE paper, FMCAD
-- 2022, on the soundness of rules).
use Rattle.std.specs.Prelude.{◌≡◌, ℕ, ◌<◌, true, List, [], length, Some, Ok, ⊤}
use Rattle.rare_linear.specs.Linears.{LinearExpression, IsNormal}
use Rattle.rare_sort.specs.Each.{Each, EachPair}
use Rattle.rare_sort.specs.SortOf.{sort_of, IsTermOf}
use Rattle.rare_sort.specs.SortRules.{width}
use Rattle.rare_sort.specs.Trees.{node}
use Rattle.rare_sort.specs.declared.declarations.Declarations.{Declarations}
use Rattle.rare_sort.specs.declared.head.Head.TheVariants.{True}
use Rattle.rare_sort.specs.declared.sort.Sort.{Sort, Bool}
use Rattle.rare_sort.specs.declared.tree.Tree.{Tree}
use Rattle.rare_meaning.specs.Interpretations.{FunctionClass, Counts, IsModel}
use Rattle.rare_meaning.specs.Meaning.{meaning, value_of}
use Rattle.rare_meaning.specs.Settings.{Setting}
use Rattle.rare_meaning.specs.TrueRewrite.{MeansSame}
use Rattle.rare_meaning.specs.Values.{Truth}
use Rattle.rare_rule.specs.Holds.{Holds, DoesCount, result_meaning}
use Rattle.rare_rule.specs.TypedRule.{TypedRule, IsTypedRule}
use Rattle.rare_rule.specs.declared.rule.Rule.{Rule}
use Rattle.rare_inst.specs.Admission.{IsAdmitted}
use Rattle.rare_inst.specs.Arguments.{Argument, OfSort, OfLinear, OfTerm, OfList}
use Rattle.rare_inst.specs.Induced.{induced, induced_sorts}
use Rattle.rare_inst.specs.Instance.{OtherSide, part_of, left_of, premise_of, result_of}
use Rattle.rare_inst.specs.Substituting.{Substitution, substitution}

-- ---- arguments of a problem

-- the width of a bit vector is in normal form
pub record HasNormalWidth (s : Sort) : Type 0 where
  pub normal : (w : LinearExpression) → width s ≡ Some w → IsNormal w.parts

-- the tree is a term of the problem
abbrev pub IsProblemTerm : Declarations → Tree → Type 0
IsProblemTerm d t = IsTermOf d t (sort_of d.symbols t)

-- the argument's terms are terms of the problem, and its expressions are in normal form
abbrev pub IsArgument : Declarations → Argument → Type 0
IsArgument d (OfSort s) = ⊤
IsArgument d (OfLinear e) = IsNormal e.parts
IsArgument d (OfTerm t) = IsProblemTerm d t
IsArgument d (OfList ts) = Each (λ t. IsProblemTerm d t × HasNormalWidth (sort_of d.symbols t)) ts

-- a typed rule at arguments that it admits
pub record IsInstance (d : Declarations) (t : TypedRule) (args : List Argument) : Type 0 where
  pub typed : IsTypedRule t
  pub arguments : Each (IsArgument d) args
  pub admitted : IsAdmitted d t args

-- ---- instances are well sorted

-- each part that exists is well sorted: premises are truths, and the left side and the result have one sort
pub record InstanceSorts (d : Declarations) (r : Rule) (args : List Argument) : Type 0 where
  pub sort : Sort
  pub left : (u : Tree) → left_of d r args ≡ Ok u → IsTermOf d u sort
  pub premises : (k : ℕ) (u : Tree) → k < length r.premises → premise_of d r args k ≡ Ok u → IsTermOf d u Bool
  pub result : (u : Tree) → result_of d r args ≡ Ok u → IsTermOf d u sort

abbrev pub InstancesAreSorted : Type 0
InstancesAreSorted = (d : Declarations) (t : TypedRule) (args : List Argument) → IsInstance d t args → InstanceSorts d t.rule args

-- ---- instances mean what the rule means

-- the terms that the parts of a rule become
pub record Parts : Type 0 where
  pub left : Tree
  pub premises : List Tree
  pub result : Tree

-- all parts exist, and are these
pub record HasParts (d : Declarations) (r : Rule) (args : List Argument) (x : Parts) : Type 0 where
  pub left : left_of d r args ≡ Ok x.left
  pub premises : EachPair (λ p u. part_of d r args OtherSide p ≡ Ok u) r.premises x.premises
  pub result : result_of d r args ≡ Ok x.result

-- the two trees mean the same, each in its setting
abbrev pub MeanAlike : Setting → Tree → Setting → Tree → Type 0
MeanAlike v t e u = (meaning v t).items ≡ (meaning e u).items

-- the setting of the rule counts, and there each part of the rule means what it becomes means in that of the problem
pub record MeansAsRule (c : FunctionClass) (t : TypedRule) (a : Substitution) (e : Setting) (x : Parts) : Type 0 where
  pub functions : Counts c (induced e a)
  pub counts : DoesCount t.rule t.constraints (induced_sorts e a) (induced e a)
  pub left : MeanAlike (induced e a) t.rule.left e x.left
  pub premises : EachPair (λ p u. MeanAlike (induced e a) p e u) t.rule.premises x.premises
  pub result : (result_meaning (induced e a) t.rule t.rule.context).items ≡ (meaning e x.result).items

abbrev pub InstancesMeanAsRules : Type 0
InstancesMeanAsRules =
    (c : FunctionClass) (d : Declarations) (t : TypedRule) (args : List Argument) (x : Parts) → IsInstance d t args → HasParts d t.rule args x →
    (e : Setting) → IsModel c d e → MeansAsRule c t (substitution d.symbols t.rule.params args) e x

-- ---- rules that hold apply

-- where the premises are true, the left side and the result have one value
abbrev pub RulesThatHoldApply : Type 0
RulesThatHoldApply =
    (c : FunctionClass) (d : Declarations) (t : TypedRule) (args : List Argument) (x : Parts) → IsInstance d t args → HasParts d t.rule args x →
    Holds c t.rule t.constraints →
    (e : Setting) → IsModel c d e → Each (λ p. value_of e p ≡ Truth true) x.premises → value_of e x.left ≡ value_of e x.result

-- where the premises mean what `true` means, the left side means what the result means
abbrev pub InstancesMeanSame : Type 0
InstancesMeanSame =
    (c : FunctionClass) (d : Declarations) (t : TypedRule) (args : List Argument) (x : Parts) → IsInstance d t args → HasParts d t.rule args x →
    Holds c t.rule t.constraints → Each (λ p. MeansSame c d p (node True [] [])) x.premises → MeansSame c d x.left x.result
