-- Which arguments a rule admits: those that obey the rules of arguments and at which each constraint of the rule follows from those of
-- the problem (the RARE paper, FMCAD 2022, on applying a rule; the rules of arguments are this project's own).
use Rattle.std.specs.Prelude.{◌≡◌, ℕ, ◌+◌, ◌^◌, ℤ, pos, int_lt, int_le, nat_le, nat_lt, Bool, true, false, not, ◌&&◌, ◌||◌, List, [], ◌∷◌, slice_get, is_some, Option, Some, None, if◌then◌else◌}
use Rattle.std.specs.List.{list_all}
use Rattle.rare_linear.specs.Linears.{LinearExpression, substitute}
use Rattle.rare_linear.specs.declared.constraint.Constraint.{Constraint}
use Rattle.rare_sort.specs.DeclaredSorts.{follows, all_follow}
use Rattle.rare_sort.specs.Sameness.{linear_eq, sort_eq}
use Rattle.rare_sort.specs.SortOf.{sort_of}
use Rattle.rare_sort.specs.SortRules.{less_one, number_in, width, width_needs}
use Rattle.rare_sort.specs.Sorting.{name}
use Rattle.rare_sort.specs.Trees.{head_of, indices_of, args_of}
use Rattle.rare_sort.specs.declared.declarations.Declarations.{Declarations}
use Rattle.rare_sort.specs.declared.head.Head.{Head}
use Rattle.rare_sort.specs.declared.head.Head.TheVariants as head
use Rattle.rare_sort.specs.declared.sort.Sort.{Sort}
use Rattle.rare_sort.specs.declared.tree.Tree.{Tree}
use Rattle.rare_rule.specs.NodeForms.{all_nodes}
use Rattle.rare_rule.specs.Nodes.{Node, nodes_of}
use Rattle.rare_rule.specs.TypedRule.{TypedRule}
use Rattle.rare_rule.specs.declared.param.Param.{Param}
use Rattle.rare_rule.specs.declared.param.ParamKind.{ParamKind}
use Rattle.rare_rule.specs.declared.param.ParamKind.TheVariants as kind
use Rattle.rare_inst.specs.Arguments.{Argument, OfSort, OfLinear, OfTerm, OfList}
use Rattle.rare_inst.specs.Substituting.{Substitution, substitution, put_sort, is_put_within, is_sort_within}
use Rattle.rare_inst.specs.declared.fault.InstFault.{InstFault}
use Rattle.rare_inst.specs.declared.fault.InstFault.TheVariants.{ArgMissorted, Unentailed}

-- ---- constants

-- a numeral above 0
abbrev pub is_positive : Head → Bool
is_positive (head.Numeral n) = nat_lt 0 n
is_positive h = false

-- the widths of bit vectors that are values
abbrev pub is_width_of_value : Option ℤ → Bool
is_width_of_value (Some (pos n)) = nat_le n 128
is_width_of_value w = false

abbrev pub is_value : Head → List LinearExpression → List Tree → Bool
is_value head.True ix ts = true
is_value head.False ix ts = true
is_value (head.Numeral n) ix ts = true
is_value head.Neg ix (t ∷ []) = is_positive (head_of t)
is_value (head.Bits v) (w ∷ []) ts = is_width_of_value (number_in w)
is_value h ix ts = false

-- `true`, `false`, a numeral, `(- k)` with a numeral k above 0, or a literal of given value and given width up to 128
abbrev pub is_value_term : Tree → Bool
is_value_term t = is_value (head_of t) (indices_of t) (args_of t)

abbrev pub is_value_argument : Argument → Bool
is_value_argument (OfTerm t) = is_value_term t
is_value_argument _ = false

-- ---- literals of the left side

-- where both are numbers and the width is at least 1, the value lies from 0 to 2^width - 1
abbrev pub is_value_of : Option ℤ → Option ℤ → Bool
is_value_of (Some v) (Some (pos n)) = nat_lt n 1 || (int_le (pos 0) v && int_lt v (pos (2 ^ n)))
is_value_of v w = true

abbrev pub put_number : Substitution → LinearExpression → Option ℤ
put_number a e = if is_put_within a e then (number_in (substitute a.number e)) else None

-- of a literal whose value is name k alone, what stands for the name is a value of the literal's width
abbrev pub fits_literal : Substitution → ℕ → Head → List LinearExpression → Bool
fits_literal a k head.Literal (v ∷ w ∷ []) = if linear_eq v (name k) then (is_value_of (number_in (a.number k)) (put_number a w)) else true
fits_literal a k h ix = true

abbrev pub fits_literals : Substitution → ℕ → List Node → Bool
fits_literals a k left = all_nodes (λ n. fits_literal a k n.head n.indices) left

-- ---- the rules of arguments

-- at the nodes of the left side
module _ (d : Declarations) (left : List Node) (a : Substitution) where
  -- a term is of the sort that the parameter's sort becomes
  abbrev pub has_put_sort : Sort → Tree → Bool
  has_put_sort s t = sort_eq (sort_of d.symbols t) (put_sort a.number a.sort s)

  abbrev pub is_bit_vector : Tree → Bool
  is_bit_vector t = is_some (width (sort_of d.symbols t))

  -- widths are at least 1 and indices at least 0, and terms have their sorts
  abbrev pub obeys_kind : ℕ → ParamKind → Argument → Bool
  obeys_kind k kind.SortName (OfSort s) = all_follow d (width_needs s)
  obeys_kind k kind.Width (OfLinear e) = follows d (less_one e) && fits_literals a k left
  obeys_kind k kind.Index (OfLinear e) = follows d e && fits_literals a k left
  obeys_kind k (kind.Term s) (OfTerm t) = is_sort_within a s && has_put_sort s t
  obeys_kind k (kind.List s) (OfList ts) = is_sort_within a s && list_all (has_put_sort s) ts
  obeys_kind k kind.WideList (OfList ts) = list_all is_bit_vector ts
  obeys_kind k d x = false

  -- argument k, of this parameter, obeys the rules of arguments
  abbrev pub obeys : ℕ → Param → Option Argument → Bool
  obeys k p (Some x) = obeys_kind k p.kind x && (not p.constant || is_value_argument x)
  obeys k p None = false

  -- the constraint follows, with what stands for its names
  abbrev pub is_met : Constraint → Bool
  is_met c = is_put_within a c.floor && follows d (substitute a.number c.floor)

-- ---- the first fault

-- the number of the first that fails its test, where the first of the list has number k
abbrev pub first_that_fails : {X : Type 0} → (ℕ → X → Bool) → ℕ → List X → Option ℕ
first_that_fails test k [] = None
first_that_fails test k (x ∷ xs) = if test k x then (first_that_fails test (k + 1) xs) else (Some k)

-- arguments come before constraints, and both count from 1
abbrev pub first_fault : Option ℕ → Option ℕ → Option InstFault
first_fault (Some k) c = Some (ArgMissorted (k + 1))
first_fault None (Some k) = Some (Unentailed (k + 1))
first_fault None None = None

-- the first fault, by the nodes of the rule's left side
abbrev pub fault_at : Declarations → TypedRule → List Argument → (left : List Node) → Option InstFault
fault_at d t args left =
    let a = substitution d.symbols t.rule.params args in
    first_fault (first_that_fails (λ k p. obeys d left a k p (slice_get args k)) 0 t.rule.params) (first_that_fails (λ k c. is_met d left a c) 0 t.constraints)

-- the first cause for which the rule doesn't admit the arguments
abbrev pub admission_fault : Declarations → TypedRule → List Argument → Option InstFault
admission_fault d t args = fault_at d t args (nodes_of t.rule.left)

-- the rule admits the arguments
abbrev pub IsAdmitted : Declarations → TypedRule → List Argument → Type 0
IsAdmitted d t args = admission_fault d t args ≡ None
