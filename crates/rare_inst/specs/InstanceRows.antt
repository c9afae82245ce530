-- Instances worked out by hand: lists that are spliced in and collapse, literals, contexts, and each fault.
use Rattle.std.specs.Prelude.{◌≡◌, ℕ, ◌-◌, ◌^◌, pos, negsuc, List, [], ◌∷◌, Ok, Err, codes}
use Rattle.rare_linear.specs.Linears.{linear, number}
use Rattle.rare_sort.specs.Sorting.{name}
use Rattle.rare_sort.specs.Trees.{node}
use Rattle.rare_sort.specs.declared.declarations.Declarations.{Declarations}
use Rattle.rare_sort.specs.declared.head.Head.TheVariants as head
use Rattle.rare_sort.specs.declared.sort.Signature.{Signature}
use Rattle.rare_sort.specs.declared.sort.Sort.{Sort, Bool, BitVec}
use Rattle.rare_sort.specs.declared.tree.Tree.{Tree}
use Rattle.rare_rule.specs.RuleRows.{and_true, ite_cond, and_de_morgan}
use Rattle.rare_rule.specs.Written.{param, apply, literal, declared_param, bound, plain_rule, rule_in}
use Rattle.rare_rule.specs.declared.param.Param.{Param}
use Rattle.rare_rule.specs.declared.param.ParamKind.TheVariants as kind
use Rattle.rare_rule.specs.declared.rule.Rule.{Rule}
use Rattle.rare_inst.specs.Arguments.{Argument, OfSort, OfLinear, OfTerm, OfList}
use Rattle.rare_inst.specs.Instance.{left_of, premise_of, result_of}
use Rattle.rare_inst.specs.declared.fault.InstFault.TheVariants.{LeftTooShort, EmptyConcat, Limit}

-- ---- a problem

abbrev pub constant : Sort → Signature
constant s = record { args = []; gives = s }

abbrev pub word_sort : ℕ → Sort
word_sort n = BitVec (number (pos n))

-- constants p and q of sort Bool, x of 8 bits and y of 200
abbrev pub problem : Declarations
problem = record { sorts = 0; symbols = constant Bool ∷ constant Bool ∷ constant (word_sort 8) ∷ constant (word_sort 200) ∷ []; lows = []; constraints = [] }

abbrev pub symbol : ℕ → Tree
symbol k = node (head.Free k) [] []

abbrev pub p : Tree
p = symbol 0

abbrev pub q : Tree
q = symbol 1

abbrev pub x : Tree
x = symbol 2

abbrev pub y : Tree
y = symbol 3

-- a constant z of n bits, where n is at least 9
abbrev pub named_problem : Declarations
named_problem = record { sorts = 0; symbols = constant (BitVec (name 0)) ∷ []; lows = 1 ∷ []; constraints = bound (linear (negsuc 8) ((0, pos 1) ∷ [])) ∷ [] }

abbrev pub z : Tree
z = symbol 0

-- ---- lists

-- at ps and qs of `(and ps true qs)`, which becomes `(and ps qs)`
pub record ListRows : Type 0 where
  pub left : left_of problem and_true (OfList (p ∷ []) ∷ OfList (q ∷ []) ∷ []) ≡ Ok (apply head.And (p ∷ apply head.True [] ∷ q ∷ []))
  pub right : result_of problem and_true (OfList (p ∷ []) ∷ OfList (q ∷ []) ∷ []) ≡ Ok (apply head.And (p ∷ q ∷ []))
  -- one argument is left, and none
  pub one : result_of problem and_true (OfList [] ∷ OfList (q ∷ []) ∷ []) ≡ Ok q
  pub none : result_of problem and_true (OfList [] ∷ OfList [] ∷ []) ≡ Ok (apply head.True [])
  pub short : left_of problem and_true (OfList [] ∷ OfList [] ∷ []) ≡ Err LeftTooShort

-- ---- premises and contexts

pub record PartRows : Type 0 where
  -- `(ite p x y)` where p is true becomes x
  pub premise : premise_of problem ite_cond (OfSort Bool ∷ OfTerm p ∷ OfTerm q ∷ OfTerm p ∷ []) 0 ≡ Ok p
  pub left : left_of problem ite_cond (OfSort Bool ∷ OfTerm p ∷ OfTerm q ∷ OfTerm p ∷ []) ≡ Ok (apply head.Ite (p ∷ q ∷ p ∷ []))
  pub right : result_of problem ite_cond (OfSort Bool ∷ OfTerm p ∷ OfTerm q ∷ OfTerm p ∷ []) ≡ Ok q
  -- `(not (and p q ps))` becomes `(not (and q ps))` in the context `(or (not p) _)`
  pub context : result_of problem and_de_morgan (OfTerm p ∷ OfTerm q ∷ OfList [] ∷ []) ≡ Ok (apply head.Or (apply head.Not (p ∷ []) ∷ apply head.Not (q ∷ []) ∷ []))

-- ---- bit vectors

-- `(define-rule f ((n Width) (x (BitVec n)) (xs (BitVec n) :list)) (bvand x x xs) (bvor (bvand xs) x x))`
abbrev pub all_ones : Rule
all_ones =
    plain_rule (codes "f") (declared_param (codes "n") kind.Width ∷ declared_param (codes "x") (kind.Term (BitVec (name 0))) ∷ declared_param (codes "xs") (kind.List (BitVec (name 0))) ∷ [])
    [] (apply head.BvAnd (param 1 ∷ param 1 ∷ param 2 ∷ [])) (apply head.BvOr (apply head.BvAnd (param 2 ∷ []) ∷ param 1 ∷ param 1 ∷ []))

-- `(define-rule g ((z (BitVec 8)) (xs ?BitVec :list)) (= (concat xs z z) (concat xs z z)) (= (concat xs) (concat xs)))`
abbrev pub joining : Rule
joining =
    plain_rule (codes "g") (declared_param (codes "z") (kind.Term (word_sort 8)) ∷ declared_param (codes "xs") kind.WideList ∷ []) []
    (apply head.Equal (apply head.Concat (param 1 ∷ param 0 ∷ param 0 ∷ []) ∷ apply head.Concat (param 1 ∷ param 0 ∷ param 0 ∷ []) ∷ []))
    (apply head.Equal (apply head.Concat (param 1 ∷ []) ∷ apply head.Concat (param 1 ∷ []) ∷ []))

-- `(define-rule h ((n Width) (k Index) (x (BitVec n))) (bvadd x (bv k n)) ((_ zero_extend (+ k 1)) x))`, whose sides have two sorts
abbrev pub adding : Rule
adding =
    plain_rule (codes "h") (declared_param (codes "n") kind.Width ∷ declared_param (codes "k") kind.Index ∷ declared_param (codes "x") (kind.Term (BitVec (name 0))) ∷ [])
    [] (apply head.BvAdd (param 2 ∷ literal (name 1) (name 0) ∷ [])) (node head.ZeroExtend (linear (pos 1) ((1, pos 1) ∷ []) ∷ []) (param 2 ∷ []))

-- a literal of 8 bits
abbrev pub octet : ℕ → Tree
octet v = node (head.Bits v) (number (pos 8) ∷ []) []

abbrev pub index_given : ℕ → Argument
index_given n = OfLinear (number (pos n))

pub record BitVectorRows : Type 0 where
  -- a neutral value has the width of the list's elements; above 128 bits it breaks a limit
  pub neutral : result_of problem all_ones (index_given 8 ∷ OfTerm x ∷ OfList [] ∷ []) ≡ Ok (apply head.BvOr (octet 255 ∷ x ∷ x ∷ []))
  pub wide_neutral : result_of problem all_ones (index_given 200 ∷ OfTerm y ∷ OfList [] ∷ []) ≡ Err Limit
  pub named_neutral :
      result_of named_problem all_ones (OfLinear (name 0) ∷ OfTerm z ∷ OfList [] ∷ []) ≡ Ok (apply head.BvOr (literal (number (negsuc 0)) (name 0) ∷ z ∷ z ∷ []))
  -- a `concat` of one argument is that argument, and one of none is nothing
  pub joined : result_of problem joining (OfTerm x ∷ OfList (y ∷ []) ∷ []) ≡ Ok (apply head.Equal (y ∷ y ∷ []))
  pub empty : result_of problem joining (OfTerm x ∷ OfList [] ∷ []) ≡ Err EmptyConcat
  -- a literal is reduced
  pub reduced : left_of problem adding (index_given 8 ∷ index_given 3 ∷ OfTerm x ∷ []) ≡ Ok (apply head.BvAdd (x ∷ octet 3 ∷ []))
  -- an index and a width that leave i128
  pub large_index : result_of problem adding (index_given 8 ∷ index_given (2 ^ 127 - 1) ∷ OfTerm x ∷ []) ≡ Err Limit
  pub large_width : result_of problem adding (index_given 8 ∷ index_given (2 ^ 127 - 2) ∷ OfTerm x ∷ []) ≡ Err Limit

-- ---- the first fault

-- an extension by more than an i128
abbrev pub overextended : Tree → Tree
overextended t = node head.ZeroExtend (number (pos (2 ^ 127 - 1)) ∷ []) (t ∷ [])

-- `(concat xs z z)` becomes `(concat xs)` in this context
abbrev pub in_context : Tree → Rule
in_context c =
    rule_in (codes "i") (declared_param (codes "z") (kind.Term (word_sort 8)) ∷ declared_param (codes "xs") kind.WideList ∷ [])
    (apply head.Concat (param 1 ∷ param 0 ∷ param 0 ∷ [])) (apply head.Concat (param 1 ∷ [])) c

pub record OrderRows : Type 0 where
  -- the right side stands in the place of the hole, before or after another fault
  pub hole_last : result_of problem (in_context (apply head.Concat (overextended (param 0) ∷ apply head.Hole [] ∷ []))) (OfTerm x ∷ OfList [] ∷ []) ≡ Err Limit
  pub hole_first : result_of problem (in_context (apply head.Concat (apply head.Hole [] ∷ overextended (param 0) ∷ []))) (OfTerm x ∷ OfList [] ∷ []) ≡ Err EmptyConcat
  -- arguments come before their application
  pub argument : result_of problem (in_context (overextended (apply head.Hole []))) (OfTerm x ∷ OfList [] ∷ []) ≡ Err EmptyConcat
  pub application : result_of problem (in_context (overextended (apply head.Hole []))) (OfTerm x ∷ OfList (x ∷ []) ∷ []) ≡ Err Limit
