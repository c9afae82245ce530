-- The rule of sorts of each family of operators (SMT-LIB 2.6, section on well-sorted terms; theories Core, Ints, ArraysEx and
-- FixedSizeBitVectors). A rule says which sorts must be one and which expressions must be at least 0; who asks for the rule says
-- whether they are.
use Rattle.std.specs.Prelude.{ℕ, ℤ, pos, Bool as Test, true, false, List, [], ◌∷◌, ◌++◌, map, length, zip, nat_eq, nat_le, Option, Some, None, if◌then◌else◌}
use Rattle.std.specs.Option.{option_map, option_and_then}
use Rattle.rare_linear.specs.Linears.{Part, LinearExpression, number, add, scale}
use Rattle.rare_linear.specs.Entailment.{minus}
use Rattle.rare_sort.specs.declared.sort.Sort.{Sort, Bool, Int, BitVec, Array', Named, Row_of-Sort, end_of-Sort, more_of-Sort}
use Rattle.rare_sort.specs.declared.sort.Signature.{Signature}
use Rattle.rare_sort.specs.declared.family.Family.{Family}
use Rattle.rare_sort.specs.declared.family.Family.TheVariants as kind
use Rattle.rare_sort.specs.declared.family.Count.{Count}
use Rattle.rare_sort.specs.declared.family.Count.TheVariants as count
use Rattle.rare_sort.specs.declared.family.Basic.{Basic}
use Rattle.rare_sort.specs.declared.family.Basic.TheVariants as basic
use Rattle.rare_sort.specs.declared.family.Outcome.{Outcome}
use Rattle.rare_sort.specs.declared.family.Outcome.TheVariants as outcome

-- ---- parts of sorts

abbrev pub basic_sort : Basic → Sort
basic_sort basic.Bool = Bool
basic_sort basic.Int = Int

-- the sort in a box
abbrev pub boxed : {n : _} → Row_of-Sort n → Sort
boxed end_of-Sort = Bool
boxed (more_of-Sort s rest) = s

abbrev pub width : Sort → Option LinearExpression
width (BitVec w) = Some w
width _ = None

-- the sorts of the indices and of the entries of an array
abbrev pub array_parts : Sort → Option (Sort × Sort)
array_parts (Array' p keys q entries) = Some (boxed keys, boxed entries)
array_parts _ = None

-- one less, which is at least 0 where the expression is at least 1
abbrev pub less_one : LinearExpression → LinearExpression
less_one e = minus e (number (pos 1))

-- what the widths in a sort must be, from the left: each at least 1
abbrev mutual
  pub width_needs : Sort → List LinearExpression
  width_needs Bool = []
  width_needs Int = []
  width_needs (BitVec w) = less_one w ∷ []
  width_needs (Array' p keys q entries) = boxed_needs keys ++ boxed_needs entries
  width_needs (Named k) = []

  pub boxed_needs : {n : _} → Row_of-Sort n → List LinearExpression
  boxed_needs end_of-Sort = []
  boxed_needs (more_of-Sort s rest) = width_needs s

-- ---- the rule of each family

-- the sort of an application, the sorts that must be one, and what must be at least 0
pub record SortRule : Type 0 where
  pub sort : Sort
  pub alike : List (Sort × Sort)
  pub needs : List LinearExpression

abbrev pub gives : Sort → List (Sort × Sort) → List LinearExpression → SortRule
gives s es ns = record { sort = s; alike = es; needs = ns }

abbrev pub each_is : Sort → List Sort → List (Sort × Sort)
each_is s ss = map (λ t. (t, s)) ss

abbrev pub counts : Count → ℕ → ℕ → Test
counts (count.Exactly n) least m = nat_eq m n
counts count.Several least m = nat_le least m

abbrev pub outcome_sort : Outcome → LinearExpression → Sort
outcome_sort outcome.SameWidth w = BitVec w
outcome_sort outcome.OneBit w = BitVec (number (pos 1))
outcome_sort outcome.Bool w = Bool

-- the sum of the widths, from the left
abbrev pub total_from : LinearExpression → List Sort → Option LinearExpression
total_from sum [] = Some sum
total_from sum (s ∷ ss) = option_and_then (λ w. total_from (add sum w) ss) (width s)

abbrev pub total : List Sort → Option LinearExpression
total ss = total_from (number (pos 0)) ss

abbrev pub no_names : List Part → Test
no_names [] = true
no_names (p ∷ ps) = false

abbrev pub is_number : LinearExpression → Test
is_number e = no_names e.parts

-- the number that an expression without names is
abbrev pub number_in : LinearExpression → Option ℤ
number_in e = if is_number e then (Some e.constant) else None

-- a product, one factor of which has no name
abbrev pub product : LinearExpression → LinearExpression → Option LinearExpression
product k m =
    if is_number k then (Some (scale k.constant m)) else (if is_number m then (Some (scale m.constant k)) else None)

abbrev pub slice_width : LinearExpression → LinearExpression → LinearExpression
slice_width j i = add (minus j i) (number (pos 1))

-- what `(_ extract j i)` asks of a word of width m: i >= 0, j >= i, m - 1 >= j
abbrev pub slice_needs : LinearExpression → LinearExpression → LinearExpression → List LinearExpression
slice_needs j i m = i ∷ minus j i ∷ minus (less_one m) j ∷ []

-- by the signatures of symbols, the least of `count.Several`, the family, the indices and the sorts of the arguments
abbrev pub sort_rule : (ℕ → Option Signature) → ℕ → Family → List LinearExpression → List Sort → Option SortRule
sort_rule symbols least (kind.Fixed c s t) [] ss =
    if counts c least (length ss) then (Some (gives (basic_sort t) (each_is (basic_sort s) ss) [])) else None
sort_rule symbols least kind.Alike [] (s ∷ ss) =
    if nat_le least (length (s ∷ ss)) then (Some (gives Bool (each_is s ss) [])) else None
sort_rule symbols least kind.Choice [] (c ∷ s ∷ t ∷ []) = Some (gives s ((c, Bool) ∷ (t, s) ∷ []) [])
sort_rule symbols least kind.Select [] (m ∷ k ∷ []) = option_map (λ p. gives p.1 ((k, p.0) ∷ []) []) (array_parts m)
sort_rule symbols least kind.Store [] (m ∷ k ∷ v ∷ []) = option_map (λ p. gives m ((k, p.0) ∷ (v, p.1) ∷ []) []) (array_parts m)
sort_rule symbols least (kind.BitVectors c o) [] (s ∷ ss) =
    if counts c least (length (s ∷ ss)) then (option_map (λ w. gives (outcome_sort o w) (each_is s ss) []) (width s)) else None
sort_rule symbols least kind.Concat [] ss =
    if nat_le least (length ss) then (option_map (λ w. gives (BitVec w) [] []) (total ss)) else None
sort_rule symbols least kind.Extract (j ∷ i ∷ []) (s ∷ []) = option_map (λ m. gives (BitVec (slice_width j i)) [] (slice_needs j i m)) (width s)
sort_rule symbols least kind.Extend (k ∷ []) (s ∷ []) = option_map (λ m. gives (BitVec (add m k)) [] (k ∷ [])) (width s)
sort_rule symbols least kind.Rotate (k ∷ []) (s ∷ []) = option_map (λ m. gives s [] (k ∷ [])) (width s)
sort_rule symbols least kind.Repeat (k ∷ []) (s ∷ []) =
    option_map (λ w. gives (BitVec w) [] (less_one k ∷ [])) (option_and_then (λ m. product k m) (width s))
sort_rule symbols least kind.Bits (w ∷ []) [] = Some (gives (BitVec w) [] (less_one w ∷ []))
sort_rule symbols least kind.Literal (v ∷ w ∷ []) [] = Some (gives (BitVec w) [] (less_one w ∷ []))
sort_rule symbols least (kind.Symbol k) [] ss =
    option_and_then (λ g. if nat_eq (length ss) (length g.args) then (Some (gives g.gives (zip ss g.args) [])) else None) (symbols k)
sort_rule symbols least f ix ss = None
