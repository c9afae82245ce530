-- Literals of bit vectors, kept reduced modulo 2^width (SMT-LIB 2.6, theory FixedSizeBitVectors).
use Rattle.std.specs.Prelude.{◌≡◌, ℕ, ◌%◌, ◌^◌, ℤ, pos, negsuc, List, [], ◌∷◌, Option, Some, None, All}
use Rattle.std.specs.Int.{int_rem_euclid}
use Rattle.rare_linear.specs.Linears.{LinearExpression}
use Rattle.rare_sort.specs.SortRules.{number_in}
use Rattle.rare_sort.specs.Trees.{node}
use Rattle.rare_sort.specs.declared.head.Head.{Head}
use Rattle.rare_sort.specs.declared.head.Head.TheVariants as head
use Rattle.rare_sort.specs.declared.tree.Tree.{Tree}
use Rattle.rare_term.specs.declared.literals.Operator.{Operator}

-- a whole number as a natural one, 0 where it is negative
abbrev pub natural_of : ℤ → ℕ
natural_of (pos n) = n
natural_of (negsuc n) = 0

-- the remainder of the value modulo 2^width
abbrev pub reduced_value : ℤ → ℤ → ℕ
reduced_value v w = natural_of (int_rem_euclid v (pos (2 ^ natural_of w)))

abbrev pub operator : Head → List LinearExpression → Operator
operator h ix = record { head = h; indices = ix }

abbrev pub given_bits : ℕ → LinearExpression → Option ℤ → Operator
given_bits v w (Some n) = operator (head.Bits (v % 2 ^ natural_of n)) (w ∷ [])
given_bits v w None = operator (head.Bits v) (w ∷ [])

abbrev pub given_literal : LinearExpression → LinearExpression → Option ℤ → Option ℤ → Operator
given_literal v w (Some m) (Some n) = operator (head.Bits (reduced_value m n)) (w ∷ [])
given_literal v w m n = operator head.Literal (v ∷ w ∷ [])

-- a literal whose value and width are numbers is kept with its value reduced; every other operator as it is
unfoldable pub reduced : Head → List LinearExpression → Operator
reduced (head.Bits v) (w ∷ []) = given_bits v w (number_in w)
reduced head.Literal (v ∷ w ∷ []) = given_literal v w (number_in v) (number_in w)
reduced h ix = operator h ix

-- the tree of an application, literals reduced
abbrev pub application : Head → List LinearExpression → List Tree → Tree
application h ix ts = let o = reduced h ix in node o.head o.indices ts

-- the width of a literal of given value and width is a number
abbrev pub IsGiven : Head → List LinearExpression → Type 0
IsGiven (head.Bits v) ix = All (λ w. w.parts ≡ []) ix
IsGiven h ix = Unit {0}
