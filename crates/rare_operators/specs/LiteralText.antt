-- Numerals and the literals of bit vectors (SMT-LIB 2.6, theories Ints and FixedSizeBitVectors; `(bv E E)` is this project's own).
-- A literal's width is tested before its value.
use Rattle.std.specs.Prelude.{ℕ, pos, ◌*◌, ◌^◌, nat_eq, nat_lt, Bool, false, ◌&&◌, List, [], ◌∷◌, take, drop, length, codes, bytes_eq, Option, Some, None, Ok, if◌then◌else◌}
use Rattle.std.specs.List.{list_all}
use Rattle.rare_base.specs.declared.answers.Reason.{Reason}
use Rattle.rare_base.specs.declared.answers.Reason.TheVariants as reason
use Rattle.rare_sexpr.specs.Bytes.{is_digit}
use Rattle.rare_sexpr.specs.Tree.{kind_of, text_of}
use Rattle.rare_sexpr.specs.declared.tree.Sexpr.{Sexpr}
use Rattle.rare_linear.specs.Linears.{LinearExpression, number}
use Rattle.rare_sort.specs.declared.declarations.Declarations.{Declarations}
use Rattle.rare_sort.specs.declared.head.Head.{Head}
use Rattle.rare_sort.specs.declared.head.Head.TheVariants as head
use Rattle.rare_sort.specs.declared.tree.Tree.{Tree}
use Rattle.rare_term.specs.declared.terms.TermError.{TermError}
use Rattle.rare_term.specs.declared.terms.TermError.TheVariants.{TooManyArgs, IllSorted, TooDeep, TooLarge, Memory}
use Rattle.rare_term.specs.Literals.{application}
use Rattle.rare_term.specs.Refusals.{refusal}
use Rattle.rare_scope.specs.LinearText.{linear_at, WidthNames}
use Rattle.rare_scope.specs.Numbers.{small_number, wide_number}
use Rattle.rare_scope.specs.Reading.{Read, refused, go_on, is_numeral_kind, is_symbol_kind}
use Rattle.rare_operators.specs.Applications.{application_at}

-- ---- whole numbers

abbrev pub numeral_term : Declarations → Sexpr → Option ℕ → Read Tree
numeral_term d e (Some n) = application_at d e (head.Numeral n) [] []
numeral_term d e None = refused e reason.LiteralTooWide

-- ---- bit vectors

-- why a literal is refused: its width is not entailed to be at least 1, or its value is too wide
abbrev pub literal_reason : TermError → Reason
literal_reason IllSorted = reason.IllSorted
literal_reason TooLarge = reason.LiteralTooWide
literal_reason TooManyArgs = reason.TermLimit
literal_reason TooDeep = reason.TermLimit
literal_reason Memory = reason.TermLimit

abbrev pub literal_unless : Sexpr → Option TermError → Tree → Read Tree
literal_unless e None t = Ok t
literal_unless e (Some why) t = refused e (literal_reason why)

abbrev pub literal_at : Declarations → Sexpr → Head → List LinearExpression → Read Tree
literal_at d e h ix = literal_unless e (refusal d h ix []) (application h ix [])

-- the literal of this value, where it is below 2^width
abbrev pub bits_of_value : Declarations → Sexpr → Option ℕ → ℕ → Read Tree
bits_of_value d e (Some v) w = if nat_lt v (2 ^ w) then literal_at d e (head.Bits v) (number (pos w) ∷ []) else refused e reason.LiteralTooWide
bits_of_value d e None w = refused e reason.LiteralTooWide

-- the literal of a value, where it is below 2^128, and a width
abbrev pub bits_literal : Declarations → Sexpr → Option ℕ → ℕ → Read Tree
bits_literal d e value w = if nat_eq w 0 then refused e reason.IllSorted else bits_of_value d e value w

-- `#b` with its digits
abbrev pub binary_literal : Declarations → Sexpr → Read Tree
binary_literal d e = bits_literal d e (wide_number 2 (text_of e)) (length (text_of e))

-- `#x` with its digits, each of four bits
abbrev pub hexadecimal_literal : Declarations → Sexpr → Read Tree
hexadecimal_literal d e = bits_literal d e (wide_number 16 (text_of e)) (4 * length (text_of e))

abbrev pub are_digits : List ℕ → Bool
are_digits [] = false
are_digits (b ∷ bs) = list_all is_digit (b ∷ bs)

-- the digits behind `bv`
abbrev pub digits_behind : Sexpr → Read (List ℕ)
digits_behind v =
    if is_symbol_kind (kind_of v) && (bytes_eq (take 2 (text_of v)) (codes "bv") && are_digits (drop 2 (text_of v)))
    then Ok (drop 2 (text_of v)) else refused v reason.BadForm

abbrev pub width_numeral : Sexpr → Option ℕ → Read ℕ
width_numeral w (Some n) = Ok n
width_numeral w None = refused w reason.TermLimit

abbrev pub numeral_at : Sexpr → Read ℕ
numeral_at w = if is_numeral_kind (kind_of w) then width_numeral w (small_number (text_of w)) else refused w reason.BadForm

-- `(_ bvV W)`
abbrev pub decimal_literal : Declarations → Sexpr → List Sexpr → Read Tree
decimal_literal d e (u ∷ v ∷ w ∷ []) = go_on (digits_behind v) (λ ds. go_on (numeral_at w) (λ n. bits_literal d e (wide_number 10 ds) n))
decimal_literal d e items = refused e reason.BadForm

-- `(bv E E)`, a value modulo 2^width, and the width
abbrev pub linear_literal : Declarations → WidthNames → Sexpr → List Sexpr → Read Tree
linear_literal d names e (h ∷ v ∷ w ∷ []) = go_on (linear_at names v) (λ a. go_on (linear_at names w) (λ b. literal_at d e head.Literal (a ∷ b ∷ [])))
linear_literal d names e items = refused e reason.BadForm
