-- The term that an expression spells in a rule: terms of SMT-LIB 2.6 (section on terms and formulas) over parameters, where operators
-- with indices are also written `(extract j i x)`. No sort is asked of its parts: that is typing.
use Rattle.std.specs.Prelude.{ℕ, ℤ, pos, ◌*◌, ◌^◌, nat_lt, Bool, ◌||◌, List, [], ◌∷◌, ◌++◌, map, length, take, drop, codes, bytes_eq, Option, Some, None, Ok, if◌then◌else◌}
use Rattle.rare_base.specs.declared.answers.Reason.TheVariants as reason
use Rattle.rare_sexpr.specs.declared.tree.Kind.{Kind}
use Rattle.rare_sexpr.specs.declared.tree.Kind.TheVariants as kind
use Rattle.rare_sexpr.specs.declared.tree.Sexpr.{Sexpr}
use Rattle.rare_sexpr.specs.Tree.{go_down, kind_of, text_of, items_of}
use Rattle.rare_linear.specs.Linears.{LinearExpression, number}
use Rattle.rare_sort.specs.SortRules.{number_in}
use Rattle.rare_sort.specs.Trees.{node, nesting, size}
use Rattle.rare_sort.specs.declared.head.Head.{Head}
use Rattle.rare_sort.specs.declared.head.Head.TheVariants as head
use Rattle.rare_sort.specs.declared.tree.Tree.{Tree}
use Rattle.rare_term.specs.Limits.{MOST_ARGS, MOST_NESTED, MOST_NODES}
use Rattle.rare_term.specs.Literals.{reduced_value}
use Rattle.rare_term.specs.Refusals.{is_below_wide}
use Rattle.rare_scope.specs.LinearText.{linear_at}
use Rattle.rare_scope.specs.Numbers.{small_number, wide_number}
use Rattle.rare_scope.specs.Reading.{Read, refused, go_on, is_word}
use Rattle.rare_operators.specs.declared.head.IndexedHead.{IndexedHead}
use Rattle.rare_operators.specs.declared.words.IndexedWord.{IndexedWord}
use Rattle.rare_operators.specs.declared.words.WordUse.{WordUse}
use Rattle.rare_operators.specs.declared.words.WordUse.TheVariants.{Constant, Difference, Plain}
use Rattle.rare_operators.specs.HeadText.{word_head, indices_at, indexed_head, indexed_word_at}
use Rattle.rare_operators.specs.LiteralText.{digits_behind, numeral_at}
use Rattle.rare_operators.specs.OperatorWords.{operator_of_word}
use Rattle.rare_rule.specs.declared.param.Param.{Param}
use Rattle.rare_parse.specs.RuleNames.{rule_widths, term_named}

-- ---- literals

abbrev pub numeral_term : Sexpr → Option ℕ → Read Tree
numeral_term e (Some n) = Ok (node (head.Numeral n) [] [])
numeral_term e None = refused e reason.LiteralTooWide

abbrev pub bits : ℕ → LinearExpression → Tree
bits v w = node (head.Bits v) (w ∷ []) []

-- the literal of a value that is below 2^128 and below 2^width
abbrev pub bits_literal : Sexpr → Option ℕ → ℕ → Read Tree
bits_literal e (Some v) w = if nat_lt v (2 ^ w) then Ok (bits v (number (pos w))) else refused e reason.LiteralTooWide
bits_literal e None w = refused e reason.LiteralTooWide

-- `(_ bvV W)`
abbrev pub decimal_literal : Sexpr → List Sexpr → Read Tree
decimal_literal e (u ∷ v ∷ w ∷ []) = go_on (digits_behind v) (λ ds. go_on (numeral_at w) (λ n. bits_literal e (wide_number 10 ds) n))
decimal_literal e items = refused e reason.BadForm

-- a value and a width: where both are numbers, and the width is at least 0, the literal of the reduced value
abbrev pub given_literal : Sexpr → (value width : LinearExpression) → Option ℤ → Option ℤ → Read Tree
given_literal e v w (Some m) (Some (pos n)) =
    if is_below_wide (Some m) (Some (pos n)) then refused e reason.LiteralTooWide else Ok (bits (reduced_value m (pos n)) w)
given_literal e v w m n = Ok (node head.Literal (v ∷ w ∷ []) [])

-- `(bv E E)`
abbrev pub linear_literal : List Param → Sexpr → List Sexpr → Read Tree
linear_literal ps e (h ∷ v ∷ w ∷ []) =
    go_on (linear_at (rule_widths ps) v) (λ a. go_on (linear_at (rule_widths ps) w) (λ b. given_literal e a b (number_in a) (number_in b)))
linear_literal ps e items = refused e reason.BadForm

-- ---- atoms

-- `true` and `false`; no other word is a term
abbrev pub word_term : Sexpr → Option WordUse → Read Tree
word_term e (Some (Constant h)) = Ok (node h [] [])
word_term e (Some (Plain h)) = refused e reason.UnknownSymbol
word_term e (Some Difference) = refused e reason.UnknownSymbol
word_term e None = refused e reason.UnknownSymbol

-- a parameter, the hole, or a word
abbrev pub symbol_term : Sexpr → Option ℕ → Read Tree
symbol_term e (Some k) = Ok (node (head.Param k) [] [])
symbol_term e None = if bytes_eq (text_of e) (codes "_") then Ok (node head.Hole [] []) else word_term e (operator_of_word (text_of e))

abbrev pub atom_by : List Param → Sexpr → Kind → Read Tree
atom_by ps e kind.Symbol = symbol_term e (term_named ps (text_of e))
atom_by ps e kind.Numeral = numeral_term e (small_number (text_of e))
atom_by ps e kind.Binary = bits_literal e (wide_number 2 (text_of e)) (length (text_of e))
atom_by ps e kind.Hex = bits_literal e (wide_number 16 (text_of e)) (4 * length (text_of e))
atom_by ps e k = refused e reason.BadForm

-- ---- applications

abbrev pub Items : Type 0
Items = List (Sexpr × Read Tree)

-- whether an application is beyond a limit of terms
abbrev pub is_large : Head → List LinearExpression → List Tree → Bool
is_large h ix ts =
    nat_lt MOST_ARGS (length ts) || (nat_lt MOST_NESTED (nesting (node h ix ts)) || nat_lt MOST_NODES (size (node h ix ts)))

abbrev pub application_at : Sexpr → IndexedHead → List Tree → Read Tree
application_at e o ts = if is_large o.head o.indices ts then refused e reason.TermLimit else Ok (node o.head o.indices ts)

-- the application to what was read so far and to the arguments that are left
abbrev pub arguments_from : Sexpr → IndexedHead → List Tree → Items → Read Tree
arguments_from e o ts [] = application_at e o ts
arguments_from e o ts (x ∷ xs) = go_on x.1 (λ t. arguments_from e o (ts ++ t ∷ []) xs)

abbrev pub with_indices : Head → List LinearExpression → IndexedHead
with_indices h ix = record { head = h; indices = ix }

-- `(extract j i x)`: its indices, then its arguments
abbrev pub indexed_application : List Param → Sexpr → IndexedWord → Items → Read Tree
indexed_application ps e w xs =
    if nat_lt (length xs) w.indices
    then refused e reason.BadForm
    else go_on (indices_at (rule_widths ps) (map (λ x. x.0) (take w.indices xs))) (λ ix. arguments_from e (with_indices w.head ix) [] (drop w.indices xs))

abbrev pub word_application : List Param → Sexpr → Sexpr → Items → Option IndexedWord → Read Tree
word_application ps e h xs (Some w) = indexed_application ps e w xs
word_application ps e h xs None = go_on (word_head e h (length xs) (operator_of_word (text_of h))) (λ o. arguments_from e o [] xs)

-- an operator, which is no parameter, with its indices, then its arguments
abbrev pub application_by : List Param → Sexpr → Sexpr → Items → Kind → Read Tree
application_by ps e h xs kind.Symbol = word_application ps e h xs (indexed_word_at h)
application_by ps e h xs kind.List = go_on (indexed_head (rule_widths ps) h (items_of h)) (λ o. arguments_from e o [] xs)
application_by ps e h xs k = refused h reason.BadForm

-- ---- terms

abbrev pub list_term : List Param → Sexpr → Items → Read Tree
list_term ps e [] = refused e reason.BadForm
list_term ps e (h ∷ xs) =
    if is_word (codes "_") h.0 then decimal_literal e (items_of e)
    else if is_word (codes "bv") h.0 then linear_literal ps e (items_of e)
    else application_by ps e h.0 xs (kind_of h.0)

abbrev pub term_by : List Param → Sexpr → Kind → Items → Read Tree
term_by ps e kind.List items = list_term ps e items
term_by ps e k items = atom_by ps e k

-- the term that an expression spells over these parameters, or its first fault
abbrev pub rule_term_at : List Param → Sexpr → Read Tree
rule_term_at ps = go_down (Read Tree) (λ e items. term_by ps e (kind_of e) items)
