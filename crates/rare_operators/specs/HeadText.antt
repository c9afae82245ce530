-- The operator that stands at the head of a list (SMT-LIB 2.6, section on terms and formulas).
use Rattle.std.specs.Prelude.{ℕ, nat_eq, Bool, List, [], ◌∷◌, length, codes, slice_get, Option, Some, None, false, Ok, if◌then◌else◌}
use Rattle.rare_base.specs.declared.answers.Reason.TheVariants as reason
use Rattle.rare_sexpr.specs.declared.tree.Kind.{Kind}
use Rattle.rare_sexpr.specs.declared.tree.Kind.TheVariants as kind
use Rattle.rare_sexpr.specs.declared.tree.Sexpr.{Sexpr}
use Rattle.rare_sexpr.specs.Tree.{kind_of, text_of, items_of}
use Rattle.rare_linear.specs.Linears.{LinearExpression}
use Rattle.rare_sort.specs.declared.declarations.Declarations.{Declarations}
use Rattle.rare_sort.specs.declared.head.Head.{Head}
use Rattle.rare_sort.specs.declared.head.Head.TheVariants as head
use Rattle.rare_sort.specs.declared.sort.Signature.{Signature}
use Rattle.rare_scope.specs.Entries.{entry}
use Rattle.rare_scope.specs.LinearText.{WidthNames, linear_at, widths_of}
use Rattle.rare_scope.specs.Names.{Names, Meant, a_sort, a_width, a_symbol, a_term, found}
use Rattle.rare_scope.specs.Reading.{Read, refused, go_on, is_word, is_symbol_kind}
use Rattle.rare_operators.specs.declared.head.IndexedHead.{IndexedHead}
use Rattle.rare_operators.specs.declared.words.WordUse.{WordUse}
use Rattle.rare_operators.specs.declared.words.WordUse.TheVariants.{Constant, Difference, Plain}
use Rattle.rare_operators.specs.declared.words.IndexedWord.{IndexedWord}
use Rattle.rare_operators.specs.OperatorWords.{operator_of_word, indexed_words}

abbrev pub bare : Head → IndexedHead
bare h = record { head = h; indices = [] }

-- ---- symbols

-- what takes no arguments, alone in its list, is no term
abbrev pub unless_alone : Sexpr → ℕ → Head → Read IndexedHead
unless_alone e n h = if nat_eq n 0 then refused e reason.BadForm else Ok (bare h)

abbrev pub word_head : Sexpr → Sexpr → ℕ → Option WordUse → Read IndexedHead
word_head e h n None = refused h reason.UnknownSymbol
word_head e h n (Some (Constant o)) = unless_alone e n o
word_head e h n (Some Difference) = if nat_eq n 1 then Ok (bare head.Neg) else Ok (bare head.Minus)
word_head e h n (Some (Plain o)) = Ok (bare o)

-- whether a symbol takes no arguments
abbrev pub has_no_arguments : Option Signature → Bool
has_no_arguments (Some g) = nat_eq (length g.args) 0
has_no_arguments None = false

abbrev pub symbol_head : Declarations → Sexpr → ℕ → ℕ → Read IndexedHead
symbol_head d e n k = if has_no_arguments (slice_get d.symbols k) then unless_alone e n (head.Free k) else Ok (bare (head.Free k))

-- a name: a term is no operator, and alone in its list it is no term either
abbrev pub named_head : Declarations → Sexpr → Sexpr → ℕ → Option Meant → Read IndexedHead
named_head d e h n (Some (a_term t)) = if nat_eq n 0 then refused e reason.BadForm else refused h reason.UnknownSymbol
named_head d e h n (Some (a_symbol k)) = symbol_head d e n k
named_head d e h n (Some (a_sort k)) = refused h reason.UnknownSymbol
named_head d e h n (Some (a_width k)) = refused h reason.UnknownSymbol
named_head d e h n None = word_head e h n (operator_of_word (text_of h))

-- ---- `(_ extract j i)` and the others with indices

-- the linear expressions of all, in order
abbrev pub indices_at : WidthNames → List Sexpr → Read (List LinearExpression)
indices_at names [] = Ok []
indices_at names (x ∷ xs) = go_on (linear_at names x) (λ l. go_on (indices_at names xs) (λ ls. Ok (l ∷ ls)))

abbrev pub indexed_by : WidthNames → Sexpr → Sexpr → List Sexpr → Option IndexedWord → Read IndexedHead
indexed_by names h word xs None = refused word reason.BadForm
indexed_by names h word xs (Some o) =
    if nat_eq (length xs) o.indices then go_on (indices_at names xs) (λ ls. Ok (record { head = o.head; indices = ls })) else refused h reason.BadForm

-- a word that is used with indices
abbrev pub indexed_word_at : Sexpr → Option IndexedWord
indexed_word_at word = if is_symbol_kind (kind_of word) then entry indexed_words (text_of word) else None

-- three or four items, of which the first is `_`
abbrev pub indexed_items : WidthNames → Sexpr → List Sexpr → Read IndexedHead
indexed_items names h (u ∷ word ∷ x ∷ []) = indexed_by names h word (x ∷ []) (indexed_word_at word)
indexed_items names h (u ∷ word ∷ x ∷ y ∷ []) = indexed_by names h word (x ∷ y ∷ []) (indexed_word_at word)
indexed_items names h items = refused h reason.BadForm

abbrev pub indexed_head : WidthNames → Sexpr → List Sexpr → Read IndexedHead
indexed_head names h [] = refused h reason.BadForm
indexed_head names h (u ∷ items) = if is_word (codes "_") u then indexed_items names h (u ∷ items) else refused h reason.BadForm

-- ---- heads

abbrev pub head_by : Declarations → Names → Sexpr → Sexpr → ℕ → Kind → Read IndexedHead
head_by d names e h n kind.Symbol = named_head d e h n (found names (text_of h))
head_by d names e h n kind.List = indexed_head (widths_of names) h (items_of h)
head_by d names e h n k = refused h reason.BadForm

-- the operator that `h` spells at the head of the list `e`, which has `n` arguments, with its indices; or the first fault
abbrev pub head_at : Declarations → Names → Sexpr → Sexpr → ℕ → Read IndexedHead
head_at d names e h n = head_by d names e h n (kind_of h)
