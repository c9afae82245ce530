-- The sort that an expression spells in a problem
-- (SMT-LIB 2.6, section on sorts; theories Core, Ints, ArraysEx and FixedSizeBitVectors).
use Rattle.std.specs.Prelude.{ℕ, Bool as Test, ◌&&◌, nat_le, List, [], ◌∷◌, codes, Option, Some, None, if◌then◌else◌, Ok}
use Rattle.rare_base.specs.declared.answers.Reason.TheVariants as reason
use Rattle.rare_sexpr.specs.declared.tree.Sexpr.{Sexpr}
use Rattle.rare_sexpr.specs.Tree.{Step, go_down, kind_of, text_of}
use Rattle.rare_linear.specs.Linears.{LinearExpression}
use Rattle.rare_sort.specs.SortRules.{less_one}
use Rattle.rare_sort.specs.DeclaredSorts.{follows, sort_nesting, MOST_NESTED_SORTS}
use Rattle.rare_sort.specs.declared.declarations.Declarations.{Declarations}
use Rattle.rare_sort.specs.declared.sort.Sort.{Sort, Bool, Int, BitVec, Named}
use Rattle.rare_sort.specs.declared.sort.Sort.TheViews.{Array}
use Rattle.rare_scope.specs.Reading.{Read, refused, go_on, is_symbol_kind, is_word}
use Rattle.rare_scope.specs.Entries.{entry}
use Rattle.rare_scope.specs.Names.{Names, sort_among}
use Rattle.rare_scope.specs.LinearText.{linear_at, widths_of}

-- the sorts that are words
abbrev pub plain_sorts : List (List ℕ × Sort)
plain_sorts = (codes "Bool", Bool) ∷ (codes "Int", Int) ∷ []

abbrev pub declared_sort : Sexpr → Option ℕ → Read Sort
declared_sort e (Some k) = Ok (Named k)
declared_sort e None = refused e reason.UnknownSymbol

abbrev pub sort_or : Option Sort → Read Sort → Read Sort
sort_or (Some s) other = Ok s
sort_or None other = other

abbrev pub symbol_sort : Names → Sexpr → Read Sort
symbol_sort names e = sort_or (entry plain_sorts (text_of e)) (declared_sort e (sort_among names (text_of e)))

-- bit vectors of a width that is entailed to be at least 1
abbrev pub bit_vectors : Declarations → Sexpr → LinearExpression → Read Sort
bit_vectors d e w = if follows d (less_one w) then Ok (BitVec w) else refused e reason.BadSort

-- a sort within the limit of nesting
abbrev pub shallow : Sexpr → Sort → Read Sort
shallow e s = if nat_le (sort_nesting s) MOST_NESTED_SORTS then Ok s else refused e reason.TermLimit

-- `(_ BitVec E)`, or no sort
abbrev pub indexed_sort : Declarations → Names → Sexpr → Sexpr → Sexpr → Sexpr → Read Sort
indexed_sort d names e h x y =
    if is_word (codes "_") h && is_word (codes "BitVec") x then go_on (linear_at (widths_of names) y) (λ w. bit_vectors d e w) else refused e reason.BadSort

-- `(Array A B)`, or a list of another form
abbrev pub list_sort : Declarations → Names → Sexpr → List (Sexpr × Read Sort) → Read Sort
list_sort d names e (h ∷ x ∷ y ∷ []) =
    if is_word (codes "Array") h.0 then go_on x.1 (λ keys. go_on y.1 (λ entries. shallow e (Array keys entries))) else indexed_sort d names e h.0 x.0 y.0
list_sort d names e items = refused e reason.BadSort

abbrev pub sort_by : Declarations → Names → Sexpr → Test → List (Sexpr × Read Sort) → Read Sort
sort_by d names e is_symbol items = if is_symbol then symbol_sort names e else list_sort d names e items

-- the sort that an expression spells over these names, or its first fault
abbrev pub sort_at : Declarations → Names → Sexpr → Read Sort
sort_at d names = go_down (Read Sort) (λ e items. sort_by d names e (is_symbol_kind (kind_of e)) items)
