-- The sort that an expression spells in a rule (SMT-LIB 2.6, section on sorts; `(BitVec E)` is this project's own).
use Rattle.std.specs.Prelude.{ℕ, Bool as Test, ◌&&◌, List, [], ◌∷◌, codes, Ok, if◌then◌else◌}
use Rattle.rare_base.specs.declared.answers.Reason.TheVariants as reason
use Rattle.rare_sexpr.specs.declared.tree.Sexpr.{Sexpr}
use Rattle.rare_sexpr.specs.Tree.{go_down, kind_of, text_of}
use Rattle.rare_sort.specs.declared.sort.Sort.{Sort, BitVec}
use Rattle.rare_sort.specs.declared.sort.Sort.TheViews.{Array}
use Rattle.rare_scope.specs.Entries.{entry}
use Rattle.rare_scope.specs.LinearText.{linear_at}
use Rattle.rare_scope.specs.Reading.{Read, refused, go_on, is_symbol_kind, is_word}
use Rattle.rare_scope.specs.Reserved.{is_among}
use Rattle.rare_scope.specs.SortText.{plain_sorts, declared_sort, sort_or, shallow}
use Rattle.rare_rule.specs.declared.param.Param.{Param}
use Rattle.rare_parse.specs.RuleNames.{rule_widths, sort_named}

-- `?` and `?BitVec`, which are the whole sort of a parameter alone
abbrev pub fresh_words : List (List ℕ)
fresh_words = codes "?" ∷ codes "?BitVec" ∷ []

abbrev pub name_sort : List Param → Sexpr → Read Sort
name_sort ps e = if is_among fresh_words (text_of e) then refused e reason.BadSort else declared_sort e (sort_named ps (text_of e))

abbrev pub symbol_sort : List Param → Sexpr → Read Sort
symbol_sort ps e = sort_or (entry plain_sorts (text_of e)) (name_sort ps e)

abbrev pub word_sort : List Param → Sexpr → Read Sort
word_sort ps x = go_on (linear_at (rule_widths ps) x) (λ w. Ok (BitVec w))

abbrev pub indexed_sort : List Param → Sexpr → Sexpr → Sexpr → Sexpr → Read Sort
indexed_sort ps e h x y = if is_word (codes "_") h && is_word (codes "BitVec") x then word_sort ps y else refused e reason.BadSort

-- `(BitVec E)`, `(Array S S)`, `(_ BitVec E)`, or no sort
abbrev pub list_sort : List Param → Sexpr → List (Sexpr × Read Sort) → Read Sort
list_sort ps e (h ∷ x ∷ []) = if is_word (codes "BitVec") h.0 then word_sort ps x.0 else refused e reason.BadSort
list_sort ps e (h ∷ x ∷ y ∷ []) =
    if is_word (codes "Array") h.0
    then go_on x.1 (λ keys. go_on y.1 (λ entries. shallow e (Array keys entries)))
    else indexed_sort ps e h.0 x.0 y.0
list_sort ps e items = refused e reason.BadSort

abbrev pub sort_by : List Param → Sexpr → Test → List (Sexpr × Read Sort) → Read Sort
sort_by ps e is_symbol items = if is_symbol then symbol_sort ps e else list_sort ps e items

-- the sort that an expression spells over these parameters, or its first fault
abbrev pub rule_sort_at : List Param → Sexpr → Read Sort
rule_sort_at ps = go_down (Read Sort) (λ e items. sort_by ps e (is_symbol_kind (kind_of e)) items)
