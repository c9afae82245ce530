-- The parts of commands: names that may be declared, lists of sorts, samples.
use Rattle.std.specs.Prelude.{ℕ, ◌^◌, nat_eq, nat_le, Bool, ◌&&◌, ◌||◌, List, [], ◌∷◌, ◌++◌, length, map, Option, Some, None, Ok, if◌then◌else◌}
use Rattle.std.specs.List.{list_all}
use Rattle.rare_base.specs.declared.answers.Reason.TheVariants as reason
use Rattle.rare_sexpr.specs.declared.tree.Sexpr.{Sexpr}
use Rattle.rare_sexpr.specs.Tree.{items_of, kind_of, text_of}
use Rattle.rare_sort.specs.declared.declarations.Declarations.{Declarations}
use Rattle.rare_sort.specs.declared.sort.Sort.{Sort}
use Rattle.rare_scope.specs.Names.{Names}
use Rattle.rare_scope.specs.Numbers.{small_number}
use Rattle.rare_scope.specs.Reading.{Read, refused, go_on, is_list_kind, is_numeral_kind, symbol_at}
use Rattle.rare_scope.specs.Reserved.{is_among, is_reserved, is_theory_word}
use Rattle.rare_scope.specs.SortText.{sort_at}

-- whether a name is declared or defined, or a word of the theories
abbrev pub is_taken : Names → List ℕ → Bool
is_taken names name = is_theory_word name || is_among (map (λ n. n.0) names) name

-- a name that may be declared
abbrev pub free_name : Names → Sexpr → List ℕ → Read (List ℕ)
free_name names e name =
    if is_taken names name then refused e reason.DeclaredTwice
    else if is_reserved name then refused e reason.ReservedSymbol
    else Ok name

abbrev pub new_name : Names → Sexpr → Read (List ℕ)
new_name names e = go_on (symbol_at e) (λ name. free_name names e name)

abbrev pub is_zero_numeral : Sexpr → Bool
is_zero_numeral e = is_numeral_kind (kind_of e) && list_all (nat_eq 48) (text_of e)

abbrev pub sorts_from : Declarations → Names → List Sort → List Sexpr → Read (List Sort)
sorts_from d names ss [] = Ok ss
sorts_from d names ss (x ∷ xs) = go_on (sort_at d names x) (λ s. sorts_from d names (ss ++ s ∷ []) xs)

-- a list of sorts
abbrev pub sorts_at : Declarations → Names → Sexpr → Read (List Sort)
sorts_at d names e = if is_list_kind (kind_of e) then sorts_from d names [] (items_of e) else refused e reason.BadForm

-- the largest sample of a width
abbrev pub LARGEST_SAMPLE : ℕ
LARGEST_SAMPLE = 2 ^ 32

abbrev pub sample_of : Sexpr → Option ℕ → Read ℕ
sample_of e (Some n) = if nat_le 1 n && nat_le n LARGEST_SAMPLE then Ok n else refused e reason.BadForm
sample_of e None = refused e reason.BadForm

abbrev pub sample_at : Sexpr → Read ℕ
sample_at e = if is_numeral_kind (kind_of e) then sample_of e (small_number (text_of e)) else refused e reason.BadForm

abbrev pub is_empty_list : Sexpr → Bool
is_empty_list e = is_list_kind (kind_of e) && nat_eq (length (items_of e)) 0
