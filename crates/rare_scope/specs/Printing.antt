-- How linear expressions and sorts are written (SMT-LIB 2.6, section on sorts, for the sorts).
use Rattle.std.specs.Prelude.{ℕ, ◌+◌, ℤ, pos, negsuc, Bool as Test, true, ◌&&◌, nat_lt, length, List, [], ◌∷◌, ◌++◌, map, flat_map, codes, nat_eq, slice_index_or, if◌then◌else◌}
use Rattle.std.specs.Fmt.{decimal}
use Rattle.std.specs.Ordering.{int_eq}
use Rattle.rare_linear.specs.Linears.{Part, LinearExpression}
use Rattle.rare_sexpr.specs.Written.{written_symbol}
use Rattle.rare_sort.specs.SortRules.{no_names}
use Rattle.rare_sort.specs.DeclaredSorts.{names_below}
use Rattle.rare_sort.specs.declared.sort.Sort.{Sort}
use Rattle.rare_sort.specs.declared.sort.Sort.TheOpen.{Sort-F}
use Rattle.rare_sort.specs.declared.sort.Sort.TheOpen as shape
use Rattle.rare_sort.specs.declared.sort.Sort.TheFolds.{fold-Sort}
use Rattle.rare_scope.specs.Names.{Held, sort_names, width_names}
use Rattle.rare_scope.specs.Numbers.{LARGEST_SMALL}

-- one text behind the other
abbrev pub joined_texts : List (List ℕ) → List ℕ
joined_texts ts = flat_map (λ t. t) ts

abbrev pub negation_text : ℕ → List ℕ
negation_text k = joined_texts (codes "(- " ∷ decimal k ∷ codes ")" ∷ [])

-- a negative number is `(- k)`; of -2^127 the k is no numeral
abbrev pub number_text : ℤ → List ℕ
number_text (pos n) = decimal n
number_text (negsuc n) =
    if nat_eq n LARGEST_SMALL then codes "(- (- 170141183460469231731687303715884105727) 1)" else negation_text (n + 1)

-- the name at a place of a list, as a symbol; past its end it says nothing
abbrev pub name_text : List (List ℕ) → ℕ → List ℕ
name_text names k = written_symbol (slice_index_or names k [])

-- a name, with its coefficient where it is not 1, by how names are written
abbrev pub part_text_by : (ℕ → List ℕ) → Part → List ℕ
part_text_by text p =
    if int_eq p.1 (pos 1) then text p.0 else joined_texts (codes "(* " ∷ number_text p.1 ∷ codes " " ∷ text p.0 ∷ codes ")" ∷ [])

abbrev pub part_text : List (List ℕ) → Part → List ℕ
part_text names p = part_text_by (name_text names) p

-- one text alone, or the sum of more
abbrev pub sum_text : List (List ℕ) → List ℕ
sum_text (t ∷ []) = t
sum_text ts = codes "(+" ++ (flat_map (λ t. codes " " ++ t) ts ++ codes ")")

-- the constant, where it is not 0 or there are no parts
abbrev pub constant_texts : LinearExpression → List (List ℕ)
constant_texts e = if int_eq e.constant (pos 0) then (if no_names e.parts then number_text e.constant ∷ [] else []) else number_text e.constant ∷ []

-- the parts in the order of their names, then the constant, by how names are written
abbrev pub linear_text_by : (ℕ → List ℕ) → LinearExpression → List ℕ
linear_text_by text e = sum_text (map (part_text_by text) e.parts ++ constant_texts e)

abbrev pub linear_text : List (List ℕ) → LinearExpression → List ℕ
linear_text names e = linear_text_by (name_text names) e

abbrev pub bit_vectors_text : Held → LinearExpression → List ℕ
bit_vectors_text held w = joined_texts (codes "(_ BitVec " ∷ linear_text (width_names held) w ∷ codes ")" ∷ [])

abbrev pub arrays_text : List ℕ → List ℕ → List ℕ
arrays_text keys entries = joined_texts (codes "(Array " ∷ keys ∷ codes " " ∷ entries ∷ codes ")" ∷ [])

abbrev pub sort_text_step : Held → Sort-F (List ℕ) → List ℕ
sort_text_step held shape.Bool = codes "Bool"
sort_text_step held shape.Int = codes "Int"
sort_text_step held (shape.BitVec w) = bit_vectors_text held w
sort_text_step held (shape.Array a b) = arrays_text a b
sort_text_step held (shape.Named k) = name_text (sort_names held) k

-- a sort over the names of a scope
abbrev pub sort_text : Held → Sort → List ℕ
sort_text held = fold-Sort (List ℕ) (sort_text_step held)

-- whether its sorts and widths have names
abbrev pub is_named_step : ℕ → ℕ → Sort-F Test → Test
is_named_step sorts widths (shape.BitVec w) = names_below widths w.parts
is_named_step sorts widths (shape.Array a b) = a && b
is_named_step sorts widths (shape.Named k) = nat_lt k sorts
is_named_step sorts widths s = true

abbrev pub is_named : Held → Sort → Test
is_named held = fold-Sort Test (is_named_step (length (sort_names held)) (length (width_names held)))
