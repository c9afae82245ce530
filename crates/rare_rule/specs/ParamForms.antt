-- The parameters of a rule in form: which are declared, which are fresh, and which numbers may stand in sorts and in expressions.
use Rattle.std.specs.Prelude.{ℕ, ◌+◌, nat_eq, nat_le, Bool as Test, true, false, not, ◌&&◌, ◌||◌, List, [], ◌∷◌, bytes_eq, if◌then◌else◌, Option, Some, None, codes}
use Rattle.std.specs.List.{list_any}
use Rattle.rare_linear.specs.Linears.{Part, LinearExpression}
use Rattle.rare_linear.specs.declared.constraint.Constraint.{Constraint}
use Rattle.rare_sort.specs.DeclaredSorts.{sort_nesting, MOST_NESTED_SORTS}
use Rattle.rare_sort.specs.Sameness.{linear_eq}
use Rattle.rare_sort.specs.Sorting.{name}
use Rattle.rare_sort.specs.declared.sort.Sort.{Sort, Bool, Int, BitVec, Array', Named, Row_of-Sort, end_of-Sort, more_of-Sort}
use Rattle.rare_rule.specs.Params.{kind_at, is_number_kind, is_sort_kind}
use Rattle.rare_rule.specs.declared.param.Param.{Param}
use Rattle.rare_rule.specs.declared.param.ParamKind.{ParamKind}
use Rattle.rare_rule.specs.declared.param.ParamKind.TheVariants as kind

-- ---- numbers

-- each name is a parameter that stands for a whole number
abbrev pub are_numbers : List Param → List Part → Test
are_numbers ps [] = true
are_numbers ps (n ∷ ns) = is_number_kind (kind_at ps n.0) && are_numbers ps ns

abbrev pub all_are_numbers : List Param → List LinearExpression → Test
all_are_numbers ps [] = true
all_are_numbers ps (e ∷ es) = are_numbers ps e.parts && all_are_numbers ps es

abbrev pub are_bounds : List Param → List Constraint → Test
are_bounds ps [] = true
are_bounds ps (c ∷ cs) = are_numbers ps c.floor.parts && are_bounds ps cs

-- the names of its widths stand for whole numbers, and its sort names for sorts
abbrev mutual
  pub is_sort_over : List Param → Sort → Test
  is_sort_over ps Bool = true
  is_sort_over ps Int = true
  is_sort_over ps (BitVec w) = are_numbers ps w.parts
  is_sort_over ps (Array' p keys q entries) = is_boxed_over ps keys && is_boxed_over ps entries
  is_sort_over ps (Named k) = is_sort_kind (kind_at ps k)

  pub is_boxed_over : List Param → {n : _} → Row_of-Sort n → Test
  is_boxed_over ps end_of-Sort = true
  is_boxed_over ps (more_of-Sort s rest) = is_sort_over ps s

-- ---- each parameter by itself

abbrev pub has_sort_over : List Param → ParamKind → Test
has_sort_over ps (kind.Term s) = is_sort_over ps s
has_sort_over ps (kind.List s) = is_sort_over ps s
has_sort_over ps _ = true

abbrev pub is_shallow : Sort → Test
is_shallow s = nat_le (sort_nesting s) MOST_NESTED_SORTS

abbrev pub has_shallow_sort : ParamKind → Test
has_shallow_sort (kind.Term s) = is_shallow s
has_shallow_sort (kind.List s) = is_shallow s
has_shallow_sort _ = true

abbrev pub may_be_constant : ParamKind → Test
may_be_constant (kind.Term s) = true
may_be_constant _ = false

-- a declared parameter with the attribute `:const` is one of terms, and a fresh one has no attribute
abbrev pub is_param_form : Param → Test
is_param_form p = not p.constant || (not p.fresh && may_be_constant p.kind)

abbrev pub all_params : (Param → Test) → List Param → Test
all_params test [] = true
all_params test (p ∷ ps) = test p && all_params test ps

-- ---- names

-- words that no parameter may have as its name
abbrev pub NO_NAMES : List (List ℕ)
NO_NAMES = codes "true" ∷ codes "false" ∷ codes "_" ∷ []

abbrev pub declared_names : List Param → List (List ℕ)
declared_names [] = []
declared_names (p ∷ ps) = if p.fresh then (declared_names ps) else (p.name ∷ declared_names ps)

abbrev pub all_differ_from : List (List ℕ) → List (List ℕ) → Test
all_differ_from others [] = true
all_differ_from others (n ∷ ns) = not (list_any (bytes_eq n) others) && all_differ_from (n ∷ others) ns

-- ---- what is fresh

-- the fresh parameters stand behind the declared ones
abbrev pub are_last : List Param → Test
are_last [] = true
are_last (p ∷ ps) = if p.fresh then (all_params (λ q. q.fresh) ps) else (are_last ps)

-- the sort is that of a fresh parameter alone: a sort name, or bit vectors of a width
abbrev pub is_sort_of : ParamKind → ℕ → Sort → Test
is_sort_of kind.SortName k (Named n) = nat_eq n k
is_sort_of kind.Width k (BitVec w) = linear_eq w (name k)
is_sort_of d k s = false

abbrev pub brings : ParamKind → ParamKind → ℕ → Test
brings (kind.Term s) d k = is_sort_of d k s
brings (kind.List s) kind.SortName k = is_sort_of kind.SortName k s
brings b d k = false

-- the declared parameter of this name, from this number on, brings the fresh parameter k; then its number
abbrev pub bringer : (number : ℕ) → Param → (k : ℕ) → List Param → Option ℕ
bringer n fresh k [] = None
bringer n fresh k (p ∷ ps) =
    if not p.fresh && (bytes_eq fresh.name p.name && brings p.kind fresh.kind k) then (Some n) else (bringer (n + 1) fresh k ps)

abbrev pub is_behind : Option ℕ → ℕ → Test
is_behind (Some n) least = nat_le least n
is_behind None least = false

abbrev pub next_after : Option ℕ → ℕ → ℕ
next_after (Some n) least = n + 1
next_after None least = least

-- each fresh parameter, of these that begin at number k, was brought by a declared one, and they stand in the order of these
abbrev pub are_brought : List Param → (least k : ℕ) → List Param → Test
are_brought all least k [] = true
are_brought all least k (p ∷ ps) =
    if p.fresh
    then (is_behind (bringer 0 p k all) least && are_brought all (next_after (bringer 0 p k all) least) (k + 1) ps)
    else (are_brought all least (k + 1) ps)
