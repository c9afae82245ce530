-- The parts of typing a node, as the code finds them.
use Rattle.std.specs.Prelude.{◌≡◌, ℕ, ℤ, pos, ◌-ℤ◌, ◌<ℤ◌, ◌≤ℤ◌, Bool as Test, true, false, not, ◌||◌, ◌++◌, List, [], ◌∷◌, map, Option, Some, None, Ok, Err}
use Rattle.std.specs.List.{list_any}
use Rattle.std.specs.Option.{option_map, option_and_then}
use Rattle.rare_linear.specs.Linears.{LinearExpression, add}
use Rattle.rare_linear.specs.EntailmentTest.{is_within, is_entailed}
use Rattle.rare_linear.specs.Entailment.{minus}
use Rattle.rare_linear.specs.declared.constraint.Constraint.{Constraint}
use Rattle.rare_sort.specs.Sameness.{linear_eq}
use Rattle.rare_sort.specs.Families.{family}
use Rattle.rare_sort.specs.Rulings.{all_one, all_within, formed_widths}
use Rattle.rare_sort.specs.SortRules.{SortRule, sort_rule, width, less_one, product, slice_needs}
use Rattle.rare_sort.specs.Sorting.{Place, One, Sorting, all_of, place_sort, least_count}
use Rattle.rare_sort.specs.declared.family.Family.{Family}
use Rattle.rare_sort.specs.declared.family.Family.TheVariants as kind
use Rattle.rare_sort.specs.declared.head.Head.{Head}
use Rattle.rare_sort.specs.declared.head.Head.TheVariants as head
use Rattle.rare_sort.specs.declared.sort.Sort.{Sort, BitVec}
use Rattle.rare_sort.specs.inner.Within.{only_width}
use Rattle.rare_sort.specs.declared.tree.Tree.{Tree}
use Rattle.rare_rule.specs.Params.{kind_at}
use Rattle.rare_rule.specs.RuleSorting.{sorting_of, kind_sorting}
use Rattle.rare_rule.specs.declared.param.Param.{Param}
use Rattle.rare_type.specs.FirstCase.{Typing, and_then, unless, floors, occurrence, typed_tree, some_never_holds, differs_from, is_named_product}
use Rattle.rare_type.specs.declared.error.TypeError.TheVariants as case

-- what is there, or a clash
abbrev pub or_clash : {A : Type 0} → Option A → Typing A
or_clash None = Err case.Clash
or_clash (Some x) = Ok x

-- ---- expressions within i128

abbrev pub bounded : LinearExpression → Typing LinearExpression
bounded e = unless case.TooLarge (not (is_within e)) (Ok e)

abbrev pub all_bounded : List LinearExpression → Typing (List LinearExpression)
all_bounded es = unless case.TooLarge (not (all_within es)) (Ok es)

-- ---- the sort of an application

abbrev pub sort_where : Test → Sort → Typing Sort
sort_where true s = Ok s
sort_where false s = Err case.Clash

abbrev pub ruled_sort : Family → List Sort → Option SortRule → Typing Sort
ruled_sort f ss None = Err case.Clash
ruled_sort f ss (Some r) =
    unless case.Clash (not (all_one r.alike)) (unless case.TooLarge (not (all_within (formed_widths f ss r.sort))) (Ok r.sort))

abbrev pub family_sort : ℕ → Family → List LinearExpression → List Sort → Typing Sort
family_sort least f ix ss = ruled_sort f ss (sort_rule (λ k. None) least f ix ss)

-- the widths added to the sum, from the left
abbrev pub sum_typed : LinearExpression → Option LinearExpression → Typing LinearExpression
sum_typed sum (Some m) = bounded (add sum m)
sum_typed sum None = Err case.Clash

abbrev pub summed_from : LinearExpression → List Sort → Typing LinearExpression
summed_from sum [] = Ok sum
summed_from sum (s ∷ ss) = and_then (sum_typed sum (width s)) (λ next. summed_from next ss)

-- bit vectors of a width
abbrev pub word_typed : Typing LinearExpression → Typing Sort
word_typed t = and_then t (λ w. Ok (BitVec w))

abbrev pub bounded_product : LinearExpression → LinearExpression → Typing LinearExpression
bounded_product k m = and_then (or_clash (product k m)) bounded

-- ---- what an application asks for

abbrev pub slice_asks : List LinearExpression → Option LinearExpression → List LinearExpression
slice_asks (j ∷ i ∷ []) (Some m) = slice_needs j i m
slice_asks ix o = []

abbrev pub index_asks : List LinearExpression → List LinearExpression
index_asks (k ∷ []) = k ∷ []
index_asks ix = []

abbrev pub one_index_asks : List LinearExpression → List LinearExpression
one_index_asks (k ∷ []) = less_one k ∷ []
one_index_asks ix = []

abbrev pub literal_asks : List LinearExpression → List LinearExpression
literal_asks (v ∷ w ∷ []) = less_one w ∷ []
literal_asks ix = []

abbrev pub family_needs : Family → List LinearExpression → List Sort → List LinearExpression
family_needs kind.Extract ix ss = slice_asks ix (only_width ss)
family_needs kind.Extend ix ss = index_asks ix
family_needs kind.Rotate ix ss = index_asks ix
family_needs kind.Repeat ix ss = one_index_asks ix
family_needs kind.Bits ix ss = one_index_asks ix
family_needs kind.Literal ix ss = literal_asks ix
family_needs f ix ss = []

-- ---- an application, by the places of its arguments and what these ask for

abbrev pub asked : Place → (before own : List LinearExpression) → Typing Sorting
asked p before own = unless case.NeverHolds (some_never_holds own) (Ok (sorting_of p (before ++ own)))

abbrev pub sort_applied : Option Sort → Family → List LinearExpression → List Sort → (before : List LinearExpression) → Sort → Typing Sorting
sort_applied root f ix ss before s =
    unless case.Clash (differs_from root s) (and_then (all_bounded (family_needs f ix ss)) (λ own. asked (One s) before own))

abbrev pub sorts_applied : Option Sort → ℕ → Family → List LinearExpression → (before : List LinearExpression) → List Sort → Typing Sorting
sorts_applied root least f ix before ss = and_then (family_sort least f ix ss) (λ s. sort_applied root f ix ss before s)

abbrev pub head_applied : Option Sort → Head → List LinearExpression → List Place → (before : List LinearExpression) → Typing Sorting
head_applied root h ix ps before =
    unless case.NonLinear (is_named_product h ix ps) (
    and_then (or_clash (all_of (map (place_sort h) ps))) (λ ss. sorts_applied root (least_count ps) (family h) ix before ss))

-- ---- the arguments, from the left: their places, and what they ask for

abbrev pub args_from : List Place → List LinearExpression → List (Typing Sorting) → Typing (List Place × List LinearExpression)
args_from ps ns [] = Ok (ps, ns)
args_from ps ns (t ∷ ts) = and_then t (λ x. args_from (ps ++ x.place ∷ []) (ns ++ x.needs) ts)

-- what the arguments are typed as
abbrev pub args_typed : List Param → (hole : Option Sort) → List Tree → Typing (List Place × List LinearExpression)
args_typed ps hole ts = args_from [] [] (map (λ t. typed_tree ps hole t None) ts)

-- what a parameter and the hole stand for
abbrev pub param_sorting : List Param → ℕ → Option Sorting
param_sorting ps k = option_and_then (kind_sorting k) (kind_at ps k)

abbrev pub hole_sorting : Option Sort → Option Sorting
hole_sorting hole = option_map (λ s. sorting_of (One s) []) hole

-- a node, by the places of its arguments and what these ask for
abbrev pub node_by : List Param → (hole root : Option Sort) → Head → List LinearExpression → List Place → List LinearExpression → Typing Sorting
node_by ps hole root (head.Param k) ix places before = occurrence root (param_sorting ps k)
node_by ps hole root head.Hole ix places before = occurrence root (hole_sorting hole)
node_by ps hole root h ix places before = head_applied root h ix places before

-- how far a number is below 0
abbrev pub Falls : ℤ → ℕ → Type 0
Falls n d = (n <ℤ pos 0 → pos d ≡ pos 0 -ℤ n) × (pos 0 ≤ℤ n → d ≡ 0)

-- ---- a rule

-- what the right side asks for, in a rule of this sort
abbrev pub right_typed : List Param → Sort → Tree → Typing (List LinearExpression)
right_typed ps s t = and_then (typed_tree ps None t (Some s)) (λ x. Ok x.needs)

-- it follows by itself, or is among those kept
abbrev pub is_known : (ℕ → ℤ) → List Constraint → LinearExpression → Test
is_known lows kept e = is_entailed lows [] e || list_any (linear_eq e) (floors kept)

-- a difference, and then with a shift
abbrev pub bounded_shift : (a b shift : LinearExpression) → Typing LinearExpression
bounded_shift a b shift = and_then (bounded (minus a b)) (λ d. bounded (add d shift))
