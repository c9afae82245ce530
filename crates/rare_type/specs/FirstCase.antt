-- How a rule is typed, or the first case in which it is not (well-sorted terms of SMT-LIB 2.6, with the widths of a rule as linear
-- expressions). Nodes come in the order of constraints: bounds, left, premises, right, context, and arguments before their application.
use Rattle.std.specs.Prelude.{pos, int_le, Bool as Test, true, false, not, ◌&&◌, ◌||◌, List, [], ◌∷◌, ◌++◌, map, flat_map, Option, Some, None, Result, Ok, Err}
use Rattle.std.specs.Option.{option_map, option_and_then}
use Rattle.rare_linear.specs.Linears.{LinearExpression}
use Rattle.rare_linear.specs.declared.constraint.Constraint.{Constraint}
use Rattle.rare_sort.specs.Families.{family}
use Rattle.rare_sort.specs.Rulings.{all_one, all_within, formed_widths}
use Rattle.rare_sort.specs.Sameness.{sort_eq}
use Rattle.rare_sort.specs.SortRules.{SortRule, is_number, width}
use Rattle.rare_sort.specs.Sorting.{Place, One, Sorting, all_of, place_sort, place_rule, places}
use Rattle.rare_sort.specs.declared.head.Head.{Head}
use Rattle.rare_sort.specs.declared.head.Head.TheVariants as head
use Rattle.rare_sort.specs.declared.sort.Sort.{Sort, Bool}
use Rattle.rare_sort.specs.declared.tree.Tree.{Tree, Tree-F, fold-Tree}
use Rattle.rare_rule.specs.Params.{kind_at, rule_lows}
use Rattle.rare_rule.specs.RuleSorting.{sorting_of, kind_sorting, constraints_after}
use Rattle.rare_rule.specs.declared.param.Param.{Param}
use Rattle.rare_rule.specs.declared.rule.Rule.{Rule}
use Rattle.rare_type.specs.declared.error.TypeError.{TypeError}
use Rattle.rare_type.specs.declared.error.TypeError.TheVariants as case

-- what is typed, or the case in which it is not
abbrev pub Typing : Type 0 → Type 0
Typing A = Result A TypeError

-- in order: the first case is the answer
abbrev pub and_then : {A B : Type 0} → Typing A → (A → Typing B) → Typing B
and_then (Ok x) f = f x
and_then (Err c) f = Err c

abbrev pub unless : {A : Type 0} → TypeError → Test → Typing A → Typing A
unless c true next = Err c
unless c false next = next

-- each, or the first case among them
abbrev pub each_typed : {A : Type 0} → List (Typing A) → Typing (List A)
each_typed [] = Ok []
each_typed (x ∷ xs) = and_then x (λ y. and_then (each_typed xs) (λ ys. Ok (y ∷ ys)))

-- ---- one node

-- a constraint without names that is false
abbrev pub never_holds : LinearExpression → Test
never_holds e = is_number e && not (int_le (pos 0) e.constant)

abbrev pub some_never_holds : List LinearExpression → Test
some_never_holds [] = false
some_never_holds (e ∷ es) = never_holds e || some_never_holds es

-- the sort differs from the one that is asked of a root
abbrev pub differs_from : Option Sort → Sort → Test
differs_from None s = false
differs_from (Some t) s = not (sort_eq s t)

-- what a node asks for, behind what its arguments ask for: no constraint of it leaves i128, and none never holds
abbrev pub asking : Place → (before own : List LinearExpression) → Typing Sorting
asking p before own =
    unless case.TooLarge (not (all_within own)) (
    unless case.NeverHolds (some_never_holds own) (
    Ok (sorting_of p (before ++ own))))

abbrev pub have_names : LinearExpression → Option LinearExpression → Test
have_names k None = false
have_names k (Some m) = not (is_number k || is_number m)

-- `repeat` whose number and whose width both have names
abbrev pub is_named_product : Head → List LinearExpression → List Place → Test
is_named_product head.Repeat (k ∷ []) (One s ∷ []) = have_names k (width s)
is_named_product h ix ps = false

-- the sorts that the places of the arguments count as
abbrev pub counted_sorts : Option (List Sort) → List Sort
counted_sorts None = []
counted_sorts (Some ss) = ss

abbrev pub argument_sorts : Head → List Place → List Sort
argument_sorts h ps = counted_sorts (all_of (map (place_sort h) ps))

abbrev pub application_by : Option Sort → Head → List Sorting → Option SortRule → Typing Sorting
application_by root h xs None = Err case.Clash
application_by root h xs (Some r) =
    unless case.Clash (not (all_one r.alike)) (
    unless case.TooLarge (not (all_within (formed_widths (family h) (argument_sorts h (places xs)) r.sort))) (
    unless case.Clash (differs_from root r.sort) (
    asking (One r.sort) (flat_map (λ x. x.needs) xs) r.needs)))

-- an application, by what its arguments are: its rule of sorts, the widths that it forms, the sort that is asked of a root, its constraints
abbrev pub application : Option Sort → Head → List LinearExpression → List Sorting → Typing Sorting
application root h ix xs =
    unless case.NonLinear (is_named_product h ix (places xs)) (application_by root h xs (place_rule (λ k. None) h ix (places xs)))

-- one term or a list, of which a root has the sort that is asked of it
abbrev pub occurrence_at : Option Sort → Place → List LinearExpression → Typing Sorting
occurrence_at root (One s) own = unless case.Clash (differs_from root s) (asking (One s) [] own)
occurrence_at None p own = asking p [] own
occurrence_at (Some s) p own = Err case.Clash

-- an occurrence of a parameter, or the hole: what it stands for
abbrev pub occurrence : Option Sort → Option Sorting → Typing Sorting
occurrence root None = Err case.Clash
occurrence root (Some x) = occurrence_at root x.place x.needs

-- what a node is typed as, where this sort is asked of the root
abbrev pub node_at : List Param → (hole root : Option Sort) → Head → List LinearExpression → List Sorting → Typing Sorting
node_at ps hole root (head.Param k) ix xs = occurrence root (option_and_then (kind_sorting k) (kind_at ps k))
node_at ps hole root head.Hole ix xs = occurrence root (option_map (λ s. sorting_of (One s) []) hole)
node_at ps hole root h ix xs = application root h ix xs

-- no sort is asked of arguments
abbrev pub node_step : List Param → (hole : Option Sort) → Tree-F (Option Sort → Typing Sorting) → Option Sort → Typing Sorting
node_step ps hole n root = and_then (each_typed (map (λ f. f None) n.args)) (node_at ps hole root n.head n.indices)

-- ---- a rule

-- what a tree is typed as, over parameters, by the sort of the hole and the sort that is asked of the root
abbrev pub typed_tree : List Param → (hole : Option Sort) → Tree → (root : Option Sort) → Typing Sorting
typed_tree ps hole = fold-Tree (Option Sort → Typing Sorting) (node_step ps hole)

abbrev pub typed_sort : Place → Typing Sort
typed_sort (One s) = Ok s
typed_sort p = Err case.Clash

abbrev pub floors : List Constraint → List LinearExpression
floors cs = map (λ c. c.floor) cs

-- what premises ask for
abbrev pub premises_typed : List Param → List Tree → Typing (List LinearExpression)
premises_typed ps [] = Ok []
premises_typed ps (t ∷ ts) =
    and_then (typed_tree ps None t (Some Bool)) (λ x. and_then (premises_typed ps ts) (λ ns. Ok (x.needs ++ ns)))

-- what the context asks for, with a hole of the sort of the rule
abbrev pub context_typed : List Param → Sort → Option Tree → Typing (List LinearExpression)
context_typed ps s None = Ok []
context_typed ps s (Some t) = and_then (typed_tree ps (Some s) t (Some s)) (λ x. Ok x.needs)

-- what the parts behind the left side ask for, where this is its sort
abbrev pub rest_typed : Rule → Sort → Typing (List LinearExpression)
rest_typed r s =
    and_then (premises_typed r.params r.premises) (λ ps.
    and_then (typed_tree r.params None r.right (Some s)) (λ x.
    and_then (context_typed r.params s r.context) (λ cs.
    Ok (ps ++ (x.needs ++ cs)))))

-- all that a rule asks to be at least 0, in order
abbrev pub sides_typed : Rule → Typing (List LinearExpression)
sides_typed r =
    and_then (typed_tree r.params None r.left None) (λ l.
    and_then (typed_sort l.place) (λ s.
    and_then (rest_typed r s) (λ ns.
    Ok (floors r.bounds ++ (l.needs ++ ns)))))

-- the constraints of a rule that is in form, or the first case in which it doesn't type; its bounds come first
abbrev pub rule_typing : Rule → Typing (List Constraint)
rule_typing r =
    unless case.TooLarge (not (all_within (floors r.bounds))) (
    unless case.NeverHolds (some_never_holds (floors r.bounds)) (
    and_then (sides_typed r) (λ ns.
    Ok (constraints_after (rule_lows r.params) [] ns))))
