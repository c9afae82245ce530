-- The sort of a tree and what it asks for, in problems and in rules.
use Rattle.std.specs.Prelude.{◌≡◌, ℕ, ℤ, pos, ◌||◌, Bool as Test, true, false, List, [], ◌∷◌, ◌++◌, map, flat_map, Option, Some, None, if◌then◌else◌}
use Rattle.std.specs.Option.{option_map, option_and_then}
use Rattle.rare_linear.specs.Linears.{LinearExpression, linear}
use Rattle.rare_linear.specs.Entailment.{IsEntailed}
use Rattle.rare_linear.specs.declared.constraint.Constraint.{Constraint}
use Rattle.rare_sort.specs.Each.{Each}
use Rattle.rare_sort.specs.Families.{family}
use Rattle.rare_sort.specs.SortRules.{SortRule, sort_rule, width, width_needs}
use Rattle.rare_sort.specs.declared.sort.Signature.{Signature}
use Rattle.rare_sort.specs.declared.sort.Sort.{Sort, BitVec}
use Rattle.rare_sort.specs.declared.head.Head.{Head}
use Rattle.rare_sort.specs.declared.head.Head.TheVariants as head
use Rattle.rare_sort.specs.declared.tree.Tree.{Tree, Tree-F, fold-Tree}

-- what stands in an argument's place: one tree, or those of a list variable. Of a list, `total` is the name of its total width
pub data Place : Type 0 where
  One : Sort → Place
  Many : Sort → (total : ℕ) → Place
  Wide : (total : ℕ) → Place

-- a place, the sorts that must be one, and what must be at least 0
pub record Sorting : Type 0 where
  pub place : Place
  pub alike : List (Sort × Sort)
  pub needs : List LinearExpression

-- what the names of trees stand for
pub record Scope : Type 0 where
  pub symbols : ℕ → Option Signature
  pub params : ℕ → Option Sorting
  pub hole : Option Sorting
  -- what the widths of an application's sort must be
  pub own : Sort → List LinearExpression

-- lists are spliced in among the arguments of ten operators
abbrev pub splices : Head → Test
splices head.And = true
splices head.Or = true
splices head.Add = true
splices head.Mul = true
splices head.BvAdd = true
splices head.BvMul = true
splices head.BvAnd = true
splices head.BvOr = true
splices head.BvXor = true
splices head.Concat = true
splices _ = false

abbrev pub is_concat : Head → Test
is_concat head.Concat = true
is_concat _ = false

abbrev pub is_list : Place → Test
is_list (One s) = false
is_list _ = true

abbrev pub some_list : List Place → Test
some_list [] = false
some_list (p ∷ ps) = is_list p || some_list ps

abbrev pub name : ℕ → LinearExpression
name k = linear (pos 0) ((k, pos 1) ∷ [])

-- the sort that a place counts as among the arguments: that of a list's elements; under `concat` a word of the total width
abbrev pub place_sort : Head → Place → Option Sort
place_sort h (One s) = Some s
place_sort h (Many s k) = if is_concat h then (option_map (λ w. BitVec (name k)) (width s)) else (if splices h then (Some s) else None)
place_sort h (Wide k) = if is_concat h then (Some (BitVec (name k))) else None

-- all of them, or none where one is none
abbrev pub all_of : {X : Type 0} → List (Option X) → Option (List X)
all_of [] = Some []
all_of (None ∷ os) = None
all_of (Some x ∷ os) = option_map (λ xs. x ∷ xs) (all_of os)

abbrev pub least_count : List Place → ℕ
least_count ps = if some_list ps then 1 else 2

abbrev pub places : List Sorting → List Place
places xs = map (λ a. a.place) xs

-- the rule of sorts of an application whose arguments stand in these places
abbrev pub place_rule : (ℕ → Option Signature) → Head → List LinearExpression → List Place → Option SortRule
place_rule symbols h ix ps = option_and_then (sort_rule symbols (least_count ps) (family h) ix) (all_of (map (place_sort h) ps))

abbrev pub with_rule : Scope → List Sorting → SortRule → Sorting
with_rule c xs r = record {
  place = One r.sort;
  alike = flat_map (λ a. a.alike) xs ++ r.alike;
  needs = flat_map (λ a. a.needs) xs ++ (r.needs ++ c.own r.sort);
}

-- the arguments come before the application's own
abbrev pub sorted_here : Scope → Head → List LinearExpression → List Sorting → Option Sorting
sorted_here c (head.Param k) ix xs = c.params k
sorted_here c head.Hole ix xs = c.hole
sorted_here c h ix xs = option_map (with_rule c xs) (place_rule c.symbols h ix (places xs))

abbrev pub sorting_step : Scope → Tree-F (Option Sorting) → Option Sorting
sorting_step c n = option_and_then (sorted_here c n.head n.indices) (all_of n.args)

-- the sort of a tree, and all that it asks for, or none
abbrev pub sorting : Scope → Tree → Option Sorting
sorting c = fold-Tree (Option Sorting) (sorting_step c)

-- both sorts are one
abbrev pub IsOne : Sort × Sort → Type 0
IsOne e = e.0 ≡ e.1

-- the tree has this sort, and Q holds of all that it asks for
pub record HasSort (Q : LinearExpression → Type 0) (c : Scope) (t : Tree) (s : Sort) : Type 0 where
  pub alike : List (Sort × Sort)
  pub needs : List LinearExpression
  pub found : sorting c t ≡ Some (record { place = One s; alike = alike; needs = needs })
  pub same : Each IsOne alike
  pub met : Each Q needs

-- the rules of sorts hold throughout, whatever they ask of widths
abbrev pub IsShaped : Scope → Tree → Sort → Type 0
IsShaped c t s = HasSort (λ n. Unit {0}) c t s

-- the terms of a problem: without parameters, and each width is to be at least 1
abbrev pub problem_scope : (ℕ → Option Signature) → Scope
problem_scope symbols = record { symbols = symbols; params = λ k. None; hole = None; own = width_needs }

-- a term of a problem: the constraints entail what it asks for
abbrev pub IsSorted : (ℕ → Option Signature) → (lows : ℕ → ℤ) → List Constraint → Tree → Sort → Type 0
IsSorted symbols lows have t s = HasSort (IsEntailed lows have) (problem_scope symbols) t s
