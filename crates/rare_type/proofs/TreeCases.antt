-- Trees of rules, node by node, and what a typing tells.
use Rattle.std.proofs.Common.{◌≡◌, ℕ, Bool, true, false, not, ◌&&◌, ◌||◌, List, [], ◌∷◌, ◌++◌, map, Option, Some, None, Ok, Err, refl, sym, ap, ◌∙◌, subst}
use Rattle.std.specs.Option.{option_map, option_and_then}
use Rattle.rare_linear.specs.Linears.{LinearExpression}
use Rattle.rare_linear.specs.EntailmentTest.{is_within}
use Rattle.rare_sort.specs.Rulings.{all_within}
use Rattle.rare_sort.specs.Each.{Each}
use Rattle.rare_sort.specs.Sameness.{sort_eq}
use Rattle.rare_sort.specs.Sorting.{Place, One, Sorting, Scope}
use Rattle.rare_sort.specs.Trees.{node}
use Rattle.rare_sort.specs.declared.head.Head.{Head}
use Rattle.rare_sort.specs.declared.sort.Sort.{Sort}
use Rattle.rare_sort.specs.declared.tree.Tree.{Tree, ind-Tree}
use Rattle.rare_sort.specs.declared.tree.Tree.TheFolds.{fold-roll-Tree}
use Rattle.rare_sort.proofs.SamenessLemmas.{sort_eq-Decides}
use Rattle.rare_rule.specs.RuleSorting.{sorting_of, rule_scope, kind_sorting}
use Rattle.rare_rule.specs.declared.param.Param.{Param}
use Rattle.rare_rule.specs.declared.param.ParamKind.{ParamKind}
use Rattle.rare_rule.specs.declared.param.ParamKind.TheVariants as kind
use Rattle.rare_type.specs.FirstCase.{Typing, and_then, unless, each_typed, never_holds, some_never_holds, differs_from, node_at, node_step, typed_tree}
use Rattle.rare_type.specs.declared.error.TypeError.{TypeError}
use Rattle.rare_type.proofs.Nodes.{map_twice}

pub both : (b c : Bool) → (b && c) ≡ true → (b ≡ true) × (c ≡ true)
both true c e = (refl, e)
both false c e = cc

pub neither : (b c : Bool) → (b || c) ≡ false → (b ≡ false) × (c ≡ false)
neither true c e = cc
neither false c e = (refl, e)

-- ---- what a typing that is there tells

pub then_is : {A B : Type 0} (t : Typing A) (f : A → Typing B) (y : B) → and_then t f ≡ Ok y → (x : A) × (t ≡ Ok x) × (f x ≡ Ok y)
then_is (Ok x) f y h = (x, refl, h)
then_is (Err c) f y h = cc

pub unless_is : {A : Type 0} (c : TypeError) (b : Bool) (t : Typing A) (y : A) → unless c b t ≡ Ok y → (b ≡ false) × (t ≡ Ok y)
unless_is c true t y h = cc
unless_is c false t y h = (refl, h)

pub not_false : (b : Bool) → not b ≡ false → b ≡ true
not_false true h = refl
not_false false h = cc

pub never_append : (xs ys : List LinearExpression) → some_never_holds (xs ++ ys) ≡ (some_never_holds xs || some_never_holds ys)
never_append [] ys = refl
never_append (x ∷ xs) ys = ap (λ b. never_holds x || b) (never_append xs ys) ∙ either (never_holds x) (some_never_holds xs) (some_never_holds ys)
  where
    either : (a b c : Bool) → (a || (b || c)) ≡ ((a || b) || c)
    either true b c = refl
    either false b c = refl

within_append : (xs ys : List LinearExpression) → all_within (xs ++ ys) ≡ (all_within xs && all_within ys)
within_append [] ys = refl
within_append (x ∷ xs) ys = ap (λ b. is_within x && b) (within_append xs ys) ∙ both_of (is_within x) (all_within xs) (all_within ys)
  where
    both_of : (a b c : Bool) → (a && (b && c)) ≡ ((a && b) && c)
    both_of true b c = refl
    both_of false b c = refl

-- each is within i128, and none never holds
pub record AreFine (es : List LinearExpression) : Type 0 where
  pub possible : some_never_holds es ≡ false
  pub within : all_within es ≡ true

pub fine_append : (xs ys : List LinearExpression) → AreFine xs → AreFine ys → AreFine (xs ++ ys)
fine_append xs ys h k = record {
  possible = never_append xs ys ∙ rw (h.possible, k.possible) refl;
  within = within_append xs ys ∙ rw (h.within, k.within) refl;
}

-- the sort of a root is the one that is asked of it
abbrev pub Meets : Option Sort → Place → Type 0
Meets None p = Unit {0}
Meets (Some s) p = p ≡ One s

pub meets : (root : Option Sort) (s : Sort) → differs_from root s ≡ false → Meets root (One s)
meets None s h = tt
meets (Some t) s h = ap One ((sort_eq-Decides s t).0 (not_false (sort_eq s t) h))

-- ---- nodes

module _ (ps : List Param) (hole : Option Sort) where
  pub typed-node : (h : Head) (ix : List LinearExpression) (ts : List Tree) (root : Option Sort) →
      typed_tree ps hole (node h ix ts) root ≡ and_then (each_typed (map (λ u. typed_tree ps hole u None) ts)) (node_at ps hole root h ix)
  typed-node h ix ts root =
      ap (λ f. f root) (fold-roll-Tree (Option Sort → Typing Sorting) (node_step ps hole) (record { head = h; indices = ix; args = ts }))
      ∙ ap (λ us. and_then (each_typed us) (node_at ps hole root h ix)) (map_twice (typed_tree ps hole) (λ f. f None) ts)

  -- the same parameters and hole, as a scope of sorts
  abbrev pub scope : Scope
  scope = rule_scope ps (option_map (λ s. sorting_of (One s) []) hole)

-- what is shown at each node holds of each tree
module _ (P : Tree → Type 0) (at_node : (h : Head) (ix : List LinearExpression) (ts : List Tree) → Each P ts → P (node h ix ts)) where
  all_hold : (ts : List ((t : Tree) × P t)) → Each P (map (λ t. t.0) ts)
  all_hold [] = tt
  all_hold (t ∷ ts) = (t.1, all_hold ts)

  pub by_nodes : (t : Tree) → P t
  by_nodes = ind-Tree P (λ x y is. at_node x.head x.indices x.args (subst (λ z. Each P z.args) is (all_hold y.args)))

-- ---- what occurrences stand for

plain : (p : Place) (ns : List LinearExpression) (z : Sorting) → Some (sorting_of p ns) ≡ Some z → z ≡ sorting_of z.place z.needs
plain p ns z e = let is : sorting_of p ns ≡ z = cc in sym is ∙ (λ i. sorting_of (is i).place (is i).needs)

-- nothing is asked to be one sort
pub kind_alike : (k : ℕ) (o : Option ParamKind) (z : Sorting) → option_and_then (kind_sorting k) o ≡ Some z → z ≡ sorting_of z.place z.needs
kind_alike k None z e = cc
kind_alike k (Some (kind.Term s)) z e = plain _ _ z e
kind_alike k (Some (kind.List s)) z e = plain _ _ z e
kind_alike k (Some kind.WideList) z e = plain _ _ z e
kind_alike k (Some x) z e = cc

pub hole_alike : (hole : Option Sort) (z : Sorting) → option_map (λ s. sorting_of (One s) []) hole ≡ Some z → z ≡ sorting_of z.place z.needs
hole_alike None z e = cc
hole_alike (Some s) z e = plain _ _ z e
