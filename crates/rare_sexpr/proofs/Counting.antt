-- The depth of an expression and of its items.
use Rattle.std.proofs.Common.{◌≡◌, ℕ, zero, suc, ◌+◌, ◌<◌, ◌≤◌, max, List, [], ◌∷◌, map, refl, ap, sym, ◌∙◌, slice_get, Some, arith}
use Rattle.rare_base.specs.declared.answers.Place.{Place}
use Rattle.rare_sexpr.specs.Tree.{items_of, items_in, list_of, depth, depths}
use Rattle.rare_sexpr.specs.declared.tree.Sexpr.{Sexpr, Atom, List', Row_of-Sexpr, end_of-Sexpr, more_of-Sexpr}
use Rattle.rare_sexpr.specs.declared.tree.Sexpr.{items-the_row-Sexpr, items_shown-the_row-Sexpr-0}
use Rattle.rare_sexpr.specs.declared.tree.Sexpr.TheViews.{outs-List}

abbrev pub deepest : List ℕ → ℕ
deepest [] = 0
deepest (n ∷ ns) = max n (deepest ns)

depths_list : {m : _} (row : Row_of-Sexpr m) → depths row ≡ deepest (map depth (items-the_row-Sexpr m row))
depths_list end_of-Sexpr = refl
depths_list (more_of-Sexpr e rest) = ap (λ n. max (depth e) n) (depths_list rest)

pub depth_out : (e : Sexpr) → depth e ≡ deepest (map depth (items_of e)) + 1
unfolding items_of Rattle.rare_sexpr.specs.declared.tree.Sexpr.TheViews.out-Sexpr Rattle.rare_sexpr.specs.declared.tree.Sexpr.TheBlock.shown-the_row-Sexpr-0 denote.Hole.Carrier.out denote.Hole.Carrier.shown
depth_out (Atom place k text) = refl
depth_out (List' place shape row) = ap (λ n. n + 1) (depths_list row ∙ ap (λ xs. deepest (map depth xs)) (sym (items_shown-the_row-Sexpr-0 shape row)))

pub depth_list : (p : Place) (items : List Sexpr) → depth (list_of p items) ≡ deepest (map depth items) + 1
unfolding items_of
depth_list p items = depth_out (list_of p items) ∙ ap (λ l. deepest (map depth (items_in l)) + 1) (outs-List p items)

within : (xs : List Sexpr) (k : ℕ) (x : Sexpr) → slice_get xs k ≡ Some x → depth x ≤ deepest (map depth xs)
within [] k x is = absurd (grind arith)
within (y ∷ ys) zero x is = let e : y ≡ x = grind arith in omega (arith, ap depth e)
within (y ∷ ys) (suc k) x is = omega (arith, within ys k x is)

-- an item nests less deep than the list
pub depth_falls : (e : Sexpr) (k : ℕ) (x : Sexpr) → slice_get (items_of e) k ≡ Some x → depth x < depth e
depth_falls e k x is = omega (arith, depth_out e, within (items_of e) k x is)
