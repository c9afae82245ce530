-- The law of `go_down`.
use Rattle.std.proofs.Common.{◌≡◌, ◌∷◌, map, refl, ap, sym, ◌∙◌}
use Rattle.rare_sexpr.specs.Tree.{Step, go_down, go_along, items_of}
use Rattle.rare_sexpr.specs.declared.tree.Sexpr.{Sexpr, Atom, List', Row_of-Sexpr, end_of-Sexpr, more_of-Sexpr, items-the_row-Sexpr, items_shown-the_row-Sexpr-0}

along_list {ℓ} : (A : Type ℓ) (step : Step A) {m : _} (row : Row_of-Sexpr m) → go_along A step row ≡ map (λ e. (e, go_down A step e)) (items-the_row-Sexpr m row)
along_list A step end_of-Sexpr = refl
along_list A step (more_of-Sexpr e rest) = ap (λ xs. (e, go_down A step e) ∷ xs) (along_list A step rest)

-- one level of a function by steps
pub go_out {ℓ} : (A : Type ℓ) (step : Step A) (e : Sexpr) → go_down A step e ≡ step e (map (λ x. (x, go_down A step x)) (items_of e))
unfolding items_of Rattle.rare_sexpr.specs.declared.tree.Sexpr.TheViews.out-Sexpr Rattle.rare_sexpr.specs.declared.tree.Sexpr.TheBlock.shown-the_row-Sexpr-0 denote.Hole.Carrier.out denote.Hole.Carrier.shown
go_out A step (Atom place k text) = refl
go_out A step (List' place shape row) =
    ap (step (List' place shape row)) (along_list A step row ∙ ap (map (λ x. (x, go_down A step x))) (sym (items_shown-the_row-Sexpr-0 shape row)))
