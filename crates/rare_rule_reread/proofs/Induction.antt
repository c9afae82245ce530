-- What an expression has where its items have it, each expression has.
use Rattle.std.proofs.Common.{◌≡◌, ℕ, List, [], ◌∷◌, refl, subst, sym}
use Rattle.rare_base.specs.declared.answers.Place.{Place}
use Rattle.rare_sexpr.specs.declared.tree.AtomKind.{AtomKind}
use Rattle.rare_sexpr.specs.Tree.{items_of}
use Rattle.rare_sexpr.specs.declared.tree.Sexpr.{Sexpr, Atom, List', Row_of-Sexpr, end_of-Sexpr, more_of-Sexpr, items-the_row-Sexpr, items_shown-the_row-Sexpr-0}

-- ---- items

atom_items : (place : Place) (k : AtomKind) (text : List ℕ) → items_of (Atom place k text) ≡ []
unfolding items_of Rattle.rare_sexpr.specs.declared.tree.Sexpr.TheViews.out-Sexpr denote.Hole.Carrier.out
atom_items place k text = refl

row_items : (place : Place) (shape : _) (row : _) → items_of (List' place shape row) ≡ items-the_row-Sexpr _ row
unfolding items_of Rattle.rare_sexpr.specs.declared.tree.Sexpr.TheViews.out-Sexpr Rattle.rare_sexpr.specs.declared.tree.Sexpr.TheBlock.shown-the_row-Sexpr-0 denote.Hole.Carrier.out denote.Hole.Carrier.shown
row_items place shape row = items_shown-the_row-Sexpr-0 shape row

-- ---- induction

module _ (P : Sexpr → Type 0) where
  abbrev pub AllHave : List Sexpr → Type 0
  AllHave [] = Unit {0}
  AllHave (e ∷ es) = P e × AllHave es

  module _ (step : (e : Sexpr) → AllHave (items_of e) → P e) where
    mutual
      pub each_has : (e : Sexpr) → P e
      each_has (Atom place k text) = step (Atom place k text) (subst AllHave (sym (atom_items place k text)) tt)
      each_has (List' place shape row) = step (List' place shape row) (subst AllHave (sym (row_items place shape row)) (along row))

      along : {m : _} (row : Row_of-Sexpr m) → AllHave (items-the_row-Sexpr m row)
      along end_of-Sexpr = tt
      along (more_of-Sexpr e rest) = (each_has e, along rest)
