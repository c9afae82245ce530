-- Expressions as plain trees.
use Rattle.std.specs.Prelude.{ℕ, ◌+◌, List, [], ◌∷◌, max}
use Rattle.rare_base.specs.declared.answers.Place.{Place}
use Rattle.rare_sexpr.specs.declared.tree.Kind.{Kind}
use Rattle.rare_sexpr.specs.declared.tree.Kind.TheVariants as kind
use Rattle.rare_sexpr.specs.declared.tree.AtomKind.{AtomKind}
use Rattle.rare_sexpr.specs.declared.tree.Sexpr.{Sexpr, Atom, List', Row_of-Sexpr, end_of-Sexpr, more_of-Sexpr, out-Sexpr}
use Rattle.rare_sexpr.specs.declared.tree.Sexpr.TheOpen as layer
use Rattle.rare_sexpr.specs.declared.tree.Sexpr.TheViews as view
use Rattle.rare_sexpr.specs.Atomic.{kind_of_atom}

-- an atom and a list of these parts
abbrev pub atom_of : Place → AtomKind → List ℕ → Sexpr
atom_of place kind text = view.made-Atom place kind text

abbrev pub list_of : Place → List Sexpr → Sexpr
list_of place items = view.List place items

-- the parts of one level
abbrev pub items_in : layer.Sexpr-F Sexpr → List Sexpr
items_in (layer.Atom place k text) = []
items_in (layer.List place items) = items

abbrev pub text_in : layer.Sexpr-F Sexpr → List ℕ
text_in (layer.Atom place k text) = text
text_in (layer.List place items) = []

abbrev pub kind_in : layer.Sexpr-F Sexpr → Kind
kind_in (layer.Atom place k text) = kind_of_atom k
kind_in (layer.List place items) = kind.List

abbrev pub place_in : layer.Sexpr-F Sexpr → Place
place_in (layer.Atom place k text) = place
place_in (layer.List place items) = place

-- a list has items and no text, an atom a text and no items
unfoldable pub items_of : Sexpr → List Sexpr
items_of e = items_in (out-Sexpr e)

unfoldable pub text_of : Sexpr → List ℕ
text_of e = text_in (out-Sexpr e)

unfoldable pub kind_of : Sexpr → Kind
kind_of e = kind_in (out-Sexpr e)

unfoldable pub place_of : Sexpr → Place
place_of e = place_in (out-Sexpr e)

-- how deep it nests: an atom and an empty list have depth 1
abbrev mutual
  pub depth : Sexpr → ℕ
  depth (Atom place kind text) = 1
  depth (List' place shape row) = depths row + 1

  pub depths : {m : _} → Row_of-Sexpr m → ℕ
  depths end_of-Sexpr = 0
  depths (more_of-Sexpr e rest) = max (depth e) (depths rest)

-- what one expression gives, from itself, and from each of its items with what that gives
abbrev pub Step {ℓ} : Type ℓ → Type ℓ
Step A = Sexpr → List (Sexpr × A) → A

-- a function of a whole expression by one step
abbrev mutual
  pub go_down {ℓ} : (A : Type ℓ) → Step A → Sexpr → A
  go_down A step (Atom place k text) = step (Atom place k text) []
  go_down A step (List' place shape row) = step (List' place shape row) (go_along A step row)

  pub go_along {ℓ} : (A : Type ℓ) → Step A → {m : _} → Row_of-Sexpr m → List (Sexpr × A)
  go_along A step end_of-Sexpr = []
  go_along A step (more_of-Sexpr e rest) = (e, go_down A step e) ∷ go_along A step rest
