-- A well-sorted term has a value, which is of its sort (SMT-LIB 2.6, section on the meaning of terms).
use Rattle.std.specs.Prelude.{◌≡◌}
use Rattle.rare_sort.specs.SortOf.{IsTermOf}
use Rattle.rare_sort.specs.declared.declarations.Declarations.{Declarations}
use Rattle.rare_sort.specs.declared.sort.Sort.{Sort}
use Rattle.rare_sort.specs.declared.tree.Tree.{Tree}
use Rattle.rare_meaning.specs.Values.{ClosedSort, Fits}
use Rattle.rare_meaning.specs.Settings.{Item, Setting, one, sort_in}
use Rattle.rare_meaning.specs.Interpretations.{FunctionClass, IsModel}
use Rattle.rare_meaning.specs.Meaning.{meaning}

-- the item has a sort, and its value is of it
pub record IsOf (s : ClosedSort) (i : Item) : Type 0 where
  pub sorted : i.sort ≡ s
  pub fits : Fits i.value s

-- the tree means one item, which is of this sort
pub record HasValue (e : Setting) (t : Tree) (s : ClosedSort) : Type 0 where
  pub item : Item
  pub means : meaning e t ≡ one item
  pub of : IsOf s item

-- at every allowed valuation and in every interpretation a term has a value of its sort
abbrev pub TermsFit : Type 0
TermsFit =
    (c : FunctionClass) (d : Declarations) (e : Setting) → IsModel c d e → (t : Tree) (s : Sort) → IsTermOf d t s → HasValue e t (sort_in e s)
