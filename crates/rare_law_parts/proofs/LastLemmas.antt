-- The last term of a list.
use Rattle.std.proofs.Common.{◌≡◌, List, [], ◌∷◌, ◌++◌, refl}
use Rattle.rare_sort.specs.declared.tree.Tree.{Tree}
use Rattle.rare_law_parts.specs.RowTerms.{last_of}

pub last_append : (ts : List Tree) (t : Tree) → last_of (ts ++ t ∷ []) ≡ t
last_append [] t = refl
last_append (u ∷ []) t = refl
last_append (u ∷ v ∷ ts) t = last_append (v ∷ ts) t
