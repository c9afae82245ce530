-- How the meaning of a node is made of those of its parts.
use Rattle.std.proofs.Common.{◌≡◌, List, map}
use Rattle.rare_linear.specs.Linears.{LinearExpression, linear_value}
use Rattle.rare_meaning.specs.Settings.{Group, Setting}
use Rattle.rare_meaning.specs.Splicing.{joined}
use Rattle.rare_meaning.specs.Meaning.{here, meaning, meaning_step}
use Rattle.rare_sort.specs.Trees.{node}
use Rattle.rare_sort.specs.declared.head.Head.{Head}
use Rattle.rare_sort.specs.declared.tree.Tree.{Tree, fold-roll-Tree}

pub meaning-node : (e : Setting) (h : Head) (ix : List LinearExpression) (ts : List Tree) →
    meaning e (node h ix ts) ≡ here e h (map (linear_value e.number) ix) (joined (map (meaning e) ts))
meaning-node e h ix ts = fold-roll-Tree Group (meaning_step e) (record { head = h; indices = ix; args = ts })
