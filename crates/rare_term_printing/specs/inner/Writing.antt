-- The pieces of a term's text.
use Rattle.std.specs.Prelude.{ℕ, ◌+◌, nat_eq, List, [], ◌∷◌, ◌++◌, flat_map, codes, Option, Some, None, if◌then◌else◌}
use Rattle.rare_linear.specs.Linears.{LinearExpression}
use Rattle.rare_sort.specs.declared.tree.TermId.{TermId}
use Rattle.rare_sort.specs.declared.tree.Tree.{Tree}
use Rattle.rare_scope.specs.Names.{Held, width_names}
use Rattle.rare_scope.specs.Printing.{linear_text}
use Rattle.rare_term_printing.specs.TermPrinting.{argument_text, term_text}

-- an index behind a blank
abbrev pub spaced_index : Held → LinearExpression → List ℕ
spaced_index held e = codes " " ++ linear_text (width_names held) e

-- indices, and the end of their list
abbrev pub indices_end : Held → List LinearExpression → List ℕ
indices_end held ix = flat_map (spaced_index held) ix ++ codes ")"

-- a part behind a blank
abbrev pub spaced_part : Held → List Tree → Tree → List ℕ
spaced_part held shared t = codes " " ++ argument_text shared (t, term_text held shared t)

-- the number of an id among others, of which the first has number k
abbrev pub id_from : ℕ → List TermId → TermId → Option ℕ
id_from k [] id = None
id_from k (s ∷ ss) id = if nat_eq s.0 id.0 then Some k else id_from (k + 1) ss id
