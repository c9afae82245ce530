-- How terms are written (SMT-LIB 2.6, section on terms and formulas). Parts that are shared have names of their own.
use Rattle.std.specs.Prelude.{ℕ, ◌+◌, List, [], ◌∷◌, ◌++◌, map, codes, Option, Some, None, if◌then◌else◌}
use Rattle.std.specs.Fmt.{decimal}
use Rattle.rare_sort.specs.Sameness.{tree_eq}
use Rattle.rare_sort.specs.Trees.{node}
use Rattle.rare_sort.specs.declared.tree.Tree.{Tree}
use Rattle.rare_sort.specs.declared.tree.Tree.TheOpen.{Tree-F}
use Rattle.rare_sort.specs.declared.tree.Tree.TheFolds.{fold-Tree}
use Rattle.rare_scope.specs.Names.{Held}
use Rattle.rare_term_printing.specs.OperatorTexts.{list_text, operator_text}

-- a term with its text
abbrev pub Shown : Type 0
Shown = Tree × List ℕ

-- the operator alone, or `(op t ..)`
abbrev pub applied_text : List ℕ → List (List ℕ) → List ℕ
applied_text o [] = o
applied_text o (t ∷ ts) = list_text (o ∷ t ∷ ts)

-- the number of a term among those that are shared, of which the first has number k
abbrev pub number_from : ℕ → List Tree → Tree → Option ℕ
number_from k [] t = None
number_from k (s ∷ ss) t = if tree_eq s t then Some k else number_from (k + 1) ss t

abbrev pub named_or : Option ℕ → List ℕ → List ℕ
named_or (Some k) text = codes "@" ++ decimal k
named_or None text = text

-- a part: `@k` where it is shared
abbrev pub argument_text : List Tree → Shown → List ℕ
argument_text shared p = named_or (number_from 1 shared p.0) p.1

abbrev pub term_text_step : Held → List Tree → Tree-F Shown → Shown
term_text_step held shared n =
    (node n.head n.indices (map (λ p. p.0) n.args), applied_text (operator_text held n.head n.indices) (map (argument_text shared) n.args))

-- a term over the names of a scope; its root is written out
abbrev pub term_text : Held → List Tree → Tree → List ℕ
term_text held shared t = (fold-Tree Shown (term_text_step held shared) t).1
