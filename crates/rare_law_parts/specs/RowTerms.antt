-- The terms that rows stand for: linear expressions, and terms in reverse Polish notation.
use Rattle.std.specs.Prelude.{ℕ, ◌-◌, List, [], ◌∷◌, ◌++◌, map, take, drop, length}
use Rattle.rare_linear.specs.Linears.{Part, LinearExpression, number, add, scale}
use Rattle.rare_sort.specs.Sorting.{name}
use Rattle.rare_sort.specs.Trees.{node}
use Rattle.rare_sort.specs.declared.head.Head.{Head}
use Rattle.rare_sort.specs.declared.head.Head.TheVariants as head
use Rattle.rare_sort.specs.declared.tree.Tree.{Tree}
use Rattle.rare_law_parts.specs.declared.row.Sum.{Sum}
use Rattle.rare_rule.specs.Written.{param}
use Rattle.rare_law_parts.specs.declared.row.Step.{Step}
use Rattle.rare_law_parts.specs.declared.row.Step.TheVariants as step

-- with each name times its factor
abbrev pub plus_parts : LinearExpression → List Part → LinearExpression
plus_parts e [] = e
plus_parts e (p ∷ ps) = plus_parts (add e (scale p.1 (name p.0))) ps

abbrev pub sum_of : Sum → LinearExpression
sum_of s = plus_parts (number s.constant) s.parts.now

abbrev pub sums_of : List Sum → List LinearExpression
sums_of ss = map sum_of ss

-- the operator takes so many arguments from the end
abbrev pub applied_last : List Tree → Head → List LinearExpression → ℕ → List Tree
applied_last ts h ix n = take (length ts - n) ts ++ node h ix (drop (length ts - n) ts) ∷ []

abbrev pub stack_after : List Tree → Step → List Tree
stack_after ts (step.Param k) = ts ++ param k ∷ []
stack_after ts (step.On h n) = applied_last ts h [] n
stack_after ts (step.At h ix n) = applied_last ts h (sums_of ix.now) n

abbrev pub stack_of : List Tree → List Step → List Tree
stack_of ts [] = ts
stack_of ts (s ∷ ss) = stack_of (stack_after ts s) ss

-- the last of the terms, and `true` where there is none
abbrev pub last_of : List Tree → Tree
last_of [] = node head.True [] []
last_of (t ∷ []) = t
last_of (t ∷ u ∷ ts) = last_of (u ∷ ts)

abbrev pub term_of : List Step → Tree
term_of ss = last_of (stack_of [] ss)
