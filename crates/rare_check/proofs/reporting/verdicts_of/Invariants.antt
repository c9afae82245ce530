use Rattle.std.proofs.Common.{◌≡◌, List, [], ◌++◌, map, drop}
use Rattle.rare_sort.specs.declared.tree.Tree.{Tree}
use Rattle.rare_check.specs.Checking.{verdicts_with}
use Rattle.rare_text.specs.Stated.{stated_rewrite}
use Rattle.rare_check.proofs.reporting.verdicts_of.Given as goal

abbrev pub invariant-loop-k : goal.invariant-loop-k
invariant-loop-k l =
    (ts : List Tree) →
    l.verdicts ++ verdicts_with (map (stated_rewrite ts) l.rewrites) l.concluded.keys [] l.k (map (stated_rewrite ts) (drop l.k l.rewrites))
    ≡ verdicts_with (map (stated_rewrite ts) l.rewrites) l.concluded.keys [] 0 (map (stated_rewrite ts) l.rewrites)
