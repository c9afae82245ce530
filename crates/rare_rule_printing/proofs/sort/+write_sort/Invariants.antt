use Rattle.rare_sort.specs.DeclaredSorts.{sort_nesting}
use Rattle.rare_rule_printing.proofs.sort.+write_sort.Given as goal

abbrev pub decreases-write_sort : goal.decreases-write_sort
decreases-write_sort l = sort_nesting l.sort.now
