use Rattle.rare_sort.proofs.SortLawLemmas.{node_law}
use Rattle.rare_sort.proofs.laws.nodes_are_sorted_by_rule.Goals as goal

pub returns : goal.returns
returns c = node_law
