use Rattle.std.proofs.Common.{length}
use Rattle.rare_sort.specs.Trees.{head_of}
use Rattle.rare_inst.proofs.Nodes.{param_group}
use Rattle.rare_inst.proofs.RuleTreeLemmas.{problem_symbol, rule_here}
use Rattle.rare_inst.proofs.instance.at_node.Goals as goal

pub applied_alone-requires : goal.applied_alone-requires
applied_alone-requires g c = record {
  part = c.requires.part;
  sorts = c.requires.sorts;
  ids = c.requires.ids;
  symbol = problem_symbol _ (head_of c.args.tree.now) (rule_here (length c.args.part.now.numbers.now.values) c.args.tree.now c.requires.tree).operator c.in_default.not-Param c.in_default.not-Hole;
  tree = c.requires.tree;
}

pub returns-in_ok-group_of-in-Param-clause-made : goal.returns-in_ok-group_of-in-Param-clause-made
returns-in_ok-group_of-in-Param-clause-made g c =
    param_group (g.T.Terms.state c.args.terms.now) c.args.part.now c.requires.part.args c.args.tree.now c.in-Param.k c.args.ids.now c.in_ok-group_of-in-Param.field-0 c.in-Param.is c.in_ok-group_of-in-Param.ensures
