use Rattle.std.proofs.Common.{◌≡◌, ap, ◌∙◌, sym, subst}
use Rattle.rare_sort.specs.declared.sort.Sort.{Bool}
use Rattle.rare_sort.specs.declared.tree.Tree.{Tree}
use Rattle.rare_rule.specs.declared.rule.Rule.{Rule}
use Rattle.rare_inst.specs.Answers.{AnswersPart}
use Rattle.rare_inst.specs.Arguments.{arguments_of}
use Rattle.rare_inst.specs.Instance.{OtherSide, part_of}
use Rattle.rare_inst.proofs.Starting.{premise_is, premise_is_tree, premise_sort}
use Rattle.rare_inst.proofs.instance.premise_instance.Goals as goal

pub part_instance-requires-clause-tree : goal.part_instance-requires-clause-tree
part_instance-requires-clause-tree g c =
    premise_is_tree c.args.rule.now c.rule_of-parts.ensures.typed c.rule_of-parts.result.now c.rule_of-parts.ensures.rule c.args.k c.get.result.now c.get.ensures

pub part_instance-requires-clause-sort : goal.part_instance-requires-clause-sort
part_instance-requires-clause-sort g c =
    (Bool, premise_sort c.args.rule.now c.rule_of-parts.ensures.typed c.rule_of-parts.result.now c.rule_of-parts.ensures.rule c.args.k c.get.result.now c.get.ensures)

pub returns-clause-made : goal.returns-clause-made
returns-clause-made g c =
    let s = g.T.Terms.state c.args.terms.now in
    let new = g.T.Terms.state c.part_instance.new.terms in
    subst (λ (u : Tree). AnswersPart new.trees c.part_instance.result (part_of s.declared c.args.rule.now.rule (arguments_of s.trees c.args.args.now) OtherSide u))
    (premise_is c.args.rule.now c.rule_of-parts.ensures.typed c.rule_of-parts.result.now c.rule_of-parts.ensures.rule c.args.k c.get.result.now c.get.ensures) c.part_instance.ensures.made
