use Rattle.std.proofs.Common.{sym, ap, ◌∙◌, subst, Result}
use Rattle.rare_rule.specs.declared.rule.Rule.{Rule}
use Rattle.rare_sort.specs.declared.tree.Tree.{Tree}
use Rattle.rare_inst.specs.Answers.{AnswersPart}
use Rattle.rare_inst.specs.Arguments.{arguments_of}
use Rattle.rare_inst.specs.Instance.{OtherSide, part_of, result_in}
use Rattle.rare_inst.specs.declared.fault.InstFault.{InstFault}
use Rattle.rare_inst.proofs.Contexts.{admitted_stays, part_stays, result_stays}
use Rattle.rare_inst.proofs.Made.{grows_on}
use Rattle.rare_inst.proofs.Parts.{are_given}
use Rattle.rare_inst.proofs.Starting.{right_is_tree}
use Rattle.rare_inst.proofs.instance.right_instance.Goals as goal

pub part_instance-right-requires-clause-tree : goal.part_instance-right-requires-clause-tree
part_instance-right-requires-clause-tree g c = right_is_tree c.args.rule.now c.rule_of-parts.ensures.typed c.rule_of-parts.result.now c.rule_of-parts.ensures.rule

pub context_instance-requires-clause-args : goal.context_instance-requires-clause-args
context_instance-requires-clause-args g c =
    are_given (g.T.Terms.state c.args.terms.now) (g.T.Terms.state c.part_instance-right.new.terms) c.args.args.now c.part_instance-right.ensures.grows c.requires.args

pub context_instance-requires-clause-admitted : goal.context_instance-requires-clause-admitted
context_instance-requires-clause-admitted g c =
    admitted_stays (g.T.Terms.state c.args.terms.now) (g.T.Terms.state c.part_instance-right.new.terms) c.args.rule.now c.args.args.now c.part_instance-right.ensures.grows c.requires.args c.requires.admitted

pub context_instance-requires-clause-right : goal.context_instance-requires-clause-right
context_instance-requires-clause-right g c =
    let old = g.T.Terms.state c.args.terms.now in
    let now = g.T.Terms.state c.part_instance-right.new.terms in
    let r = c.args.rule.now.rule in
    let is = ap (λ (q : Rule). part_of old.declared r (arguments_of old.trees c.args.args.now) OtherSide q.right) c.rule_of-parts.ensures.rule in
    subst (λ (x : Result Tree InstFault). AnswersPart now.trees c.part_instance-right.result x)
    (is ∙ sym (part_stays old now c.args.rule.now c.args.args.now c.part_instance-right.ensures.grows c.requires.args r.right)) c.part_instance-right.ensures.made

pub returns-in-Some-clause-made : goal.returns-in-Some-clause-made
returns-in-Some-clause-made g c =
    let old = g.T.Terms.state c.args.terms.now in
    let now = g.T.Terms.state c.part_instance-right.new.terms in
    let new = g.T.Terms.state c.context_instance.new.terms in
    subst (λ (x : Result Tree InstFault). AnswersPart new.trees c.context_instance.result x)
    (result_stays old now c.args.rule.now c.args.args.now c.part_instance-right.ensures.grows c.requires.args) c.context_instance.ensures.made

pub returns-in-Some-clause-grows : goal.returns-in-Some-clause-grows
returns-in-Some-clause-grows g c =
    grows_on (g.T.Terms.state c.args.terms.now) (g.T.Terms.state c.part_instance-right.new.terms) (g.T.Terms.state c.context_instance.new.terms) c.part_instance-right.ensures.grows c.context_instance.ensures.grows

pub returns-in-None-clause-made : goal.returns-in-None-clause-made
returns-in-None-clause-made g c =
    let old = g.T.Terms.state c.args.terms.now in
    let new = g.T.Terms.state c.part_instance-right.new.terms in
    let r = c.args.rule.now.rule in
    let given = arguments_of old.trees c.args.args.now in
    let none = ap (λ (q : Rule). q.context) (sym c.rule_of-parts.ensures.rule) ∙ c.in-None.is in
    let is = ap (λ (q : Rule). part_of old.declared r given OtherSide q.right) c.rule_of-parts.ensures.rule ∙ ap (result_in old.declared r given) (sym none) in
    subst (λ (x : Result Tree InstFault). AnswersPart new.trees c.part_instance-right.result x) is c.part_instance-right.ensures.made
