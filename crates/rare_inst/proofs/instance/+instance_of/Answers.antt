use Rattle.std.proofs.Common.{rules, ◌≡◌, ◌++◌, Err, length, arith, sym, ap, ◌∙◌, subst, Option, Result, List}
use Rattle.rare_sort.specs.declared.tree.TermId.{TermId}
use Rattle.rare_inst.specs.Answers.{IsFault}
use Rattle.rare_inst.specs.declared.fault.InstFault.{InstFault}
use Rattle.rare_inst.specs.inner.Making.{AnswersGroup, fault_at, node_group, part_fault, part_group}
use Rattle.rare_inst.proofs.Made.{grows_on}
use Rattle.rare_inst.proofs.Parts.{part_kept, fault_kept, group_kept, argument_fails, one_fine, one_more, ids_more, answers}
use Rattle.rare_inst.proofs.RuleTreeLemmas.{item_at, nested_below, rule_below}
use Rattle.rare_inst.proofs.instance.+instance_of.Goals as goal

pub instance_of-requires : goal.instance_of-requires
instance_of-requires g t c κs within =
    let old = g.T.Terms.state c.args.terms.now in
    let now = g.T.Terms.state c.loop-arg.terms in
    let i = item_at c.args.tree.now c.items-arg-items.result.now c.loop-arg.arg-index c.arg-item.result c.items-arg-items.ensures c.loop-arg-test.true c.arg-item.is in
    let less = nested_below c.args.tree.now c.arg-item.result c.loop-arg.arg-index i.0 i.1 in
    let d = c.decreases in (
      omega (arith, less, d),
      (
        search rules,
        (
          part_kept old now c.args.part.now c.loop-arg.invariant.grows c.requires.part,
          (
            c.requires.sorts,
            rule_below (length c.args.part.now.numbers.now.values) c.args.tree.now c.arg-item.result c.loop-arg.arg-index c.requires.tree i.0 i.1,
          ),
        ),
      ),
    )

pub returns-in_err-more-clause-made : goal.returns-in_err-more-clause-made
returns-in_err-more-clause-made g t c =
    let old = g.T.Terms.state c.args.terms.now in
    let now = g.T.Terms.state c.loop-arg.terms in
    let p = c.args.part.now in
    let same : c.from_residual.result ≡ Err c.in_err-more.field-0.0 = search rules in
    subst (λ (r : Result (List TermId) InstFault). AnswersGroup (g.T.Terms.state c.instance_of.new.terms).trees (part_fault old p c.args.tree.now) (part_group old p c.args.tree.now) r) (sym same)
    (argument_fails old p c.items-arg-items.result.now c.loop-arg.arg-index c.arg-item.result c.loop-arg-test.true c.arg-item.is c.args.tree.now c.in_err-more.field-0.0 c.items-arg-items.ensures c.loop-arg.invariant.fine
    (subst (λ (o : Option InstFault). IsFault o c.in_err-more.field-0.0) (fault_kept old now p c.loop-arg.invariant.grows c.requires.part c.arg-item.result) c.in_err-more.ensures.made))

pub loop-arg-preserved : goal.loop-arg-preserved
loop-arg-preserved g t c =
    let old = g.T.Terms.state c.args.terms.now in
    let now = g.T.Terms.state c.loop-arg.terms in
    let next = g.T.Terms.state c.instance_of.new.terms in
    let p = c.args.part.now in
    let x = c.arg-item.result in
    let i = c.loop-arg.invariant in
    let got = c.in_ok-more.ensures in
    let all = c.in_ok-append.ensures ∙ ap (λ (is : List TermId). c.loop-arg.ids ++ is) c.items.ensures in
    record {
      grows = grows_on old now next i.grows got.grows;
      known = ids_more now.trees next.trees c.loop-arg.ids c.in_ok-more.more c.append.new.to got.grows.trees i.known got.made.known all;
      trees = one_more old p c.items-arg-items.result.now c.loop-arg.arg-index x c.loop-arg-test.true c.arg-item.is now.trees next.trees c.loop-arg.ids c.in_ok-more.more c.append.new.to got.grows.trees i.known all
          (got.made.trees ∙ ap (λ y. y.trees) (group_kept old now p i.grows c.requires.part x)) i.trees;
      fine = one_fine old p c.items-arg-items.result.now c.loop-arg.arg-index x c.loop-arg-test.true c.arg-item.is (sym (fault_kept old now p i.grows c.requires.part x) ∙ got.made.fine) i.fine;
    }

pub at_counted_node-requires-clause-part : goal.at_counted_node-requires-clause-part
at_counted_node-requires-clause-part g t c =
    part_kept (g.T.Terms.state c.args.terms.now) (g.T.Terms.state c.loop-arg.terms) c.args.part.now c.loop-arg.invariant.grows c.requires.part

pub returns-clause-made : goal.returns-clause-made
returns-clause-made g t c =
    let old = g.T.Terms.state c.args.terms.now in
    let now = g.T.Terms.state c.loop-arg.terms in
    let new = g.T.Terms.state c.at_counted_node.new.terms in
    answers old now c.args.part.now c.loop-arg.invariant.grows c.requires.part c.args.tree.now c.items-arg-items.result.now c.loop-arg.ids c.loop-arg.arg-index c.items-arg-items.ensures c.loop-arg-test.false c.loop-arg.invariant.trees
    new.trees c.at_counted_node.result c.loop-arg.invariant.fine
    (subst (λ (is : List TermId). AnswersGroup new.trees (fault_at now c.args.part.now c.args.tree.now is) (node_group now c.args.part.now c.args.tree.now is) c.at_counted_node.result) c.items-2.ensures c.at_counted_node.ensures.made)
