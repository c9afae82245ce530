use Rattle.std.proofs.Common.{ℕ, length, refl, ap, ◌∙◌, subst, Result}
use Rattle.rare_sort.specs.declared.tree.Tree.{Tree}
use Rattle.rare_rule.specs.declared.rule.Rule.{Rule}
use Rattle.rare_inst.specs.Answers.{AnswersPart}
use Rattle.rare_inst.specs.Arguments.{arguments_of}
use Rattle.rare_inst.specs.Instance.{OtherSide, part_of}
use Rattle.rare_inst.specs.declared.fault.InstFault.{InstFault}
use Rattle.rare_inst.specs.declared.part.Part.{Part}
use Rattle.rare_inst.specs.declared.part.Side.TheVariants as side
use Rattle.rare_inst.specs.inner.RuleTrees.{IsRuleTree}
use Rattle.rare_inst.proofs.Contexts.{context_alone, context_is, held_there}
use Rattle.rare_inst.proofs.RuleTreeLemmas.{context_tree}
use Rattle.rare_inst.proofs.Starting.{count, is_instance, is_part, sorts_are}
use Rattle.rare_inst.proofs.instance.context_instance.Goals as goal

pub term_of-requires-clause-part : goal.term_of-requires-clause-part
term_of-requires-clause-part g c =
    let s = g.T.Terms.state c.args.terms.now in
    let t = c.args.rule.now in
    let i = is_instance s t c.args.args.now c.requires.typed c.in_ok-numbers.ensures.arguments c.requires.admitted in
    let right = part_of s.declared t.rule (arguments_of s.trees c.args.args.now) OtherSide t.rule.right in
    let held = c.in_ok-hole.ensures s.trees right c.requires.right in
    is_part s t c.args.args.now _ (c.items.ensures ∙ ap (λ (r : Rule). r.params) c.rule.ensures.rule) refl c.in_ok-numbers.ensures.numbers i c.requires.args
    (held_there s.trees right c.in_ok-hole.hole held) c.in_ok-numbers.ensures.named

pub term_of-requires-clause-sorts : goal.term_of-requires-clause-sorts
term_of-requires-clause-sorts g c =
    let s = g.T.Terms.state c.args.terms.now in
    let t = c.args.rule.now in
    sorts_are s t c.args.args.now (length c.in_ok-numbers.numbers.values) c.items.result.now c.requires.typed (count s t c.args.args.now c.in_ok-numbers.numbers c.in_ok-numbers.ensures.numbers c.requires.count)
    (c.items.ensures ∙ ap (λ (r : Rule). r.params) c.rule.ensures.rule)

pub term_of-requires-clause-tree : goal.term_of-requires-clause-tree
term_of-requires-clause-tree g c =
    let s = g.T.Terms.state c.args.terms.now in
    let t = c.args.rule.now in
    subst (λ (n : ℕ). IsRuleTree n c.args.context.now) (count s t c.args.args.now c.in_ok-numbers.numbers c.in_ok-numbers.ensures.numbers c.requires.count)
    (context_tree t.rule c.requires.typed.form c.args.context.now c.requires.context)

pub term_of-requires-clause-alone : goal.term_of-requires-clause-alone
term_of-requires-clause-alone g c e =
    let s = g.T.Terms.state c.args.terms.now in
    let t = c.args.rule.now in
    let i = is_instance s t c.args.args.now c.requires.typed c.in_ok-numbers.ensures.arguments c.requires.admitted in
    let right = part_of s.declared t.rule (arguments_of s.trees c.args.args.now) OtherSide t.rule.right in
    let held = c.in_ok-hole.ensures s.trees right c.requires.right in
    let p : Part = record {
      params = c.items.result;
      args = c.args.args;
      numbers = record { ref_ptr = c.args.rule.ref_ptr; now = c.in_ok-numbers.numbers };
      side = side.Other;
      hole = c.in_ok-hole.hole;
    } in
    context_alone s t c.args.args.now i c.args.context.now c.requires.context p (c.items.ensures ∙ ap (λ (r : Rule). r.params) c.rule.ensures.rule) refl c.in_ok-numbers.ensures.numbers refl held e

pub returns-clause-made : goal.returns-clause-made
returns-clause-made g c =
    let s = g.T.Terms.state c.args.terms.now in
    let new = g.T.Terms.state c.term_of.new.terms in
    let t = c.args.rule.now in
    let i = is_instance s t c.args.args.now c.requires.typed c.in_ok-numbers.ensures.arguments c.requires.admitted in
    let right = part_of s.declared t.rule (arguments_of s.trees c.args.args.now) OtherSide t.rule.right in
    let held = c.in_ok-hole.ensures s.trees right c.requires.right in
    let p : Part = record {
      params = c.items.result;
      args = c.args.args;
      numbers = record { ref_ptr = c.args.rule.ref_ptr; now = c.in_ok-numbers.numbers };
      side = side.Other;
      hole = c.in_ok-hole.hole;
    } in
    subst (λ (x : Result Tree InstFault). AnswersPart new.trees c.term_of.result x)
    (context_is s t c.args.args.now i c.args.context.now c.requires.context p (c.items.ensures ∙ ap (λ (r : Rule). r.params) c.rule.ensures.rule) refl c.in_ok-numbers.ensures.numbers refl held) c.term_of.ensures.made
