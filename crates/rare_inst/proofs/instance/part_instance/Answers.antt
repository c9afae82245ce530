use Rattle.std.proofs.Common.{length, refl, ap, ◌∙◌}
use Rattle.rare_rule.specs.declared.rule.Rule.{Rule}
use Rattle.rare_inst.specs.declared.part.Hole.TheVariants as hole
use Rattle.rare_inst.specs.declared.part.Part.{Part}
use Rattle.rare_inst.proofs.Starting.{count, is_instance, is_part, plain_alone, sorts_are}
use Rattle.rare_inst.proofs.instance.part_instance.Goals as goal

pub term_of-requires-clause-part : goal.term_of-requires-clause-part
term_of-requires-clause-part g c =
    let s = g.T.Terms.state c.args.terms.now in
    let t = c.args.rule.now in
    let i = is_instance s t c.args.args.now c.requires.typed c.in_ok-numbers.ensures.arguments c.requires.admitted in
    is_part s t c.args.args.now _ (c.items.ensures ∙ ap (λ (r : Rule). r.params) c.rule.ensures.rule) refl c.in_ok-numbers.ensures.numbers i c.requires.args tt c.in_ok-numbers.ensures.named

pub term_of-requires-clause-sorts : goal.term_of-requires-clause-sorts
term_of-requires-clause-sorts g c =
    let s = g.T.Terms.state c.args.terms.now in
    let t = c.args.rule.now in
    sorts_are s t c.args.args.now (length c.in_ok-numbers.numbers.values) c.items.result.now c.requires.typed (count s t c.args.args.now c.in_ok-numbers.numbers c.in_ok-numbers.ensures.numbers c.requires.count)
    (c.items.ensures ∙ ap (λ (r : Rule). r.params) c.rule.ensures.rule)

pub term_of-requires-clause-alone : goal.term_of-requires-clause-alone
term_of-requires-clause-alone g c e =
    let s = g.T.Terms.state c.args.terms.now in
    let t = c.args.rule.now in
    let i = is_instance s t c.args.args.now c.requires.typed c.in_ok-numbers.ensures.arguments c.requires.admitted in
    let p : Part = record {
      params = c.items.result;
      args = c.args.args;
      numbers = record { ref_ptr = c.args.rule.ref_ptr; now = c.in_ok-numbers.numbers };
      side = c.args.side;
      hole = hole.Nothing;
    } in
    plain_alone s t c.args.args.now p (c.items.ensures ∙ ap (λ (r : Rule). r.params) c.rule.ensures.rule) refl c.in_ok-numbers.ensures.numbers i refl c.args.tree.now c.requires.sort.0 c.requires.sort.1 e
