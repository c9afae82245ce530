use Rattle.std.proofs.Common.{◌≡◌, [], ◌∷◌, ◌++◌, ap, ◌∙◌}
use Rattle.rare_rule.specs.declared.rule.Rule.{Rule}
use Rattle.rare_cli.proofs.Listing.{name_more}
use Rattle.rare_cli.proofs.report.names_of_rules.Goals as goal

pub loop-k-preserved : goal.loop-k-preserved
loop-k-preserved c =
    let name : c.in_ok-copy.field-0 ≡ c.rule.result.now.rule.name = c.in_ok-copy.ensures ∙ ap (λ (r : Rule). r.name) c.rule-in-loop-k.ensures.rule in
    name_more c.args.book.now c.loop-k.k c.rule.result.now c.loop-k.names c.push.new.self c.rule.ensures c.loop-k.invariant
    (c.in_ok-push.ensures.ok ∙ ap (λ x. c.loop-k.names ++ x ∷ []) name)
