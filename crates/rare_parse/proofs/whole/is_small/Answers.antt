use Rattle.std.proofs.Common.{sym, ◌∙◌, ap, ◌&&◌, None}
use Rattle.rare_rule.specs.NodeForms.{all_nodes}
use Rattle.rare_rule.specs.Nodes.{walk}
use Rattle.rare_rule.specs.Rules.{MOST_RULE_NODES}
use Rattle.rare_parse.specs.declared.nodes.Asked.TheVariants.{FewLists}
use Rattle.rare_parse.specs.inner.WholeTests.{node_test}
use Rattle.rare_parse.proofs.WholeLemmas.{small_by, yes_le, no_le}
use Rattle.rare_parse.proofs.whole.is_small.Goals as goal

pub returns-then-nodes-le-MOST_RULE_NODES : goal.returns-then-nodes-le-MOST_RULE_NODES
returns-then-nodes-le-MOST_RULE_NODES c =
    let r = c.args.rule.now in
    c.all_pass.ensures ∙ ap (λ ps. all_nodes (node_test FewLists ps) ((walk r.left).nodes None)) c.items.ensures
    ∙ ap (λ b. b && all_nodes (node_test FewLists r.params) ((walk r.left).nodes None)) (sym (yes_le c.args.nodes MOST_RULE_NODES c.if-nodes-le-MOST_RULE_NODES.true)) ∙ small_by r c.requires.sides c.args.nodes c.requires.nodes

pub returns-else-nodes-le-MOST_RULE_NODES : goal.returns-else-nodes-le-MOST_RULE_NODES
returns-else-nodes-le-MOST_RULE_NODES c =
    let r = c.args.rule.now in
    let no = no_le c.args.nodes MOST_RULE_NODES c.if-nodes-le-MOST_RULE_NODES.false in
    no ∙ ap (λ b. b && all_nodes (node_test FewLists r.params) ((walk r.left).nodes None)) (sym no) ∙ small_by r c.requires.sides c.args.nodes c.requires.nodes
