use Rattle.std.proofs.Common.{◌≡◌, ℕ, List, length, All, Option, refl, sym, ap, ◌∙◌, subst}
use Rattle.rare_linear.specs.Linears.{NamesBelow}
use Rattle.rare_linear.specs.declared.constraint.Constraint.{Constraint}
use Rattle.rare_rule.specs.Nodes.{nodes_of}
use Rattle.rare_rule.specs.RuleSorting.{Types}
use Rattle.rare_rule.specs.TypedRule.{TypedRule}
use Rattle.rare_rule.specs.declared.param.Param.{Param}
use Rattle.rare_rule.specs.declared.rule.Rule.{Rule}
use Rattle.rare_inst.specs.Admission.{first_that_fails, is_met}
use Rattle.rare_inst.specs.Arguments.{argument_of, arguments_of}
use Rattle.rare_inst.specs.inner.RuleTrees.{IsRuleTree}
use Rattle.rare_inst.specs.inner.Sites.{HasNamedSort}
use Rattle.rare_inst.proofs.AdmitSteps.{standing, is_obeyed, missorted, unentailed, first_missorted, first_unentailed, admitted, is_none, has_sorts}
use Rattle.rare_inst.proofs.RuleTreeLemmas.{left_tree}
use Rattle.rare_inst.proofs.Siting.{length_map, count_is, stands, sorts_named, floors_named}
use Rattle.rare_inst.proofs.admission.admit.Goals as goal

pub first_missorted-requires-clause-sorts : goal.first_missorted-requires-clause-sorts
first_missorted-requires-clause-sorts g c =
    let s = g.T.Terms.state c.args.terms.now in
    let r = c.rule-parts.result.now in
    let count : length r.params ≡ length c.in_ok-numbers.numbers.values =
    ap (λ (q : Rule). length q.params) c.rule-parts.ensures.rule ∙ sym c.requires.count ∙ sym (length_map (argument_of s.trees) c.args.args.now)
    ∙ sym (count_is s.declared.symbols (arguments_of s.trees c.args.args.now) c.in_ok-numbers.numbers c.in_ok-numbers.ensures.numbers) in
    subst (λ (ps : List Param). All (λ p. HasNamedSort (length c.in_ok-numbers.numbers.values) p.kind) ps) (sym c.items.ensures)
    (subst (λ (m : ℕ). All (λ p. HasNamedSort m p.kind) r.params) count (sorts_named r c.rule-parts.ensures.form))

pub first_missorted-requires-clause-left : goal.first_missorted-requires-clause-left
first_missorted-requires-clause-left g c =
    let s = g.T.Terms.state c.args.terms.now in
    let r = c.rule-parts.result.now in
    let count : length r.params ≡ length c.in_ok-numbers.numbers.values =
    ap (λ (q : Rule). length q.params) c.rule-parts.ensures.rule ∙ sym c.requires.count ∙ sym (length_map (argument_of s.trees) c.args.args.now)
    ∙ sym (count_is s.declared.symbols (arguments_of s.trees c.args.args.now) c.in_ok-numbers.numbers c.in_ok-numbers.ensures.numbers) in
    subst (λ (m : ℕ). IsRuleTree m r.left) count (left_tree r c.rule-parts.ensures.form)

pub first_unentailed-requires-clause-floors : goal.first_unentailed-requires-clause-floors
first_unentailed-requires-clause-floors g c =
    let s = g.T.Terms.state c.args.terms.now in
    let r = c.rule-parts.result.now in
    let cs = c.constraints-constraints.result.now in
    let count : length r.params ≡ length c.in_ok-numbers.numbers.values =
    ap (λ (q : Rule). length q.params) c.rule-parts.ensures.rule ∙ sym c.requires.count ∙ sym (length_map (argument_of s.trees) c.args.args.now)
    ∙ sym (count_is s.declared.symbols (arguments_of s.trees c.args.args.now) c.in_ok-numbers.numbers c.in_ok-numbers.ensures.numbers) in
    let typing = subst (λ (q : Rule). Types q cs) (sym c.rule-parts.ensures.rule) c.constraints-constraints.ensures.typing in
    subst (λ (m : ℕ). All (λ x. NamesBelow m x.floor.parts) cs) count (floors_named r cs c.rule-parts.ensures.form typing)

pub returns-in-Some-clause-admitted : goal.returns-in-Some-clause-admitted
returns-in-Some-clause-admitted g c =
    let s = g.T.Terms.state c.args.terms.now in
    let xs = arguments_of s.trees c.args.args.now in
    let t = c.args.rule.now in
    let r = c.rule-parts.result.now in
    let a = standing s.declared t xs in
    let numbers = stands s.declared.symbols xs c.in_ok-numbers.numbers c.in_ok-numbers.ensures.numbers a (λ k. refl) (λ k. refl) in
    let sorts = has_sorts s.declared s.trees t.rule.params c.args.args.now in
    first_missorted s.declared t xs c.in_ok-k.field-0 c.in-Some.k
    (c.in_ok-k.ensures.first a (record { numbers = numbers; sorts = sorts }) (λ k. refl)
    ∙ ap (λ (ps : List Param). first_that_fails (is_obeyed s.declared t xs r) 0 ps) c.items.ensures ∙ ap (missorted s.declared t xs) c.rule-parts.ensures.rule)
    c.in-Some.is

pub returns-in-Some-2-clause-admitted : goal.returns-in-Some-2-clause-admitted
returns-in-Some-2-clause-admitted g c =
    let s = g.T.Terms.state c.args.terms.now in
    let d = s.declared in
    let xs = arguments_of s.trees c.args.args.now in
    let t = c.args.rule.now in
    let r = c.rule-parts.result.now in
    let a = standing d t xs in
    let numbers = stands d.symbols xs c.in_ok-numbers.numbers c.in_ok-numbers.ensures.numbers a (λ k. refl) (λ k. refl) in
    let sorts = has_sorts d s.trees t.rule.params c.args.args.now in
    first_unentailed d t xs c.in_ok-k.field-0 c.in_ok-k-2.field-0 c.in-Some-2.k
    (c.in_ok-k.ensures.first a (record { numbers = numbers; sorts = sorts }) (λ k. refl)
    ∙ ap (λ (ps : List Param). first_that_fails (is_obeyed d t xs r) 0 ps) c.items.ensures ∙ ap (missorted d t xs) c.rule-parts.ensures.rule)
    (is_none c.in_ok-k.field-0 c.in_default.not-Some)
    (c.in_ok-k-2.ensures.first a numbers (nodes_of t.rule.left)
    ∙ ap (λ (cs : List Constraint). first_that_fails (λ k x. is_met d (nodes_of t.rule.left) a x) 0 cs) c.constraints-constraints.ensures.constraints)
    c.in-Some-2.is

pub returns-clause-admitted : goal.returns-clause-admitted
returns-clause-admitted g c =
    let s = g.T.Terms.state c.args.terms.now in
    let d = s.declared in
    let xs = arguments_of s.trees c.args.args.now in
    let t = c.args.rule.now in
    let r = c.rule-parts.result.now in
    let a = standing d t xs in
    let numbers = stands d.symbols xs c.in_ok-numbers.numbers c.in_ok-numbers.ensures.numbers a (λ k. refl) (λ k. refl) in
    let sorts = has_sorts d s.trees t.rule.params c.args.args.now in
    admitted d t xs c.in_ok-k.field-0 c.in_ok-k-2.field-0
    (c.in_ok-k.ensures.first a (record { numbers = numbers; sorts = sorts }) (λ k. refl)
    ∙ ap (λ (ps : List Param). first_that_fails (is_obeyed d t xs r) 0 ps) c.items.ensures ∙ ap (missorted d t xs) c.rule-parts.ensures.rule)
    (is_none c.in_ok-k.field-0 c.in_default.not-Some)
    (c.in_ok-k-2.ensures.first a numbers (nodes_of t.rule.left)
    ∙ ap (λ (cs : List Constraint). first_that_fails (λ k x. is_met d (nodes_of t.rule.left) a x) 0 cs) c.constraints-constraints.ensures.constraints)
    c.in-None.is
