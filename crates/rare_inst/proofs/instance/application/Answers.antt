use Rattle.std.proofs.Common.{List, length, sym, ap, ◌∙◌, subst}
use Rattle.std.specs.Prelude.{IfSome}
use Rattle.rare_linear.specs.Linears.{LinearExpression}
use Rattle.rare_sort.specs.DeclaredSorts.{AreNamed, widths}
use Rattle.rare_sort.specs.Trees.{head_of, indices_of}
use Rattle.rare_term.specs.Literals.{IsGiven}
use Rattle.rare_inst.specs.Collapse.{reduct}
use Rattle.rare_inst.specs.inner.Making.{AnswersReduct, group_at, putting}
use Rattle.rare_inst.specs.inner.Standing.{put_all_within}
use Rattle.rare_inst.proofs.Nodes.{all_put, given_put, made_within}
use Rattle.rare_inst.proofs.RuleTreeLemmas.{rule_here}
use Rattle.rare_inst.proofs.instance.application.Goals as goal

pub put_all-requires : goal.put_all-requires
put_all-requires g c =
    let n = length c.args.part.now.numbers.now.values in
    subst (AreNamed n) (sym c.items.ensures) (rule_here n c.args.tree.now c.requires.tree).names

pub reduct-requires-clause-names : goal.reduct-requires-clause-names
reduct-requires-clause-names g c =
    let n = widths (g.T.Terms.state c.args.terms.now).declared in
    subst (AreNamed n) (sym c.items-in-Some.ensures) (subst (λ o. IfSome o (AreNamed n)) c.in-Some.is (c.in_ok-indices.ensures.named n c.requires.part.named))

pub reduct-requires-clause-bits : goal.reduct-requires-clause-bits
reduct-requires-clause-bits g c =
    let s = g.T.Terms.state c.args.terms.now in
    let a = putting s c.args.part.now in
    let t = c.args.tree.now in
    let put = all_put a (indices_of t) c.in-Some.indices (sym c.in-Some.is ∙ c.in_ok-indices.ensures.value a c.requires.part.numbers ∙ ap (put_all_within a) c.items.ensures) in
    subst (IsGiven (head_of t)) (sym (c.items-in-Some.ensures ∙ put.1)) (given_put a (head_of t) (indices_of t) (rule_here (length c.args.part.now.numbers.now.values) t c.requires.tree).given)

pub returns-in-Some-clause-made : goal.returns-in-Some-clause-made
returns-in-Some-clause-made g c =
    let s = g.T.Terms.state c.args.terms.now in
    let new = g.T.Terms.state c.reduct.new.terms in
    let a = putting s c.args.part.now in
    let t = c.args.tree.now in
    let put = all_put a (indices_of t) c.in-Some.indices (sym c.in-Some.is ∙ c.in_ok-indices.ensures.value a c.requires.part.numbers ∙ ap (put_all_within a) c.items.ensures) in
    made_within s c.args.part.now t c.args.ids.now new.trees c.reduct.result put.0
    (subst (λ (ix : List LinearExpression). AnswersReduct s.declared new.trees (reduct (head_of t) ix (group_at s c.args.part.now t c.args.ids.now)) c.reduct.result) (c.items-in-Some.ensures ∙ put.1) c.reduct.ensures.made)
