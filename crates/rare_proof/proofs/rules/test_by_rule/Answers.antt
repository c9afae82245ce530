use Rattle.std.proofs.Common.{sym, subst}
use Rattle.rare_sort.specs.Ids.{tree_at}
use Rattle.rare_proof.specs.declared.step.StepRule.{StepRule}
use Rattle.rare_proof.specs.Proofs.{Judges, stated_rule}
use Rattle.rare_proof.specs.Sided.{equations_of}
use Rattle.rare_proof.specs.Steps.{conditions, first_failing}
use Rattle.rare_proof.proofs.rules.test_by_rule.Goals as goal

pub returns-in-Refl-clause-judged : goal.returns-in-Refl-clause-judged
returns-in-Refl-clause-judged g c =
    let s = g.T.Terms.state c.args.terms.now in
    let P : StepRule → Type 0 =
    λ r. Judges (first_failing (conditions s.declared c.args.book.now (stated_rule s.trees r) (tree_at s.trees c.args.sides.left.0) (tree_at s.trees c.args.sides.right.0)
    (equations_of s.trees c.args.premises.now))) c.test.result in
    subst P (sym c.in-Refl.is) (c.test.ensures s.declared c.args.book.now)

pub returns-in-Cong-clause-judged : goal.returns-in-Cong-clause-judged
returns-in-Cong-clause-judged g c =
    let s = g.T.Terms.state c.args.terms.now in
    let P : StepRule → Type 0 =
    λ r. Judges (first_failing (conditions s.declared c.args.book.now (stated_rule s.trees r) (tree_at s.trees c.args.sides.left.0) (tree_at s.trees c.args.sides.right.0)
    (equations_of s.trees c.args.premises.now))) c.test-in-Cong.result in
    subst P (sym c.in-Cong.is) (c.test-in-Cong.ensures s.declared c.args.book.now)

pub returns-in-Trans-clause-judged : goal.returns-in-Trans-clause-judged
returns-in-Trans-clause-judged g c =
    let s = g.T.Terms.state c.args.terms.now in
    let P : StepRule → Type 0 =
    λ r. Judges (first_failing (conditions s.declared c.args.book.now (stated_rule s.trees r) (tree_at s.trees c.args.sides.left.0) (tree_at s.trees c.args.sides.right.0)
    (equations_of s.trees c.args.premises.now))) c.test-in-Trans.result in
    subst P (sym c.in-Trans.is) (c.test-in-Trans.ensures s.declared c.args.book.now)

pub returns-in-Evaluate-clause-judged : goal.returns-in-Evaluate-clause-judged
returns-in-Evaluate-clause-judged g c =
    let s = g.T.Terms.state c.args.terms.now in
    let P : StepRule → Type 0 =
    λ r. Judges (first_failing (conditions s.declared c.args.book.now (stated_rule s.trees r) (tree_at s.trees c.args.sides.left.0) (tree_at s.trees c.args.sides.right.0)
    (equations_of s.trees c.args.premises.now))) c.test-in-Evaluate.result in
    subst P (sym c.in-Evaluate.is) (c.test-in-Evaluate.ensures s.declared c.args.book.now)
