use Rattle.std.proofs.Common.{◌≡◌, sym}
use Rattle.rare_inst.specs.Admission.{is_met}
use Rattle.rare_inst.proofs.Admitting.{here_fails, here_passes, none_fails}
use Rattle.rare_inst.proofs.admission.first_unentailed.Goals as goal

pub returns-then-not-branch-clause-first : goal.returns-then-not-branch-clause-first
returns-then-not-branch-clause-first g c a stands left =
    here_fails (λ k x. is_met (g.T.Terms.state c.args.terms.now).declared left a x) c.args.constraints.now c.loop-k.k c.index-constraints-k.result c.in_ok-is_met.field-0 c.loop-k-test.true c.index-constraints-k.is
    (c.in_ok-is_met.ensures a stands left) _ (c.loop-k.invariant a stands left) c.if-not-branch.true

pub loop-k-preserved : goal.loop-k-preserved
loop-k-preserved g c a stands left =
    here_passes (λ k x. is_met (g.T.Terms.state c.args.terms.now).declared left a x) c.args.constraints.now c.loop-k.k c.index-constraints-k.result c.in_ok-is_met.field-0 c.loop-k-test.true c.index-constraints-k.is
    (c.in_ok-is_met.ensures a stands left) _ (c.loop-k.invariant a stands left) c.if-not-branch.false

pub returns-clause-first : goal.returns-clause-first
returns-clause-first g c a stands left =
    none_fails (λ k x. is_met (g.T.Terms.state c.args.terms.now).declared left a x) c.args.constraints.now c.loop-k.k _ (c.loop-k.invariant a stands left) c.loop-k-test.false
