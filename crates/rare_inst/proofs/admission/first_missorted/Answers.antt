use Rattle.std.proofs.Common.{◌≡◌, ℕ, arith, ap, sym, ◌∙◌, slice_get, Option}
use Rattle.rare_rule.specs.Nodes.{nodes_of}
use Rattle.rare_rule.specs.declared.param.Param.{Param}
use Rattle.rare_inst.specs.Admission.{obeys}
use Rattle.rare_inst.specs.Arguments.{Argument, arguments_of}
use Rattle.rare_inst.specs.Substituting.{number_given}
use Rattle.rare_inst.proofs.Admitting.{here_fails, here_passes, argument_at}
use Rattle.rare_inst.proofs.admission.first_missorted.Goals as goal

pub returns-then-not-branch-clause-first : goal.returns-then-not-branch-clause-first
returns-then-not-branch-clause-first g c a put numbers =
    let s = g.T.Terms.state c.args.terms.now in
    let xs = arguments_of s.trees c.args.site.now.args.now in
    let test = λ (k : ℕ) (p : Param). obeys s.declared (nodes_of c.args.site.now.left.now) a k p (slice_get xs k) in
    let at = argument_at s.trees c.args.site.now.args.now c.loop-k.k c.index-site-k.result (omega (arith, c.requires.count, c.loop-k-test.true)) in
    here_fails test c.args.params.now c.loop-k.k c.index-params-k.result c.in_ok-obeys.field-0 c.loop-k-test.true c.index-params-k.is
    (c.in_ok-obeys.ensures a put (numbers c.loop-k.k ∙ ap (number_given s.declared.symbols) at)
    ∙ ap (λ (o : Option Argument). obeys s.declared (nodes_of c.args.site.now.left.now) a c.loop-k.k c.index-params-k.result o) (sym at))
    _ (c.loop-k.invariant a put numbers) c.if-not-branch.true

pub loop-k-preserved : goal.loop-k-preserved
loop-k-preserved g c a put numbers =
    let s = g.T.Terms.state c.args.terms.now in
    let xs = arguments_of s.trees c.args.site.now.args.now in
    let test = λ (k : ℕ) (p : Param). obeys s.declared (nodes_of c.args.site.now.left.now) a k p (slice_get xs k) in
    let at = argument_at s.trees c.args.site.now.args.now c.loop-k.k c.index-site-k.result (omega (arith, c.requires.count, c.loop-k-test.true)) in
    here_passes test c.args.params.now c.loop-k.k c.index-params-k.result c.in_ok-obeys.field-0 c.loop-k-test.true c.index-params-k.is
    (c.in_ok-obeys.ensures a put (numbers c.loop-k.k ∙ ap (number_given s.declared.symbols) at)
    ∙ ap (λ (o : Option Argument). obeys s.declared (nodes_of c.args.site.now.left.now) a c.loop-k.k c.index-params-k.result o) (sym at))
    _ (c.loop-k.invariant a put numbers) c.if-not-branch.false
