use Rattle.std.proofs.Common.{◌≡◌, ℕ, drop, slice_get}
use Rattle.rare_rule.specs.Nodes.{nodes_of}
use Rattle.rare_inst.specs.Admission.{first_that_fails, obeys}
use Rattle.rare_inst.specs.Arguments.{arguments_of}
use Rattle.rare_inst.specs.Substituting.{Substitution, number_given}
use Rattle.rare_inst.specs.inner.Sites.{IsPutAt}
use Rattle.rare_inst.proofs.admission.first_missorted.Given as goal

-- what is left decides
abbrev pub invariant-loop-k : goal.invariant-loop-k
invariant-loop-k g l =
    let s = g.T.Terms.state l.terms in
    (a : Substitution) → IsPutAt a l.site →
    let xs = arguments_of s.trees l.site.args.now in
    ((k : ℕ) → a.number k ≡ number_given s.declared.symbols (slice_get xs k)) →
    first_that_fails (λ k p. obeys s.declared (nodes_of l.site.left.now) a k p (slice_get xs k)) 0 l.params
    ≡ first_that_fails (λ k p. obeys s.declared (nodes_of l.site.left.now) a k p (slice_get xs k)) l.k (drop l.k l.params)
