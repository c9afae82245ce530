use Rattle.std.proofs.Common.{sym, ◌∙◌, subst}
use Rattle.std.specs.Prelude.{IfSome}
use Rattle.rare_linear.specs.Linears.{NamesBelow}
use Rattle.rare_sort.specs.DeclaredSorts.{AreNamed}
use Rattle.rare_inst.proofs.Putting.{put_more, named_more}
use Rattle.rare_inst.proofs.substitution.Numbers.put_all.Goals as goal

pub loop-e-preserved : goal.loop-e-preserved
loop-e-preserved c = record {
  value = λ a stands.
      put_more a c.loop-e.all c.push.new.self c.args.es.now c.loop-e.e-index c.e-item.result c.in-Some.put _ c.loop-e-test.true c.e-item.is
      (sym c.in-Some.is ∙ c.in_ok-put.ensures.value a stands) c.in_ok-push-in-Some.ensures.ok (c.loop-e.invariant.value a stands);
  named = λ n named.
      subst (AreNamed n) (sym c.in_ok-push-in-Some.ensures.ok)
      (named_more n c.loop-e.all c.in-Some.put (c.loop-e.invariant.named n named) (subst (λ o. IfSome o (λ s. NamesBelow n s.parts)) c.in-Some.is (c.in_ok-put.ensures.named n named)));
}
