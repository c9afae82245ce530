use Rattle.std.proofs.Common.{◌++◌, ◌∙◌, refl, sym, subst, append_assoc, IsTrue, drop, ◌+◌}
use Rattle.std.specs.Prelude.{codes}
use Rattle.rare_scope.proofs.Cutting.{cut_front, cut_behind, cut_here}
use Rattle.rare_rule.specs.ParamForms.{has_sort_over}
use Rattle.rare_rule.specs.declared.param.Param.{Param}
use Rattle.rare_rule_printing.specs.SortPrinting.{params_text}
use Rattle.rare_rule_printing.specs.inner.RulePieces.{declared_rest, declared_text, next_lead}
use Rattle.rare_rule_printing.proofs.ParamNumbers.{param_meets}
use Rattle.rare_rule_printing.proofs.ParamTexts.{params_parts, front_more, front_all}
use Rattle.rare_rule_printing.proofs.Steps.{err_cut, err_last, ok_last, after}
use Rattle.rare_rule_printing.proofs.params.write_params.Goals as goal

pub write_declared-requires : goal.write_declared-requires
write_declared-requires c =
    let ps = c.args.params.now in
    subst (λ (p : Param). IsTrue (has_sort_over ps p.kind)) (sym c.param-item.is) (param_meets (λ p. has_sort_over ps p.kind) ps c.loop-param.param-index c.param-item.result c.requires c.loop-param-test.true)

pub loop-param-init : goal.loop-param-init
loop-param-init c = (codes "(", c.in_ok-push.ensures.ok, params_parts c.args.params.now)

pub returns-in_err-write_declared-clause-err : goal.returns-in_err-write_declared-clause-err
returns-in_err-write_declared-clause-err c =
    let ps = c.args.params.now in
    let lead = c.loop-param.lead.now in
    let p = c.param-item.result in
    let k = c.loop-param.param-index in
    let front = c.loop-param.invariant.0 in
    let new = c.write_declared.new.out in
    let rest = declared_rest ps (next_lead lead p) (drop (k + 1) ps) in
    err_cut c.from_residual-in_err-write_declared.result c.args.out.now (front ++ (declared_text ps lead p ++ rest)) (params_text ps) new
    (sym (append_assoc front (declared_text ps lead p) rest) ∙ front_more ps front lead (next_lead lead p) k p c.loop-param-test.true c.param-item.is refl c.loop-param.invariant.2)
    (cut_behind c.args.out.now front (declared_text ps lead p ++ rest) c.loop-param.out new c.loop-param.invariant.1 (cut_front c.loop-param.out (declared_text ps lead p) rest new c.in_err-write_declared.ensures.err))

pub loop-param-preserved : goal.loop-param-preserved
loop-param-preserved c =
    let ps = c.args.params.now in
    let lead = c.loop-param.lead.now in
    let p = c.param-item.result in
    let k = c.loop-param.param-index in
    let front = c.loop-param.invariant.0 in (
      front ++ declared_text ps lead p,
      after c.args.out.now front (declared_text ps lead p) c.loop-param.out c.write_declared.new.out c.loop-param.invariant.1 c.in_ok-write_declared.ensures.ok,
      front_more ps front lead c.next_lead-lead.result.now k p c.loop-param-test.true c.param-item.is c.next_lead-lead.ensures c.loop-param.invariant.2,
    )

pub returns-clause-ok : goal.returns-clause-ok
returns-clause-ok c =
    let ps = c.args.params.now in
    let front = c.loop-param.invariant.0 in
    let new = c.push-2.new.self in
    ok_last c.push-2.result c.args.out.now (front ++ codes ")") (params_text ps) (codes ")") new c.loop-param.out (front_all ps front c.loop-param.lead.now c.loop-param.param-index c.loop-param-test.false c.loop-param.invariant.2) c.push-2.ensures.ok
    (λ h. after c.args.out.now front (codes ")") c.loop-param.out new c.loop-param.invariant.1 h)

pub returns-clause-err : goal.returns-clause-err
returns-clause-err c =
    let ps = c.args.params.now in
    let front = c.loop-param.invariant.0 in
    let new = c.push-2.new.self in
    err_last c.push-2.result c.args.out.now (front ++ codes ")") (params_text ps) new c.loop-param.out (front_all ps front c.loop-param.lead.now c.loop-param.param-index c.loop-param-test.false c.loop-param.invariant.2) c.push-2.ensures.err
    (λ h. cut_here c.args.out.now front (codes ")") new (h ∙ c.loop-param.invariant.1))
