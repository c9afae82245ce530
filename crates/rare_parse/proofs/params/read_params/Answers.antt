use Rattle.std.proofs.Common.{◌≡◌, ◌+◌, List, length, ap, sym, ◌∙◌, subst, rules}
use Rattle.rare_scope.specs.Answers.{Fails}
use Rattle.rare_rule.specs.declared.param.Param.{Param}
use Rattle.rare_parse.specs.ParamText.{param_at, params_at}
use Rattle.rare_parse.specs.inner.ParamReading.{param_read}
use Rattle.rare_parse.proofs.ParamSteps.{param_fails, param_kept, pushed_one, pushed_some}
use Rattle.rare_parse.proofs.params.read_params.Goals as goal

pub returns-in-Err-clause-read : goal.returns-in-Err-clause-read
returns-in-Err-clause-read g c =
    let e = g.E.Expr.tree c.args.e.now in
    let x = g.E.Expr.tree c.item.result.now in
    let n : c.len.result ≡ length c.loop-k.fresh.items = search rules in
    param_fails c.len-count.result c.loop-k.declared c.loop-k.fresh.items e x c.loop-k.k (params_at e) c.item.ensures c.loop-k.invariant.read c.in-Err.fault
    (subst (λ (ps : List Param). Fails c.in-Err.fault (param_at (c.len-count.result + length c.loop-k.fresh.items) ps x)) (c.new.ensures ∙ c.items.ensures)
    (subst (λ n. Fails c.in-Err.fault (param_at (c.len-count.result + n) c.new.result x)) n c.in-Err.ensures))

pub loop-k-preserved : goal.loop-k-preserved
loop-k-preserved g c =
    let e = g.E.Expr.tree c.args.e.now in
    let x = g.E.Expr.tree c.item.result.now in
    let n : c.len.result ≡ length c.loop-k.fresh.items = search rules in
    let read =
    ap (λ n. param_at (c.len-count.result + n) c.loop-k.declared x) (sym n) ∙ ap (λ ps. param_at (c.len-count.result + c.len.result) ps x) (sym (c.new.ensures ∙ c.items.ensures)) ∙ c.in-Ok.ensures in
    rw (c.in-Ok-keep.ensures.declared, c.in-Ok-keep.ensures.fresh) (record {
      read = param_kept c.len-count.result c.loop-k.declared c.loop-k.fresh.items e x c.loop-k.k (params_at e) c.item.ensures c.loop-k.invariant.read (param_read c.in-Ok.read) read;
      declared = pushed_one c.loop-k.declared c.in-Ok.read.param c.loop-k.k c.loop-k.invariant.declared;
      fresh = pushed_some c.loop-k.fresh.items c.in-Ok.read.fresh c.loop-k.k c.loop-k.invariant.fresh;
    })
