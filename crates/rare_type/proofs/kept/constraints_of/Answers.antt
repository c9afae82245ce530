use Rattle.std.proofs.Common.{◌≡◌, ◌+◌, ◌++◌, [], ◌∷◌, drop, sym, ap, ◌∙◌}
use Rattle.rare_rule.specs.Params.{rule_lows}
use Rattle.rare_rule.specs.RuleSorting.{at_least_zero, constraints_after}
use Rattle.rare_type.specs.FirstCase.{floors}
use Rattle.rare_type.proofs.Keeping.{dropped, known_step, new_step}
use Rattle.rare_type.proofs.kept.constraints_of.Goals as goal
use Rattle.rare_type.proofs.kept.constraints_of.Goals.{then-is_new+in_ok-floor+in_ok-push, else-is_new}

pub loop-need-preserved : goal.loop-need-preserved
loop-need-preserved c =
    let lows = rule_lows c.args.params.now in
    let kept = c.loop-need.kept in
    let e = c.need-item.result in
    let rest = drop (c.loop-need.need-index + 1) c.args.needs.now in
    let front = c.loop-need.invariant ∙ ap (λ es. kept ++ constraints_after lows (floors kept) es) (dropped c.args.needs.now c.loop-need.need-index e c.need-item.is c.loop-need-test.true) in
    let test = rw c.items.ensures at c.is_new.ensures in
    elim c.if-is_new.branch [
      | then-is_new+in_ok-floor+in_ok-push w ↦
          let now : c.if-is_new.kept ≡ kept ++ at_least_zero e ∷ [] = w.kept-is ∙ w.in_ok-push.ensures.ok ∙ ap (λ x. kept ++ at_least_zero x ∷ []) w.in_ok-floor.ensures in
          front ∙ new_step lows kept e rest (sym test ∙ w.if-is_new.true) ∙ ap (λ k. k ++ constraints_after lows (floors k) rest) (sym now)
      | else-is_new w ↦
          front ∙ ap (λ cs. kept ++ cs) (known_step lows kept e rest (sym test ∙ w.if-is_new.false)) ∙ ap (λ k. k ++ constraints_after lows (floors k) rest) (sym w.kept-is)
    ]
