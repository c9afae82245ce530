use Rattle.std.proofs.Common.{◌<◌, ◌∙◌, ◌∷◌, [], ◌++◌, ◌+◌, sym, ap, map, drop, length, arith}
use Rattle.rare_check.specs.Checking.{verdicts_with}
use Rattle.rare_text.specs.Stated.{stated_rewrite}
use Rattle.rare_check.proofs.Answering.{verdict_more}
use Rattle.rare_check.proofs.reporting.verdicts_of.Goals as goal

pub loop-k-preserved : goal.loop-k-preserved
loop-k-preserved c = λ ts.
    let rs = c.args.rewrites.now in
    let all = map (stated_rewrite ts) rs in
    let keys = c.args.concluded.now.keys in
    let lt : c.loop-k.k < length rs = omega arith in
    let pushed = c.in_ok-push.ensures.ok ∙ ap (λ v. c.loop-k.verdicts ++ v ∷ []) c.verdict_of.ensures in
    ap (λ vs. vs ++ verdicts_with all keys [] (c.loop-k.k + 1) (map (stated_rewrite ts) (drop (c.loop-k.k + 1) rs))) pushed
    ∙ sym (verdict_more all keys (stated_rewrite ts) rs c.loop-k.k c.loop-k.verdicts lt) ∙ c.loop-k.invariant ts
