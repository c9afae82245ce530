use Rattle.std.proofs.Common.{[], refl, sym, ◌∙◌, arith}
use Rattle.rare_sexpr.specs.inner.Gaps.{none}
use Rattle.rare_sexpr.proofs.Blanks.{skip_more}
use Rattle.rare_sexpr.proofs.Runs.{run_skipped}
use Rattle.rare_sexpr.proofs.gaps.skip_gap.Goals as goal

pub steps-init : goal.steps-init
steps-init c = record { begin = omega arith; within = c.requires.from; line = omega arith; column = omega arith; passed = []; split = refl; place = refl; passes = none c.args.in_comment }

pub steps-preserved : goal.steps-preserved
steps-preserved c =
    let gap = c.pass_run-gap.result in
    let run = run_skipped c.args.bytes.now c.args.from c.args.place c.args.in_comment c.steps.gap gap c.steps.invariant c.pass_run-gap.ensures in
    skip_more c.args.bytes.now c.args.from c.args.place c.args.in_comment gap.at gap.place gap.in_comment c.in-Some.next c.place_after.result run (omega (arith, run.within, c.if-gap-bytes.false))
    (sym c.gap_step.ensures ∙ c.in-Some.is) c.place_after.ensures

pub returns-then-gap-bytes : goal.returns-then-gap-bytes
returns-then-gap-bytes c = record {
  skipped = run_skipped c.args.bytes.now c.args.from c.args.place c.args.in_comment c.steps.gap c.pass_run-gap.result c.steps.invariant c.pass_run-gap.ensures;
  stops = λ lt. absurd (omega (arith, lt, c.if-gap-bytes.true));
}

pub returns-in-None : goal.returns-in-None
returns-in-None c = record {
  skipped = run_skipped c.args.bytes.now c.args.from c.args.place c.args.in_comment c.steps.gap c.pass_run-gap.result c.steps.invariant c.pass_run-gap.ensures;
  stops = λ lt. sym c.gap_step.ensures ∙ c.in-None.is;
}
