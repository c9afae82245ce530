use Rattle.std.proofs.Common.{◌≡◌, ◌&&◌, drop}
use Rattle.rare_text.specs.Samples.{fit_samples, hold_at_samples}
use Rattle.rare_text.proofs.reader.ProblemReader.hold_at_samples.Given as goal

abbrev pub invariant-loop-floor : goal.invariant-loop-floor
invariant-loop-floor l = record {
  holds : hold_at_samples l.self.problem.samples l.floors ≡ (l.all && hold_at_samples l.self.problem.samples (drop l.floor-index l.floors));
  fit : fit_samples l.self.problem.samples l.floors ≡ fit_samples l.self.problem.samples (drop l.floor-index l.floors);
}
