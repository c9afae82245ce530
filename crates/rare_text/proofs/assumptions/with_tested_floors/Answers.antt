use Rattle.std.proofs.Common.{sym, ◌∙◌}
use Rattle.rare_text.specs.Samples.{sample_number}
use Rattle.rare_text.proofs.CommandSteps.{all_hold}
use Rattle.rare_text.proofs.assumptions.with_tested_floors.Goals as goal

pub with_each_floor-requires-clause-hold : goal.with_each_floor-requires-clause-hold
with_each_floor-requires-clause-hold g c =
    all_hold (sample_number c.args.reader.problem.samples) c.args.floors.now (sym c.in-Ok-true.ensures.holds ∙ c.in-Ok-true.field-0-test)
