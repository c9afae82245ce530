use Rattle.rare_shapes.proofs.Totals.{applications_total}
use Rattle.rare_shapes.proofs.laws.applications_have_totals.Goals as goal

pub returns : goal.returns
returns c = applications_total
