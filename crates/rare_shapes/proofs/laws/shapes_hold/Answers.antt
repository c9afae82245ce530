use Rattle.rare_shapes.proofs.Shapes.{each_shape_holds}
use Rattle.rare_shapes.proofs.laws.shapes_hold.Goals as goal

pub returns : goal.returns
returns c = each_shape_holds
