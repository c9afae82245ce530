use Rattle.std.proofs.Common.{All, List, length, sym, subst}
use Rattle.rare_linear.specs.Linears.{LinearExpression, NamesBelow}
use Rattle.rare_scope.specs.Names.{width_names}
use Rattle.rare_scope.proofs.tests.constraint_of.Goals as goal

pub write_linear-requires : goal.write_linear-requires
write_linear-requires c =
    let n = length (width_names c.args.scope.now) in
    let P : LinearExpression → Type 0 = λ f. NamesBelow n f.parts in
    let Q : List LinearExpression → Type 0 = λ fs. All P fs in
    let all : Q c.items-floor-items.result.now = subst Q (sym c.items-floor-items.ensures) (c.in-Ok.ensures.named n c.width_count.ensures.below) in
    subst P (sym c.floor-item.is) (all c.loop-floor.floor-index c.floor-item.result c.loop-floor-test.true)
