use Rattle.rare_cli.proofs.Listing.{numbers_at}
use Rattle.rare_cli.proofs.types.write_constraints.Goals as goal

pub print_constraint-requires-clause-names : goal.print_constraint-requires-clause-names
print_constraint-requires-clause-names c =
    numbers_at c.args.rule.now.params c.args.constraints.now c.loop-constraint.constraint-index c.constraint-item.result c.constraint-item.result c.requires.names c.loop-constraint-test.true c.constraint-item.is
