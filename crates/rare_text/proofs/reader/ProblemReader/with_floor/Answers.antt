use Rattle.std.proofs.Common.{◌∙◌, ap}
use Rattle.rare_term.specs.State.{one_constraint, under}
use Rattle.rare_text.proofs.Holding.{floor_held}
use Rattle.rare_text.proofs.reader.ProblemReader.with_floor.Goals as goal

pub returns-in-Ok-assume-clause-read : goal.returns-in-Ok-assume-clause-read
returns-in-Ok-assume-clause-read g c =
    let s = g.T.Terms.state c.args.terms.now in
    floor_held s c.args.self.problem c.requires.held (g.T.Terms.state c.assume.new.self) c.args.floor.now
    (c.in-Ok-assume.ensures.ok ∙ ap (λ f. under (one_constraint (record { floor = f })) s) c.in-Ok.ensures) c.requires.holds
