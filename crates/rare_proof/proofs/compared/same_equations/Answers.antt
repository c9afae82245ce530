use Rattle.rare_proof.proofs.Comparing.{equations_lengths}
use Rattle.rare_proof.proofs.compared.same_equations.Goals as goal

pub returns-then-a-b : goal.returns-then-a-b
returns-then-a-b g c = equations_lengths (g.T.Terms.state c.args.terms.now).trees c.args.a.now c.args.b.now c.if-a-b.true
