use Rattle.rare_proof.proofs.Comparing.{terms_same}
use Rattle.rare_proof.proofs.compared.same_term.Goals as goal

pub returns : goal.returns
returns g c = terms_same (g.T.Terms.state c.args.terms.now).trees c.args.a.0 c.args.b.0 (g.met.T.Terms.one_to_one c.args.terms.now) c.requires.a c.requires.b
