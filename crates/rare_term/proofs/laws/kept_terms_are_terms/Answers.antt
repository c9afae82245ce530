use Rattle.rare_term.proofs.laws.kept_terms_are_terms.Goals as goal

pub returns : goal.returns
returns g c = (g.met.T.Terms.lawful c.args.terms.now).terms c.args.place c.requires
