use Rattle.rare_text.proofs.Holding.{term_held}
use Rattle.rare_text.proofs.reader.ProblemReader.with_term.Goals as goal

pub returns : goal.returns
returns g c =
    let p = c.args.self.problem in
    term_held (g.T.Terms.state c.args.terms.now) p c.requires.held (record { rewrites = p.rewrites; scope = c.define.new.self; samples = p.samples }) c.args.name.now c.args.term c.requires.id
    (λ i. record { rewrites = p.rewrites; scope = c.in-Ok.ensures.ok i; samples = p.samples })
