use Rattle.rare_text.proofs.Holding.{rewrite_held}
use Rattle.rare_text.proofs.reader.ProblemReader.with_rewrite.Goals as goal

pub returns : goal.returns
returns g c =
    let p = c.args.self.problem in
    rewrite_held (g.T.Terms.state c.args.terms.now) p c.requires.held (record { rewrites = c.push.new.self; scope = p.scope; samples = p.samples }) c.args.rewrite c.requires.left c.requires.right c.requires.sort
    (λ i. record { rewrites = c.in-Ok-push.ensures.ok i; scope = p.scope; samples = p.samples })
