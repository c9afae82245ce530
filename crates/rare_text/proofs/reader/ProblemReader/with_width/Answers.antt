use Rattle.std.proofs.Common.{arith}
use Rattle.rare_text.proofs.Holding.{width_held, few_widths}
use Rattle.rare_text.proofs.reader.ProblemReader.with_width.Goals as goal

pub declare_width-requires : goal.declare_width-requires
declare_width-requires g c =
    let few = few_widths (g.T.Terms.state c.args.terms.now).declared c.args.self.problem.scope c.requires.held.counted in
    omega (arith, few, c.len.ensures, c.if-len-ge-MOST_NAMES.false)

pub returns-clause-read : goal.returns-clause-read
returns-clause-read g c =
    let p = c.args.self.problem in
    width_held (g.T.Terms.state c.args.terms.now) p c.requires.held (g.met.T.Terms.lawful c.args.terms.now) (g.T.Terms.state c.declare_width.new.self)
    (record { rewrites = p.rewrites; scope = c.declare.new.self; samples = c.push.new.self }) c.args.name.now c.args.sample c.in-Ok.k c.requires.positive c.in-Ok.ensures.ok c.in-Ok.ensures.number
    (λ i. record { rewrites = p.rewrites; scope = c.in-Ok-declare.ensures.ok i; samples = c.in-Ok-push.ensures.ok i })
