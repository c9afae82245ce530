use Rattle.std.proofs.Common.{arith}
use Rattle.rare_text.proofs.Holding.{symbol_held, few_symbols}
use Rattle.rare_text.proofs.reader.ProblemReader.with_symbol.Goals as goal

pub declare_symbol-requires-clause-few : goal.declare_symbol-requires-clause-few
declare_symbol-requires-clause-few g c =
    let few = few_symbols (g.T.Terms.state c.args.terms.now).declared c.args.self.problem.scope c.requires.held.counted in
    omega (arith, few, c.len.ensures, c.if-len-ge-MOST_NAMES.false)

pub returns-clause-read : goal.returns-clause-read
returns-clause-read g c =
    let p = c.args.self.problem in
    symbol_held (g.T.Terms.state c.args.terms.now) p c.requires.held (g.met.T.Terms.lawful c.args.terms.now) (g.T.Terms.state c.declare_symbol.new.self)
    (record { rewrites = p.rewrites; scope = c.declare.new.self; samples = p.samples }) c.args.name.now c.args.args.now c.args.gives.now c.in-Ok.k c.in-Ok.ensures.ok c.in-Ok.ensures.number
    (λ i. record { rewrites = p.rewrites; scope = c.in-Ok-declare.ensures.ok i; samples = p.samples })
