use Rattle.std.proofs.Common.{arith}
use Rattle.rare_text.proofs.Holding.{sort_held, few_sorts}
use Rattle.rare_text.proofs.reader.ProblemReader.with_sort.Goals as goal

pub declare_sort-k-requires : goal.declare_sort-k-requires
declare_sort-k-requires g c =
    let few = few_sorts (g.T.Terms.state c.args.terms.now).declared c.args.self.problem.scope c.requires.held.counted in
    omega (arith, few, c.len.ensures, c.if-len-ge-MOST_NAMES.false)

pub returns-clause-read : goal.returns-clause-read
returns-clause-read g c =
    let p = c.args.self.problem in
    sort_held (g.T.Terms.state c.args.terms.now) p c.requires.held (g.T.Terms.state c.declare_sort-k.new.self) (record { rewrites = p.rewrites; scope = c.declare.new.self; samples = p.samples }) c.args.name.now
    c.declare_sort-k.result c.declare_sort-k.ensures.state c.declare_sort-k.ensures.number (λ i. record { rewrites = p.rewrites; scope = c.in-Ok.ensures.ok i; samples = p.samples })
