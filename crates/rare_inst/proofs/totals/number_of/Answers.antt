use Rattle.rare_inst.proofs.Givens.{list_given, one_given}
use Rattle.rare_inst.proofs.totals.number_of.Goals as goal

pub returns-in-List-clause-argument : goal.returns-in-List-clause-argument
returns-in-List-clause-argument g c =
    list_given (g.T.Terms.state c.args.terms.now) (g.met.T.Terms.lawful c.args.terms.now) c.total.result c.args.arg.now c.items.result.now c.in-List.ids c.in-List.is c.items.ensures c.requires c.total.ensures.normal

pub returns-in-Term-clause-argument : goal.returns-in-Term-clause-argument
returns-in-Term-clause-argument g c =
    one_given (g.T.Terms.state c.args.terms.now) (g.met.T.Terms.lawful c.args.terms.now) c.args.arg.now c.in-Term.field-0 c.in-Term.is c.requires
