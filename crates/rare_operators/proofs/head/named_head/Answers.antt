use Rattle.std.proofs.Common.{Some, sym, ap, ◌∙◌}
use Rattle.std.proofs.lemmas.Result.{IfOk-weaker}
use Rattle.rare_scope.specs.declared.meaning.Meaning.TheVariants as meaning
use Rattle.rare_scope.proofs.SortSteps.{found_is}
use Rattle.rare_operators.proofs.SymbolLemmas.{free_ready}
use Rattle.rare_operators.proofs.head.named_head.Goals as goal

pub free_head-requires : goal.free_head-requires
free_head-requires g c =
    found_is (g.T.Terms.state c.args.terms.now) c.args.names.now c.text.result.now (meaning.Symbol c.in-Some-Symbol.k) c.requires
    (sym c.in-Some-Symbol.ensures ∙ ap Some c.in-Some-Symbol.field-0-is)

pub returns-in-Some-Symbol-clause-ready : goal.returns-in-Some-Symbol-clause-ready
returns-in-Some-Symbol-clause-ready g c =
    let s = g.T.Terms.state c.args.terms.now in
    let below = found_is s c.args.names.now c.text.result.now (meaning.Symbol c.in-Some-Symbol.k) c.requires (sym c.in-Some-Symbol.ensures ∙ ap Some c.in-Some-Symbol.field-0-is) in
    IfOk-weaker c.free_head.result _ _ (λ a is. free_ready s.declared c.in-Some-Symbol.k below a is) c.free_head.ensures.head
