use Rattle.std.proofs.Common.{◌≡◌, Some, sym, ap, ◌∙◌, option_map}
use Rattle.rare_sexpr.specs.Tree.{text_of}
use Rattle.rare_scope.specs.Names.{found, meant}
use Rattle.rare_scope.specs.declared.meaning.Meaning.TheVariants as meaning
use Rattle.rare_scope.proofs.SortSteps.{found_is, found_meant}
use Rattle.rare_operators.specs.AtomText.{named_term}
use Rattle.rare_operators.proofs.atom.read_symbol.Goals as goal

pub read_constant-requires : goal.read_constant-requires
read_constant-requires g c =
    found_is (g.T.Terms.state c.args.terms.now) c.args.names.now c.text.result.now (meaning.Symbol c.in-Some-Symbol.k) c.requires
    (sym c.in-Some-Symbol.ensures ∙ ap Some c.in-Some-Symbol.field-0-is)

pub returns-in-Some-Term-clause-read : goal.returns-in-Some-Term-clause-read
returns-in-Some-Term-clause-read g c =
    let s = g.T.Terms.state c.args.terms.now in
    let e = g.E.Expr.tree c.args.e.now in
    let held = c.args.names.now in
    let here : found held c.text.result.now ≡ Some (meaning.Term c.in-Some-Term.id) = sym c.in-Some-Term.ensures ∙ ap Some c.in-Some-Term.field-0-is in (
      found_is s held c.text.result.now (meaning.Term c.in-Some-Term.id) c.requires here,
      ap (named_term s.declared e) (found_meant s.trees held (text_of e) ∙ ap (option_map (meant s.trees)) (ap (found held) (sym c.text.ensures) ∙ here)),
    )
