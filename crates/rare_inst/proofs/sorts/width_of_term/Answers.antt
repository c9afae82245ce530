use Rattle.std.proofs.Common.{sym, ap, ◌∙◌}
use Rattle.rare_sort.specs.SortOf.{sort_of}
use Rattle.rare_sort.specs.Ids.{tree_at}
use Rattle.rare_sort.specs.SortRules.{width}
use Rattle.rare_sort.proofs.NeedsLemmas.{width_fine}
use Rattle.rare_inst.proofs.sorts.width_of_term.Goals as goal

pub returns-in-Some-clause-named : goal.returns-in-Some-clause-named
returns-in-Some-clause-named g c =
    let s = g.T.Terms.state c.args.terms.now in
    let t = tree_at s.trees c.args.id.0 in
    let kept = (g.met.T.Terms.lawful c.args.terms.now).terms c.args.id.0 c.requires in
    (width_fine s.declared (sort_of s.declared.symbols t) c.in-Some.m.now kept.sort.declared (ap width (sym c.sort.ensures) ∙ sym c.in-Some.ensures.width)).named
