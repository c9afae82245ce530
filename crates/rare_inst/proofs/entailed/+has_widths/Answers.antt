use Rattle.std.proofs.Common.{◌≡◌, ◌&&◌, ap, sym, ◌∙◌}
use Rattle.rare_sort.specs.DeclaredSorts.{all_follow, widths}
use Rattle.rare_sort.specs.SortRules.{width_needs}
use Rattle.rare_sort.specs.declared.sort.Sort.{Sort}
use Rattle.rare_inst.proofs.Admitting.{parts_follow}
use Rattle.rare_inst.proofs.PuttingSorts.{word_named}
use Rattle.rare_inst.proofs.entailed.+has_widths.Goals as goal

pub is_at_least_one-requires : goal.is_at_least_one-requires
is_at_least_one-requires g t c = word_named (widths (g.T.Terms.state c.args.terms.now).declared) c.args.sort.now c.in-BitVec.width c.in-BitVec.is c.requires

pub returns-in_ok-entries-in-Array : goal.returns-in_ok-entries-in-Array
returns-in_ok-entries-in-Array g t c =
    let d = (g.T.Terms.state c.args.terms.now).declared in
    let keys = c.in_ok-keys-in-Array.ensures ∙ ap (λ (s : Sort). all_follow d (width_needs s)) c.get.ensures in
    let entries = c.in_ok-entries-in-Array.ensures ∙ ap (λ (s : Sort). all_follow d (width_needs s)) c.get-in-Array.ensures in
    c.both.ensures ∙ (λ i. keys i && entries i) ∙ parts_follow d c.args.sort.now c.in-Array.keys c.in-Array.entries c.in-Array.is
