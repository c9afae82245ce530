use Rattle.std.proofs.Common.{◌≡◌, sym, ◌∙◌, arith, length, slice_get}
use Rattle.std.proofs.lemmas.Option.{get_or_from_slice_get}
use Rattle.rare_sort.specs.declared.sort.Sort.{Bool}
use Rattle.rare_term.specs.inner.KeptLaws.{sort_is}
use Rattle.rare_term.proofs.MakeLemmas.{place_of}
use Rattle.rare_term.proofs.plain_terms.PlainTerms.sort.Goals as goal

pub get-requires : goal.get-requires
get-requires c =
    let p = c.args.self.now in let e = p.kept.count in let lt = place_of p.nodes c.args.id.0 c.requires in omega arith

pub returns : goal.returns
returns c =
    let p = c.args.self.now in
    sym (get_or_from_slice_get p.sorts c.args.id.0 c.get.result.now Bool c.get.ensures) ∙ sym (sort_is p.nodes p.sorts p.declared p.kept c.args.id.0 (place_of p.nodes c.args.id.0 c.requires))
