use Rattle.std.proofs.Common.{◌≡◌, drop}
use Rattle.std.specs.List.{list_all}
use Rattle.rare_sort.specs.Ids.{trees_at}
use Rattle.rare_sort.specs.Sameness.{sort_eq}
use Rattle.rare_sort.specs.SortOf.{sort_of}
use Rattle.rare_inst.proofs.obeying.have_sort.Given as goal

-- what is left decides
abbrev pub invariant-loop-id : goal.invariant-loop-id
invariant-loop-id g l =
    let s = g.T.Terms.state l.terms in
    list_all (λ t. sort_eq (sort_of s.declared.symbols t) l.sort) (trees_at s.trees l.ids)
    ≡ list_all (λ t. sort_eq (sort_of s.declared.symbols t) l.sort) (trees_at s.trees (drop l.id-index l.ids))
