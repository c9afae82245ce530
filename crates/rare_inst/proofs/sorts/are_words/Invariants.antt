use Rattle.std.proofs.Common.{◌≡◌, drop}
use Rattle.std.specs.Prelude.{is_some}
use Rattle.std.specs.List.{list_all}
use Rattle.rare_sort.specs.Ids.{trees_at}
use Rattle.rare_sort.specs.SortOf.{sort_of}
use Rattle.rare_sort.specs.SortRules.{width}
use Rattle.rare_inst.proofs.sorts.are_words.Given as goal

-- what is left decides
abbrev pub invariant-loop-id : goal.invariant-loop-id
invariant-loop-id g l =
    let s = g.T.Terms.state l.terms in
    list_all (λ t. is_some (width (sort_of s.declared.symbols t))) (trees_at s.trees l.ids)
    ≡ list_all (λ t. is_some (width (sort_of s.declared.symbols t))) (trees_at s.trees (drop l.id-index l.ids))
