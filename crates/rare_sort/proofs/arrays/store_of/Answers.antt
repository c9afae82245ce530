use Rattle.std.proofs.Common.{◌≡◌, ◌&&◌, ap, sym, ◌∙◌, subst, IfOk}
use Rattle.rare_sort.specs.Sameness.{sort_eq}
use Rattle.rare_sort.proofs.RulingLemmas.{store_ruled}
use Rattle.rare_sort.proofs.arrays.store_of.Goals as goal
use Rattle.rare_sort.proofs.arrays.store_of.Goals.{then-is_same_sort, else-is_same_sort}

pub returns-after-is_same_sort : goal.returns-after-is_same_sort
returns-after-is_same_sort c =
    let entry = sort_eq c.args.entry.now c.in-Some.entries.now in
    let met : c.if-is_same_sort.met ≡ (sort_eq c.args.key.now c.in-Some.keys.now && entry) =
    elim c.if-is_same_sort.branch [
      | then-is_same_sort w ↦ w.met-is ∙ w.is_same_sort-met.ensures.test ∙ sym (ap (λ t. t && entry) (sym c.is_same_sort.ensures.test ∙ w.if-is_same_sort.true))
      | else-is_same_sort w ↦ w.met-is ∙ w.if-is_same_sort.false ∙ sym (ap (λ t. t && entry) (sym c.is_same_sort.ensures.test ∙ w.if-is_same_sort.false))
    ] in
    subst (λ x. IfOk c.copy_where.result (λ r. r ≡ x))
    (store_ruled c.args.declared.now c.args.array.now c.args.key.now c.args.entry.now c.in-Some.keys.now c.in-Some.entries.now c.if-is_same_sort.met (sym c.in-Some.ensures.parts) c.requires met)
    c.copy_where.ensures
