use Rattle.std.proofs.Common.{◌≡◌, ◌+◌, ◌≤◌, ap, sym, refl, ◌∙◌, subst, arith, All, length, get_or}
use Rattle.rare_sort.specs.Ids.{trees_at}
use Rattle.rare_term.specs.Refusals.{IsRefusal}
use Rattle.rare_term.specs.inner.Nodes.{trees_of}
use Rattle.rare_term.specs.inner.Keeping.{length_trees_at}
use Rattle.rare_term.proofs.MakeLemmas.{too_many, refusal_told, all_small}
use Rattle.rare_term.proofs.prepared.prepare.Goals as goal

pub returns-then-args-gt-MOST_ARGS-clause-refused : goal.returns-then-args-gt-MOST_ARGS-clause-refused
returns-then-args-gt-MOST_ARGS-clause-refused c =
    too_many c.args.declared.now c.args.head c.args.indices.now _ (rw (length_trees_at (trees_of c.args.nodes.now) c.args.args.now) c.if-args-gt-MOST_ARGS.true)

pub deepest_of-deepest-requires-clause-small : goal.deepest_of-deepest-requires-clause-small
deepest_of-deepest-requires-clause-small c = all_small c.args.nodes.now c.args.sorts.now c.args.declared.now c.requires.kept

pub size_of-total-requires-clause-small : goal.size_of-total-requires-clause-small
size_of-total-requires-clause-small c = all_small c.args.nodes.now c.args.sorts.now c.args.declared.now c.requires.kept

pub returns-in-Err-clause-refused : goal.returns-in-Err-clause-refused
returns-in-Err-clause-refused c =
    let same = refusal_told c.args.nodes.now c.args.sorts.now c.args.declared.now c.requires.kept c.args.head c.args.indices.now c.args.args.now c.requires.ids
    c.deepest_of-deepest.result c.size_of-total.result c.deepest_of-deepest.ensures.greatest c.size_of-total.ensures.sum in
    subst (λ r. IsRefusal r c.in-Err.e) (sym same) c.in-Err.ensures.refusal

pub returns-clause-refused : goal.returns-clause-refused
returns-clause-refused c =
    refusal_told c.args.nodes.now c.args.sorts.now c.args.declared.now c.requires.kept c.args.head c.args.indices.now c.args.args.now c.requires.ids
    c.deepest_of-deepest.result c.size_of-total.result c.deepest_of-deepest.ensures.greatest c.size_of-total.ensures.sum ∙ c.in-Ok.ensures.refusal

pub returns-clause-prepared : goal.returns-clause-prepared
returns-clause-prepared c = record {
  accepted = refusal_told c.args.nodes.now c.args.sorts.now c.args.declared.now c.requires.kept c.args.head c.args.indices.now c.args.args.now c.requires.ids
      c.deepest_of-deepest.result c.size_of-total.result c.deepest_of-deepest.ensures.greatest c.size_of-total.ensures.sum ∙ c.in-Ok.ensures.refusal;
  operator = c.in-Ok-reduced_operator.ensures;
  sort = c.in-Ok.ensures.sort;
  nesting = ap (λ x. 1 + x) c.deepest_of-deepest.ensures.greatest;
  size = ap (λ x. 1 + x) c.size_of-total.ensures.sum;
}

pub judged-requires-clause-ids : goal.judged-requires-clause-ids
judged-requires-clause-ids c k d lt = let e = c.requires.kept.count in let h = c.requires.ids k d lt in omega (arith, e, h)
