use Rattle.std.proofs.Common.{rules, ◌≡◌, ◌<◌, ◌≤◌, Some, length, sym, ap, ◌∙◌, subst, arith}
use Rattle.std.proofs.Common.{to_z, of_z}
use Rattle.std.specs.Int.{w128}
use Rattle.std.specs.Option.{option_map}
use Rattle.rare_sort.specs.Ids.{tree_at}
use Rattle.rare_sort.specs.Trees.{args_of}
use Rattle.rare_term.specs.Limits.{MOST_ARGS}
use Rattle.rare_eval.specs.Evaluation.{evaluation}
use Rattle.rare_eval.specs.ValueItems.{value_item}
use Rattle.rare_eval.proofs.CycleLemmas.{deeper, below, take_length}
use Rattle.rare_eval.proofs.WalkLemmas.{none_by_index, none_by_argument, unvalued_is_none, loop_some, loop_none, loop_end, seen_more, seen_end}
use Rattle.rare_eval.proofs.evaluation.+values.Goals as goal

pub value-value-requires : goal.value-value-requires
value-value-requires g t c κs within =
    let trees = (g.T.Terms.state c.args.terms.now).trees in
    let lt : c.arguments.k < length (args_of (tree_at trees c.args.id.0)) = subst (λ n. c.arguments.k < n) c.arg_count-k-end.ensures c.arguments-test.true in
    let less = deeper (tree_at trees c.args.id.0) (tree_at trees c.arg.result.0) c.arguments.k c.arg.ensures.tree lt in
    let now = c.decreases in
    (omega (arith, less, now), (search rules, c.arg.ensures.id))

pub value-returns-then-is_unvalued-clause-value : goal.value-returns-then-is_unvalued-clause-value
value-returns-then-is_unvalued-clause-value g t c =
    let s = g.T.Terms.state c.args.terms.now in
    let kept = (g.met.T.Terms.lawful c.args.terms.now).terms c.args.id.0 c.requires in
    unvalued_is_none s (tree_at s.trees c.args.id.0) kept c.head-head.result c.head-head.ensures (sym c.is_unvalued.ensures ∙ c.if-is_unvalued.true)

pub value-returns-in_default-clause-value : goal.value-returns-in_default-clause-value
value-returns-in_default-clause-value g t c =
    none_by_index (tree_at (g.T.Terms.state c.args.terms.now).trees c.args.id.0) 0 (sym c.in_default.ensures)

pub value-returns-in_default-index_number-clause-value : goal.value-returns-in_default-index_number-clause-value
value-returns-in_default-index_number-clause-value g t c =
    none_by_index (tree_at (g.T.Terms.state c.args.terms.now).trees c.args.id.0) 1 (sym c.in_default-index_number.ensures)

pub value-returns-in_default-value-clause-value : goal.value-returns-in_default-value-clause-value
value-returns-in_default-value-clause-value g t c =
    let s = g.T.Terms.state c.args.terms.now in
    let lt = below c.arguments.k c.arg_count-k-end.result _ c.arg_count-k-end.ensures c.arguments-test.true in
    none_by_argument (tree_at s.trees c.args.id.0) c.arguments.k lt (ap evaluation (sym c.arg.ensures.tree) ∙ sym c.in_default-value.ensures.value)

pub value-returns-in_default-next-clause-value : goal.value-returns-in_default-next-clause-value
value-returns-in_default-next-clause-value g t c =
    let s = g.T.Terms.state c.args.terms.now in
    let kept = (g.met.T.Terms.lawful c.args.terms.now).terms c.args.id.0 c.requires in
    let lt = below c.arguments.k c.arg_count-k-end.result _ c.arg_count-k-end.ensures c.arguments-test.true in
    loop_none s (tree_at s.trees c.args.id.0) kept c.head-head.result c.head-head.ensures (sym c.is_unvalued.ensures ∙ c.if-is_unvalued.false)
    (c.is_distinct_of_many.ensures.few c.if-is_distinct_of_many.false) c.arguments.k lt c.arguments.progress c.in-Some-value.v c.arguments.invariant.done
    (ap evaluation (sym c.arg.ensures.tree) ∙ sym c.in-Some-value.ensures.value) c.in_default-next.ensures.step

pub value-arguments-preserved : goal.value-arguments-preserved
value-arguments-preserved g t c =
    let s = g.T.Terms.state c.args.terms.now in
    let kept = (g.met.T.Terms.lawful c.args.terms.now).terms c.args.id.0 c.requires in
    let lt = below c.arguments.k c.arg_count-k-end.result _ c.arg_count-k-end.ensures c.arguments-test.true in
    record {
      done = loop_some s (tree_at s.trees c.args.id.0) kept c.head-head.result c.head-head.ensures (sym c.is_unvalued.ensures ∙ c.if-is_unvalued.false)
          (c.is_distinct_of_many.ensures.few c.if-is_distinct_of_many.false) c.arguments.k lt c.arguments.progress c.in-Some-next.more c.in-Some-value.v c.arguments.invariant.done
          (ap evaluation (sym c.arg.ensures.tree) ∙ sym c.in-Some-value.ensures.value) c.in-Some-next.ensures.step;
      limited = c.in-Some-next.ensures.limited;
    }

pub value-returns-clause-value : goal.value-returns-clause-value
value-returns-clause-value g t c =
    let m = to_z w128 (of_z w128 c.in-Some.first) in
    let n = to_z w128 (of_z w128 c.in-Some-index_number.second) in
    let first : m ≡ c.in-Some.first = search rules in
    let second : n ≡ c.in-Some-index_number.second = search rules in
    let s = g.T.Terms.state c.args.terms.now in
    let kept = (g.met.T.Terms.lawful c.args.terms.now).terms c.args.id.0 c.requires in
    loop_end s (tree_at s.trees c.args.id.0) kept c.head-head.result c.head-head.ensures (sym c.is_unvalued.ensures ∙ c.if-is_unvalued.false)
    (c.is_distinct_of_many.ensures.few c.if-is_distinct_of_many.false) c.arguments.k (subst (λ n. n ≤ c.arguments.k) c.arg_count-k-end.ensures c.arguments-test.false) c.arguments.progress
    c.arguments.invariant.done m n (sym c.in-Some.ensures ∙ ap (λ z. Some z) (sym first)) (sym c.in-Some-index_number.ensures ∙ ap (λ z. Some z) (sym second)) (option_map value_item c.finish.result) c.finish.ensures.value

pub distinct-returns-in_default-clause-value : goal.distinct-returns-in_default-clause-value
distinct-returns-in_default-clause-value g t c =
    let s = g.T.Terms.state c.args.terms.now in
    let lt = below c.arguments.k c.arg_count-k-end.result _ c.arg_count-k-end.ensures c.arguments-test.true in
    none_by_argument (tree_at s.trees c.args.id.0) c.arguments.k lt (ap evaluation (sym c.arg.ensures.tree) ∙ sym c.in_default.ensures.value)

pub distinct-slice_bounds-seen-end : goal.distinct-slice_bounds-seen-end
distinct-slice_bounds-seen-end g t c =
    let s = g.T.Terms.state c.args.terms.now in
    let few = ((g.met.T.Terms.lawful c.args.terms.now).terms c.args.id.0 c.requires.id).few in
    let lt = below c.arguments.k c.arg_count-k-end.result _ c.arg_count-k-end.ensures c.arguments-test.true in
    let long = c.ordinal-number.array_long in
    omega (arith, lt, few, long)

pub distinct-slice_bounds-still_differ-end : goal.distinct-slice_bounds-still_differ-end
distinct-slice_bounds-still_differ-end g t c =
    let few = ((g.met.T.Terms.lawful c.args.terms.now).terms c.args.id.0 c.requires.id).few in
    let lt = below c.arguments.k c.arg_count-k-end.result _ c.arg_count-k-end.ensures c.arguments-test.true in
    let long = c.ordinal-number.array_long in
    take_length c.arguments.k c.arguments.seen (omega (arith, lt, few, long))

pub distinct-offset_bounds-seen-k : goal.distinct-offset_bounds-seen-k
distinct-offset_bounds-seen-k g t c =
    let few = ((g.met.T.Terms.lawful c.args.terms.now).terms c.args.id.0 c.requires.id).few in
    let lt = below c.arguments.k c.arg_count-k-end.result _ c.arg_count-k-end.ensures c.arguments-test.true in
    let small : c.arguments.k < MOST_ARGS = omega (arith, lt, few) in
    omega (arith, small)

pub distinct-bounds-seen-k : goal.distinct-bounds-seen-k
distinct-bounds-seen-k g t c =
    let few = ((g.met.T.Terms.lawful c.args.terms.now).terms c.args.id.0 c.requires.id).few in
    let lt = below c.arguments.k c.arg_count-k-end.result _ c.arg_count-k-end.ensures c.arguments-test.true in
    omega (arith, lt, few)

pub distinct-arguments-preserved : goal.distinct-arguments-preserved
distinct-arguments-preserved g t c =
    let s = g.T.Terms.state c.args.terms.now in
    let kept = (g.met.T.Terms.lawful c.args.terms.now).terms c.args.id.0 c.requires.id in
    let few = kept.few in
    let lt = below c.arguments.k c.arg_count-k-end.result _ c.arg_count-k-end.ensures c.arguments-test.true in
    let long = c.ordinal-number.array_long in
    seen_more s (tree_at s.trees c.args.id.0) kept c.requires.head c.arguments.k lt c.arguments.seen (omega (arith, lt, few, long)) c.arguments.differ c.still_differ-differ.result
    (value_item c.in-Some.v) c.ordinal-number.result c.arguments.invariant (ap evaluation (sym c.arg.ensures.tree) ∙ sym c.in-Some.ensures.value) c.ordinal-number.ensures c.still_differ-differ.ensures

pub distinct-returns-clause-value : goal.distinct-returns-clause-value
distinct-returns-clause-value g t c =
    let s = g.T.Terms.state c.args.terms.now in
    let kept = (g.met.T.Terms.lawful c.args.terms.now).terms c.args.id.0 c.requires.id in
    seen_end s (tree_at s.trees c.args.id.0) kept c.requires.head c.arguments.k (subst (λ n. n ≤ c.arguments.k) c.arg_count-k-end.ensures c.arguments-test.false) c.arguments.seen c.arguments.differ c.arguments.invariant
