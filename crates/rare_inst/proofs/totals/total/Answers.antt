use Rattle.std.proofs.Common.{Some, sym, ap, ◌∙◌}
use Rattle.rare_sort.specs.Ids.{trees_at}
use Rattle.rare_inst.proofs.Withins.{total_is, none_is, mixed_is}
use Rattle.rare_inst.proofs.totals.total.Goals as goal
use Rattle.rare_inst.proofs.totals.total.Goals.{in-Some, in-None}

pub returns-then-are_words-clause-value : goal.returns-then-are_words-clause-value
returns-then-are_words-clause-value g c =
    let s = g.T.Terms.state c.args.terms.now in
    total_is s.declared.symbols (trees_at s.trees c.args.ids.now) c.in_ok-sum.sum c.in_ok-sum.ensures.value (sym c.are_words.ensures ∙ c.if-are_words.true)

pub returns-clause-value : goal.returns-clause-value
returns-clause-value g c =
    let s = g.T.Terms.state c.args.terms.now in
    let ts = trees_at s.trees c.args.ids.now in
    elim c.match-sum.branch [
      | in-Some w ↦
          rw w.result-is
          (ap Some w.constant.ensures ∙ mixed_is s.declared.symbols ts c.in_ok-sum.sum c.in_ok-sum.ensures.value (sym c.are_words.ensures ∙ c.if-are_words.false) _ w.in-Some.is)
      | in-None w ↦ rw w.result-is (none_is s.declared.symbols ts c.in_ok-sum.sum c.in_ok-sum.ensures.value w.in-None.is)
    ]
