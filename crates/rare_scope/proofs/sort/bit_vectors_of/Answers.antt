use Rattle.std.proofs.Common.{sym, ◌∙◌}
use Rattle.rare_scope.proofs.SortSteps.{word_nested}
use Rattle.rare_scope.proofs.sort.bit_vectors_of.Goals as goal

pub returns-then-branch-clause-nested : goal.returns-then-branch-clause-nested
returns-then-branch-clause-nested g c =
    word_nested (g.T.Terms.state c.args.terms.now).declared c.flat.result c.args.width c.requires (sym c.in_ok-is_width.ensures.value ∙ c.if-branch.true) c.flat.ensures.sort c.flat.ensures.nesting
