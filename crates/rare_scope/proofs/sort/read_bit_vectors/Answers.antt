use Rattle.rare_sort.specs.DeclaredSorts.{widths}
use Rattle.rare_scope.proofs.SortSteps.{widths_below}
use Rattle.rare_scope.proofs.sort.read_bit_vectors.Goals as goal

pub bit_vectors_of-requires : goal.bit_vectors_of-requires
bit_vectors_of-requires g c =
    let s = g.T.Terms.state c.args.terms.now in
    c.in_ok-width.ensures.named (widths s.declared) (widths_below s c.args.scope.now c.requires)
