use Rattle.std.proofs.Common.{◌<◌, ◌∙◌, [], ◌++◌, sym, length, arith}
use Rattle.rare_sort.specs.declared.head.Head.TheVariants.{True}
use Rattle.rare_sort.specs.Ids.{tree_at}
use Rattle.rare_sort.specs.Trees.{args_of, node}
use Rattle.rare_proof.specs.inner.Compared.{unless_same}
use Rattle.rare_proof.specs.Steps.{equation}
use Rattle.rare_proof.proofs.Comparing.{differing-more}
use Rattle.rare_proof.proofs.rules.cong.differing_arguments.Goals as goal

pub loop-k-preserved : goal.loop-k-preserved
loop-k-preserved g c =
    let ts = (g.T.Terms.state c.args.terms.now).trees in
    let xs = args_of (tree_at ts c.args.sides.left.0) in
    let ys = args_of (tree_at ts c.args.sides.right.0) in
    let lt : c.loop-k.k < length xs = omega arith in
    let pushed = c.in_ok-push_differing.ensures in
    record {
      equations =
          pushed.equations ∙ (λ i. c.loop-k.invariant.equations i ++ unless_same (equation (c.arg-left.ensures.tree i) (c.arg-right.ensures.tree i)))
          ∙ sym (differing-more xs ys c.loop-k.k (node True [] []) c.requires.same lt);
      ids = pushed.ids;
    }
