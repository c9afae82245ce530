use Rattle.std.proofs.Common.{◌∙◌, ◌&&◌, ◌+◌, Bool, drop, sym, ap}
use Rattle.rare_sort.specs.Ids.{tree_at}
use Rattle.rare_sort.specs.Sameness.{linears_eq}
use Rattle.rare_sort.specs.Trees.{indices_of}
use Rattle.rare_proof.proofs.Comparing.{linears_lengths, linears_more}
use Rattle.rare_proof.proofs.compared.same_indices.Goals as goal

pub returns-then-count-index_count : goal.returns-then-count-index_count
returns-then-count-index_count g c =
    let ts = (g.T.Terms.state c.args.terms.now).trees in
    linears_lengths (indices_of (tree_at ts c.args.sides.left.0)) (indices_of (tree_at ts c.args.sides.right.0))
    (λ e. c.if-count-index_count.true (c.index_count-count.ensures ∙ e ∙ sym c.index_count.ensures))

pub returns-then-not-same_index : goal.returns-then-not-same_index
returns-then-not-same_index g c =
    let ts = (g.T.Terms.state c.args.terms.now).trees in
    let xs = indices_of (tree_at ts c.args.sides.left.0) in
    let ys = indices_of (tree_at ts c.args.sides.right.0) in
    let k = c.loop-k.k in
    let rest = linears_eq (drop (k + 1) xs) (drop (k + 1) ys) in
    let at = linears_more xs ys k c.index.result.now c.index-in-loop-k.result.now c.same_index.result c.index.ensures c.index-in-loop-k.ensures c.same_index.ensures in
    sym (ap (λ (b : Bool). b && rest) c.if-not-same_index.true) ∙ sym at ∙ c.loop-k.invariant

pub loop-k-preserved : goal.loop-k-preserved
loop-k-preserved g c =
    let ts = (g.T.Terms.state c.args.terms.now).trees in
    let xs = indices_of (tree_at ts c.args.sides.left.0) in
    let ys = indices_of (tree_at ts c.args.sides.right.0) in
    let k = c.loop-k.k in
    let rest = linears_eq (drop (k + 1) xs) (drop (k + 1) ys) in
    let at = linears_more xs ys k c.index.result.now c.index-in-loop-k.result.now c.same_index.result c.index.ensures c.index-in-loop-k.ensures c.same_index.ensures in
    sym (ap (λ (b : Bool). b && rest) c.if-not-same_index.false) ∙ sym at ∙ c.loop-k.invariant
