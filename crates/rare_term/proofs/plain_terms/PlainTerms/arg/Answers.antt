use Rattle.std.proofs.Common.{◌≡◌, ap, sym, ◌∙◌, subst, length, slice_get, Some, arith}
use Rattle.rare_sort.specs.Ids.{tree_at, AreIds}
use Rattle.rare_term.specs.inner.Nodes.{node_at, trees_of}
use Rattle.rare_term.specs.inner.Keeping.{head_is, indices_are, args_are, count_args, arg_is, arg_below, length_trees}
use Rattle.rare_term.proofs.MakeLemmas.{place_of}
use Rattle.rare_term.proofs.plain_terms.PlainTerms.arg.Goals as goal

pub at-requires : goal.at-requires
at-requires c = rw c.items.ensures (place_of c.args.self.now.nodes c.args.id.0 c.requires.id)

pub get-requires : goal.get-requires
get-requires c =
    let p = c.args.self.now in let lt = place_of p.nodes c.args.id.0 c.requires.id in let at = c.at.ensures ∙ ap (λ ns. node_at ns c.args.id.0) c.items.ensures in
    rw (ap (λ n. length n.args) at ∙ sym (count_args p.nodes p.kept.nodes c.args.id.0 lt)) c.requires.k

pub returns-clause-id : goal.returns-clause-id
returns-clause-id c =
    let p = c.args.self.now in let lt = place_of p.nodes c.args.id.0 c.requires.id in let at = c.at.ensures ∙ ap (λ ns. node_at ns c.args.id.0) c.items.ensures in
    let below : AreIds c.args.id.0 c.at.result.now.args = rw at (p.kept.nodes c.args.id.0 lt).below in
    let wide : AreIds (length (trees_of p.nodes)) c.at.result.now.args = λ k d le. (let h = below k d le in let e = length_trees p.nodes in omega arith) in
    arg_below _ c.at.result.now.args c.args.k c.get.result.now wide c.get.ensures

pub returns-clause-tree : goal.returns-clause-tree
returns-clause-tree c =
    let p = c.args.self.now in let lt = place_of p.nodes c.args.id.0 c.requires.id in let at = c.at.ensures ∙ ap (λ ns. node_at ns c.args.id.0) c.items.ensures in
    sym (ap (λ ts. tree_at ts c.args.k) (args_are p.nodes p.kept.nodes c.args.id.0 lt) ∙ arg_is (trees_of p.nodes) (node_at p.nodes c.args.id.0).args c.args.k c.get.result.now
    (ap (λ n. slice_get n.args c.args.k) (sym at) ∙ c.get.ensures))
