use Rattle.std.proofs.Common.{◌≡◌, ap, sym, ◌∙◌, subst, length, slice_get, Some}
use Rattle.rare_sort.specs.Ids.{tree_at, AreIds}
use Rattle.rare_term.specs.inner.Nodes.{node_at, trees_of}
use Rattle.rare_term.specs.inner.Keeping.{head_is, indices_are, args_are, count_args, arg_is, arg_below, length_trees}
use Rattle.rare_term.proofs.MakeLemmas.{place_of}
use Rattle.rare_term.proofs.plain_terms.PlainTerms.head.Goals as goal

pub at-requires : goal.at-requires
at-requires c = rw c.items.ensures (place_of c.args.self.now.nodes c.args.id.0 c.requires)

pub returns : goal.returns
returns c =
    let p = c.args.self.now in let lt = place_of p.nodes c.args.id.0 c.requires in let at = c.at.ensures ∙ ap (λ ns. node_at ns c.args.id.0) c.items.ensures in
    ap (λ n. n.head) at ∙ sym (head_is p.nodes p.kept.nodes c.args.id.0 lt)
