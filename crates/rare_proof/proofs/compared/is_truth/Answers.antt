use Rattle.std.proofs.Common.{◌≡◌, ◌∙◌, ◌&&◌, nat_eq, length, rules}
use Rattle.rare_sort.specs.Ids.{tree_at}
use Rattle.rare_sort.specs.Sameness.{head_eq}
use Rattle.rare_sort.specs.Trees.{head_of, indices_of, args_of}
use Rattle.rare_sort.specs.declared.head.Head.TheVariants.{True}
use Rattle.rare_proof.proofs.Comparing.{truth_same}
use Rattle.rare_proof.proofs.compared.is_truth.Goals as goal

pub returns-then-index_count-eq0 : goal.returns-then-index_count-eq0
returns-then-index_count-eq0 g c =
    let t = tree_at (g.T.Terms.state c.args.terms.now).trees c.args.id.0 in
    let e : nat_eq c.arg_count.result 0 ≡ (head_eq (head_of t) True && (nat_eq (length (indices_of t)) 0 && nat_eq (length (args_of t)) 0)) = search rules in
    e ∙ truth_same t

pub returns-else-index_count-eq0 : goal.returns-else-index_count-eq0
returns-else-index_count-eq0 g c =
    let t = tree_at (g.T.Terms.state c.args.terms.now).trees c.args.id.0 in
    let e : c.if-same_head.value ≡ (head_eq (head_of t) True && (nat_eq (length (indices_of t)) 0 && nat_eq (length (args_of t)) 0)) = search rules in
    e ∙ truth_same t
