use Rattle.std.proofs.Common.{rules, ◌≡◌, [], map, None, Ok, Err, subst, sym, ap, ◌∙◌}
use Rattle.std.specs.Option.{option_map}
use Rattle.rare_sort.specs.Trees.{head_of, args_of}
use Rattle.rare_type.specs.FirstCase.{typed_tree}
use Rattle.rare_type.specs.inner.Answering.{AnswersAs, sorting_in, spec_places, args_in}
use Rattle.rare_type.specs.inner.Steps.{args_from, node_by}
use Rattle.rare_type.proofs.Nodes.{typed_by}
use Rattle.rare_type.proofs.Typed.{goes_on, then_err, then_ok}
use Rattle.rare_type.proofs.tree.+terms.Goals as goal

pub type_tree-returns : goal.type_tree-returns
type_tree-returns t c =
    let ps = c.args.params.now in
    let hole = option_map (λ s. s.now) c.args.hole in
    let root = option_map (λ s. s.now) c.args.root in
    let tree = c.args.tree.now in
    let args : args_from [] [] (map (λ u. typed_tree ps hole u None) c.items.result.now) ≡ Ok (args_in c.in_ok-args.args) = c.in_ok-args.ensures in
    let args : args_from [] [] (map (λ u. typed_tree ps hole u None) (args_of tree)) ≡ Ok (args_in c.in_ok-args.args)
    = sym (ap (λ ts. args_from [] [] (map (λ u. typed_tree ps hole u None) ts)) c.items.ensures) ∙ args in
    subst (λ x. AnswersAs sorting_in x c.type_node.result)
    (ap (λ ix. node_by ps hole root (head_of tree) ix (spec_places c.in_ok-args.args.places) c.in_ok-args.args.needs) c.items-indices.ensures
    ∙ sym (typed_by ps hole tree root ∙ then_ok _ _ (args_in c.in_ok-args.args) args))
    c.type_node.ensures

pub type_tree-returns-in_err-args : goal.type_tree-returns-in_err-args
type_tree-returns-in_err-args t c =
    let ps = c.args.params.now in
    let hole = option_map (λ s. s.now) c.args.hole in
    let root = option_map (λ s. s.now) c.args.root in
    let tree = c.args.tree.now in
    let same : c.from_residual.result ≡ Err c.in_err-args.field-0.0 = search rules in
    goes_on args_in sorting_in (args_from [] [] (map (λ u. typed_tree ps hole u None) c.items.result.now)) (typed_tree ps hole tree root) c.in_err-args.field-0.0 c.from_residual.result same
    c.in_err-args.ensures
    (λ k h. typed_by ps hole tree root ∙ then_err _ _ k (sym (ap (λ ts. args_from [] [] (map (λ u. typed_tree ps hole u None) ts)) c.items.ensures) ∙ h))
