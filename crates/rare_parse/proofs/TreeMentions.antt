-- The mentions of a tree by those of its arguments.
use Rattle.std.proofs.Common.{◌≡◌, List, [], ◌∷◌, ◌++◌, map, flat_map, refl, sym, ap, ◌∙◌, append_assoc, append-nil}
use Rattle.std.specs.Prelude.{Option, Some}
use Rattle.rare_sort.specs.Trees.{head_of, args_of}
use Rattle.rare_sort.specs.declared.head.Head.{Head}
use Rattle.rare_sort.specs.declared.tree.Tree.{Tree}
use Rattle.rare_rule.specs.Determination.{Mention, node_mentions}
use Rattle.rare_rule.specs.Nodes.{Node, walk}
use Rattle.rare_rule.specs.declared.param.Param.{Param}
use Rattle.rare_parse.specs.inner.WholeTests.{root_node}
use Rattle.rare_parse.proofs.NodeLemmas.{nodes_out}

module _ (ps : List Param) where
  -- those of an argument
  abbrev pub child_mentions : Head → Tree → List Mention
  child_mentions h t = flat_map (node_mentions ps) ((walk t).nodes (Some h))

  flat_both : (ns ms : List Node) → flat_map (node_mentions ps) (ns ++ ms) ≡ flat_map (node_mentions ps) ns ++ flat_map (node_mentions ps) ms
  flat_both [] ms = refl
  flat_both (n ∷ ns) ms = ap (λ zs. node_mentions ps n ++ zs) (flat_both ns ms) ∙ sym (append_assoc (node_mentions ps n) (flat_map (node_mentions ps) ns) (flat_map (node_mentions ps) ms))

  children : (h : Head) (ts : List Tree) → flat_map (node_mentions ps) (flat_map (λ w. w.nodes (Some h)) (map walk ts)) ≡ flat_map (child_mentions h) ts
  children h [] = refl
  children h (t ∷ ts) = flat_both ((walk t).nodes (Some h)) (flat_map (λ w. w.nodes (Some h)) (map walk ts)) ∙ ap (λ zs. child_mentions h t ++ zs) (children h ts)

  pub mentions_out : (t : Tree) (parent : Option Head) → flat_map (node_mentions ps) ((walk t).nodes parent) ≡ flat_map (child_mentions (head_of t)) (args_of t) ++ node_mentions ps (root_node parent t)
  mentions_out t parent =
      ap (flat_map (node_mentions ps)) (nodes_out t parent)
      ∙ flat_both (flat_map (λ w. w.nodes (Some (head_of t))) (map walk (args_of t))) (root_node parent t ∷ [])
      ∙ ap (λ zs. zs ++ (node_mentions ps (root_node parent t) ++ [])) (children (head_of t) (args_of t))
      ∙ ap (λ zs. flat_map (child_mentions (head_of t)) (args_of t) ++ zs) (append-nil (node_mentions ps (root_node parent t)))
