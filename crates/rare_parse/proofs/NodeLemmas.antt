-- Tests of all nodes of a tree.
use Rattle.std.proofs.Common.{◌≡◌, ℕ, ◌+◌, ◌≤◌, Bool, true, false, not, ◌&&◌, List, [], ◌∷◌, ◌++◌, map, flat_map, length, sum, length-append, drop, refl, sym, ap, ◌∙◌, subst, arith}
use Rattle.std.specs.Prelude.{Option, Some, nat_eq, slice_get}
use Rattle.std.proofs.lemmas.List.Sums.{sum_by-cons}
use Rattle.rare_linear.specs.Linears.{LinearExpression}
use Rattle.rare_sort.specs.Each.{Each}
use Rattle.rare_sort.specs.Trees.{node, head_of, indices_of, args_of, size}
use Rattle.rare_sort.specs.declared.head.Head.{Head}
use Rattle.rare_sort.specs.declared.tree.Tree.{Tree, ind-Tree}
use Rattle.rare_term.specs.inner.TreeLaws.{node_of, size_node}
use Rattle.rare_scope.proofs.Listing.{drop_at, drop_all}
use Rattle.rare_rule.specs.NodeForms.{all_nodes, count_one, hole_nodes, is_hole}
use Rattle.rare_rule.specs.Nodes.{Node, walk, walk_step}
use Rattle.rare_rule.proofs.Walks.{walk-node}
use Rattle.rare_parse.specs.inner.WholeTests.{root_node}

one_more : (n : ℕ) → nat_eq (1 + n) 0 ≡ false
one_more n = grind arith

none_more : (n : ℕ) → 0 + n ≡ n
none_more n = omega arith

pub walk_out : (t : Tree) → walk t ≡ walk_step (record { head = head_of t; indices = indices_of t; args = map walk (args_of t) })
walk_out t = ap walk (sym (node_of t)) ∙ walk-node (head_of t) (indices_of t) (args_of t)

root_is : (t : Tree) → (walk t).root ≡ head_of t
root_is t = ap (λ w. w.root) (walk_out t)

roots : (ts : List Tree) → map (λ w. w.root) (map walk ts) ≡ map head_of ts
roots [] = refl
roots (t ∷ ts) = λ i. root_is t i ∷ roots ts i

-- the nodes below a tree's root, and the root
pub nodes_out : (t : Tree) (parent : Option Head) → (walk t).nodes parent ≡ flat_map (λ w. w.nodes (Some (head_of t))) (map walk (args_of t)) ++ root_node parent t ∷ []
nodes_out t parent =
    ap (λ w. w.nodes parent) (walk_out t)
    ∙ ap (λ hs. flat_map (λ w. w.nodes (Some (head_of t))) (map walk (args_of t)) ++ (record { head = head_of t; indices = indices_of t; parent = parent; args = hs } ∷ [])) (roots (args_of t))

module _ (test : Node → Bool) where
  pub all-append : (ns ms : List Node) → all_nodes test (ns ++ ms) ≡ (all_nodes test ns && all_nodes test ms)
  all-append [] ms = refl
  all-append (n ∷ ns) ms = go (test n) (all-append ns ms)
    where
      go : (b : Bool) → all_nodes test (ns ++ ms) ≡ (all_nodes test ns && all_nodes test ms) → (b && all_nodes test (ns ++ ms)) ≡ ((b && all_nodes test ns) && all_nodes test ms)
      go true rest = rest
      go false rest = refl

  -- the nodes of these arguments pass
  abbrev pub all_below : Head → List Tree → Bool
  all_below h [] = true
  all_below h (t ∷ ts) = all_nodes test ((walk t).nodes (Some h)) && all_below h ts

  below_all : (h : Head) (ts : List Tree) → all_nodes test (flat_map (λ w. w.nodes (Some h)) (map walk ts)) ≡ all_below h ts
  below_all h [] = refl
  below_all h (t ∷ ts) = all-append ((walk t).nodes (Some h)) (flat_map (λ w. w.nodes (Some h)) (map walk ts)) ∙ ap (λ b. all_nodes test ((walk t).nodes (Some h)) && b) (below_all h ts)

  and_true : (b : Bool) → (b && true) ≡ b
  and_true true = refl
  and_true false = refl

  pub all_out : (t : Tree) (parent : Option Head) → all_nodes test ((walk t).nodes parent) ≡ (all_below (head_of t) (args_of t) && test (root_node parent t))
  all_out t parent =
      ap (all_nodes test) (nodes_out t parent) ∙ all-append (flat_map (λ w. w.nodes (Some (head_of t))) (map walk (args_of t))) (root_node parent t ∷ [])
      ∙ ap (λ b. all_nodes test (flat_map (λ w. w.nodes (Some (head_of t))) (map walk (args_of t))) && b) (and_true (test (root_node parent t)))
      ∙ ap (λ b. b && test (root_node parent t)) (below_all (head_of t) (args_of t))

-- ---- how many nodes there are

module _ where
  abbrev IsSized : Tree → Type 0
  IsSized t = (parent : Option Head) → length ((walk t).nodes parent) ≡ size t

  sized_below : (h : Head) (ts : List Tree) → Each IsSized ts → length (flat_map (λ w. w.nodes (Some h)) (map walk ts)) ≡ sum (map size ts)
  sized_below h [] all = refl
  sized_below h (t ∷ ts) all =
      length-append ((walk t).nodes (Some h)) (flat_map (λ w. w.nodes (Some h)) (map walk ts))
      ∙ ap (λ n. n + length (flat_map (λ w. w.nodes (Some h)) (map walk ts))) (all.0 (Some h))
      ∙ ap (λ n. size t + n) (sized_below h ts all.1)
      ∙ sym (sum_by-cons (λ m. m) (size t) (map size ts))

  sized_node : (h : Head) (ix : List LinearExpression) (ts : List Tree) → Each IsSized ts → IsSized (node h ix ts)
  sized_node h ix ts all parent =
      let nodes = flat_map (λ w. w.nodes (Some h)) (map walk ts) in
      let root : Node = record { head = h; indices = ix; parent = parent; args = map (λ w. w.root) (map walk ts) } in
      ap (λ w. length (w.nodes parent)) (walk-node h ix ts) ∙ length-append nodes (root ∷ []) ∙ ap (λ n. n + 1) (sized_below h ts all) ∙ omega (arith, size_node h ix ts)

  all_sized : (ts : List ((t : Tree) × IsSized t)) → Each IsSized (map (λ t. t.0) ts)
  all_sized [] = tt
  all_sized (t ∷ ts) = (t.1, all_sized ts)

  pub nodes_sized : (t : Tree) → IsSized t
  nodes_sized = ind-Tree IsSized (λ x y is. sized_node x.head x.indices x.args (subst (λ z. Each IsSized z.args) is (all_sized y.args)))

-- no hole is among them
pub no_holes : (ns : List Node) → nat_eq (hole_nodes ns) 0 ≡ all_nodes (λ n. not (is_hole n.head)) ns
no_holes [] = refl
no_holes (n ∷ ns) = go (is_hole n.head) (no_holes ns)
  where
    go : (b : Bool) → nat_eq (hole_nodes ns) 0 ≡ all_nodes (λ n. not (is_hole n.head)) ns → nat_eq (count_one b + hole_nodes ns) 0 ≡ (not b && all_nodes (λ n. not (is_hole n.head)) ns)
    go true rest = one_more (hole_nodes ns)
    go false rest = ap (λ k. nat_eq k 0) (none_more (hole_nodes ns)) ∙ rest

-- ---- the arguments one after another

module _ (test : Node → Bool) (h : Head) (ts : List Tree) (k : ℕ) (t : Tree) (at : slice_get ts k ≡ Some t) (so : all_below test h (drop k ts) ≡ all_below test h ts) where
  next : all_below test h ts ≡ (all_nodes test ((walk t).nodes (Some h)) && all_below test h (drop (k + 1) ts))
  next = sym so ∙ ap (all_below test h) (drop_at ts k t at)

  pub one_fails : all_nodes test ((walk t).nodes (Some h)) ≡ false → all_below test h ts ≡ false
  one_fails fails = next ∙ ap (λ b. b && all_below test h (drop (k + 1) ts)) fails

  pub one_passes : all_nodes test ((walk t).nodes (Some h)) ≡ true → all_below test h (drop (k + 1) ts) ≡ all_below test h ts
  one_passes passes = sym (next ∙ ap (λ b. b && all_below test h (drop (k + 1) ts)) passes)

pub all_done : (test : Node → Bool) (h : Head) (ts : List Tree) (k : ℕ) → length ts ≤ k → all_below test h (drop k ts) ≡ all_below test h ts → all_below test h ts ≡ true
all_done test h ts k le so = sym so ∙ ap (all_below test h) (drop_all ts k le)
