-- What a list of nodes keeps as it grows.
use Rattle.std.proofs.Common.{◌≡◌, ℕ, zero, suc, ◌+◌, ◌<◌, ◌≤◌, List, [], ◌∷◌, ◌++◌, length, map, get_or, All, sum, refl, ap, sym, ◌∙◌, subst, arith, length-append, below_more, Decides, nat_eq, Some, slice_get}
use Rattle.std.proofs.lemmas.Option.{none-some, same_Some}
use Rattle.std.proofs.lemmas.Bool.Decides.{Decides-eqb}
use Rattle.std.proofs.Math.Seq.{get_or-append_seam}
use Rattle.std.proofs.Math.ListN.{get_or-append}
use Rattle.rare_linear.specs.Linears.{LinearExpression}
use Rattle.rare_sort.specs.declared.head.Head.{Head}
use Rattle.rare_sort.specs.declared.tree.TermId.{TermId}
use Rattle.rare_sort.specs.declared.tree.Tree.{Tree}
use Rattle.rare_term.specs.declared.node.Node.{Node}
use Rattle.rare_sort.specs.Ids.{tree_at, trees_at, AreIds, IsOneToOne}
use Rattle.rare_sort.specs.Trees.{node, nesting, size, greatest, head_of, indices_of, args_of}
use Rattle.rare_term.specs.inner.Nodes.{tree_of, built, trees_of, IsNode, IsAt, node_at, nestings, sizes}
use Rattle.rare_term.specs.inner.TreeLaws.{nesting_node, size_node, head_node, indices_node, args_node}

pub built_push : (ts : List Tree) (ns : List Node) (n : Node) → built ts (ns ++ n ∷ []) ≡ built ts ns ++ tree_of (built ts ns) n ∷ []
built_push ts [] n = refl
built_push ts (m ∷ ms) n = built_push (ts ++ tree_of ts m ∷ []) ms n

length_built : (ts : List Tree) (ns : List Node) → length (built ts ns) ≡ length ts + length ns
length_built ts [] = omega arith
length_built ts (m ∷ ms) = length_built (ts ++ tree_of ts m ∷ []) ms ∙ omega (arith, length-append ts (tree_of ts m ∷ []))

pub length_trees : (ns : List Node) → length (trees_of ns) ≡ length ns
length_trees ns = omega (arith, length_built [] ns)

trees_grown : (ts : List Tree) (t : Tree) (ids : List TermId) → AreIds (length ts) ids → trees_at (ts ++ t ∷ []) ids ≡ trees_at ts ids
trees_grown ts t [] h = refl
trees_grown ts t (id ∷ ids) h =
    let lt : id.0 < length ts = h 0 id (omega arith) in
    ap (λ x. x ∷ trees_at (ts ++ t ∷ []) ids) (get_or-append ts (t ∷ []) _ id.0 lt)
    ∙ ap (λ xs. tree_at ts id.0 ∷ xs) (trees_grown ts t ids (λ k d le. h (suc k) d (omega arith)))

-- ids are told apart by their trees
same_ids : (ts : List Tree) → IsOneToOne ts → (xs ys : List TermId) → AreIds (length ts) xs → AreIds (length ts) ys → trees_at ts xs ≡ trees_at ts ys → xs ≡ ys
same_ids ts one [] [] h k e = refl
same_ids ts one [] (y ∷ ys) h k e = cc
same_ids ts one (x ∷ xs) [] h k e = cc
same_ids ts one (x ∷ xs) (y ∷ ys) h k e =
    let head : tree_at ts x.0 ≡ tree_at ts y.0 = cc in
    let rest : trees_at ts xs ≡ trees_at ts ys = cc in
    let first : x.0 ≡ y.0 = one x.0 y.0 (h 0 x (omega arith)) (k 0 y (omega arith)) head in
    let same : x ≡ y = ap (λ n. record { 0 = n }) first in
    let others : xs ≡ ys = same_ids ts one xs ys (λ j d le. h (suc j) d (omega arith)) (λ j d le. k (suc j) d (omega arith)) rest in
    ap (λ i. i ∷ xs) same ∙ ap (λ is. y ∷ is) others

pub same_id : (x y : TermId) → Decides (nat_eq x.0 y.0) (x ≡ y)
same_id x y = let d = Decides-eqb x.0 y.0 in (λ e. ap (λ n. record { 0 = n }) (d.0 e), λ e. d.1 (ap (λ i. i.0) e))

pub length_trees_at : (ts : List Tree) (ids : List TermId) → length (trees_at ts ids) ≡ length ids
length_trees_at ts [] = refl
length_trees_at ts (id ∷ ids) = omega (arith, length_trees_at ts ids)

module _ (ns : List Node) (kept : (i : ℕ) → i < length ns → IsNode (trees_of ns) i (node_at ns i)) where
  -- the nodes that are kept measure their trees
  nestings_are : (ids : List TermId) → AreIds (length ns) ids → nestings ns ids ≡ map nesting (trees_at (trees_of ns) ids)
  nestings_are [] h = refl
  nestings_are (id ∷ ids) h =
      ap (λ n. n ∷ nestings ns ids) (kept id.0 (h 0 id (omega arith))).deep
      ∙ ap (λ rest. nesting (tree_at (trees_of ns) id.0) ∷ rest) (nestings_are ids (λ k d le. h (suc k) d (omega arith)))

  sizes_are : (ids : List TermId) → AreIds (length ns) ids → sizes ns ids ≡ map size (trees_at (trees_of ns) ids)
  sizes_are [] h = refl
  sizes_are (id ∷ ids) h =
      ap (λ n. n ∷ sizes ns ids) (kept id.0 (h 0 id (omega arith))).large
      ∙ ap (λ rest. size (tree_at (trees_of ns) id.0) ∷ rest) (sizes_are ids (λ k d le. h (suc k) d (omega arith)))

  pub nesting_is : (h : Head) (ix : List LinearExpression) (ids : List TermId) → AreIds (length ns) ids → 1 + greatest (nestings ns ids) ≡ nesting (node h ix (trees_at (trees_of ns) ids))
  nesting_is h ix ids a = ap (λ xs. 1 + greatest xs) (nestings_are ids a) ∙ sym (nesting_node h ix _)

  pub size_is : (h : Head) (ix : List LinearExpression) (ids : List TermId) → AreIds (length ns) ids → 1 + sum (sizes ns ids) ≡ size (node h ix (trees_at (trees_of ns) ids))
  size_is h ix ids a = ap (λ xs. 1 + sum xs) (sizes_are ids a) ∙ sym (size_node h ix _)

  -- the parts of a tree are those of its node
  pub head_is : (i : ℕ) → i < length ns → head_of (tree_at (trees_of ns) i) ≡ (node_at ns i).head
  head_is i lt = let m = node_at ns i in ap head_of (kept i lt).tree ∙ head_node m.head m.indices _

  pub indices_are : (i : ℕ) → i < length ns → indices_of (tree_at (trees_of ns) i) ≡ (node_at ns i).indices
  indices_are i lt = let m = node_at ns i in ap indices_of (kept i lt).tree ∙ indices_node m.head m.indices _

  pub args_are : (i : ℕ) → i < length ns → args_of (tree_at (trees_of ns) i) ≡ trees_at (trees_of ns) (node_at ns i).args
  args_are i lt = let m = node_at ns i in ap args_of (kept i lt).tree ∙ args_node m.head m.indices _

  pub count_args : (i : ℕ) → i < length ns → length (args_of (tree_at (trees_of ns) i)) ≡ length (node_at ns i).args
  count_args i lt = ap length (args_are i lt) ∙ length_trees_at (trees_of ns) (node_at ns i).args

  grown_before : (n : Node) (i : ℕ) → i < length ns → tree_at (trees_of (ns ++ n ∷ [])) i ≡ tree_at (trees_of ns) i
  grown_before n i lt =
      ap (λ ts. tree_at ts i) (built_push [] ns n) ∙ get_or-append (trees_of ns) (tree_of (trees_of ns) n ∷ []) _ i (let e = length_trees ns in omega arith)

  pub grown_last : (n : Node) → tree_at (trees_of (ns ++ n ∷ [])) (length ns) ≡ tree_of (trees_of ns) n
  grown_last n =
      ap (λ ts. tree_at ts (length ns)) (built_push [] ns n)
      ∙ ap (λ k. tree_at (trees_of ns ++ tree_of (trees_of ns) n ∷ []) k) (sym (length_trees ns))
      ∙ get_or-append_seam (trees_of ns) (tree_of (trees_of ns) n) [] _

  at_trees : (ids : List TermId) → AreIds (length ns) ids → AreIds (length (trees_of ns)) ids
  at_trees ids a k d lt = let e = length_trees ns in let h = a k d lt in omega arith

  grown_same : (n m : Node) → AreIds (length ns) m.args → tree_of (trees_of (ns ++ n ∷ [])) m ≡ tree_of (trees_of ns) m
  grown_same n m a = ap (λ ts. node m.head m.indices ts) (ap (λ ts. trees_at ts m.args) (built_push [] ns n) ∙ trees_grown (trees_of ns) (tree_of (trees_of ns) n) m.args (at_trees m.args a))

  push_len : (n : Node) → length (ns ++ n ∷ []) ≡ length ns + 1
  push_len n = omega (arith, length-append ns (n ∷ []))

  pub push_nodes : (n : Node) → AreIds (length ns) n.args →
      n.nesting ≡ nesting (tree_of (trees_of ns) n) → n.size ≡ size (tree_of (trees_of ns) n) →
      (i : ℕ) → i < length (ns ++ n ∷ []) → IsNode (trees_of (ns ++ n ∷ [])) i (node_at (ns ++ n ∷ []) i)
  push_nodes n below deep large i lt =
      below_more (λ k. IsNode (trees_of (ns ++ n ∷ [])) k (node_at (ns ++ n ∷ []) k)) (length ns)
      (λ k h.
      let m = kept k h in
      let P : Node → Type 0 = λ x. IsNode (trees_of (ns ++ n ∷ [])) k x in
      let wide : AreIds (length ns) (node_at ns k).args = λ j d le. let b = m.below j d le in omega arith in
      subst P (sym (get_or-append ns (n ∷ []) _ k h)) (record {
        below = m.below;
        tree = grown_before n k h ∙ m.tree ∙ sym (grown_same n (node_at ns k) wide);
        deep = m.deep ∙ ap nesting (sym (grown_before n k h));
        large = m.large ∙ ap size (sym (grown_before n k h));
      }))
      (let P : Node → Type 0 = λ x. IsNode (trees_of (ns ++ n ∷ [])) (length ns) x in
      subst P (sym (get_or-append_seam ns n [] _)) (record {
        below = below;
        tree = grown_last n ∙ sym (grown_same n n below);
        deep = deep ∙ ap nesting (sym (grown_last n));
        large = large ∙ ap size (sym (grown_last n));
      }))
      i (let e = push_len n in omega arith)

  pub push_one : (n : Node) → IsOneToOne (trees_of ns) → ((i : ℕ) → i < length ns → tree_at (trees_of ns) i ≡ tree_of (trees_of ns) n → ⊥) → IsOneToOne (trees_of (ns ++ n ∷ []))
  push_one n one fresh i j li lj =
      let len : length (trees_of (ns ++ n ∷ [])) ≡ length ns + 1 = length_trees (ns ++ n ∷ []) ∙ push_len n in
      let old = length_trees ns in
      below_more (λ i'. tree_at (trees_of (ns ++ n ∷ [])) i' ≡ tree_at (trees_of (ns ++ n ∷ [])) j → i' ≡ j) (length ns)
      (λ i' hi. below_more (λ j'. tree_at (trees_of (ns ++ n ∷ [])) i' ≡ tree_at (trees_of (ns ++ n ∷ [])) j' → i' ≡ j') (length ns)
      (λ j' hj e. one i' j' (omega arith) (omega arith) (sym (grown_before n i' hi) ∙ e ∙ grown_before n j' hj))
      (λ e. absurd (fresh i' hi (sym (grown_before n i' hi) ∙ e ∙ grown_last n)))
      j (omega arith))
      (below_more (λ j'. tree_at (trees_of (ns ++ n ∷ [])) (length ns) ≡ tree_at (trees_of (ns ++ n ∷ [])) j' → length ns ≡ j') (length ns)
      (λ j' hj e. absurd (fresh j' hj (sym (grown_before n j' hj) ∙ sym e ∙ grown_last n)))
      (λ e. refl)
      j (omega arith))
      i (omega arith)

  -- a fresh node has a tree of its own
  pub fresh_tree : IsOneToOne (trees_of ns) → (n : Node) → AreIds (length ns) n.args →
      ((k : ℕ) → k < length ns → IsAt ns k n.head n.indices n.args → ⊥) → (i : ℕ) → i < length ns → tree_at (trees_of ns) i ≡ tree_of (trees_of ns) n → ⊥
  fresh_tree one n a none i lt e =
      let here = kept i lt in
      let m = node_at ns i in
      let same : tree_of (trees_of ns) m ≡ tree_of (trees_of ns) n = sym here.tree ∙ e in
      let wide : AreIds (length ns) m.args = λ k d le. let b = here.below k d le in omega arith in
      none i lt (record {
        head = sym (head_node m.head m.indices _) ∙ ap head_of same ∙ head_node n.head n.indices _;
        indices = sym (indices_node m.head m.indices _) ∙ ap indices_of same ∙ indices_node n.head n.indices _;
        args = same_ids (trees_of ns) one m.args n.args (at_trees m.args wide) (at_trees n.args a)
            (sym (args_node m.head m.indices _) ∙ ap args_of same ∙ args_node n.head n.indices _);
      })

pub arg_is : (now : List Tree) (ids : List TermId) (k : ℕ) (id : TermId) → slice_get ids k ≡ Some id → tree_at (trees_at now ids) k ≡ tree_at now id.0
arg_is now [] k id e = absurd (none-some id e)
arg_is now (x ∷ xs) zero id e = ap (λ i. tree_at now i.0) (same_Some x id e)
arg_is now (x ∷ xs) (suc k) id e = arg_is now xs k id e

pub arg_below : (n : ℕ) (ids : List TermId) (k : ℕ) (id : TermId) → AreIds n ids → slice_get ids k ≡ Some id → id.0 < n
arg_below n [] k id a e = absurd (none-some id e)
arg_below n (x ∷ xs) zero id a e = let h = a 0 x (omega arith) in let f = ap (λ i. i.0) (same_Some x id e) in omega arith
arg_below n (x ∷ xs) (suc k) id a e = arg_below n xs k id (λ j d le. a (suc j) d (omega arith)) e
