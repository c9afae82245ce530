-- The tests of sameness decide whether two are one.
use Rattle.std.proofs.Common.{rules, ◌≡◌, ℕ, ℤ, Bool, true, false, ◌&&◌, List, [], ◌∷◌, map, refl, sym, ap, ◌∙◌, subst, Decides, nat_eq, IsTrue, ◌↔◌}
use Rattle.std.specs.Ordering.{int_eq}
use Rattle.std.proofs.lemmas.Bool.Decides.{Decides-eqb, Decides-int_eq}
use Rattle.rare_linear.specs.Linears.{Part, LinearExpression}
use Rattle.rare_sort.specs.declared.sort.Sort.{Sort, ind-Sort}
use Rattle.rare_sort.specs.declared.sort.Sort.TheOpen.{Sort-F}
use Rattle.rare_sort.specs.declared.sort.Sort.TheOpen as shape
use Rattle.rare_sort.specs.declared.sort.Sort.TheViews.{out-Sort, roll-Sort, out-roll-Sort, roll-out-Sort}
use Rattle.rare_sort.specs.declared.sort.Sort.TheFolds.{fold-Sort, fold-roll-Sort, map-Sort}
use Rattle.rare_sort.specs.contracts.head.Head.{enum}
use Rattle.rare_sort.specs.declared.head.Head.{Head}
use Rattle.rare_sort.specs.declared.tree.Tree.{Tree, ind-Tree}
use Rattle.rare_sort.specs.declared.tree.Tree.TheOpen.{Tree-F}
use Rattle.rare_sort.specs.declared.tree.Tree.TheViews.{out-Tree, roll-Tree, out-roll-Tree, roll-out-Tree}
use Rattle.rare_sort.specs.declared.tree.Tree.TheFolds.{fold-roll-Tree}
use Rattle.rare_sort.specs.Trees.{head_of, indices_of, args_of}
use Rattle.rare_sort.specs.Sameness.{parts_eq, linear_eq, linears_eq, sort_eq_step, sort_eq, head_eq, all_pass, tree_eq_step, tree_eq}
use Rattle.rare_sort.specs.SortLaws.{SamenessIsDecided}
use Rattle.rare_sort.proofs.DerivedEquality.{tells_apart, same_is}

both : (b c : Bool) → (b && c) ≡ true → (b ≡ true) × (c ≡ true)
both true c e = (refl, e)
both false c e = cc

and_both : (b c : Bool) → b ≡ true → c ≡ true → (b && c) ≡ true
and_both b c p q = rw (p, q) refl

parts_eq-Decides : (ps qs : List Part) → Decides (parts_eq ps qs) (ps ≡ qs)
parts_eq-Decides [] [] = (λ e. refl, λ e. refl)
parts_eq-Decides [] (q ∷ qs) = (λ e. cc, λ e. cc)
parts_eq-Decides (p ∷ ps) [] = (λ e. cc, λ e. cc)
parts_eq-Decides (p ∷ ps) (q ∷ qs) =
    let n = Decides-eqb p.0 q.0 in
    let c = Decides-int_eq p.1 q.1 in
    let rest = parts_eq-Decides ps qs in (
      λ e.
          let x = both _ _ e in
          let y = both _ _ x.1 in
          let a : p.0 ≡ q.0 = n.0 x.0 in
          let b : p.1 ≡ q.1 = c.0 y.0 in
          let r : ps ≡ qs = rest.0 y.1 in
          λ i. (a i, b i) ∷ r i,
      λ e.
          let first : p ≡ q = cc in
          let others : ps ≡ qs = cc in
          and_both _ _ (n.1 (ap (λ x. x.0) first)) (and_both _ _ (c.1 (ap (λ x. x.1) first)) (rest.1 others)),
    )

pub linear_eq-Decides : (a b : LinearExpression) → Decides (linear_eq a b) (a ≡ b)
linear_eq-Decides a b =
    let c = Decides-int_eq a.constant b.constant in
    let ps = parts_eq-Decides a.parts b.parts in (
      λ e.
          let x = both _ _ e in
          let k : a.constant ≡ b.constant = c.0 x.0 in
          let p : a.parts ≡ b.parts = ps.0 x.1 in
          λ i. record { constant = k i; parts = p i },
      λ e. and_both _ _ (c.1 (ap (λ x. x.constant) e)) (ps.1 (ap (λ x. x.parts) e)),
    )

abbrev IsDecided : Sort → Type 0
IsDecided s = (u : Sort) → Decides (sort_eq s u) (s ≡ u)

abbrev Tested : Type 0
Tested = (s : Sort) × IsDecided s

step_decides : (y : Sort-F Tested) (v : Sort-F Sort) → Decides (sort_eq_step (map-Sort Tested (Sort → Bool) (λ s. sort_eq s.0) y) v) (map-Sort Tested Sort (λ s. s.0) y ≡ v)
step_decides shape.Bool shape.Bool = (λ e. refl, λ e. refl)
step_decides shape.Int shape.Int = (λ e. refl, λ e. refl)
step_decides (shape.BitVec m) (shape.BitVec n) = let d = linear_eq-Decides m n in (λ e. ap shape.BitVec (d.0 e), λ e. d.1 (cc))
step_decides (shape.Named j) (shape.Named k) = let d = Decides-eqb j k in (λ e. ap shape.Named (d.0 e), λ e. d.1 (cc))
step_decides (shape.Array a b) (shape.Array c d) =
    let f = a.1 c in
    let g = b.1 d in (
      λ e. let x = both _ _ e in let p : a.0 ≡ c = f.0 x.0 in let q : b.0 ≡ d = g.0 x.1 in λ i. shape.Array (p i) (q i),
      λ e. let p : a.0 ≡ c = cc in let q : b.0 ≡ d = cc in and_both _ _ (f.1 p) (g.1 q),
    )
step_decides y v = (λ e. cc, λ e. cc)

map_again : (y : Sort-F Tested) → map-Sort Sort (Sort → Bool) sort_eq (map-Sort Tested Sort (λ s. s.0) y) ≡ map-Sort Tested (Sort → Bool) (λ s. sort_eq s.0) y
map_again shape.Bool = refl
map_again shape.Int = refl
map_again (shape.BitVec m) = refl
map_again (shape.Array a b) = refl
map_again (shape.Named k) = refl

at_node : (y : Sort-F Tested) → IsDecided (roll-Sort (map-Sort Tested Sort (λ s. s.0) y))
unfolding sort_eq
at_node y u =
    let x = map-Sort Tested Sort (λ s. s.0) y in
    let test : sort_eq (roll-Sort x) u ≡ sort_eq_step (map-Sort Tested (Sort → Bool) (λ s. sort_eq s.0) y) (out-Sort u)
    = ap (λ p. p u) (fold-roll-Sort (Sort → Bool) (λ s t. sort_eq_step s (out-Sort t)) x) ∙ ap (λ z. sort_eq_step z (out-Sort u)) (map_again y) in
    let d = step_decides y (out-Sort u) in
    (λ e. ap roll-Sort (d.0 (sym test ∙ e)) ∙ roll-out-Sort u, λ e. test ∙ d.1 (sym (out-roll-Sort x) ∙ ap out-Sort e))

-- the test says whether two sorts are one
pub sort_eq-Decides : (s t : Sort) → Decides (sort_eq s t) (s ≡ t)
sort_eq-Decides = ind-Sort IsDecided (λ x y is. subst (λ z. IsDecided (roll-Sort z)) is (at_node y))

-- what decides alike is the same test
pub sort_eq_is : (s t : Sort) (b : Bool) → (IsTrue b ↔ (s ≡ t)) → b ≡ sort_eq s t
sort_eq_is s t b h = go b (sort_eq s t) h (sort_eq-Decides s t)
  where
    go : (b c : Bool) → (IsTrue b ↔ (s ≡ t)) → Decides c (s ≡ t) → b ≡ c
    go true true h d = refl
    go false false h d = refl
    go true false h d = sym (d.1 (h.0 refl))
    go false true h d = h.1 (d.0 refl)

-- ---- operators and trees

pub head_eq-Decides : (h k : Head) → Decides (head_eq h k) (h ≡ k)
unfolding head_eq
head_eq-Decides h k = (λ e. tells_apart enum _ (search rules) h k e, λ e. same_is enum _ refl (search rules) h k e)

pub linears_eq-Decides : (xs ys : List LinearExpression) → Decides (linears_eq xs ys) (xs ≡ ys)
linears_eq-Decides [] [] = (λ e. refl, λ e. refl)
linears_eq-Decides [] (y ∷ ys) = (λ e. cc, λ e. cc)
linears_eq-Decides (x ∷ xs) [] = (λ e. cc, λ e. cc)
linears_eq-Decides (x ∷ xs) (y ∷ ys) =
    let d = linear_eq-Decides x y in
    let rest = linears_eq-Decides xs ys in (
      λ e.
          let p = both _ _ e in
          let first : x ≡ y = d.0 p.0 in
          let others : xs ≡ ys = rest.0 p.1 in
          λ i. first i ∷ others i,
      λ e.
          let first : x ≡ y = cc in
          let others : xs ≡ ys = cc in
          and_both _ _ (d.1 first) (rest.1 others),
    )

abbrev IsTreeDecided : Tree → Type 0
IsTreeDecided t = (u : Tree) → Decides (tree_eq t u) (t ≡ u)

below : (ts : List ((t : Tree) × IsTreeDecided t)) (us : List Tree) → Decides (all_pass (map tree_eq (map (λ t. t.0) ts)) us) (map (λ t. t.0) ts ≡ us)
below [] [] = (λ e. refl, λ e. refl)
below [] (u ∷ us) = (λ e. cc, λ e. cc)
below (t ∷ ts) [] = (λ e. cc, λ e. cc)
below (t ∷ ts) (u ∷ us) =
    let d = t.1 u in
    let rest = below ts us in (
      λ e.
          let p = both _ _ e in
          let first : t.0 ≡ u = d.0 p.0 in
          let others : map (λ x. x.0) ts ≡ us = rest.0 p.1 in
          λ i. first i ∷ others i,
      λ e.
          let first : t.0 ≡ u = cc in
          let others : map (λ x. x.0) ts ≡ us = cc in
          and_both _ _ (d.1 first) (rest.1 others),
    )

at_tree : (x : Tree-F Tree) → ((us : List Tree) → Decides (all_pass (map tree_eq x.args) us) (x.args ≡ us)) → IsTreeDecided (roll-Tree x)
unfolding tree_eq
at_tree x ih u =
    let test : tree_eq (roll-Tree x) u ≡ (head_eq x.head (head_of u) && (linears_eq x.indices (indices_of u) && all_pass (map tree_eq x.args) (args_of u)))
    = ap (λ p. p u) (fold-roll-Tree (Tree → Bool) tree_eq_step x) in
    let d = head_eq-Decides x.head (head_of u) in
    let ix = linears_eq-Decides x.indices (indices_of u) in
    let rest = ih (args_of u) in (
      λ e.
          let p = both _ _ (sym test ∙ e) in
          let q = both _ _ p.1 in
          let h : x.head ≡ head_of u = d.0 p.0 in
          let i : x.indices ≡ indices_of u = ix.0 q.0 in
          let ts : x.args ≡ args_of u = rest.0 q.1 in
          (λ k. roll-Tree (record { head = h k; indices = i k; args = ts k })) ∙ roll-out-Tree u,
      λ e.
          let parts : x ≡ out-Tree u = sym (out-roll-Tree x) ∙ ap out-Tree e in
          test ∙ and_both _ _ (d.1 (ap (λ y. y.head) parts)) (and_both _ _ (ix.1 (ap (λ y. y.indices) parts)) (rest.1 (ap (λ y. y.args) parts))),
    )

pub tree_eq-Decides : (t u : Tree) → Decides (tree_eq t u) (t ≡ u)
tree_eq-Decides = ind-Tree IsTreeDecided (λ x y is. at_tree x (subst (λ z. (us : List Tree) → Decides (all_pass (map tree_eq z.args) us) (z.args ≡ us)) is (below y.args)))

pub is_decided : SamenessIsDecided
is_decided = record { sorts = sort_eq-Decides; operators = head_eq-Decides; trees = tree_eq-Decides }
