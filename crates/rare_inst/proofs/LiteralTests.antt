-- The literals of a left side, as the code tests them.
use Rattle.std.proofs.Common.{◌≡◌, ℕ, ◌+◌, ◌^◌, ◌<◌, ◌≤◌, ℤ, pos, negsuc, Bool as Test, true, false, ◌&&◌, List, [], ◌∷◌, ◌++◌, length, map, flat_map, drop, get_or, Option, Some, None, refl, sym, ap, ◌∙◌, subst, arith}
use Rattle.std.proofs.lemmas.Bool.{lt-ltb}
use Rattle.std.proofs.Math.Pow.{pow_mono}
use Rattle.std.specs.Prelude.{nat_eq, nat_lt}
use Rattle.std.specs.Ordering.{int_eq}
use Rattle.std.proofs.lemmas.List.{drop_more, drop_all}
use Rattle.rare_linear.specs.Linears.{Part, LinearExpression}
use Rattle.rare_sort.specs.Sameness.{parts_eq}
use Rattle.rare_sort.specs.Trees.{head_of, indices_of, args_of}
use Rattle.rare_sort.specs.declared.head.Head.{Head}
use Rattle.rare_sort.specs.declared.tree.Tree.{Tree}
use Rattle.rare_term.specs.inner.TreeLaws.{node_of}
use Rattle.rare_rule.specs.NodeForms.{all_nodes}
use Rattle.rare_rule.specs.Nodes.{Node, Walk, walk}
use Rattle.rare_rule.proofs.Walks.{walk-node}
use Rattle.rare_inst.specs.Admission.{fits_literal, fits_literals}
use Rattle.rare_inst.specs.Substituting.{Substitution}

-- a value below 2^128 is below each greater power
pub below_wide : (v w : ℕ) → v < 2 ^ 128 → 128 ≤ w → true ≡ nat_lt v (2 ^ w)
below_wide v w small wide = let p = pow_mono wide in sym (lt-ltb v (2 ^ w) (omega (arith, p, small)))

neither : (a b : Test) → false ≡ (a && (b && false))
neither true true = refl
neither true false = refl
neither false b = refl

-- two parts or more are not one
pub more_parts : (ps : List Part) (q : Part) → 2 ≤ length ps → false ≡ parts_eq ps (q ∷ [])
more_parts [] q h = absurd (omega arith)
more_parts (p ∷ []) q h = absurd (omega arith)
more_parts (p ∷ r ∷ ps) q h = neither (nat_eq p.0 q.0) (int_eq p.1 q.1)

-- ---- all literals of a tree

append_all : (test : Node → Test) (xs ys : List Node) → all_nodes test (xs ++ ys) ≡ (all_nodes test xs && all_nodes test ys)
append_all test [] ys = refl
append_all test (x ∷ xs) ys = ap (λ b. test x && b) (append_all test xs ys) ∙ go (test x) (all_nodes test xs) (all_nodes test ys)
  where
    go : (a b c : Test) → (a && (b && c)) ≡ ((a && b) && c)
    go true b c = refl
    go false b c = refl

and_true : (b : Test) → (b && true) ≡ b
and_true true = refl
and_true false = refl

and_false : (b : Test) → (b && false) ≡ false
and_false true = refl
and_false false = refl

module _ (a : Substitution) (k : ℕ) where
  abbrev pub below : Option Head → List Tree → Test
  below p ts = fits_literals a k (flat_map (λ (w : Walk). w.nodes p) (map walk ts))

  walked : (t : Tree) (p : Option Head) → fits_literals a k ((walk t).nodes p) ≡ (below (Some (head_of t)) (args_of t) && fits_literal a k (head_of t) (indices_of t))
  walked t p =
      ap (λ (u : Tree). fits_literals a k ((walk u).nodes p)) (sym (node_of t))
      ∙ ap (λ (w : Walk). fits_literals a k (w.nodes p)) (walk-node (head_of t) (indices_of t) (args_of t))
      ∙ append_all (λ n. fits_literal a k n.head n.indices) (flat_map (λ (w : Walk). w.nodes (Some (head_of t))) (map walk (args_of t))) _
      ∙ ap (λ b. below (Some (head_of t)) (args_of t) && b) (and_true (fits_literal a k (head_of t) (indices_of t)))

  one_more : (p : Option Head) (ts : List Tree) (i : ℕ) (x : Tree) → i < length ts → x ≡ get_or ts i x → below p (drop i ts) ≡ (fits_literals a k ((walk x).nodes p) && below p (drop (i + 1) ts))
  one_more p ts i x lt is =
      ap (below p) (drop_more ts i x lt)
      ∙ append_all (λ n. fits_literal a k n.head n.indices) ((walk (get_or ts i x)).nodes p) (flat_map (λ (w : Walk). w.nodes p) (map walk (drop (i + 1) ts)))
      ∙ ap (λ (u : Tree). fits_literals a k ((walk u).nodes p) && below p (drop (i + 1) ts)) (sym is)

  -- an argument fails
  pub one_fails : (t : Tree) (ts : List Tree) (i : ℕ) (x : Tree) (b : Test) (p : Option Head) → ts ≡ args_of t → i < length ts → x ≡ get_or ts i x → below (Some (head_of t)) ts ≡ below (Some (head_of t)) (drop i ts) →
      b ≡ fits_literals a k ((walk x).nodes (Some (head_of t))) → b ≡ false → false ≡ fits_literals a k ((walk t).nodes p)
  one_fails t ts i x b p are lt is rest here fails =
      let h = Some (head_of t) in
      sym
      (walked t p
      ∙ ap (λ c. c && fits_literal a k (head_of t) (indices_of t))
      (ap (below h) (sym are) ∙ rest ∙ one_more h ts i x lt is ∙ ap (λ c. c && below h (drop (i + 1) ts)) (sym here ∙ fails)))

  -- the arguments pass, and the node decides
  pub node_decides : (t : Tree) (ts : List Tree) (ix : List LinearExpression) (i : ℕ) (p : Option Head) → ts ≡ args_of t → ix ≡ indices_of t → length ts ≤ i → below (Some (head_of t)) ts ≡ below (Some (head_of t)) (drop i ts) →
      fits_literal a k (head_of t) ix ≡ fits_literals a k ((walk t).nodes p)
  node_decides t ts ix i p are same le rest =
      let h = Some (head_of t) in
      sym
      (walked t p
      ∙ ap (λ c. c && fits_literal a k (head_of t) (indices_of t)) (ap (below h) (sym are) ∙ rest ∙ ap (below h) (drop_all i ts le))
      ∙ ap (fits_literal a k (head_of t)) (sym same))
