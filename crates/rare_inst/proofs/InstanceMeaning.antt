-- An instance means what the rule means in the setting that its arguments give.
use Rattle.std.proofs.Common.{◌≡◌, ℕ, suc, ◌-◌, ◌^◌, ◌%◌, List, [], ◌∷◌, ◌++◌, map, flat_map, length, refl, sym, ap, ◌∙◌, subst, arith}
use Rattle.std.proofs.lemmas.Grind.{flat_map-append}
use Rattle.std.proofs.lemmas.List.Folds.{flat_map-map}
use Rattle.std.proofs.Math.Nat.{zero-mod}
use Rattle.std.specs.Prelude.{ℤ, pos, negsuc, ◌+ℤ◌}
use Rattle.rare_bits.specs.Bits.{modulo}
use Rattle.rare_linear.specs.Linears.{LinearExpression, linear_value, number, substitute}
use Rattle.rare_linear.proofs.LinearLemmas.{value-substitute}
use Rattle.rare_sort.specs.declared.head.Head.{Head}
use Rattle.rare_sort.specs.declared.head.Head.TheVariants as head
use Rattle.rare_sort.specs.declared.sort.Sort.{Sort, Bool, Int, BitVec, Array', Named}
use Rattle.rare_sort.specs.declared.tree.Tree.{Tree, Tree-F, roll-Tree, fold-roll-Tree, ind-Tree}
use Rattle.rare_meaning.specs.ClosedSorts.{to_nat}
use Rattle.rare_meaning.specs.Interpretations.{HasNoList}
use Rattle.rare_meaning.specs.Meaning.{applied, here, meaning}
use Rattle.rare_meaning.specs.Operators.{bits}
use Rattle.rare_meaning.specs.Settings.{Item, Group, Setting, group_of, one, sort_in}
use Rattle.rare_meaning.specs.Splicing.{joined, first_element}
use Rattle.rare_meaning.specs.Values.{ClosedSort, Truths, width_of}
use Rattle.rare_meaning.proofs.MeaningLemmas.{meaning-node}
use Rattle.rare_meaning.proofs.RewriteLemmas.{one_item}
use Rattle.rare_inst.specs.Substituting.{TreeGroup, Substitution, one_tree}
use Rattle.rare_inst.specs.Collapse.{Applied, first_sort, spliced, width_or_zero, literal_reduct, neutral, collapsed, reduct_tree}
use Rattle.rare_inst.specs.Instance.{put_node, instance_step, instance}
use Rattle.rare_inst.specs.Induced.{group_meaning, induced}
use Rattle.rare_inst.proofs.Reducing.{meaning-application}

width-sort_in : (e : Setting) (s : Sort) → to_nat (linear_value e.number (width_or_zero s)) ≡ width_of (sort_in e s)
width-sort_in e Bool = refl
width-sort_in e Int = refl
width-sort_in e (BitVec w) = refl
width-sort_in e (Array' p x q y) = refl
width-sort_in e (Named k) = refl

module _ (e : Setting) where
  -- what a term that stands alone means
  abbrev Means : Tree → Group
  Means t = group_meaning e (one_tree t)

  means_one : (t : Tree) (i : Item) → meaning e t ≡ one i → one i ≡ Means t
  means_one t i q = sym (ap (λ m. group_of Truths (m.items ++ [])) q)

  first-map : (gs : List TreeGroup) → first_element (map (group_meaning e) gs) ≡ sort_in e (first_sort gs)
  first-map [] = refl
  first-map (g ∷ gs) = refl

  items-spliced : (gs : List TreeGroup) → flat_map (λ g. g.items) (map (group_meaning e) gs) ≡ flat_map (λ t. (meaning e t).items) (flat_map (λ g. g.trees) gs)
  items-spliced [] = refl
  items-spliced (g ∷ gs) =
      ap (λ r. flat_map (λ t. (meaning e t).items) g.trees ++ r) (items-spliced gs) ∙ sym (flat_map-append (λ t. (meaning e t).items) g.trees (flat_map (λ g. g.trees) gs))

  pub joined-spliced : (gs : List TreeGroup) → joined (map (group_meaning e) gs) ≡ group_meaning e (spliced gs)
  joined-spliced gs = λ i. group_of (first-map gs i) (items-spliced gs i)

  items_are : (ts : List Tree) → flat_map (λ g. g.items) (map (meaning e) ts) ≡ flat_map (λ t. (meaning e t).items) ts
  items_are ts = flat_map-map (λ g. g.items) (meaning e) ts

  as_node : (h : Head) (ix : List LinearExpression) (ts : List Tree) (i : Item) →
      here e h (map (linear_value e.number) ix) (joined (map (meaning e) ts)) ≡ one i → one i ≡ Means (reduct_tree (Applied h ix ts))
  as_node h ix ts i q = means_one (reduct_tree (Applied h ix ts)) i (meaning-application e h ix ts ∙ meaning-node e h ix ts ∙ q)

  as_nullary : (h : Head) (ix : List LinearExpression) (i : Item) → here e h (map (linear_value e.number) ix) (joined []) ≡ one i → meaning e (reduct_tree (Applied h ix [])) ≡ one i
  as_nullary h ix i q = meaning-application e h ix [] ∙ meaning-node e h ix [] ∙ q

  module _ (p : HasNoList e) where
    -- collapse, for every operator among whose arguments lists are spliced in
    collapse : (h : Head) (ix : List LinearExpression) (F : Group → Item) (c : ClosedSort) (s : Sort) →
        meaning e (reduct_tree (neutral h s)) ≡ one (F (group_of c [])) →
        ((i : Item) → F (group_of c (i ∷ [])) ≡ i) →
        ((i : Item) (js : List Item) (d : ClosedSort) → F (group_of d (i ∷ js)) ≡ F (group_of c (i ∷ js))) →
        ((g : Group) → here e h (map (linear_value e.number) ix) g ≡ one (F g)) →
        (ts : List Tree) →
        one (F (group_of c (flat_map (λ t. (meaning e t).items) ts))) ≡ Means (reduct_tree (collapsed h ix s ts))
    collapse h ix F c s none single lead_only is [] = means_one (reduct_tree (neutral h s)) (F (group_of c [])) none
    collapse h ix F c s none single lead_only is (t ∷ []) =
        let q = one_item e p t in
        ap (λ m. one (F (group_of c (m.items ++ [])))) q.1 ∙ ap one (single q.0) ∙ means_one t q.0 q.1
    collapse h ix F c s none single lead_only is (t ∷ u ∷ us) =
        let q = one_item e p t in
        let ts = t ∷ u ∷ us in
        let rest = flat_map (λ x. (meaning e x).items) (u ∷ us) in
        let d = (meaning e t).element in
        as_node h ix ts (F (group_of c (flat_map (λ x. (meaning e x).items) ts)))
        (is (joined (map (meaning e) ts))
        ∙ ap (λ js. one (F (group_of d js))) (items_are ts)
        ∙ ap one (ap (λ m. F (group_of d (m.items ++ rest))) q.1 ∙ lead_only q.0 rest d ∙ sym (ap (λ m. F (group_of c (m.items ++ rest))) q.1)))

    none_word : (k : ℤ) (f : ℕ → ℕ) → ((n : ℕ) → modulo (k +ℤ pos 0) (2 ^ n) ≡ f n) → (s : Sort) →
        meaning e (reduct_tree (literal_reduct k s)) ≡ one (bits (width_of (sort_in e s)) (f (width_of (sort_in e s))))
    none_word k f is s =
        as_nullary head.Literal (number k ∷ width_or_zero s ∷ []) (bits (width_of (sort_in e s)) (f (width_of (sort_in e s))))
        (ap (λ n. one (bits n (modulo (k +ℤ pos 0) (2 ^ n)))) (width-sort_in e s)
        ∙ ap (λ a. one (bits (width_of (sort_in e s)) a)) (is (width_of (sort_in e s))))

    zero_mod : (n : ℕ) → 0 % 2 ^ n ≡ 0
    zero_mod n = zero-mod (2 ^ n)

    minus_one_mod : (n : ℕ) → 2 ^ n - 1 - 0 % 2 ^ n ≡ 2 ^ n - 1
    minus_one_mod n = omega (arith, zero-mod (2 ^ n))

    module _ (a : Substitution) where
      abbrev IsPlaced : Head → Type 0
      IsPlaced h = (ix : List LinearExpression) (g : TreeGroup) → here (induced e a) h (map (linear_value e.number) ix) (group_meaning e g) ≡ group_meaning e (put_node a h ix g)

      here_placed : (h : Head) → IsPlaced h
      here_placed (head.Param k) ix g = refl
      here_placed head.Hole ix g = refl
      here_placed head.And ix g =
          collapse head.And ix (applied e head.And (map (linear_value e.number) ix)) (sort_in e g.element) g.element (as_nullary head.True [] _ refl) (λ i. refl) (λ i js d. refl) (λ g. refl) g.trees
      here_placed head.Or ix g =
          collapse head.Or ix (applied e head.Or (map (linear_value e.number) ix)) (sort_in e g.element) g.element (as_nullary head.False [] _ refl) (λ i. refl) (λ i js d. refl) (λ g. refl) g.trees
      here_placed head.Add ix g =
          collapse head.Add ix (applied e head.Add (map (linear_value e.number) ix)) (sort_in e g.element) g.element (as_nullary (head.Numeral 0) [] _ refl) (λ i. refl) (λ i js d. refl) (λ g. refl) g.trees
      here_placed head.Mul ix g =
          collapse head.Mul ix (applied e head.Mul (map (linear_value e.number) ix)) (sort_in e g.element) g.element (as_nullary (head.Numeral 1) [] _ refl) (λ i. refl) (λ i js d. refl) (λ g. refl) g.trees
      here_placed head.BvAdd ix g =
          collapse head.BvAdd ix (applied e head.BvAdd (map (linear_value e.number) ix)) (sort_in e g.element) g.element (none_word (pos 0) (λ n. 0) zero_mod g.element) (λ i. refl) (λ i js d. refl) (λ g. refl) g.trees
      here_placed head.BvMul ix g =
          collapse head.BvMul ix (applied e head.BvMul (map (linear_value e.number) ix)) (sort_in e g.element) g.element (none_word (pos 1) (λ n. 1 % 2 ^ n) (λ n. refl) g.element) (λ i. refl) (λ i js d. refl) (λ g. refl) g.trees
      here_placed head.BvAnd ix g =
          collapse head.BvAnd ix (applied e head.BvAnd (map (linear_value e.number) ix)) (sort_in e g.element) g.element (none_word (negsuc 0) (λ n. 2 ^ n - 1) minus_one_mod g.element) (λ i. refl) (λ i js d. refl) (λ g. refl) g.trees
      here_placed head.BvOr ix g =
          collapse head.BvOr ix (applied e head.BvOr (map (linear_value e.number) ix)) (sort_in e g.element) g.element (none_word (pos 0) (λ n. 0) zero_mod g.element) (λ i. refl) (λ i js d. refl) (λ g. refl) g.trees
      here_placed head.BvXor ix g =
          collapse head.BvXor ix (applied e head.BvXor (map (linear_value e.number) ix)) (sort_in e g.element) g.element (none_word (pos 0) (λ n. 0) zero_mod g.element) (λ i. refl) (λ i js d. refl) (λ g. refl) g.trees
      here_placed head.Concat ix g =
          collapse head.Concat ix (applied e head.Concat (map (linear_value e.number) ix)) (sort_in e g.element) g.element (as_nullary head.Concat [] _ refl) (λ i. refl) (λ i js d. refl) (λ g. refl) g.trees
      here_placed h ix g =
          as_node h ix g.trees _ (ap (λ is. one (applied e h (map (linear_value e.number) ix) (group_of Truths is))) (items_are g.trees))

      numbers_put : (ix : List LinearExpression) → map (linear_value (induced e a).number) ix ≡ map (linear_value e.number) (map (substitute a.number) ix)
      numbers_put [] = refl
      numbers_put (l ∷ ls) = λ i. sym (value-substitute e.number a.number l) i ∷ numbers_put ls i

      abbrev IsRight : Tree → Type 0
      IsRight t = meaning (induced e a) t ≡ group_meaning e (instance a t)

      below : (ts : List ((t : Tree) × IsRight t)) → map (meaning (induced e a)) (map (λ t. t.0) ts) ≡ map (group_meaning e) (map (instance a) (map (λ t. t.0) ts))
      below [] = refl
      below (t ∷ ts) = λ i. t.1 i ∷ below ts i

      at_node : (x : Tree-F Tree) → map (meaning (induced e a)) x.args ≡ map (group_meaning e) (map (instance a) x.args) → IsRight (roll-Tree x)
      at_node x ih =
          let gs = map (instance a) x.args in
          let ix = map (substitute a.number) x.indices in
          meaning-node (induced e a) x.head x.indices x.args
          ∙ ap (λ ns. here (induced e a) x.head ns (joined (map (meaning (induced e a)) x.args))) (numbers_put x.indices)
          ∙ ap (λ ms. here (induced e a) x.head (map (linear_value e.number) ix) (joined ms)) ih
          ∙ ap (here (induced e a) x.head (map (linear_value e.number) ix)) (joined-spliced gs)
          ∙ here_placed x.head ix (spliced gs)
          ∙ ap (group_meaning e) (sym (fold-roll-Tree TreeGroup (instance_step a) x))

      -- the meaning of an instance is the meaning of the rule in the setting that the arguments give
      pub meaning-instance : (t : Tree) → meaning (induced e a) t ≡ group_meaning e (instance a t)
      meaning-instance = ind-Tree IsRight (λ x y is. at_node x (subst (λ z. map (meaning (induced e a)) z.args ≡ map (group_meaning e) (map (instance a) z.args)) is (below y.args)))

      -- and so for the arguments of a node
      pub meanings-instances : (ts : List Tree) → map (meaning (induced e a)) ts ≡ map (group_meaning e) (map (instance a) ts)
      meanings-instances [] = refl
      meanings-instances (t ∷ ts) = λ i. meaning-instance t i ∷ meanings-instances ts i

    -- as many items as trees
    pub one_each : (ts : List Tree) → length (flat_map (λ t. (meaning e t).items) ts) ≡ length ts
    one_each [] = refl
    one_each (t ∷ ts) =
        let q = one_item e p t in
        ap (λ m. length (m.items ++ flat_map (λ t. (meaning e t).items) ts)) q.1 ∙ ap suc (one_each ts)
