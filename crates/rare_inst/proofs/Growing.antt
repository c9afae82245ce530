-- Where a rule's tree has a sort, its instance has the sort that substitution gives.
use Rattle.std.proofs.Common.{◌≡◌, ◌≢◌, ℕ, suc, ◌≤◌, List, [], ◌∷◌, ◌++◌, map, flat_map, length, Bool as Test, true, false, refl, sym, ap, ◌∙◌, subst, arith}
use Rattle.std.proofs.lemmas.Bool.Decides.{nat_tests}
use Rattle.std.specs.Prelude.{ℤ, pos, negsuc, Option, Some, None, nat_le, if◌then◌else◌}
use Rattle.std.specs.Option.{option_map}
use Rattle.rare_linear.specs.Linears.{LinearExpression, number, add, substitute}
use Rattle.rare_linear.proofs.NormalForms.{add-zero}
use Rattle.rare_sort.specs.Each.{Each, EachPair}
use Rattle.rare_sort.specs.Families.{family}
use Rattle.rare_sort.specs.SortRules.{basic_sort, width, total, each_is, gives, SortRule, sort_rule}
use Rattle.rare_sort.specs.declared.sort.Signature.{Signature}
use Rattle.rare_sort.specs.declared.family.Basic.{Basic}
use Rattle.rare_sort.specs.declared.family.Basic.TheVariants as basic
use Rattle.rare_sort.specs.declared.family.Count.TheVariants.{Several}
use Rattle.rare_sort.specs.declared.family.Family.{Family}
use Rattle.rare_sort.specs.declared.family.Family.TheVariants.{Fixed, BitVectors}
use Rattle.rare_sort.specs.declared.family.Outcome.TheVariants.{SameWidth}
use Rattle.rare_sort.specs.Sorting.{Place, Sorting, Scope, splices, is_concat, some_list, place_sort, all_of, least_count, places, place_rule, with_rule, sorted_here, sorting, IsOne, IsShaped, problem_scope}
use Rattle.rare_sort.specs.declared.sort.Sort.{Sort, Bool, BitVec}
use Rattle.rare_sort.specs.declared.head.Head.{Head}
use Rattle.rare_sort.specs.declared.head.Head.TheVariants as head
use Rattle.rare_sort.specs.declared.tree.Tree.{Tree, Tree-F, roll-Tree, out-roll-Tree, fold-roll-Tree, ind-Tree, every-Tree, every_here-Tree, every_held-Tree}
use Rattle.rare_sort.proofs.Options.{if_some, map_some, then_some}
use Rattle.rare_sort.proofs.SortingLemmas.{sorting-node, Each-front, Each-back, EachPair-append, all_found, Applies, sorted_node}
use Rattle.rare_rule.proofs.TypingLemmas.{every}
use Rattle.rare_inst.specs.Substituting.{TreeGroup, Substitution, one_tree}
use Rattle.rare_inst.specs.Collapse.{Applied, first_sort, spliced, literal_reduct, neutral, collapsed, reduct, reduct_tree}
use Rattle.rare_inst.specs.Instance.{put_node, instance_step, instance}
use Rattle.rare_inst.proofs.NormalLemmas.{IsNormalForm}
use Rattle.rare_inst.proofs.PutRule.{if_is, put_both, put_rule, put-rule, put-basic}
use Rattle.rare_inst.proofs.Filling.{word_of, Filled, all_sorts, placed_sort, Fills, plain_places, gathered_places, first_place, joined_places}
use Rattle.rare_inst.proofs.Reducing.{sorted_application}

-- what holds of every node holds of the arguments
pub held_args : (Q : Tree-F Tree → Type 0) (x : Tree-F Tree) → every-Tree Q (roll-Tree x) → Each (every-Tree Q) x.args
held_args Q x h =
    let held = every_held-Tree Q (roll-Tree x) h in
    subst (λ z. Each (every-Tree Q) z.args) (held.1 ∙ out-roll-Tree x) (each held.0.args)
  where
    each : (ts : List ((t : Tree) × every-Tree Q t)) → Each (every-Tree Q) (map (λ t. t.0) ts)
    each [] = tt
    each (t ∷ ts) = (t.1, each ts)

-- what holds of the arguments, one by one
pub held_each : {P : Tree → Type 0} (ts : List ((t : Tree) × P t)) → Each P (map (λ t. t.0) ts)
held_each [] = tt
held_each (t ∷ ts) = (t.1, held_each ts)

-- no `concat` is left without arguments
abbrev pub IsJoinedAt : Substitution → Tree-F Tree → Type 0
IsJoinedAt a x = is_concat x.head ≡ true → (spliced (map (instance a) x.args)).trees ≢ []

module _ (symbols : ℕ → Option Signature) where
  abbrev P : Scope
  P = problem_scope symbols

  -- a term by the rules of sorts, whatever they ask of widths
  abbrev pub Good : Tree → Sort → Type 0
  Good = IsShaped P

  abbrev Anything : LinearExpression → Type 0
  Anything n = Unit {0}

  good_node : (h : Head) → Applies P h → (ix : List LinearExpression) (ts : List Tree) (ss : List Sort) (r : SortRule) →
      EachPair Good ts ss → sort_rule symbols 2 (family h) ix ss ≡ Some r → Each IsOne r.alike → Good (reduct_tree (Applied h ix ts)) r.sort
  good_node h applies ix ts ss r good rule same =
      sorted_application Anything P h ix ts r.sort (sorted_node Anything P h applies ix ts ss r good rule same (every r.needs) (every (P.own r.sort)))

  nullary : (h : Head) → Applies P h → (r : SortRule) → sort_rule symbols 2 (family h) [] [] ≡ Some r → Each IsOne r.alike → Good (reduct_tree (Applied h [] [])) r.sort
  nullary h applies r rule same = good_node h applies [] [] [] r tt rule same

  good_literal : (k : ℤ) (w : LinearExpression) → Good (reduct_tree (literal_reduct k (BitVec w))) (BitVec w)
  good_literal k w = good_node head.Literal (λ ix xs. refl) (number k ∷ w ∷ []) [] [] _ tt refl tt

  -- ---- collapse

  -- what an operator asks of two or more arguments of a sort
  abbrev Makes : Family → Sort → Type 0
  Makes f S = (ss : List Sort) → 2 ≤ length ss → Each (λ s. s ≡ S) ss → (r : SortRule) × (sort_rule symbols 2 f [] ss ≡ Some r) × (r.sort ≡ S) × Each IsOne r.alike

  alike_each : (S : Sort) (ss : List Sort) → Each (λ s. s ≡ S) ss → Each IsOne (each_is S ss)
  alike_each S [] h = tt
  alike_each S (s ∷ ss) h = (h.0, alike_each S ss h.1)

  each_alike : (S : Sort) (ss : List Sort) → Each IsOne (each_is S ss) → Each (λ s. s ≡ S) ss
  each_alike S [] h = tt
  each_alike S (s ∷ ss) h = (h.0, each_alike S ss h.1)

  at_least_two : (n : ℕ) → nat_le 2 (suc (suc n)) ≡ true
  at_least_two n = grind (arith, nat_tests)

  fixed_makes : (b : Basic) → Makes (Fixed Several b b) (basic_sort b)
  fixed_makes b (s ∷ t ∷ ss) two h = (gives (basic_sort b) (each_is (basic_sort b) (s ∷ t ∷ ss)) [], if_is (nat_le 2 (suc (suc (length ss)))) _ (at_least_two (length ss)), refl, alike_each (basic_sort b) (s ∷ t ∷ ss) h)
  fixed_makes b (s ∷ []) two h = absurd (omega arith)
  fixed_makes b [] two h = absurd (omega arith)

  words_make : (w : LinearExpression) → Makes (BitVectors Several SameWidth) (BitVec w)
  words_make w (s ∷ t ∷ ss) two h = (gives (BitVec w) (each_is s (t ∷ ss)) [], rw (at_least_two (length ss)) (ap (option_map (λ w. gives (BitVec w) (each_is s (t ∷ ss)) [])) (ap width h.0)), refl, alike_each s (t ∷ ss) (subst (λ z. Each (λ u. u ≡ z) (t ∷ ss)) (sym h.0) h.1))
  words_make w (s ∷ []) two h = absurd (omega arith)
  words_make w [] two h = absurd (omega arith)

  good_collapsed : (h : Head) → Applies P h → (S : Sort) → Makes (family h) S → (element : Sort) (ts : List Tree) (ss : List Sort) →
      (ts ≡ [] → Good (reduct_tree (neutral h element)) S) → EachPair Good ts ss → Each (λ s. s ≡ S) ss → Good (reduct_tree (collapsed h [] element ts)) S
  good_collapsed h applies S makes el [] ss none shaped same = none refl
  good_collapsed h applies S makes el (t ∷ []) [] none shaped same = absurd shaped
  good_collapsed h applies S makes el (t ∷ []) (s ∷ ss) none shaped same = subst (Good t) same.0 shaped.0
  good_collapsed h applies S makes el (t ∷ u ∷ us) [] none shaped same = absurd shaped
  good_collapsed h applies S makes el (t ∷ u ∷ us) (s ∷ []) none shaped same = absurd shaped.1
  good_collapsed h applies S makes el (t ∷ u ∷ us) (s ∷ s' ∷ ss) none shaped same =
      let m = makes (s ∷ s' ∷ ss) (omega arith) same in
      subst (Good (reduct_tree (Applied h [] (t ∷ u ∷ us)))) m.2 (good_node h applies [] (t ∷ u ∷ us) (s ∷ s' ∷ ss) m.0 shaped m.1 m.3)

  -- ---- the arguments of a rule's node, grown

  module _ (a : Substitution) (normal : (k : ℕ) → IsNormalForm (a.number k)) where
    -- the trees of one place
    pub record IsGrown (g : TreeGroup) (p : Place) : Type 0 where
      pub sorts : List Sort
      pub shaped : EachPair Good g.trees sorts
      pub fills : Fills a normal p (g.element, sorts)

    abbrev first_filled : List Filled → Sort
    first_filled [] = Bool
    first_filled (f ∷ fs) = f.0

    -- and of all places
    pub record AreGrown (gs : List TreeGroup) (ps : List Place) : Type 0 where
      pub filled : List Filled
      pub shaped : EachPair Good (flat_map (λ g. g.trees) gs) (all_sorts filled)
      pub fills : EachPair (Fills a normal) ps filled
      pub first : first_sort gs ≡ first_filled filled

    are_grown : (gs : List TreeGroup) (ps : List Place) → EachPair IsGrown gs ps → AreGrown gs ps
    are_grown [] [] h = record { filled = []; shaped = tt; fills = tt; first = refl }
    are_grown [] (p ∷ ps) h = absurd h
    are_grown (g ∷ gs) [] h = absurd h
    are_grown (g ∷ gs) (p ∷ ps) h =
        let rest = are_grown gs ps h.1 in record {
          filled = (g.element, h.0.sorts) ∷ rest.filled;
          shaped = EachPair-append Good g.trees (flat_map (λ g. g.trees) gs) h.0.sorts (all_sorts rest.filled) h.0.shaped rest.shaped;
          fills = (h.0.fills, rest.fills);
          first = refl;
        }

    abbrev put : Sort → Sort
    put s = placed_sort a normal s

    put_alike : (es : List (Sort × Sort)) → Each IsOne es → Each IsOne (map (put_both a.number a.sort) es)
    put_alike [] h = tt
    put_alike (e ∷ es) h = (ap put h.0, put_alike es h.1)

    abbrev FoundSorts : Head → List Place → List Sort → Type 0
    FoundSorts h ps ss = EachPair (λ p s. place_sort h p ≡ Some s) ps ss

    abbrev Rule : Head → List LinearExpression → List Place → List Sort → SortRule → Type 0
    Rule h ix ps ss r = sort_rule (λ k. None) (least_count ps) (family h) ix ss ≡ Some r

    -- operators without lists
    plain_case : (h : Head) → Applies P h → is_concat h ≡ false → splices h ≡ false →
        (ix : List LinearExpression) (gs : List TreeGroup) (ps : List Place) (ss : List Sort) (r : SortRule) → AreGrown gs ps → FoundSorts h ps ss → Rule h ix ps ss r → Each IsOne r.alike →
        Good (reduct_tree (Applied h (map (substitute a.number) ix) (spliced gs).trees)) (put r.sort)
    plain_case h applies concat splice ix gs ps ss r m found rule same =
        let q = plain_places a normal h concat splice ps m.filled ss m.fills found in
        let here : sort_rule (λ k. None) 2 (family h) ix ss ≡ Some r = subst (λ b. sort_rule (λ k. None) (if b then 1 else 2) (family h) ix ss ≡ Some r) q.0 rule in
        good_node h applies (map (substitute a.number) ix) (spliced gs).trees (map put ss) (put_rule a.number a.sort r)
        (subst (EachPair Good (spliced gs).trees) q.1 m.shaped)
        (put-rule a.number a.sort normal symbols 2 (family h) ix ss r here)
        (put_alike r.alike same)

    -- ---- operators with lists

    no_sorts : (ts : List Tree) (ss : List Sort) → EachPair Good ts ss → ts ≡ [] → ss ≡ []
    no_sorts [] [] h e = refl
    no_sorts [] (s ∷ ss) h e = absurd h
    no_sorts (t ∷ ts) ss h e = cc

    first_is : (h : Head) → is_concat h ≡ false → (S : Sort) (ps : List Place) (fs : List Filled) (ss : List Sort) → EachPair (Fills a normal) ps fs → FoundSorts h ps ss →
        Each (λ s. s ≡ S) ss → ss ≢ [] → all_sorts fs ≡ [] → first_filled fs ≡ put S
    first_is h c S [] [] [] f e is some none = absurd (some refl)
    first_is h c S [] [] (s ∷ ss) f e is some none = absurd e
    first_is h c S [] (x ∷ fs) ss f e is some none = absurd f
    first_is h c S (p ∷ ps) [] ss f e is some none = absurd f
    first_is h c S (p ∷ ps) (x ∷ fs) [] f e is some none = absurd e
    first_is h c S (p ∷ ps) (x ∷ fs) (s ∷ ss) f e is some none = first_place a normal h c S p ps x fs s ss f.0 e.0 is.0 none

    gathered_case : (h : Head) → Applies P h → is_concat h ≡ false → (S : Sort) → Makes (family h) (put S) → ((s : Sort) → s ≡ put S → Good (reduct_tree (neutral h s)) (put S)) →
        (gs : List TreeGroup) (ps : List Place) (ss : List Sort) → AreGrown gs ps → FoundSorts h ps ss → Each (λ s. s ≡ S) ss → ss ≢ [] →
        Good (reduct_tree (collapsed h [] (spliced gs).element (spliced gs).trees)) (put S)
    gathered_case h applies concat S makes none_good gs ps ss m found is some =
        let same = gathered_places a normal h concat S ps m.filled ss m.fills found is in
        let none : (spliced gs).trees ≡ [] → Good (reduct_tree (neutral h (spliced gs).element)) (put S) = λ e.
        none_good (spliced gs).element (m.first ∙ first_is h concat S ps m.filled ss m.fills found is some (no_sorts (spliced gs).trees (all_sorts m.filled) m.shaped e)) in
        good_collapsed h applies (put S) makes (spliced gs).element (spliced gs).trees (all_sorts m.filled) none m.shaped same

    too_few : (b : Test) → nat_le (if b then 1 else 2) 0 ≡ true → ⊥
    too_few true e = cc
    too_few false e = cc

    fixed_case : (h : Head) → Applies P h → is_concat h ≡ false → (b : Basic) → family h ≡ Fixed Several b b → ((s : Sort) → Good (reduct_tree (neutral h s)) (basic_sort b)) →
        (ix : List LinearExpression) (gs : List TreeGroup) (ps : List Place) (ss : List Sort) (r : SortRule) → AreGrown gs ps → FoundSorts h ps ss → Rule h ix ps ss r → Each IsOne r.alike →
        Good (reduct_tree (collapsed h (map (substitute a.number) ix) (spliced gs).element (spliced gs).trees)) (put r.sort)
    fixed_case h applies concat b fam none_good (x ∷ ix) gs ps ss r m found rule same = absurd (let e = subst (λ f. sort_rule (λ k. None) (least_count ps) f (x ∷ ix) ss ≡ Some r) fam rule in cc)
    fixed_case h applies concat b fam none_good [] gs ps ss r m found rule same =
        let here : sort_rule (λ k. None) (least_count ps) (Fixed Several b b) [] ss ≡ Some r = subst (λ f. sort_rule (λ k. None) (least_count ps) f [] ss ≡ Some r) fam rule in
        let q = if_some (nat_le (least_count ps) (length ss)) (gives (basic_sort b) (each_is (basic_sort b) ss) []) r here in
        let is = each_alike (basic_sort b) ss (subst (λ z. Each IsOne z.alike) (sym q.1) same) in
        let some : ss ≢ [] = λ e. too_few (some_list ps) (ap (λ z. nat_le (least_count ps) (length z)) (sym e) ∙ q.0) in
        let moved = put-basic a.number a.sort b in
        subst (λ z. Good (reduct_tree (collapsed h [] (spliced gs).element (spliced gs).trees)) (put z.sort)) q.1
        (gathered_case h applies concat (basic_sort b) (subst (λ (z : Family × Sort). Makes z.0 z.1) (λ i. (sym fam i, sym moved i)) (fixed_makes b)) (λ s e. subst (Good (reduct_tree (neutral h s))) (sym moved) (none_good s)) gs ps ss m found is some)

    words_case : (h : Head) → Applies P h → is_concat h ≡ false → family h ≡ BitVectors Several SameWidth → (k : ℤ) → ((s : Sort) → neutral h s ≡ literal_reduct k s) →
        (ix : List LinearExpression) (gs : List TreeGroup) (ps : List Place) (ss : List Sort) (r : SortRule) → AreGrown gs ps → FoundSorts h ps ss → Rule h ix ps ss r → Each IsOne r.alike →
        Good (reduct_tree (collapsed h (map (substitute a.number) ix) (spliced gs).element (spliced gs).trees)) (put r.sort)
    words_case h applies concat fam k is_literal ix gs ps ss r m found rule same = go ix ss found (subst (λ f. sort_rule (λ k. None) (least_count ps) f ix ss ≡ Some r) fam rule)
      where
        none_good : (w : LinearExpression) (s : Sort) → s ≡ BitVec w → Good (reduct_tree (neutral h s)) (BitVec w)
        none_good w s e = subst (λ z. Good (reduct_tree z) (BitVec w)) (sym (is_literal s)) (subst (λ z. Good (reduct_tree (literal_reduct k z)) (BitVec w)) (sym e) (good_literal k w))

        by : (s : Sort) (ss : List Sort) → FoundSorts h ps (s ∷ ss) → (t : Test) → (if t then (option_map (λ w. gives (BitVec w) (each_is s ss) []) (width s)) else None) ≡ Some r →
            Good (reduct_tree (collapsed h [] (spliced gs).element (spliced gs).trees)) (put r.sort)
        by s ss found false e = absurd (let never : ⊥ = cc in never)
        by s ss found true e =
            let q = map_some (λ w. gives (BitVec w) (each_is s ss) []) (width s) r e in
            let first : s ≡ BitVec q.0 = word_of s q.0 q.1 in
            let rest = each_alike s ss (subst (λ z. Each IsOne z.alike) (sym q.2) same) in
            let is : Each (λ t. t ≡ BitVec q.0) (s ∷ ss) = (first, subst (λ z. Each (λ t. t ≡ z) ss) first rest) in
            subst (λ z. Good (reduct_tree (collapsed h [] (spliced gs).element (spliced gs).trees)) (put z.sort)) q.2
            (gathered_case h applies concat (BitVec q.0) (subst (λ z. Makes z (BitVec (substitute a.number q.0))) (sym fam) (words_make (substitute a.number q.0))) (none_good (substitute a.number q.0)) gs ps (s ∷ ss) m found is (λ e. let never : ⊥ = cc in never))

        go : (ix : List LinearExpression) (ss : List Sort) → FoundSorts h ps ss → sort_rule (λ k. None) (least_count ps) (BitVectors Several SameWidth) ix ss ≡ Some r →
            Good (reduct_tree (collapsed h (map (substitute a.number) ix) (spliced gs).element (spliced gs).trees)) (put r.sort)
        go [] (s ∷ ss) found e = by s ss found (nat_le (least_count ps) (length (s ∷ ss))) e
        go [] [] found e = absurd (let never : ⊥ = cc in never)
        go (x ∷ ix) ss found e = absurd (let never : ⊥ = cc in never)

    -- ---- concat

    joined_trees : (element : Sort) (ts : List Tree) (ss : List Sort) (w : LinearExpression) → EachPair Good ts ss → total ss ≡ Some w → ts ≢ [] → Good (reduct_tree (collapsed head.Concat [] element ts)) (BitVec w)
    joined_trees el [] ss w shaped is some = absurd (some refl)
    joined_trees el (t ∷ []) [] w shaped is some = absurd shaped
    joined_trees el (t ∷ []) (s ∷ s' ∷ ss) w shaped is some = absurd shaped.1
    joined_trees el (t ∷ []) (s ∷ []) w shaped is some =
        let q = then_some (λ v. Some (add (number (pos 0)) v)) (width s) w is in
        let same : add (number (pos 0)) q.0 ≡ w = cc in
        subst (Good t) (word_of s q.0 q.1 ∙ ap (λ z. BitVec z) (sym (add-zero q.0) ∙ same)) shaped.0
    joined_trees el (t ∷ u ∷ us) [] w shaped is some = absurd shaped
    joined_trees el (t ∷ u ∷ us) (s ∷ []) w shaped is some = absurd shaped.1
    joined_trees el (t ∷ u ∷ us) (s ∷ s' ∷ ss) w shaped is some =
        good_node head.Concat (λ ix xs. refl) [] (t ∷ u ∷ us) (s ∷ s' ∷ ss) (gives (BitVec w) [] []) shaped
        (rw (at_least_two (length ss)) (ap (option_map (λ w. gives (BitVec w) [] [])) is)) tt

    concat_case : (element : Sort) (ix : List LinearExpression) (gs : List TreeGroup) (ps : List Place) (ss : List Sort) (r : SortRule) → AreGrown gs ps → FoundSorts head.Concat ps ss → Rule head.Concat ix ps ss r →
        (spliced gs).trees ≢ [] → Good (reduct_tree (collapsed head.Concat (map (substitute a.number) ix) element (spliced gs).trees)) (put r.sort)
    concat_case el (x ∷ ix) gs ps ss r m found rule some = absurd (let never : ⊥ = cc in never)
    concat_case el [] gs ps ss r m found rule some = by (nat_le (least_count ps) (length ss)) rule
      where
        by : (t : Test) → (if t then (option_map (λ w. gives (BitVec w) [] []) (total ss)) else None) ≡ Some r → Good (reduct_tree (collapsed head.Concat [] el (spliced gs).trees)) (put r.sort)
        by false e = absurd (let never : ⊥ = cc in never)
        by true e =
            let q = map_some (λ w. gives (BitVec w) [] []) (total ss) r e in
            let whole = joined_places a normal head.Concat refl ps m.filled ss (number (pos 0)) q.0 m.fills found q.1 in
            subst (λ z. Good (reduct_tree (collapsed head.Concat [] el (spliced gs).trees)) (put z.sort)) q.2
            (joined_trees el (spliced gs).trees (all_sorts m.filled) (substitute a.number q.0) m.shaped whole some)

    -- ---- a node

    good_outcome : (h : Head) → Applies P h → (ix : List LinearExpression) (gs : List TreeGroup) (ps : List Place) (ss : List Sort) (r : SortRule) → AreGrown gs ps → FoundSorts h ps ss → Rule h ix ps ss r → Each IsOne r.alike →
        (is_concat h ≡ true → (spliced gs).trees ≢ []) → Good (reduct_tree (reduct h (map (substitute a.number) ix) (spliced gs))) (put r.sort)
    good_outcome head.And ap' ix gs ps ss r m f e same some = fixed_case head.And ap' refl basic.Bool refl (λ s. nullary head.True (λ ix xs. refl) _ refl tt) ix gs ps ss r m f e same
    good_outcome head.Or ap' ix gs ps ss r m f e same some = fixed_case head.Or ap' refl basic.Bool refl (λ s. nullary head.False (λ ix xs. refl) _ refl tt) ix gs ps ss r m f e same
    good_outcome head.Add ap' ix gs ps ss r m f e same some = fixed_case head.Add ap' refl basic.Int refl (λ s. nullary (head.Numeral 0) (λ ix xs. refl) _ refl tt) ix gs ps ss r m f e same
    good_outcome head.Mul ap' ix gs ps ss r m f e same some = fixed_case head.Mul ap' refl basic.Int refl (λ s. nullary (head.Numeral 1) (λ ix xs. refl) _ refl tt) ix gs ps ss r m f e same
    good_outcome head.BvAdd ap' ix gs ps ss r m f e same some = words_case head.BvAdd ap' refl refl (pos 0) (λ s. refl) ix gs ps ss r m f e same
    good_outcome head.BvMul ap' ix gs ps ss r m f e same some = words_case head.BvMul ap' refl refl (pos 1) (λ s. refl) ix gs ps ss r m f e same
    good_outcome head.BvAnd ap' ix gs ps ss r m f e same some = words_case head.BvAnd ap' refl refl (negsuc 0) (λ s. refl) ix gs ps ss r m f e same
    good_outcome head.BvOr ap' ix gs ps ss r m f e same some = words_case head.BvOr ap' refl refl (pos 0) (λ s. refl) ix gs ps ss r m f e same
    good_outcome head.BvXor ap' ix gs ps ss r m f e same some = words_case head.BvXor ap' refl refl (pos 0) (λ s. refl) ix gs ps ss r m f e same
    good_outcome head.Concat ap' ix gs ps ss r m f e same some = concat_case (spliced gs).element ix gs ps ss r m f e (some refl)
    good_outcome h ap' ix gs ps ss r m f e same some = plain_case h ap' refl refl ix gs ps ss r m f e same

    -- ---- a rule's tree

    module _ (params : ℕ → Option Sorting) (hole : Option Sorting) (own : Sort → List LinearExpression)
        (params_grow : (k : ℕ) (r : Sorting) → params k ≡ Some r → IsGrown (a.group k) r.place)
        (hole_grows : (r : Sorting) → hole ≡ Some r → IsGrown a.hole r.place) where
      abbrev C : Scope
      C = record { symbols = λ k. None; params = params; hole = hole; own = own }

      abbrev ArgsGrow : List TreeGroup → List Sorting → Type 0
      ArgsGrow gs xs = Each IsOne (flat_map (λ x. x.alike) xs) → EachPair IsGrown gs (places xs)

      single : (h : Head) → Applies C h → Applies P h → (ix : List LinearExpression) (gs : List TreeGroup) (xs : List Sorting) (r : Sorting) → sorted_here C h ix xs ≡ Some r → Each IsOne r.alike →
          (is_concat h ≡ true → (spliced gs).trees ≢ []) → ArgsGrow gs xs →
          IsGrown (one_tree (reduct_tree (reduct h (map (substitute a.number) ix) (spliced gs)))) r.place
      single h rule_applies applies ix gs xs r e same some grown =
          let q = map_some (with_rule C xs) (place_rule C.symbols h ix (places xs)) r (sym (rule_applies ix xs) ∙ e) in
          let s = then_some (sort_rule C.symbols (least_count (places xs)) (family h) ix) (all_of (map (place_sort h) (places xs))) q.0 q.1 in
          let alikes = flat_map (λ x. x.alike) xs in
          let both : Each IsOne (alikes ++ q.0.alike) = subst (λ z. Each IsOne z.alike) (sym q.2) same in
          let m = are_grown gs (places xs) (grown (Each-front IsOne alikes q.0.alike both)) in
          let found = all_found (place_sort h) (places xs) s.0 s.1 in
          let good = good_outcome h applies ix gs (places xs) s.0 q.0 m found s.2 (Each-back IsOne alikes q.0.alike both) some in
          subst (λ z. IsGrown (one_tree (reduct_tree (reduct h (map (substitute a.number) ix) (spliced gs)))) z.place) q.2
          (record { sorts = put q.0.sort ∷ []; shaped = (good, tt); fills = refl })

      node_grown : (h : Head) (ix : List LinearExpression) (gs : List TreeGroup) (xs : List Sorting) (r : Sorting) → sorted_here C h ix xs ≡ Some r → Each IsOne r.alike →
          (is_concat h ≡ true → (spliced gs).trees ≢ []) → ArgsGrow gs xs → IsGrown (put_node a h (map (substitute a.number) ix) (spliced gs)) r.place
      node_grown (head.Param k) ix gs xs r e same some grown = params_grow k r e
      node_grown head.Hole ix gs xs r e same some grown = hole_grows r e
      node_grown h ix gs xs r e same some grown = single h (λ ix xs. refl) (λ ix xs. refl) ix gs xs r e same some grown

      -- a tree that has a sort grows to trees of the sort that substitution gives
      abbrev pub Claim : Tree → Type 0
      Claim t = (r : Sorting) → sorting C t ≡ Some r → Each IsOne r.alike → every-Tree (IsJoinedAt a) t → IsGrown (instance a t) r.place

      args_grown : (ts : List Tree) (xs : List Sorting) → Each Claim ts → EachPair (λ t x. sorting C t ≡ Some x) ts xs → Each (every-Tree (IsJoinedAt a)) ts → ArgsGrow (map (instance a) ts) xs
      args_grown [] [] c f j same = tt
      args_grown [] (x ∷ xs) c f j same = absurd f
      args_grown (t ∷ ts) [] c f j same = absurd f
      args_grown (t ∷ ts) (x ∷ xs) c f j same =
          let alikes = flat_map (λ x. x.alike) xs in (
            c.0 x f.0 (Each-front IsOne x.alike alikes same) j.0,
            args_grown ts xs c.1 f.1 j.1 (Each-back IsOne x.alike alikes same),
          )

      at_node : (x : Tree-F Tree) → Each Claim x.args → Claim (roll-Tree x)
      at_node x claims r e same joined =
          let q = then_some (sorted_here C x.head x.indices) (all_of (map (sorting C) x.args)) r (sym (sorting-node C x.head x.indices x.args) ∙ e) in
          let joined_here : IsJoinedAt a x = subst (IsJoinedAt a) (out-roll-Tree x) (every_here-Tree (IsJoinedAt a) (roll-Tree x) joined) in
          subst (λ g. IsGrown g r.place) (sym (fold-roll-Tree TreeGroup (instance_step a) x))
          (node_grown x.head x.indices (map (instance a) x.args) q.0 r q.2 same joined_here
          (args_grown x.args q.0 claims (all_found (sorting C) x.args q.0 q.1) (held_args (IsJoinedAt a) x joined)))

      pub grows : (t : Tree) → Claim t
      grows = ind-Tree Claim (λ x y is. at_node x (subst (λ z. Each Claim z.args) is (held_each {P = Claim} y.args)))
