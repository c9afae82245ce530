-- The setting that arguments give suits the parameters of the rule, and what parts mean in it.
use Rattle.std.proofs.Common.{◌≡◌, ℕ, suc, ◌+◌, ◌≤◌, pos, List, [], ◌∷◌, ◌++◌, map, flat_map, length, All, refl, sym, ap, ◌∙◌, subst, arith, Option, Some, None, slice_get}
use Rattle.std.proofs.lemmas.Int.{ints}
use Rattle.std.proofs.lemmas.List.Elements.{All-nil, All-cons}
use Rattle.std.proofs.Math.IntN.{+ℤ_idr}
use Rattle.std.specs.Prelude.{◌+ℤ◌, ◌≤ℤ◌}
use Rattle.rare_linear.specs.Linears.{LinearExpression, linear_value, number, add, substitute}
use Rattle.rare_linear.specs.declared.constraint.Constraint.{Constraint}
use Rattle.rare_linear.proofs.LinearLemmas.{entailed_holds_lem, value-add, value-substitute}
use Rattle.rare_sort.specs.Each.{Each, EachPair}
use Rattle.rare_sort.specs.SortRules.{less_one, total_from, width, width_needs, boxed_needs}
use Rattle.rare_sort.specs.declared.declarations.Declarations.{Declarations}
use Rattle.rare_sort.specs.declared.sort.Signature.{Signature}
use Rattle.rare_sort.specs.declared.sort.Sort.{Sort, Bool, Int, BitVec, Array', Named, Row_of-Sort, end_of-Sort, more_of-Sort}
use Rattle.rare_sort.specs.declared.tree.Tree.{Tree, Tree-F}
use Rattle.rare_sort.proofs.Options.{then_some}
use Rattle.rare_sort.proofs.SortingLemmas.{Each-front, Each-back, Each-map}
use Rattle.rare_meaning.specs.ClosedSorts.{to_nat, closed_sort, closed_part}
use Rattle.rare_meaning.specs.Fitting.{IsOf}
use Rattle.rare_meaning.specs.Interpretations.{FunctionClass, IsModel}
use Rattle.rare_meaning.specs.Meaning.{meaning}
use Rattle.rare_meaning.specs.Settings.{Item, Group, Setting, group_of, one, sort_in}
use Rattle.rare_meaning.specs.Splicing.{joined}
use Rattle.rare_meaning.specs.Values.{Truths, Elements, width_of}
use Rattle.rare_meaning.proofs.FitsLemmas.{IsTermItem, bit_vector_item, positive, value-less_one}
use Rattle.rare_meaning.proofs.RewriteLemmas.{one_item}
use Rattle.rare_meaning.proofs.TermsFit.{term_item}
use Rattle.rare_rule.specs.Holds.{HasWidths, IsBitVector, SuitsKind, SuitAll, IsLongAt, IsLong, IsJoinedAt as MeansJoinedAt, IsJoined, total_width}
use Rattle.rare_rule.specs.Params.{kind_at}
use Rattle.rare_rule.specs.declared.param.Param.{Param}
use Rattle.rare_rule.specs.declared.param.ParamKind.{ParamKind}
use Rattle.rare_rule.specs.declared.param.ParamKind.TheVariants as kind
use Rattle.rare_inst.specs.Induced.{group_meaning, induced, induced_sorts}
use Rattle.rare_inst.specs.Collapse.{spliced}
use Rattle.rare_inst.specs.Instance.{Side, LeftSide, OtherSide, instance, instance_fault}
use Rattle.rare_inst.specs.InstanceLaws.{MeanAlike}
use Rattle.rare_inst.specs.Substituting.{TreeGroup, Substitution, put_sort}
use Rattle.rare_inst.specs.declared.fault.InstFault.{InstFault}
use Rattle.rare_inst.proofs.Admitted.{AreWords, IsTermList, Suits, Term, Entails}
use Rattle.rare_inst.proofs.Everywhere.{every_more}
use Rattle.rare_inst.proofs.Existing.{long_left, joined_elsewhere, joined_left}
use Rattle.rare_inst.proofs.Faults.{IsFine, all_fine}
use Rattle.rare_inst.proofs.Filling.{word}
use Rattle.rare_inst.proofs.Growing.{IsJoinedAt}
use Rattle.rare_inst.proofs.InstanceMeaning.{joined-spliced, meaning-instance, meanings-instances, one_each}
use Rattle.rare_inst.proofs.PutSort.{closed_sort-put}

plus_none : (n : ℕ) → n + 0 ≡ n
plus_none n = omega arith

next : (j k : ℕ) → j + suc k ≡ suc j + k
next j k = omega arith

no_trees : (ts : List Tree) → length ts ≡ 0 → ts ≡ []
no_trees [] h = refl
no_trees (t ∷ ts) h = cc

module _ (c : FunctionClass) (d : Declarations) (e : Setting) (model : IsModel c d e) where
  abbrev symbols : ℕ → Option Signature
  symbols k = slice_get d.symbols k

  abbrev ItemOf : Sort → Item → Type 0
  ItemOf s i = IsTermItem symbols e s i

  holds_at : (n : LinearExpression) → Entails d n → pos 0 ≤ℤ linear_value e.number n
  holds_at n h = entailed_holds_lem (λ k. pos 1) e.number model.allowed.widths d.constraints n model.allowed.hold h

  -- the item that a term of the problem means
  item_of : (t : Tree) (s : Sort) → Term d t s → (i : Item) × (meaning e t ≡ one i) × ItemOf s i
  item_of t s h = term_item symbols (λ k. pos 1) d.constraints e model.allowed.widths model.allowed.hold model.interpreted t s h

  -- ---- lists of arguments

  record AreItems (ts : List Tree) (ss : List Sort) : Type 0 where
    items : List Item
    are : flat_map (λ t. (meaning e t).items) ts ≡ items
    good : EachPair ItemOf ss items

  are_items : (ts : List Tree) (ss : List Sort) → EachPair (Term d) ts ss → AreItems ts ss
  are_items [] [] h = record { items = []; are = refl; good = tt }
  are_items [] (s ∷ ss) h = absurd h
  are_items (t ∷ ts) [] h = absurd h
  are_items (t ∷ ts) (s ∷ ss) h =
      let i = item_of t s h.0 in
      let rest = are_items ts ss h.1 in
      record { items = i.0 ∷ rest.items; are = λ x. (i.1 x).items ++ rest.are x; good = (i.2, rest.good) }

  -- the total is the sum of the widths
  total_is : (ss : List Sort) (is : List Item) (from n : LinearExpression) → EachPair ItemOf ss is → total_from from ss ≡ Some n →
      linear_value e.number n ≡ linear_value e.number from +ℤ pos (total_width is)
  total_is [] [] from n h q =
      let same : from ≡ n = cc in
      ap (linear_value e.number) (sym same) ∙ sym (+ℤ_idr (linear_value e.number from))
  total_is [] (i ∷ is) from n h q = absurd h
  total_is (s ∷ ss) [] from n h q = absurd h
  total_is (s ∷ ss) (i ∷ is) from n h q =
      let f = then_some (λ w. total_from (add from w) ss) (width s) n q in
      let first = bit_vector_item symbols e s f.0 i h.0 f.1 in
      let wide : width_of i.sort ≡ to_nat (linear_value e.number f.0) = ap width_of first.of.sorted in
      omega (arith, ints, total_is ss is (add from f.0) n h.1 f.2, value-add e.number from f.0, positive symbols e f.0 first.big, wide)

  no_width : (s : Sort) → width s ≡ None → width_of (sort_in e s) ≡ 0
  no_width Bool q = refl
  no_width Int q = refl
  no_width (BitVec w) q = cc
  no_width (Array' x k y m) q = refl
  no_width (Named k) q = refl

  no_total : (s : Sort) → width s ≡ None → (ts : List Tree) (is : List Item) → EachPair ItemOf (map (λ t. s) ts) is → total_width is ≡ 0
  no_total s q [] [] h = refl
  no_total s q [] (i ∷ is) h = absurd h
  no_total s q (t ∷ ts) [] h = absurd h
  no_total s q (t ∷ ts) (i ∷ is) h = omega (arith, ap width_of h.0.of.sorted, no_width s q, no_total s q ts is h.1)

  all_of_sort : (s : Sort) (ts : List Tree) (is : List Item) → EachPair ItemOf (map (λ t. s) ts) is → All (IsOf (sort_in e s)) is
  all_of_sort s [] [] h = All-nil (IsOf (sort_in e s))
  all_of_sort s [] (i ∷ is) h = absurd h
  all_of_sort s (t ∷ ts) [] h = absurd h
  all_of_sort s (t ∷ ts) (i ∷ is) h = All-cons (IsOf (sort_in e s)) i is h.0.of (all_of_sort s ts is h.1)

  same_terms : (s : Sort) (ts : List Tree) → Each (λ t. Term d t s) ts → EachPair (Term d) ts (map (λ t. s) ts)
  same_terms s [] h = tt
  same_terms s (t ∷ ts) h = (h.0, same_terms s ts h.1)

  word_terms : (ts : List Tree) (ws : List LinearExpression) → AreWords d ts ws → EachPair (Term d) ts (map word ws)
  word_terms [] [] h = tt
  word_terms [] (w ∷ ws) h = absurd h
  word_terms (t ∷ ts) [] h = absurd h
  word_terms (t ∷ ts) (w ∷ ws) h = (h.0.0, word_terms ts ws h.1)

  all_wide : (ws : List LinearExpression) (is : List Item) → EachPair ItemOf (map word ws) is → All IsBitVector is
  all_wide [] [] h = All-nil IsBitVector
  all_wide [] (i ∷ is) h = absurd h
  all_wide (w ∷ ws) [] h = absurd h
  all_wide (w ∷ ws) (i ∷ is) h =
      let first = bit_vector_item symbols e (word w) w i h.0 refl in
      All-cons IsBitVector i is (record { width = to_nat (linear_value e.number w); least = first.big; is = first.of }) (all_wide ws is h.1)

  -- ---- widths of sorts

  abbrev Hold : List LinearExpression → Type 0
  Hold ns = Each (λ n. pos 0 ≤ℤ linear_value e.number n) ns

  wide_enough : (w : LinearExpression) → pos 0 ≤ℤ linear_value e.number (less_one w) → 1 ≤ to_nat (linear_value e.number w)
  wide_enough w h = go (linear_value e.number w) (omega (arith, ints, h, value-less_one e.number w))
    where
      go : (z : _) → pos 1 ≤ℤ z → 1 ≤ to_nat z
      go (pos n) h = omega (arith, ints)
      go z h = absurd (omega (arith, ints))

  mutual
    have_widths : (s : Sort) → Hold (width_needs s) → HasWidths (sort_in e s)
    have_widths Bool h = tt
    have_widths Int h = tt
    have_widths (BitVec w) h = wide_enough w h.0
    have_widths (Array' p keys q entries) h = (
      boxed_have_widths keys (Each-front (λ n. pos 0 ≤ℤ linear_value e.number n) (boxed_needs keys) (boxed_needs entries) h),
      boxed_have_widths entries (Each-back (λ n. pos 0 ≤ℤ linear_value e.number n) (boxed_needs keys) (boxed_needs entries) h),
    )
    have_widths (Named k) h = tt

    boxed_have_widths : {n : _} → (b : Row_of-Sort n) → Hold (boxed_needs b) → HasWidths (closed_part e.number Elements b)
    boxed_have_widths end_of-Sort h = tt
    boxed_have_widths (more_of-Sort s rest) h = have_widths s h

  -- ---- the arguments, as parameters

  module _ (a : Substitution) where
    abbrev v : Setting
    v = induced e a

    abbrev put : Sort → Sort
    put s = put_sort a.number a.sort s

    put_closed : (s : Sort) → sort_in e (put s) ≡ closed_sort v.number (induced_sorts e a) s
    put_closed s = closed_sort-put e.number Elements a.number a.sort s

    list_total : (s : Sort) (n : LinearExpression) (g : TreeGroup) → IsTermList d s n g → (is : List Item) → EachPair ItemOf (map (λ t. s) g.trees) is → linear_value e.number n ≡ pos (total_width is)
    list_total s n g h is good = go (width s) refl
      where
        go : (o : Option LinearExpression) → width s ≡ o → linear_value e.number n ≡ pos (total_width is)
        go None q = ap (linear_value e.number) (h.none q) ∙ ap pos (sym (no_total s q g.trees is good))
        go (Some w) q = omega (arith, ints, total_is (map (λ t. s) g.trees) is (number (pos 0)) n good (h.total w q))

    suited : (k : ℕ) (x : ParamKind) → Suits d put x (a.number k) (a.sort k) (a.group k) → SuitsKind (induced_sorts e a) v k x
    suited k kind.SortName h = have_widths (a.sort k) (Each-map (Entails d) (λ n. pos 0 ≤ℤ linear_value e.number n) holds_at (width_needs (a.sort k)) h)
    suited k kind.Width h = omega (arith, ints, holds_at (less_one (a.number k)) h, value-less_one e.number (a.number k))
    suited k kind.Index h = holds_at (a.number k) h
    suited k (kind.Term s) h =
        let i = item_of h.0 (put s) h.2 in
        record { only = (i.0, ap (group_meaning e) h.1 ∙ ap (λ (g : Group). group_of Truths (g.items ++ [])) i.1, subst (λ z. IsOf z i.0) (put_closed s) i.2.of) }
    suited k (kind.List s) h =
        let ts = (a.group k).trees in
        let r = are_items ts (map (λ t. put s) ts) (same_terms (put s) ts h.each) in
        let all = subst (λ z. All (IsOf z) r.items) (put_closed s) (all_of_sort (put s) ts r.items r.good) in (
          record { element = ap (sort_in e) h.element ∙ put_closed s; each = subst (All (IsOf (closed_sort v.number (induced_sorts e a) s))) (sym r.are) all },
          list_total (put s) (a.number k) (a.group k) h r.items r.good ∙ ap (λ z. pos (total_width z)) (sym r.are),
        )
    suited k kind.WideList h =
        let r = are_items (a.group k).trees (map word h.widths) (word_terms (a.group k).trees h.widths h.are) in
        let whole : linear_value e.number (a.number k) ≡ pos (total_width r.items) = omega (arith, ints, total_is (map word h.widths) r.items (number (pos 0)) (a.number k) r.good h.total) in (
          subst (All IsBitVector) (sym r.are) (all_wide h.widths r.items r.good),
          whole ∙ ap (λ z. pos (total_width z)) (sym r.are),
        )

    pub suit_all : (j : ℕ) (ps : List Param) → ((k : ℕ) (x : ParamKind) → kind_at ps k ≡ Some x → Suits d put x (a.number (j + k)) (a.sort (j + k)) (a.group (j + k))) → SuitAll (induced_sorts e a) v j ps
    suit_all j [] h = tt
    suit_all j (p ∷ ps) h =
        let first : Suits d put p.kind (a.number j) (a.sort j) (a.group j) = subst (λ k. Suits d put p.kind (a.number k) (a.sort k) (a.group k)) (plus_none j) (h 0 p.kind refl) in
        (suited j p.kind first, suit_all (suc j) ps (λ k x q. subst (λ n. Suits d put x (a.number n) (a.sort n) (a.group n)) (next j k) (h (suc k) x q)))

    pub constraints_hold : (cs : List Constraint) → Each (λ c. Entails d (substitute a.number c.floor)) cs → Each (λ c. pos 0 ≤ℤ linear_value v.number c.floor) cs
    constraints_hold [] h = tt
    constraints_hold (c ∷ cs) h =
        (subst (λ z. pos 0 ≤ℤ z) (value-substitute e.number a.number c.floor) (holds_at (substitute a.number c.floor) h.0), constraints_hold cs h.1)

    -- ---- lengths of lists

    items_below : (ts : List Tree) → length (joined (map (meaning v) ts)).items ≡ length (spliced (map (instance a) ts)).trees
    items_below ts =
        ap (λ g. length g.items) (ap joined (meanings-instances e model.single a ts) ∙ joined-spliced e (map (instance a) ts))
        ∙ one_each e model.single (spliced (map (instance a) ts)).trees

    means_joined : (x : Tree-F Tree) → IsJoinedAt a x → MeansJoinedAt v x
    means_joined x h concat none =
        let ts = (spliced (map (instance a) x.args)).trees in
        h concat (no_trees ts (sym (items_below x.args) ∙ ap length none))

    module _ (ps : List Param) (in_hole : Option InstFault) where
      joined_at : (side : Side) (x : Tree-F Tree) → IsFine d ps a side in_hole x → IsJoinedAt a x
      joined_at LeftSide = joined_left d ps a in_hole
      joined_at OtherSide = joined_elsewhere d ps a in_hole

      pub all_joined : (side : Side) (t : Tree) → instance_fault d ps a side in_hole t ≡ None → IsJoined v t
      unfolding IsJoined
      all_joined side t q = every_more (IsFine d ps a side in_hole) (MeansJoinedAt v) (λ x h. means_joined x (joined_at side x h)) t (all_fine d ps a side in_hole t q)

      pub all_long : (t : Tree) → instance_fault d ps a LeftSide in_hole t ≡ None → IsLong ps v t
      unfolding IsLong
      all_long t q =
          every_more (IsFine d ps a LeftSide in_hole) (IsLongAt ps v)
          (λ x h lists. subst (λ n. 2 ≤ n) (sym (items_below x.args)) (long_left d ps a in_hole x h lists)) t (all_fine d ps a LeftSide in_hole t q)

    -- ---- what a part means

    pub items_of : (t u : Tree) → (instance a t).trees ≡ u ∷ [] → MeanAlike v t e u
    items_of t u only =
        let i = one_item e model.single u in
        ap (λ g. g.items) (meaning-instance e model.single a t)
        ∙ ap (λ ts. flat_map (λ x. (meaning e x).items) ts) only
        ∙ ap (λ g. g.items ++ []) i.1
        ∙ sym (ap (λ g. g.items) i.1)
