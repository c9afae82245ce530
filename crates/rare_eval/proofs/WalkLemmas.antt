-- The values of the arguments of a kept term, one after another.
use Rattle.std.proofs.Common.{◌≡◌, ℕ, zero, suc, ◌+◌, ◌<◌, ◌≤◌, Bool as Test, true, false, List, [], ◌∷◌, ◌++◌, map, take, length, slice_get, Option, Some, None, refl, sym, ap, ◌∙◌, subst, arith, add-one}
use Rattle.std.specs.Prelude.{ℤ, pos}
use Rattle.std.specs.Option.{option_map}
use Rattle.std.proofs.lemmas.List.{take_all}
use Rattle.rare_linear.specs.Linears.{LinearExpression}
use Rattle.rare_sort.specs.Each.{EachPair}
use Rattle.rare_sort.specs.Families.{family}
use Rattle.rare_sort.specs.Ids.{tree_at}
use Rattle.rare_sort.specs.SortRules.{number_in}
use Rattle.rare_sort.specs.Sorting.{all_of, IsSorted}
use Rattle.rare_sort.specs.SortLaws.{Gives}
use Rattle.rare_sort.specs.SortOf.{sort_of, IsTermOf}
use Rattle.rare_sort.specs.Trees.{head_of, indices_of, args_of}
use Rattle.rare_sort.specs.declared.declarations.Declarations.{Declarations}
use Rattle.rare_sort.specs.declared.head.Head.{Head}
use Rattle.rare_sort.specs.declared.head.Head.TheVariants as head
use Rattle.rare_sort.specs.declared.sort.Signature.{Signature}
use Rattle.rare_sort.specs.declared.sort.Sort.{Sort}
use Rattle.rare_sort.specs.declared.tree.Tree.{Tree}
use Rattle.rare_sort.proofs.Options.{map_some}
use Rattle.rare_sort.proofs.SortLawLemmas.{node_law}
use Rattle.rare_sort.proofs.SortOfLaw.{have_their_sort}
use Rattle.rare_term.specs.Lawful.{IsKeptTerm}
use Rattle.rare_term.specs.Literals.{operator, reduced, given_literal}
use Rattle.rare_term.specs.State.{State}
use Rattle.rare_term.specs.inner.TreeLaws.{node_of}
use Rattle.rare_meaning.specs.Values.{Fits, zero_of}
use Rattle.rare_meaning.proofs.ArrayFits.{zero_fits}
use Rattle.rare_meaning.specs.Settings.{Item, Setting, sort_in}
use Rattle.rare_meaning.specs.FiniteMaps.{setting_of, result_sort}
use Rattle.rare_meaning.specs.Interpretations.{IsInterpreted}
use Rattle.rare_eval.specs.Evaluation.{evaluated, evaluation}
use Rattle.rare_eval.specs.inner.Cut.{IsCut}
use Rattle.rare_eval.specs.inner.Groups.{is_unvalued}
use Rattle.rare_eval.specs.inner.Indices.{number_at}
use Rattle.rare_eval.specs.inner.Progress.{IsFull, IsAfter}
use Rattle.rare_eval.specs.declared.progress.Progress.{Progress}
use Rattle.rare_eval.specs.declared.values.Value.{Value as Held}
use Rattle.rare_eval.specs.ValueItems.{value_item}
use Rattle.rare_meaning.specs.ClosedSorts.{to_nat}
use Rattle.rare_meaning.specs.Operators.{index}
use Rattle.rare_eval.specs.inner.Sorted.{IsValueOf}
use Rattle.rare_eval.specs.inner.Suits.{Suits, FewOrTruths}
use Rattle.rare_eval.proofs.EvaluationLemmas.{evaluation-node}
use Rattle.rare_eval.proofs.SortedLemmas.{has_its_sort}
use Rattle.rare_eval.proofs.NodeLemmas.{suits, full, few_indices}
use Rattle.rare_sort.specs.SortRules.{sort_rule}
use Rattle.rare_sort.specs.declared.family.Family.TheVariants as kind
use Rattle.rare_sort.proofs.SortingLemmas.{Each-front, Each-back}
use Rattle.std.specs.Prelude.{nat_eq, not, ◌&&◌}
use Rattle.std.specs.List.{list_any}
use Rattle.std.proofs.Math.ListN.{set}
use Rattle.std.proofs.lemmas.List.{map-append, take_more_set}
use Rattle.rare_meaning.specs.Splicing.{values, all_differ}
use Rattle.rare_meaning.specs.Operators.{truth}
use Rattle.rare_eval.specs.inner.Ordinals.{value_ordinal}
use Rattle.rare_eval.proofs.DistinctLemmas.{AreAlike, alike_values, alike_indices, ordinals_more}
use Rattle.rare_eval.proofs.IndexLemmas.{AreNumbers, are_numbers, no_number}

-- ---- lists of values

one_more : (ts : List Tree) (k : ℕ) (is : List Item) (i : Item) → k < length ts → all_of (map evaluation (take k ts)) ≡ Some is → evaluation (tree_at ts k) ≡ Some i →
    all_of (map evaluation (take (suc k) ts)) ≡ Some (is ++ i ∷ [])
one_more [] k is i lt e h = absurd (omega (arith, lt))
one_more (t ∷ ts) zero is i lt e h = let q : [] ≡ is = cc in ap (λ o. all_of (o ∷ [])) h ∙ ap (λ js. Some (js ++ i ∷ [])) q
one_more (t ∷ ts) (suc k) is i lt e h = go (evaluation t) e (λ js. one_more ts k js i (omega (arith, lt)))
  where
    go : (o : Option Item) → all_of (o ∷ map evaluation (take k ts)) ≡ Some is →
        ((js : List Item) → all_of (map evaluation (take k ts)) ≡ Some js → evaluation (tree_at ts k) ≡ Some i → all_of (map evaluation (take (suc k) ts)) ≡ Some (js ++ i ∷ [])) →
        all_of (o ∷ map evaluation (take (suc k) ts)) ≡ Some (is ++ i ∷ [])
    go None e ih = cc
    go (Some x) e ih =
        let m = map_some (λ js. x ∷ js) (all_of (map evaluation (take k ts))) is e in
        ap (option_map (λ js. x ∷ js)) (ih m.0 m.1 h) ∙ ap (λ js. Some (js ++ i ∷ [])) m.2

pub more_values : (ts : List Tree) (k : ℕ) (is : List Item) (i : Item) → k < length ts → all_of (map evaluation (take k ts)) ≡ Some is → evaluation (tree_at ts k) ≡ Some i →
    all_of (map evaluation (take (k + 1) ts)) ≡ Some (is ++ i ∷ [])
more_values ts k is i lt e h = ap (λ n. all_of (map evaluation (take n ts))) (add-one k) ∙ one_more ts k is i lt e h

pub no_value : (ts : List Tree) (k : ℕ) → k < length ts → evaluation (tree_at ts k) ≡ None → all_of (map evaluation ts) ≡ None
no_value [] k lt h = absurd (omega (arith, lt))
no_value (t ∷ ts) zero lt h = ap (λ o. all_of (o ∷ map evaluation ts)) h
no_value (t ∷ ts) (suc k) lt h = go (evaluation t) (no_value ts k (omega (arith, lt)) h)
  where
    go : (o : Option Item) → all_of (map evaluation ts) ≡ None → all_of (o ∷ map evaluation ts) ≡ None
    go None q = refl
    go (Some x) q = ap (option_map (λ xs. x ∷ xs)) q

-- all values begin with those so far
pub rest_values : (ts : List Tree) (k : ℕ) (is js : List Item) → all_of (map evaluation (take k ts)) ≡ Some is → all_of (map evaluation ts) ≡ Some js → (rest : List Item) × (js ≡ is ++ rest)
rest_values ts zero is js e f = let q : [] ≡ is = cc in (js, ap (λ xs. xs ++ js) q)
rest_values [] (suc k) is js e f = let q : [] ≡ is = cc in (js, ap (λ xs. xs ++ js) q)
rest_values (t ∷ ts) (suc k) is js e f = go (evaluation t) e f (rest_values ts k)
  where
    go : (o : Option Item) → all_of (o ∷ map evaluation (take k ts)) ≡ Some is → all_of (o ∷ map evaluation ts) ≡ Some js →
        ((xs ys : List Item) → all_of (map evaluation (take k ts)) ≡ Some xs → all_of (map evaluation ts) ≡ Some ys → (rest : List Item) × (ys ≡ xs ++ rest)) → (rest : List Item) × (js ≡ is ++ rest)
    go None e f ih = absurd (let never : ⊥ = cc in never)
    go (Some x) e f ih =
        let m = map_some (λ xs. x ∷ xs) (all_of (map evaluation (take k ts))) is e in
        let n = map_some (λ xs. x ∷ xs) (all_of (map evaluation ts)) js f in
        let r = ih m.0 n.0 m.1 n.1 in
        (r.0, sym n.2 ∙ ap (λ xs. x ∷ xs) r.1 ∙ ap (λ xs. xs ++ r.0) m.2)

-- ---- a tree by its parts

pub evaluation_of : (t : Tree) → evaluation t ≡ evaluated (head_of t) (all_of (map number_in (indices_of t))) (all_of (map evaluation (args_of t)))
evaluation_of t = ap evaluation (sym (node_of t)) ∙ evaluation-node (head_of t) (indices_of t) (args_of t)

without_args : (h : Head) (ns : Option (List ℤ)) → evaluated h ns None ≡ None
without_args h None = refl
without_args h (Some ns) = refl

pub none_by_argument : (t : Tree) (k : ℕ) → k < length (args_of t) → evaluation (tree_at (args_of t) k) ≡ None → None ≡ evaluation t
none_by_argument t k lt h = sym (evaluation_of t ∙ ap (evaluated (head_of t) (all_of (map number_in (indices_of t)))) (no_value (args_of t) k lt h) ∙ without_args (head_of t) _)

pub none_by_index : (t : Tree) (k : ℕ) → number_at (indices_of t) k ≡ None → None ≡ evaluation t
none_by_index t k h = sym (evaluation_of t ∙ ap (λ o. evaluated (head_of t) o (all_of (map evaluation (args_of t)))) (no_number (indices_of t) k h))

pub none_by_cut : (t : Tree) (k : ℕ) (is : List Item) → all_of (map evaluation (take k (args_of t))) ≡ Some is → ((ns : List ℤ) → IsCut (head_of t) ns is) → None ≡ evaluation t
none_by_cut t k is e cut = sym (evaluation_of t ∙ go (all_of (map number_in (indices_of t))) (all_of (map evaluation (args_of t))) refl)
  where
    go : (ns : Option (List ℤ)) (js : Option (List Item)) → all_of (map evaluation (args_of t)) ≡ js → evaluated (head_of t) ns js ≡ None
    go None js q = refl
    go (Some ns) None q = refl
    go (Some ns) (Some js) q = let r = rest_values (args_of t) k is js e q in ap (λ xs. evaluated (head_of t) (Some ns) (Some xs)) r.1 ∙ cut ns r.0

-- ---- kept terms

bare : (symbols : List Signature) → Setting
bare symbols = setting_of symbols (λ k. pos 1) (record { symbols = []; quotients = []; remainders = [] })

interpreted : (symbols : List Signature) (k : ℕ) (g : Signature) → slice_get symbols k ≡ Some g → IsInterpreted (bare symbols) k g
unfolding bare
interpreted symbols k g e =
    let q : result_sort (λ k. pos 1) (slice_get symbols k) ≡ sort_in (bare symbols) g.gives = ap (result_sort (λ k. pos 1)) e in
    record { sort = q; value = λ vs fits. subst (λ s. Fits (zero_of (result_sort (λ k. pos 1) (slice_get symbols k))) s) q (zero_fits (result_sort (λ k. pos 1) (slice_get symbols k))) }

module _ (d : Declarations) where
  abbrev Good : Tree → Sort → Type 0
  Good = IsSorted (slice_get d.symbols) (λ k. pos 1) d.constraints

  values_are : (ts : List Tree) (ss : List Sort) (is : List Item) → EachPair Good ts ss → all_of (map evaluation ts) ≡ Some is → EachPair IsValueOf ss is
  values_are [] [] is g w = let q : [] ≡ is = cc in subst (EachPair IsValueOf []) q tt
  values_are [] (s ∷ ss) is g w = absurd g
  values_are (t ∷ ts) [] is g w = absurd g
  values_are (t ∷ ts) (s ∷ ss) is g w = go (evaluation t) refl w (values_are ts ss)
    where
      go : (o : Option Item) → evaluation t ≡ o → all_of (o ∷ map evaluation ts) ≡ Some is → ((js : List Item) → EachPair Good ts ss → all_of (map evaluation ts) ≡ Some js → EachPair IsValueOf ss js) →
          EachPair IsValueOf (s ∷ ss) is
      go None h w ih = absurd (let never : ⊥ = cc in never)
      go (Some i) h w ih =
          let m = map_some (λ js. i ∷ js) (all_of (map evaluation ts)) is w in
          subst (EachPair IsValueOf (s ∷ ss)) m.2 (has_its_sort (slice_get d.symbols) (λ k. pos 1) d.constraints (bare d.symbols) (interpreted d.symbols) t s g.0 i h, ih m.0 g.1 m.1)

  first_good : (k : ℕ) (ts : List Tree) (ss : List Sort) → EachPair Good ts ss → EachPair Good (take k ts) (take k ss)
  first_good zero ts ss g = tt
  first_good (suc k) [] [] g = tt
  first_good (suc k) [] (s ∷ ss) g = absurd g
  first_good (suc k) (t ∷ ts) [] g = absurd g
  first_good (suc k) (t ∷ ts) (s ∷ ss) g = (g.0, first_good k ts ss g.1)

  their_sorts : (ts : List Tree) (ss : List Sort) → EachPair Good ts ss → ss ≡ map (sort_of d.symbols) ts
  their_sorts [] [] g = refl
  their_sorts [] (s ∷ ss) g = absurd g
  their_sorts (t ∷ ts) [] g = absurd g
  their_sorts (t ∷ ts) (s ∷ ss) g = λ i. sym (have_their_sort d t s g.0) i ∷ their_sorts ts ss g.1 i

  -- what the rule of sorts says of a term's root
  pub record IsRooted (t : Tree) : Type 0 where
    pub sorts : List Sort
    pub args : EachPair Good (args_of t) sorts
    pub sort : Sort
    pub given : Gives (slice_get d.symbols) (λ k. pos 1) d.constraints (head_of t) (indices_of t) sorts sort

  pub rooted : (t : Tree) (s : Sort) → IsTermOf d t s → IsRooted t
  rooted t s h =
      let o = node_law.only (slice_get d.symbols) (λ k. pos 1) d.constraints (head_of t) (indices_of t) (args_of t) s (subst (λ x. Good x s) (sym (node_of t)) h) in
      record { sorts = o.0; args = o.1; sort = s; given = o.2 }

  pub first_suits : (t : Tree) → IsRooted t → is_unvalued (head_of t) ≡ false → (head_of t ≡ head.Distinct → FewOrTruths (map (sort_of d.symbols) (args_of t))) →
      (k : ℕ) (is : List Item) → all_of (map evaluation (take k (args_of t))) ≡ Some is → Suits (head_of t) is
  first_suits t r u few k is e =
      suits (slice_get d.symbols) (head_of t) (indices_of t) r.sorts r.given.rule k is u (λ q. subst FewOrTruths (sym (their_sorts (args_of t) r.sorts r.args)) (few q)) r.given.found r.given.same
      (values_are (take k (args_of t)) (take k r.sorts) is (first_good k (args_of t) r.sorts r.args) e)

  pub all_full : (t : Tree) → IsRooted t → is_unvalued (head_of t) ≡ false → (m n : ℤ) → number_at (indices_of t) 0 ≡ Some m → number_at (indices_of t) 1 ≡ Some n →
      (is : List Item) → all_of (map evaluation (args_of t)) ≡ Some is → IsFull (head_of t) m n is
  all_full t r u m n a b is e =
      full (slice_get d.symbols) (λ k. pos 1) d.constraints (head_of t) (indices_of t) r.sorts r.given.rule is m n u a b r.given.found r.given.needs (values_are (args_of t) r.sorts is r.args e)

  pub few_of : (t : Tree) → IsRooted t → length (indices_of t) ≤ 2
  few_of t r = few_indices (slice_get d.symbols) (λ k. pos 1) d.constraints (family (head_of t)) (indices_of t) r.sorts r.given.rule r.given.found

  pub numbers_of : (t : Tree) → IsRooted t → (m n : ℤ) → number_at (indices_of t) 0 ≡ Some m → number_at (indices_of t) 1 ≡ Some n → AreNumbers (indices_of t) m n
  numbers_of t r m n a b = are_numbers (indices_of t) m n (few_of t r) a b

kept_literal : (v w : LinearExpression) → reduced head.Literal (v ∷ w ∷ []) ≡ operator head.Literal (v ∷ w ∷ []) → given_literal v w (number_in v) (number_in w) ≡ operator head.Literal (v ∷ w ∷ [])
unfolding reduced
kept_literal v w e = e

-- a literal whose value and width are numbers is kept as another
literal_none : (ix : List LinearExpression) (is : Option (List Item)) → length ix ≤ 2 → reduced head.Literal ix ≡ operator head.Literal ix → evaluated head.Literal (all_of (map number_in ix)) is ≡ None
literal_none [] None few e = refl
literal_none [] (Some is) few e = refl
literal_none (x ∷ []) is few e = go (number_in x) is
  where
    go : (o : Option ℤ) (is : Option (List Item)) → evaluated head.Literal (all_of (o ∷ [])) is ≡ None
    go None is = refl
    go (Some m) None = refl
    go (Some m) (Some is) = refl
literal_none (v ∷ w ∷ []) is few e = go (number_in v) (number_in w) (kept_literal v w e)
  where
    go : (o p : Option ℤ) → given_literal v w o p ≡ operator head.Literal (v ∷ w ∷ []) → evaluated head.Literal (all_of (o ∷ p ∷ [])) is ≡ None
    go None p e = refl
    go (Some m) None e = refl
    go (Some m) (Some n) e = let heads = ap (λ x. x.head) e in let never : ⊥ = cc (heads) in absurd never
literal_none (x ∷ y ∷ z ∷ ix) is few e = absurd (omega (arith, few))

open_none : (h : Head) (ns : Option (List ℤ)) (is : Option (List Item)) → is_unvalued h ≡ true → (h ≡ head.Literal → ⊥) → evaluated h ns is ≡ None
open_none h None is u l = refl
open_none h (Some ns) None u l = refl
open_none (head.Free k) (Some ns) (Some is) u l = refl
open_none (head.Param k) (Some ns) (Some is) u l = refl
open_none head.Hole (Some ns) (Some is) u l = refl
open_none head.Select (Some ns) (Some is) u l = refl
open_none head.Store (Some ns) (Some is) u l = refl
open_none head.Literal (Some ns) (Some is) u l = absurd (l refl)
open_none h (Some ns) (Some is) u l = cc

unvalued_by : (h : Head) (ix : List LinearExpression) (is : Option (List Item)) → length ix ≤ 2 → reduced h ix ≡ operator h ix → is_unvalued h ≡ true → evaluated h (all_of (map number_in ix)) is ≡ None
unvalued_by head.Literal ix is few e u = literal_none ix is few e
unvalued_by (head.Free k) ix is few e u = open_none (head.Free k) (all_of (map number_in ix)) is u (λ q. let never : ⊥ = cc in never)
unvalued_by (head.Param k) ix is few e u = open_none (head.Param k) (all_of (map number_in ix)) is u (λ q. let never : ⊥ = cc in never)
unvalued_by head.Hole ix is few e u = open_none head.Hole (all_of (map number_in ix)) is u (λ q. let never : ⊥ = cc in never)
unvalued_by head.Select ix is few e u = open_none head.Select (all_of (map number_in ix)) is u (λ q. let never : ⊥ = cc in never)
unvalued_by head.Store ix is few e u = open_none head.Store (all_of (map number_in ix)) is u (λ q. let never : ⊥ = cc in never)
unvalued_by h ix is few e u = cc

pub unvalued_none : (d : Declarations) (t : Tree) → IsRooted d t → reduced (head_of t) (indices_of t) ≡ operator (head_of t) (indices_of t) → is_unvalued (head_of t) ≡ true → None ≡ evaluation t
unvalued_none d t r e u = sym (evaluation_of t ∙ unvalued_by (head_of t) (indices_of t) (all_of (map evaluation (args_of t))) (few_of d t r) e u)

-- ---- the loop over the arguments

abbrev pub Done : Head → Tree → Progress → ℕ → Type 0
Done h t p k = (is : List Item) × (all_of (map evaluation (take k (args_of t))) ≡ Some is) × ((ns : List ℤ) → IsAfter h ns is p)

module _ (s : State) (t : Tree) (kept : IsKeptTerm s t) (h : Head) (e : h ≡ head_of t) where
  root : IsRooted s.declared t
  root = rooted s.declared t (sort_of s.declared.symbols t) kept.sorted

  pub unvalued_is_none : is_unvalued h ≡ true → None ≡ evaluation t
  unvalued_is_none u = unvalued_none s.declared t root kept.literals (subst (λ x. is_unvalued x ≡ true) e u)

  module _ (u : is_unvalued h ≡ false) (few : h ≡ head.Distinct → FewOrTruths (map (sort_of s.declared.symbols) (args_of t))) where
    pub suits_more : (k : ℕ) (is : List Item) → all_of (map evaluation (take k (args_of t))) ≡ Some is → Suits h is
    suits_more k is w = subst (λ x. Suits x is) (sym e) (first_suits s.declared t root (subst (λ x. is_unvalued x ≡ false) e u) (λ q. few (e ∙ q)) k is w)

    pub loop_some : (k : ℕ) → k < length (args_of t) → (p q : Progress) (v : Held) → Done h t p k → evaluation (tree_at (args_of t) k) ≡ Some (value_item v) →
        ((ns : List ℤ) (is : List Item) → IsAfter h ns is p → Suits h (is ++ value_item v ∷ []) → IsAfter h ns (is ++ value_item v ∷ []) q) → Done h t q (k + 1)
    loop_some k lt p q v (is, w, after) ev step =
        let new = more_values (args_of t) k is (value_item v) lt w ev in
        (is ++ value_item v ∷ [], new, λ ns. step ns is (after ns) (suits_more (k + 1) (is ++ value_item v ∷ []) new))

    pub loop_none : (k : ℕ) → k < length (args_of t) → (p : Progress) (v : Held) → Done h t p k → evaluation (tree_at (args_of t) k) ≡ Some (value_item v) →
        ((ns : List ℤ) (is : List Item) → IsAfter h ns is p → Suits h (is ++ value_item v ∷ []) → IsCut h ns (is ++ value_item v ∷ [])) → None ≡ evaluation t
    loop_none k lt p v (is, w, after) ev step =
        let js = is ++ value_item v ∷ [] in
        let new = more_values (args_of t) k is (value_item v) lt w ev in
        none_by_cut t (k + 1) js new (λ ns. subst (λ x. IsCut x ns js) e (step ns is (after ns) (suits_more (k + 1) js new)))

    pub loop_end : (k : ℕ) → length (args_of t) ≤ k → (p : Progress) → Done h t p k → (m n : ℤ) → number_at (indices_of t) 0 ≡ Some m → number_at (indices_of t) 1 ≡ Some n → (r : Option Item) →
        ((ns : List ℤ) (is : List Item) → index 0 ns ≡ to_nat m → index 1 ns ≡ to_nat n → IsAfter h ns is p → IsFull h m n is → r ≡ evaluated h (Some ns) (Some is)) → r ≡ evaluation t
    loop_end k le p (is, w, after) m n a b r finish =
        let all : all_of (map evaluation (args_of t)) ≡ Some is = ap (λ ts. all_of (map evaluation ts)) (sym (take_all k (args_of t) le)) ∙ w in
        let ns = numbers_of s.declared t root m n a b in
        let whole : IsFull h m n is = subst (λ x. IsFull x m n is) (sym e) (all_full s.declared t root (subst (λ x. is_unvalued x ≡ false) e u) m n a b is all) in
        finish ns.numbers is ns.first ns.second (after ns.numbers) whole
        ∙ ap (λ x. evaluated x (Some ns.numbers) (Some is)) e
        ∙ (λ i. evaluated (head_of t) (sym ns.are i) (sym all i))
        ∙ sym (evaluation_of t)

-- ---- the loop of `distinct`

abbrev pub Seen : Tree → List ℕ → Test → ℕ → Type 0
Seen t seen differ k =
    (is : List Item) × (all_of (map evaluation (take k (args_of t))) ≡ Some is) × (map (λ i. value_ordinal i.value) is ≡ take k seen) × (differ ≡ all_differ (values is))

module _ (s : State) (t : Tree) (kept : IsKeptTerm s t) (e : head_of t ≡ head.Distinct) where
  distinct_root : IsRooted s.declared t
  distinct_root = rooted s.declared t (sort_of s.declared.symbols t) kept.sorted

  alike_rule : sort_rule (slice_get s.declared.symbols) 2 kind.Alike (indices_of t) distinct_root.sorts ≡ Some distinct_root.given.rule
  alike_rule = subst (λ h. sort_rule (slice_get s.declared.symbols) 2 (family h) (indices_of t) distinct_root.sorts ≡ Some distinct_root.given.rule) e distinct_root.given.found

  are_alike : (k : ℕ) (is : List Item) → all_of (map evaluation (take k (args_of t))) ≡ Some is → AreAlike is
  are_alike k is w =
      alike_values (slice_get s.declared.symbols) (indices_of t) distinct_root.sorts distinct_root.given.rule k is alike_rule distinct_root.given.same
      (values_are s.declared (take k (args_of t)) (take k distinct_root.sorts) is (first_good s.declared k (args_of t) distinct_root.sorts distinct_root.args) w)

  pub seen_more : (k : ℕ) → k < length (args_of t) → (seen : List ℕ) → k < length seen → (differ next : Test) (v : Item) (n : ℕ) → Seen t seen differ k → evaluation (tree_at (args_of t) k) ≡ Some v →
      n ≡ value_ordinal v.value → next ≡ (differ && not (list_any (λ m. nat_eq m n) (take k seen))) → Seen t (set seen k n) next (k + 1)
  seen_more k lt seen room differ next v n (is, w, ordinals, d) ev ordinal step =
      let new = more_values (args_of t) k is v lt w ev in
      let a = are_alike (k + 1) (is ++ v ∷ []) new in
      let first = Each-front (IsValueOf a.sort) is (v ∷ []) a.all in
      let last = (Each-back (IsValueOf a.sort) is (v ∷ []) a.all).0 in (
        is ++ v ∷ [],
        new,
        map-append (λ i. value_ordinal i.value) is (v ∷ []) ∙ (λ i. ordinals i ++ sym ordinal i ∷ []) ∙ sym (take_more_set seen k n room),
        step ∙ (λ i. d i && not (list_any (λ m. nat_eq m (ordinal i)) (sym ordinals i))) ∙ sym (ordinals_more a.sort is v first last),
      )

  pub seen_end : (k : ℕ) → length (args_of t) ≤ k → (seen : List ℕ) (differ : Test) → Seen t seen differ k → Some (truth differ) ≡ evaluation t
  seen_end k le seen differ (is, w, ordinals, d) =
      let all : all_of (map evaluation (args_of t)) ≡ Some is = ap (λ ts. all_of (map evaluation ts)) (sym (take_all k (args_of t) le)) ∙ w in
      let none = alike_indices (slice_get s.declared.symbols) (indices_of t) distinct_root.sorts distinct_root.given.rule alike_rule in
      ap (λ b. Some (truth b)) d ∙ (λ i. evaluated (sym e i) (sym none i) (sym all i)) ∙ sym (evaluation_of t)
