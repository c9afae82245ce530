-- What means the same, what is true, and what more declarations change.
use Rattle.std.proofs.Common.{◌≡◌, ℕ, Bool, true, ◌&&◌, List, [], ◌∷◌, ◌++◌, map, Option, Some, refl, sym, ap, ◌∙◌, subst, arith}
use Rattle.std.specs.Prelude.{ℤ, pos, ◌≤ℤ◌, nat_eq, false, slice_get, if◌then◌else◌}
use Rattle.std.proofs.lemmas.Bool.{eqb-true}
use Rattle.std.proofs.lemmas.List.{length-append, get_or_append_left, append_assoc, append-nil}
use Rattle.std.proofs.lemmas.Option.{same_Some}
use Rattle.rare_linear.specs.Linears.{linear_value}
use Rattle.rare_linear.specs.Entailment.{AllHold}
use Rattle.rare_linear.specs.declared.constraint.Constraint.{Constraint}
use Rattle.rare_sort.specs.Each.{Each, EachPair}
use Rattle.rare_sort.specs.Trees.{node}
use Rattle.rare_sort.specs.declared.declarations.Declarations.{Declarations}
use Rattle.rare_sort.specs.declared.head.Head.{Head}
use Rattle.rare_sort.specs.declared.head.Head.TheVariants as head
use Rattle.rare_sort.specs.declared.sort.Signature.{Signature}
use Rattle.rare_sort.specs.declared.tree.Tree.{Tree, out-Tree, roll-out-Tree}
use Rattle.rare_meaning.specs.Values.{Value, value_eq, zero_of, Fits}
use Rattle.rare_meaning.specs.ClosedSorts.{sort_under}
use Rattle.rare_meaning.specs.Settings.{Item, Group, Setting, item, one, nothing}
use Rattle.rare_meaning.specs.FiniteMaps.{Entry, values_eq, value_in, IsFittingEntry, result_sort}
use Rattle.rare_meaning.specs.Interpretations.{FunctionClass, FiniteMaps, AnyFunctions, HasNoList, IsModel}
use Rattle.rare_meaning.specs.Splicing.{joined, val}
use Rattle.rare_meaning.specs.Operators.{truth}
use Rattle.rare_meaning.specs.Meaning.{applied, here, meaning, value_of}
use Rattle.rare_meaning.specs.TrueRewrite.{MeansSame}
use Rattle.rare_meaning.specs.MeaningLaws.{Congruence, StepsKeepMeaning, SameMeaningIsTrue, TrueIsSameMeaning, AnyIsEach, MapsAreModels, CountsElsewhere, DeclaresMore, TruthGrows, MoreDeclaresTruth, DeclaringIsAnOrder}
use Rattle.rare_meaning.proofs.ValueLemmas.{value_eq_refl}
use Rattle.rare_meaning.proofs.ArrayFits.{zero_fits}
use Rattle.rare_meaning.proofs.MeaningLemmas.{meaning-node}
use Rattle.rare_meaning.proofs.TermsFit.{terms_fit}

-- ---- congruence

same_meanings : (e : Setting) (ts us : List Tree) → EachPair (λ t u. meaning e t ≡ meaning e u) ts us → map (meaning e) ts ≡ map (meaning e) us
same_meanings e [] [] h = refl
same_meanings e [] (u ∷ us) h = absurd h
same_meanings e (t ∷ ts) [] h = absurd h
same_meanings e (t ∷ ts) (u ∷ us) h = λ i. h.0 i ∷ same_meanings e ts us h.1 i

pub congruence : Congruence
congruence e h ix ts us same =
    meaning-node e h ix ts ∙ ap (λ gs. here e h (map (linear_value e.number) ix) (joined gs)) (same_meanings e ts us same) ∙ sym (meaning-node e h ix us)

-- ---- in a problem each tree means one item

module _ (e : Setting) (single : HasNoList e) where
  one_here : (h : Head) (ns : List ℤ) (g : Group) → (i : Item) × (here e h ns g ≡ one i)
  one_here (head.Param k) ns g = single.groups k
  one_here head.Hole ns g = single.hole
  one_here h ns g = (applied e h ns g, refl)

  pub one_item : (t : Tree) → (i : Item) × (meaning e t ≡ one i)
  one_item t =
      let n = out-Tree t in
      let is : meaning e t ≡ here e n.head (map (linear_value e.number) n.indices) (joined (map (meaning e) n.args)) =
      ap (meaning e) (sym (roll-out-Tree t)) ∙ meaning-node e n.head n.indices n.args in
      let q = one_here n.head (map (linear_value e.number) n.indices) (joined (map (meaning e) n.args)) in
      (q.0, is ∙ q.1)

  -- an equation of what means the same is true
  equation_here : (t u : Tree) → meaning e t ≡ meaning e u → meaning e (node head.Equal [] (t ∷ u ∷ [])) ≡ meaning e (node head.True [] [])
  equation_here t u same =
      let q = one_item t in
      let i = q.0 in
      let both : joined (meaning e t ∷ meaning e u ∷ []) ≡ joined (one i ∷ one i ∷ []) = λ x. joined (q.1 x ∷ (sym same ∙ q.1) x ∷ []) in
      let yes : truth (value_eq i.value i.value && true) ≡ truth true = ap (λ b. truth (b && true)) (value_eq_refl i.value) in
      meaning-node e head.Equal [] (t ∷ u ∷ []) ∙ ap (here e head.Equal []) both ∙ ap one yes ∙ sym (meaning-node e head.True [] [])

-- ---- what steps keep

module _ (c : FunctionClass) (d : Declarations) where
  means_at : (e : Setting) → IsModel c d e → (ts us : List Tree) → EachPair (MeansSame c d) ts us → EachPair (λ t u. meaning e t ≡ meaning e u) ts us
  means_at e model [] [] h = tt
  means_at e model [] (u ∷ us) h = absurd h
  means_at e model (t ∷ ts) [] h = absurd h
  means_at e model (t ∷ ts) (u ∷ us) h = (h.0.same e model, means_at e model ts us h.1)

  pub steps_keep_meaning : StepsKeepMeaning c d
  steps_keep_meaning = record {
    reflexive = λ t. record { same = λ e model. refl };
    symmetric = λ t u h. record { same = λ e model. sym (h.same e model) };
    transitive = λ t u v h k. record { same = λ e model. h.same e model ∙ k.same e model };
    congruent = λ h ix ts us same. record { same = λ e model. congruence e h ix ts us (means_at e model ts us same) };
    equation = λ t u h. record { same = λ e model. equation_here e model.single t u (h.same e model) };
  }

pub same_is_true : SameMeaningIsTrue
same_is_true c d t u h = record { same = λ e model. ap (λ (g : Group). val 0 g.items) (h.same e model) }

pub true_is_same : TrueIsSameMeaning
true_is_same c d t u s ht hu h =
    record {
      same = λ e model.
          let a = terms_fit c d e model t s ht in
          let b = terms_fit c d e model u s hu in
          let first : value_of e t ≡ a.item.value = ap (λ (g : Group). val 0 g.items) a.means in
          let second : value_of e u ≡ b.item.value = ap (λ (g : Group). val 0 g.items) b.means in
          let sorts : a.item.sort ≡ b.item.sort = a.of.sorted ∙ sym b.of.sorted in
          let values : a.item.value ≡ b.item.value = sym first ∙ h.same e model ∙ second in
          let items : a.item ≡ b.item = λ i. item (sorts i) (values i) in
          a.means ∙ ap one items ∙ sym b.means;
    }

-- ---- classes

any_model : (c : FunctionClass) (d : Declarations) (e : Setting) → IsModel c d e → IsModel AnyFunctions d e
any_model c d e model = record { allowed = model.allowed; interpreted = model.interpreted; counts = tt; single = model.single }

pub any_is_each : AnyIsEach
any_is_each = record {
  true_rewrites = λ c d t u h. record { same = λ e model. h.same e (any_model c d e model) };
  same_meanings = λ c d t u h. record { same = λ e model. h.same e (any_model c d e model) };
}

pub counts_elsewhere : CountsElsewhere
counts_elsewhere FiniteMaps e number group hole h =
    (h.0, record { symbols = h.1.symbols; quotients = h.1.quotients; remainders = h.1.remainders })
counts_elsewhere AnyFunctions e number group hole h = tt

module _ (symbols : List Signature) (number : ℕ → ℤ) (k : ℕ) (g : Signature) (there : slice_get symbols k ≡ Some g) where
  entry_fits : (x : Entry) → IsFittingEntry symbols number x → x.symbol ≡ k → Fits x.value (sort_under number g.gives)
  entry_fits x fits is =
      let same : fits.signature ≡ g = same_Some fits.signature g (sym fits.declared ∙ ap (slice_get symbols) is ∙ there) in
      subst (λ (z : Signature). Fits x.value (sort_under number z.gives)) same fits.value

  value_fits : (xs : List Entry) → Each (IsFittingEntry symbols number) xs → (vs : List Value) → Fits (value_in xs k vs (zero_of (sort_under number g.gives))) (sort_under number g.gives)
  value_fits [] fits vs = zero_fits (sort_under number g.gives)
  value_fits (x ∷ xs) fits vs = go (nat_eq x.symbol k) (values_eq x.args vs) refl (value_fits xs fits.1 vs)
    where
      go : (a b : Bool) → nat_eq x.symbol k ≡ a → Fits (value_in xs k vs (zero_of (sort_under number g.gives))) (sort_under number g.gives) →
          Fits (if a && b then x.value else (value_in xs k vs (zero_of (sort_under number g.gives)))) (sort_under number g.gives)
      go true true e ih = entry_fits x fits.0 (eqb-true x.symbol k e)
      go true false e ih = ih
      go false b e ih = ih

pub maps_are_models : MapsAreModels
maps_are_models d number m allowed fits = record {
  allowed = allowed;
  interpreted = λ k g there. record {
    sort = ap (result_sort number) there;
    value = λ vs args. subst (λ (o : Option Signature). Fits (value_in m.symbols k vs (zero_of (result_sort number o))) (sort_under number g.gives)) (sym there) (value_fits d.symbols number k g there m.symbols fits vs);
  };
  counts = (m, record { symbols = λ k vs. refl; quotients = λ z. refl; remainders = λ z. refl });
  single = record { groups = λ k. (nothing, refl); hole = (nothing, refl) };
}

-- ---- more declarations

fewer_hold : (at : ℕ → ℤ) (have more : List Constraint) → AllHold at (have ++ more) → AllHold at have
fewer_hold at have more h k c less =
    subst (λ (x : Constraint). pos 0 ≤ℤ linear_value at x.floor) (get_or_append_left have more c k less) (h k c (omega (arith, length-append have more, less)))

module _ (c : FunctionClass) (old new : Declarations) (more : DeclaresMore old new) where
  fewer_model : (e : Setting) → IsModel c new e → IsModel c old e
  fewer_model e model = record {
    allowed = record {
      widths = model.allowed.widths;
      hold = fewer_hold e.number old.constraints more.constraints.0 (subst (AllHold e.number) more.constraints.1 model.allowed.hold);
    };
    interpreted = λ k g there. model.interpreted k g (more.symbols k g there);
    counts = model.counts;
    single = model.single;
  }

  truth_grows : TruthGrows c old new
  truth_grows = record {
    true_rewrites = λ t u h. record { same = λ e model. h.same e (fewer_model e model) };
    same_meanings = λ t u h. record { same = λ e model. h.same e (fewer_model e model) };
  }

pub more_declares_truth : MoreDeclaresTruth
more_declares_truth c old new more = truth_grows c old new more

appended_twice : {X : Type 0} (xs ys zs us vs : List X) → ys ≡ xs ++ us → zs ≡ ys ++ vs → zs ≡ xs ++ (us ++ vs)
appended_twice xs ys zs us vs e f = f ∙ ap (λ z. z ++ vs) e ∙ append_assoc xs us vs

pub declaring_is_an_order : DeclaringIsAnOrder
declaring_is_an_order = record {
  reflexive = λ d. record { symbols = λ k g there. there; constraints = ([], sym (append-nil d.constraints)) };
  transitive = λ a b c h k. record {
    symbols = λ n g there. k.symbols n g (h.symbols n g there);
    constraints = (h.constraints.0 ++ k.constraints.0, appended_twice a.constraints b.constraints c.constraints h.constraints.0 k.constraints.0 h.constraints.1 k.constraints.1);
  };
}
