-- The parameters that a text declares, with the fresh ones that they bring, have the form of those of rules.
use Rattle.std.proofs.Common.{◌≡◌, ℕ, suc, ◌+◌, ◌≤◌, Bool as Test, true, false, not, ◌&&◌, ◌||◌, List, [], ◌∷◌, ◌++◌, map, length, bytes_eq, Option, Some, None, Ok, IsTrue, refl, sym, ap, ◌∙◌, subst, append_assoc, append-nil, length-append, arith}
use Rattle.std.proofs.lemmas.Bool.{le-leb}
use Rattle.std.proofs.lemmas.List.Folds.{list_any-append}
use Rattle.std.proofs.lemmas.Slice.Eq.{bytes_eq-Decides}
use Rattle.rare_sexpr.specs.declared.tree.Sexpr.{Sexpr}
use Rattle.rare_sort.proofs.NeedsLemmas.{both, and_both}
use Rattle.rare_scope.specs.Reserved.{is_among}
use Rattle.rare_rule.specs.Params.{kind_at}
use Rattle.rare_rule.specs.ParamForms.{NO_NAMES, has_sort_over, has_shallow_sort, is_param_form, all_params, declared_names, all_differ_from, are_last, brings, bringer, is_behind, next_after, are_brought}
use Rattle.rare_rule.specs.Written.{fresh_param}
use Rattle.rare_rule.specs.declared.param.Param.{Param}
use Rattle.rare_rule.specs.declared.param.ParamKind.{ParamKind}
use Rattle.rare_rule.specs.declared.param.ParamKind.TheVariants as kind
use Rattle.rare_parse.specs.ParamText.{brought, params_at}
use Rattle.rare_parse.proofs.FormSorts.{AreAmong, has_narrow_sort}
use Rattle.rare_parse.proofs.FormPlaces.{all-append, all_weaker, kind_passes, kind_first, kind_behind}
use Rattle.rare_parse.proofs.FormParamSteps.{Given, declared_of, fresh_of, all_declared, all_fresh, AreSteps, IsRest, next_rest, read_params}

-- ---- what fresh parameters are

-- what is brought is a sort name or a width
brings_name : (all : List Param) (k b : ParamKind) (n : ℕ) → brings k b n ≡ true → (has_sort_over all b && (has_shallow_sort b && has_narrow_sort b)) ≡ true
brings_name all (kind.Term t) (kind.Term s) n is = absurd cc
brings_name all (kind.Term t) (kind.List s) n is = absurd cc
brings_name all k (kind.Term s) n is = absurd cc
brings_name all k (kind.List s) n is = absurd cc
brings_name all k b n is = refl

-- ---- parameters without their steps

declared_form : (gs : List Given) → all_params is_param_form (all_declared gs) ≡ true
declared_form [] = refl
declared_form (g ∷ gs) = declared_form gs

declared_is : (gs : List Given) (rest : List Param) → declared_names (all_declared gs ++ rest) ≡ map (λ g. g.text) gs ++ declared_names rest
declared_is [] rest = refl
declared_is (g ∷ gs) rest = ap (λ ns. g.text ∷ ns) (declared_is gs rest)

none_declared : (ps : List Param) → all_params (λ p. p.fresh) ps ≡ true → declared_names ps ≡ []
none_declared [] h = refl
none_declared (p ∷ ps) h = let x = both p.fresh (all_params (λ p. p.fresh) ps) h in rw x.0 (none_declared ps x.1)

-- one name in front is as one name behind
or_swap : (a b : Test) → (a || b) ≡ (b || (a || false))
or_swap true true = refl
or_swap true false = refl
or_swap false true = refl
or_swap false false = refl

-- the names of NO_NAMES and of these parameters
abbrev taken : List Param → List (List ℕ)
taken ds = NO_NAMES ++ map (λ p. p.name) ds

map-append : (ds es : List Param) → map (λ (p : Param). p.name) (ds ++ es) ≡ map (λ (p : Param). p.name) ds ++ map (λ (p : Param). p.name) es
map-append [] es = refl
map-append (d ∷ ds) es = ap (λ ns. d.name ∷ ns) (map-append ds es)

one_taken : (ds : List Param) (d : Param) (t : List ℕ) → is_among (taken (ds ++ d ∷ [])) t ≡ (is_among (taken ds) t || (bytes_eq t d.name || false))
one_taken ds d t =
    ap (λ ns. is_among (NO_NAMES ++ ns) t) (map-append ds (d ∷ []))
    ∙ ap (λ ns. is_among ns t) (sym (append_assoc NO_NAMES (map (λ p. p.name) ds) (d.name ∷ [])))
    ∙ list_any-append (bytes_eq t) (taken ds) (d.name ∷ [])

-- the fresh ones stand behind
fresh_last : (ps : List Param) → all_params (λ p. p.fresh) ps ≡ true → are_last ps ≡ true
fresh_last [] h = refl
fresh_last (p ∷ ps) h = let x = both p.fresh (all_params (λ p. p.fresh) ps) h in rw x.0 x.1

declared_last : (gs : List Given) (rest : List Param) → are_last rest ≡ true → are_last (all_declared gs ++ rest) ≡ true
declared_last [] rest h = h
declared_last (g ∷ gs) rest h = declared_last gs rest h

or_false : (a b : Test) → (a || b) ≡ false → (a ≡ false) × (b ≡ false)
or_false false b is = (refl, is)
or_false true b is = absurd cc

other_name : (a b : Test) → (a && (false && b)) ≡ false
other_name true b = refl
other_name false b = refl

-- no parameter before has the name, and this one brings
bringer_found : (m : ℕ) (p : Param) (k : ℕ) (ds : List Param) (d : Param) (rest : List Param) → is_among (map (λ q. q.name) ds) p.name ≡ false →
    (not d.fresh && (bytes_eq p.name d.name && brings d.kind p.kind k)) ≡ true → bringer m p k (ds ++ d ∷ rest) ≡ Some (m + length ds)
bringer_found m p k [] d rest new here = let n : m ≡ m + 0 = omega arith in rw here (ap Some n)
bringer_found m p k (q ∷ ds) d rest new here =
    let x = or_false (bytes_eq p.name q.name) (is_among (map (λ q. q.name) ds) p.name) new in
    let n : m + 1 + length ds ≡ m + suc (length ds) = omega arith in
    let skip : (not q.fresh && (bytes_eq p.name q.name && brings q.kind p.kind k)) ≡ false =
    ap (λ b. not q.fresh && (b && brings q.kind p.kind k)) x.0 ∙ other_name (not q.fresh) (brings q.kind p.kind k) in
    rw skip (bringer_found (m + 1) p k ds d rest x.1 here ∙ ap Some n)

same_bytes : (t : List ℕ) → bytes_eq t t ≡ true
same_bytes t = (bytes_eq-Decides t t).1 refl

-- declared ones are passed over
declared_skipped : (all : List Param) (least k : ℕ) (gs : List Given) (rest : List Param) → are_brought all least k (all_declared gs ++ rest) ≡ are_brought all least (k + length gs) rest
declared_skipped all least k [] rest = let n : k ≡ k + 0 = omega arith in ap (λ j. are_brought all least j rest) n
declared_skipped all least k (g ∷ gs) rest =
    let n : k + 1 + length gs ≡ k + suc (length gs) = omega arith in
    declared_skipped all least (k + 1) gs rest ∙ ap (λ j. are_brought all least j rest) n

-- its sort is over all parameters, within the limit of nesting, and its width is narrow
abbrev has_good_sort : List Param → Param → Test
has_good_sort all p = has_sort_over all p.kind && (has_shallow_sort p.kind && has_narrow_sort p.kind)

module _ (first : ℕ) where
  -- a test that each fresh parameter passes
  fresh_pass : (test : Param → Test) → ((t : List ℕ) (k b : ParamKind) (n : ℕ) → brings k b n ≡ true → test (fresh_param t b) ≡ true) →
      (ds fs : List Param) (gs : List Given) → AreSteps first ds fs gs → all_params test (all_fresh gs) ≡ true
  fresh_pass test passes ds fs [] steps = refl
  fresh_pass test passes ds fs (g ∷ gs) steps =
      all-append test (fresh_of g) (all_fresh gs) (one g.kind.brings (steps.0.kind.fresh))
      (fresh_pass test passes (ds ++ declared_of g ∷ []) (fs ++ fresh_of g) gs steps.1)
    where
      one : (o : Option ParamKind) → ((b : ParamKind) → o ≡ Some b → brings g.kind.kind b (first + length fs) ≡ true) → all_params test (brought g.text o) ≡ true
      one None h = refl
      one (Some b) h = and_both _ _ (passes g.text g.kind.kind b (first + length fs) (h b refl)) refl

  all_are_fresh : (ds fs : List Param) (gs : List Given) → AreSteps first ds fs gs → all_params (λ p. p.fresh) (all_fresh gs) ≡ true
  all_are_fresh ds fs gs steps = fresh_pass (λ p. p.fresh) (λ t k b n is. refl) ds fs gs steps

  -- ---- names

  names_differ : (ds fs : List Param) (gs : List Given) (others : List (List ℕ)) → ((t : List ℕ) → is_among others t ≡ is_among (taken ds) t) → AreSteps first ds fs gs →
      all_differ_from others (map (λ g. g.text) gs) ≡ true
  names_differ ds fs [] others same steps = refl
  names_differ ds fs (g ∷ gs) others same steps =
      and_both _ _ (ap not (same g.text ∙ steps.0.new))
      (names_differ (ds ++ declared_of g ∷ []) (fs ++ fresh_of g) gs (g.text ∷ others)
      (λ t. or_swap (bytes_eq t g.text) (is_among others t) ∙ ap (λ b. b || (bytes_eq t g.text || false)) (same t) ∙ sym (one_taken ds (declared_of g) t))
      steps.1)

  -- ---- each fresh one was brought

  -- behind the parameters that were read, the number of the one that brings is theirs
  bringer_is : (all ds fs : List Param) (g : Given) (gs : List Given) (b : ParamKind) → IsRest first all ds fs (g ∷ gs) → g.kind.brings ≡ Some b →
      bringer 0 (fresh_param g.text b) (first + length fs) all ≡ Some (length ds)
  bringer_is all ds fs g gs b h is =
      let step = h.steps.0 in
      let new = or_false (is_among NO_NAMES g.text) (is_among (map (λ p. p.name) ds) g.text)
      (sym (list_any-append (bytes_eq g.text) NO_NAMES (map (λ p. p.name) ds)) ∙ step.new) in
      let here = and_both _ _ (same_bytes g.text) (step.kind.fresh b is) in
      let rest = all_declared gs ++ (fs ++ all_fresh (g ∷ gs)) in
      let n : 0 + length ds ≡ length ds = omega arith in
      ap (bringer 0 (fresh_param g.text b) (first + length fs)) (h.same ∙ append_assoc ds (declared_of g ∷ all_declared gs) (fs ++ all_fresh (g ∷ gs)))
      ∙ bringer_found 0 (fresh_param g.text b) (first + length fs) ds (declared_of g) rest new.1 here
      ∙ ap Some n

  one_brought : (all ds fs : List Param) (g : Given) (gs : List Given) (o : Option ParamKind) (least : ℕ) → IsRest first all ds fs (g ∷ gs) → g.kind.brings ≡ o → least ≤ length ds →
      ((next : ℕ) → next ≤ length ds + 1 → are_brought all next (first + length (fs ++ brought g.text o)) (all_fresh gs) ≡ true) →
      are_brought all least (first + length fs) (brought g.text o ++ all_fresh gs) ≡ true
  one_brought all ds fs g gs None least h is low more =
      ap (λ xs. are_brought all least (first + length xs) (all_fresh gs)) (sym (append-nil fs)) ∙ more least (omega (arith, low))
  one_brought all ds fs g gs (Some b) least h is low more =
      let found = bringer_is all ds fs g gs b h is in
      let at = length-append fs (fresh_param g.text b ∷ []) in
      let n : first + length fs + 1 ≡ first + length (fs ++ fresh_param g.text b ∷ []) = omega (arith, at) in
      and_both _ _ (ap (λ o. is_behind o least) found ∙ le-leb least (length ds) low)
      (ap (λ o. are_brought all (next_after o least) (first + length fs + 1) (all_fresh gs)) found
      ∙ ap (λ j. are_brought all (length ds + 1) j (all_fresh gs)) n
      ∙ more (length ds + 1) (omega arith))

  each_brought : (all ds fs : List Param) (gs : List Given) (least : ℕ) → IsRest first all ds fs gs → least ≤ length ds → are_brought all least (first + length fs) (all_fresh gs) ≡ true
  each_brought all ds fs [] least h low = refl
  each_brought all ds fs (g ∷ gs) least h low =
      let n = length-append ds (declared_of g ∷ []) in
      one_brought all ds fs g gs g.kind.brings least h refl low
      (λ next below. each_brought all (ds ++ declared_of g ∷ []) (fs ++ fresh_of g) gs next (next_rest first all ds fs g gs h) (omega (arith, n, below)))

  -- ---- sorts

  fresh_good : (all ds fs : List Param) (gs : List Given) → AreSteps first ds fs gs → all_params (has_good_sort all) (all_fresh gs) ≡ true
  fresh_good all ds fs gs steps = fresh_pass (has_good_sort all) (λ t k b n is. brings_name all k b n is) ds fs gs steps

  among : (all ds fs : List Param) (gs : List Given) → IsRest first all ds fs gs → all_params (has_good_sort all) ds ≡ true → AreAmong ds all
  among all ds fs gs h good = record {
    kinds = λ k d is.
        subst (λ (xs : List Param). kind_at xs k ≡ Some d) (sym (h.same ∙ append_assoc ds (all_declared gs) (fs ++ all_fresh gs)))
        (kind_first ds (all_declared gs ++ (fs ++ all_fresh gs)) k d is);
    sorts = λ k d is. (both _ _ (good_at k d is)).0;
    narrow = λ k d is. (both _ _ (both _ _ (good_at k d is)).1).1;
  }
    where
      good_at : (k : ℕ) (d : ParamKind) → kind_at ds k ≡ Some d → (has_sort_over all d && (has_shallow_sort d && has_narrow_sort d)) ≡ true
      good_at k d is = kind_passes (λ d. has_sort_over all d && (has_shallow_sort d && has_narrow_sort d)) ds k d good is

  -- the fresh one that it brings stands at its number
  fresh_at : (all ds fs : List Param) (g : Given) (gs : List Given) (b : ParamKind) → IsRest first all ds fs (g ∷ gs) → g.kind.brings ≡ Some b → kind_at all (first + length fs) ≡ Some b
  fresh_at all ds fs g gs b h is =
      let xs = ds ++ all_declared (g ∷ gs) in
      let l = length-append ds (all_declared (g ∷ gs)) in
      let m = all_counted (g ∷ gs) in
      let c = h.count in
      let n : first ≡ length xs = omega (arith, l, m, c) in
      ap (λ as'. kind_at as' (first + length fs)) (h.same ∙ ap (λ o. xs ++ (fs ++ (brought g.text o ++ all_fresh gs))) is)
      ∙ ap (λ j. kind_at (xs ++ (fs ++ fresh_param g.text b ∷ all_fresh gs)) (j + length fs)) n
      ∙ kind_behind xs fs (all_fresh gs) (fresh_param g.text b)
    where
      all_counted : (gs : List Given) → length (all_declared gs) ≡ length gs
      all_counted [] = refl
      all_counted (g ∷ gs) = ap (λ n. suc n) (all_counted gs)

  declared_good : (all ds fs : List Param) (gs : List Given) → IsRest first all ds fs gs → all_params (has_good_sort all) ds ≡ true →
      all_params (has_good_sort all) (ds ++ all_declared gs) ≡ true
  declared_good all ds fs [] h good = ap (all_params (has_good_sort all)) (append-nil ds) ∙ good
  declared_good all ds fs (g ∷ gs) h good =
      let step = h.steps.0 in
      let a = among all ds fs (g ∷ gs) h good in
      let here : has_good_sort all (declared_of g) ≡ true = and_both _ _ (step.kind.over all a (λ b is. fresh_at all ds fs g gs b h is)) (and_both _ _ (step.kind.flat all a) (step.kind.narrow all a)) in
      let more = all-append (has_good_sort all) ds (declared_of g ∷ []) good (and_both _ _ here refl) in
      ap (all_params (has_good_sort all)) (sym (append_assoc ds (declared_of g ∷ []) (all_declared gs)))
      ∙ declared_good all (ds ++ declared_of g ∷ []) (fs ++ fresh_of g) gs (next_rest first all ds fs g gs h) more

-- ---- all tests

pub record AreParams (ps : List Param) : Type 0 where
  pub params : IsTrue (all_params is_param_form ps)
  pub names : IsTrue (all_differ_from NO_NAMES (declared_names ps))
  pub fresh_last : IsTrue (are_last ps)
  pub fresh_brought : IsTrue (are_brought ps 0 0 ps)
  pub sorts : IsTrue (all_params (λ p. has_sort_over ps p.kind) ps)
  pub shallow : IsTrue (all_params (λ p. has_shallow_sort p.kind) ps)
  pub narrow : IsTrue (all_params (λ p. has_narrow_sort p.kind) ps)

-- the kinds of all stay, and the sorts of all are over all
pub all_among : (ps : List Param) → AreParams ps → AreAmong ps ps
all_among ps h = record { kinds = λ k d is. is; sorts = λ k d is. kind_passes (has_sort_over ps) ps k d h.sorts is; narrow = λ k d is. kind_passes has_narrow_sort ps k d h.narrow is }

module _ (first : ℕ) (all : List Param) (gs : List Given) (h : IsRest first all [] [] gs) where
  split : all ≡ all_declared gs ++ all_fresh gs
  split = h.same

  fresh_all : all_params (λ p. p.fresh) (all_fresh gs) ≡ true
  fresh_all = all_are_fresh first [] [] gs h.steps

  form_fine : all_params is_param_form all ≡ true
  form_fine =
      ap (all_params is_param_form) split
      ∙ all-append is_param_form (all_declared gs) (all_fresh gs) (declared_form gs) (fresh_pass first is_param_form (λ t k b n is. refl) [] [] gs h.steps)

  names_fine : all_differ_from NO_NAMES (declared_names all) ≡ true
  names_fine =
      ap (λ ps. all_differ_from NO_NAMES (declared_names ps)) split
      ∙ ap (all_differ_from NO_NAMES) (declared_is gs (all_fresh gs) ∙ ap (λ ns. map (λ g. g.text) gs ++ ns) (none_declared (all_fresh gs) fresh_all) ∙ append-nil (map (λ g. g.text) gs))
      ∙ names_differ first [] [] gs NO_NAMES (λ t. refl) h.steps

  last_fine : are_last all ≡ true
  last_fine = ap are_last split ∙ declared_last gs (all_fresh gs) (fresh_last (all_fresh gs) fresh_all)

  brought_fine : are_brought all 0 0 all ≡ true
  brought_fine =
      let c = h.count in
      let n : 0 + length gs ≡ first + 0 = omega (arith, c) in
      ap (are_brought all 0 0) split
      ∙ declared_skipped all 0 0 gs (all_fresh gs)
      ∙ ap (λ k. are_brought all 0 k (all_fresh gs)) n
      ∙ each_brought first all [] [] gs 0 h (omega arith)

  sorts_fine : all_params (has_good_sort all) all ≡ true
  sorts_fine =
      ap (all_params (has_good_sort all)) split
      ∙ all-append (has_good_sort all) (all_declared gs) (all_fresh gs) (declared_good first all [] [] gs h refl) (fresh_good first all [] [] gs h.steps)

  rest_fine : AreParams all
  rest_fine = record {
    params = form_fine;
    names = names_fine;
    fresh_last = last_fine;
    fresh_brought = brought_fine;
    sorts = all_weaker (has_good_sort all) (λ p. has_sort_over all p.kind) all (λ p t. (both _ _ t).0) sorts_fine;
    shallow = all_weaker (has_good_sort all) (λ p. has_shallow_sort p.kind) all (λ p t. (both _ _ (both _ _ t).1).0) sorts_fine;
    narrow = all_weaker (has_good_sort all) (λ p. has_narrow_sort p.kind) all (λ p t. (both _ _ (both _ _ t).1).1) sorts_fine;
  }

-- parameters that were read
pub params_fine : (e : Sexpr) (ps : List Param) → params_at e ≡ Ok ps → AreParams ps
params_fine e ps is = let r = read_params e ps is in rest_fine r.0 ps r.1.0 r.1.1
