-- The parameters of a text one by one: what each is beside those before it, and that all of them are those read with the fresh ones behind.
use Rattle.std.proofs.Common.{◌≡◌, ℕ, suc, ◌+◌, Bool as Test, true, false, List, [], ◌∷◌, ◌++◌, map, length, Option, Some, None, Ok, refl, sym, ap, ◌∙◌, subst, append_assoc, append-nil, length-append, arith}
use Rattle.std.specs.Prelude.{if◌then◌else◌, nat_eq}
use Rattle.std.proofs.lemmas.Option.{none-some, same_Some}
use Rattle.std.proofs.lemmas.Bool.{eq-eqb}
use Rattle.rare_base.specs.declared.answers.Reason.TheVariants as reason
use Rattle.rare_sexpr.specs.declared.tree.Sexpr.{Sexpr}
use Rattle.rare_sexpr.specs.Tree.{kind_of, text_of, items_of}
use Rattle.rare_sort.specs.Sorting.{name}
use Rattle.rare_sort.specs.declared.sort.Sort.{BitVec, Named}
use Rattle.rare_sort.proofs.SamenessLemmas.{linear_eq-Decides}
use Rattle.rare_sort.proofs.NeedsLemmas.{and_both}
use Rattle.rare_scope.specs.Entries.{entry}
use Rattle.rare_scope.specs.Reading.{refused, go_on, is_list_kind, is_symbol_kind, symbol_at}
use Rattle.rare_scope.specs.Reserved.{is_among}
use Rattle.rare_scope.proofs.InOrder.{went, same_Ok}
use Rattle.rare_rule.specs.Params.{kind_at, is_sort_kind, is_number_kind}
use Rattle.rare_rule.specs.ParamForms.{NO_NAMES, has_sort_over, has_shallow_sort, brings}
use Rattle.rare_rule.specs.Written.{declared_param}
use Rattle.rare_rule.specs.declared.param.Param.{Param}
use Rattle.rare_rule.specs.declared.param.ParamKind.{ParamKind}
use Rattle.rare_rule.specs.declared.param.ParamKind.TheVariants as kind
use Rattle.rare_rule.proofs.Walks.{nesting-BitVec, nesting-Named}
use Rattle.rare_parse.specs.ParamText.{WrittenKind, bringing, kind_words, kind_or, new_name, param_name, brought, WrittenParam, written, param_of, param_at, params_from, params_at}
use Rattle.rare_parse.specs.ParamText as spelled
use Rattle.rare_parse.specs.RuleSortText.{rule_sort_at}
use Rattle.rare_parse.proofs.FormSorts.{AreAmong, has_narrow_sort, sort_fine, flat_one}
use Rattle.rare_parse.proofs.FormTables.{entry_each}

-- ---- kinds

-- a kind beside the parameters before, where a fresh parameter has number n
pub record IsKind (n : ℕ) (before : List Param) (k : WrittenKind) : Type 0 where
  -- it brings what it says
  pub fresh : (b : ParamKind) → k.brings ≡ Some b → brings k.kind b n ≡ true
  -- its sort is over all parameters, where the fresh one stands at its number
  pub over : (all : List Param) → AreAmong before all → ((b : ParamKind) → k.brings ≡ Some b → kind_at all n ≡ Some b) → has_sort_over all k.kind ≡ true
  pub flat : (all : List Param) → AreAmong before all → has_shallow_sort k.kind ≡ true
  pub narrow : (all : List Param) → AreAmong before all → has_narrow_sort k.kind ≡ true

module _ (n : ℕ) (before : List Param) where
  bare_kind : (k : ParamKind) → ((all : List Param) → has_sort_over all k ≡ true) → has_shallow_sort k ≡ true → has_narrow_sort k ≡ true → IsKind n before (bringing k None)
  bare_kind k over flat narrow = record {
    fresh = λ b is. absurd (none-some b is);
    over = λ all among at. over all;
    flat = λ all among. flat;
    narrow = λ all among. narrow;
  }

  same_number : nat_eq n n ≡ true
  same_number = eq-eqb n n refl

  -- a fresh sort name
  sort_kind : IsKind n before (bringing (kind.Term (Named n)) (Some kind.SortName))
  sort_kind = record {
    fresh = λ b is. subst (λ (b : ParamKind). brings (kind.Term (Named n)) b n ≡ true) (same_Some kind.SortName b is) same_number;
    over = λ all among at. ap is_sort_kind (at kind.SortName refl);
    flat = λ all among. flat_one (Named n) (nesting-Named n);
    narrow = λ all among. refl;
  }

  -- a fresh width
  width_kind : IsKind n before (bringing (kind.Term (BitVec (name n))) (Some kind.Width))
  width_kind = record {
    fresh = λ b is. subst (λ (b : ParamKind). brings (kind.Term (BitVec (name n))) b n ≡ true) (same_Some kind.Width b is) ((linear_eq-Decides (name n) (name n)).1 refl);
    over = λ all among at. and_both _ _ (ap is_number_kind (at kind.Width refl)) refl;
    flat = λ all among. flat_one (BitVec (name n)) (nesting-BitVec (name n));
    narrow = λ all among. refl;
  }

  word_kind : (word : List ℕ) (k : WrittenKind) → entry (kind_words n) word ≡ Some k → IsKind n before k
  word_kind word k is =
      entry_each (IsKind n before) (kind_words n) word k
      (bare_kind kind.SortName (λ all. refl) refl refl, (bare_kind kind.Width (λ all. refl) refl refl, (bare_kind kind.Index (λ all. refl) refl refl, (sort_kind, (width_kind, tt))))) is

  of_sort : (s : Sexpr) (k : WrittenKind) → go_on (rule_sort_at before s) (λ t. Ok (bringing (kind.Term t) None)) ≡ Ok k → IsKind n before k
  of_sort s k is =
      let t = went (rule_sort_at before s) (λ t. Ok (bringing (kind.Term t) None)) k is in
      subst (IsKind n before) (same_Ok (bringing (kind.Term t.0) None) k t.2) (record {
        fresh = λ b is. absurd (none-some b is);
        over = λ all among at. (sort_fine before all among s t.0 t.1).over;
        flat = λ all among. (sort_fine before all among s t.0 t.1).flat;
        narrow = λ all among. (sort_fine before all among s t.0 t.1).narrow;
      })

  pub kind_fine : (s : Sexpr) (k : WrittenKind) → spelled.kind_at n before s ≡ Ok k → IsKind n before k
  kind_fine s k is = go (is_symbol_kind (kind_of s)) is
    where
      by_word : (o : Option WrittenKind) → ((k : WrittenKind) → o ≡ Some k → IsKind n before k) → kind_or o (rule_sort_at before s) ≡ Ok k → IsKind n before k
      by_word (Some j) h is = subst (IsKind n before) (same_Ok j k is) (h j refl)
      by_word None h is = of_sort s k is

      go : (b : Test) → kind_or (if b then entry (kind_words n) (text_of s) else None) (rule_sort_at before s) ≡ Ok k → IsKind n before k
      go true is = by_word (entry (kind_words n) (text_of s)) (word_kind (text_of s)) is
      go false is = of_sort s k is

-- ---- parameters

-- a parameter that was read
pub record Given : Type 0 where
  pub text : List ℕ
  pub kind : WrittenKind

abbrev pub declared_of : Given → Param
declared_of g = declared_param g.text g.kind.kind

abbrev pub fresh_of : Given → List Param
fresh_of g = brought g.text g.kind.brings

abbrev pub all_declared : List Given → List Param
all_declared gs = map declared_of gs

abbrev pub all_fresh : List Given → List Param
all_fresh [] = []
all_fresh (g ∷ gs) = fresh_of g ++ all_fresh gs

-- a parameter behind those before: its name is new
pub record IsStep (n : ℕ) (before : List Param) (g : Given) : Type 0 where
  pub new : is_among (NO_NAMES ++ map (λ p. p.name) before) g.text ≡ false
  pub kind : IsKind n before g.kind

-- each behind those before it
abbrev pub AreSteps : ℕ → (declared fresh : List Param) → List Given → Type 0
AreSteps first declared fresh [] = Unit {0}
AreSteps first declared fresh (g ∷ gs) =
    IsStep (first + length fresh) declared g × AreSteps first (declared ++ declared_of g ∷ []) (fresh ++ fresh_of g) gs

name_new : (before : List Param) (e : Sexpr) (word t : List ℕ) → new_name before e word ≡ Ok t → is_among (NO_NAMES ++ map (λ p. p.name) before) t ≡ false
name_new before e word t is = go (is_among (NO_NAMES ++ map (λ p. p.name) before) word) refl is
  where
    go : (b : Test) → is_among (NO_NAMES ++ map (λ p. p.name) before) word ≡ b → (if b then refused e reason.DuplicateParam else Ok word) ≡ Ok t →
        is_among (NO_NAMES ++ map (λ p. p.name) before) t ≡ false
    go true found is = absurd cc
    go false found is = ap (is_among (NO_NAMES ++ map (λ p. p.name) before)) (sym (same_Ok word t is)) ∙ found

module _ (n : ℕ) (before : List Param) where
  abbrev IsWritten : WrittenParam → Type 0
  IsWritten p = (g : Given) × (written g.text g.kind ≡ p) × IsStep n before g

  pair_fine : (e a s : Sexpr) (p : WrittenParam) → param_of n before e (a ∷ s ∷ []) ≡ Ok p → IsWritten p
  pair_fine e a s p is =
      let t = went (param_name before a) (λ t. go_on (spelled.kind_at n before s) (λ k. Ok (written t k))) p is in
      let k = went (spelled.kind_at n before s) (λ k. Ok (written t.0 k)) p t.2 in
      let word = went (symbol_at a) (λ word. new_name before a word) t.0 t.1 in (
        record { text = t.0; kind = k.0 },
        same_Ok (written t.0 k.0) p k.2,
        record { new = name_new before a word.0 t.0 word.2; kind = kind_fine n before s k.0 k.1 },
      )

  items_fine : (e : Sexpr) (items : List Sexpr) (p : WrittenParam) → param_of n before e items ≡ Ok p → IsWritten p
  items_fine e [] p is = absurd cc
  items_fine e (a ∷ []) p is = absurd cc
  items_fine e (a ∷ s ∷ []) p is = pair_fine e a s p is
  items_fine e (a ∷ s ∷ x ∷ xs) p is = absurd cc

  pub param_fine : (e : Sexpr) (p : WrittenParam) → param_at n before e ≡ Ok p → IsWritten p
  param_fine e p is = items_fine e (items_of e) p is

-- ---- all parameters

-- what was read behind these, and the whole list
pub record IsRest (first : ℕ) (all declared fresh : List Param) (gs : List Given) : Type 0 where
  pub same : all ≡ (declared ++ all_declared gs) ++ (fresh ++ all_fresh gs)
  pub count : length declared + length gs ≡ first
  pub steps : AreSteps first declared fresh gs

together : (ds es fs : List Param) (x : Param) (ys zs : List Param) → ((ds ++ x ∷ []) ++ es) ++ ((fs ++ ys) ++ zs) ≡ (ds ++ x ∷ es) ++ (fs ++ (ys ++ zs))
together ds es fs x ys zs = ap (λ rs. rs ++ ((fs ++ ys) ++ zs)) (append_assoc ds (x ∷ []) es) ∙ ap (λ rs. (ds ++ x ∷ es) ++ rs) (append_assoc fs ys zs)

one_more : (ds : List Param) (x : Param) (n : ℕ) → length (ds ++ x ∷ []) + n ≡ length ds + suc n
one_more ds x n = let e = length-append ds (x ∷ []) in omega (arith, e)

module _ (first : ℕ) (all : List Param) where
  -- the rest behind one more
  pub next_rest : (ds fs : List Param) (g : Given) (gs : List Given) → IsRest first all ds fs (g ∷ gs) → IsRest first all (ds ++ declared_of g ∷ []) (fs ++ fresh_of g) gs
  next_rest ds fs g gs h = record {
    same = h.same ∙ sym (together ds (all_declared gs) fs (declared_of g) (fresh_of g) (all_fresh gs));
    count = one_more ds (declared_of g) (length gs) ∙ h.count;
    steps = h.steps.1;
  }

  one_before : (ds fs : List Param) (g : Given) (gs : List Given) → IsStep (first + length fs) ds g → IsRest first all (ds ++ declared_of g ∷ []) (fs ++ fresh_of g) gs → IsRest first all ds fs (g ∷ gs)
  one_before ds fs g gs step h = record {
    same = h.same ∙ together ds (all_declared gs) fs (declared_of g) (fresh_of g) (all_fresh gs);
    count = sym (one_more ds (declared_of g) (length gs)) ∙ h.count;
    steps = (step, h.steps);
  }

  params_rest : (ds fs : List Param) (xs : List Sexpr) → length ds + length xs ≡ first → params_from first ds fs xs ≡ Ok all → (gs : List Given) × IsRest first all ds fs gs
  params_rest ds fs [] n is =
      let same : all ≡ (ds ++ []) ++ (fs ++ []) = sym (same_Ok (ds ++ fs) all is) ∙ ap (λ rs. rs ++ fs) (sym (append-nil ds)) ∙ ap (λ rs. (ds ++ []) ++ rs) (sym (append-nil fs)) in
      ([], record { same = same; count = n; steps = tt })
  params_rest ds fs (x ∷ xs) n is =
      let p = went (param_at (first + length fs) ds x) (λ p. params_from first (ds ++ p.param ∷ []) (fs ++ p.brings) xs) all is in
      let good = param_fine (first + length fs) ds x p.0 p.1 in
      let g = good.0 in
      let more : params_from first (ds ++ declared_of g ∷ []) (fs ++ fresh_of g) xs ≡ Ok all =
      ap (λ (q : WrittenParam). params_from first (ds ++ q.param ∷ []) (fs ++ q.brings) xs) good.1 ∙ p.2 in
      let rest = params_rest (ds ++ declared_of g ∷ []) (fs ++ fresh_of g) xs (one_more ds (declared_of g) (length xs) ∙ n) more in
      (g ∷ rest.0, one_before ds fs g rest.0 good.2 rest.1)

-- the parameters that a list spells
pub read_params : (e : Sexpr) (ps : List Param) → params_at e ≡ Ok ps → (first : ℕ) × ((gs : List Given) × IsRest first ps [] [] gs)
read_params e ps is = go (is_list_kind (kind_of e)) is
  where
    go : (b : Test) → (if b then params_from (length (items_of e)) [] [] (items_of e) else refused e reason.BadForm) ≡ Ok ps → (first : ℕ) × ((gs : List Given) × IsRest first ps [] [] gs)
    go true is = (length (items_of e), params_rest (length (items_of e)) ps [] [] (items_of e) (omega arith) is)
    go false is = absurd cc
