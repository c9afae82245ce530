-- Parameters one more: names and sizes stay those that are written.
use Rattle.std.proofs.Common.{◌≡◌, ℕ, ◌+◌, true, false, List, [], ◌∷◌, ◌++◌, length, bytes_eq, slice_get, Option, Some, None, refl, sym, ap, ◌∙◌, subst, arith, append_assoc, append-nil, inl, inr}
use Rattle.std.specs.List.{list_all}
use Rattle.std.specs.Option.{option_and_then}
use Rattle.std.proofs.lemmas.Option.{none-some, same_Some}
use Rattle.std.proofs.lemmas.Slice.Eq.{bytes_eq-Decides}
use Rattle.rare_linear.specs.Linears.{Part, LinearExpression}
use Rattle.rare_sexpr.specs.Bytes.{is_in_bars}
use Rattle.rare_sort.specs.Sorting.{name}
use Rattle.rare_sort.proofs.Options.{if_some, then_some}
use Rattle.rare_rule.specs.Params.{kind_at, is_alone_kind}
use Rattle.rare_rule.specs.declared.param.Param.{Param}
use Rattle.rare_rule.specs.declared.param.ParamKind.{ParamKind}
use Rattle.rare_parse.specs.RuleNames.{number_of_name, number_named, size_of_kind, size_named}
use Rattle.rare_parse.proofs.FormPlaces.{kind_first, kind_behind}
use Rattle.rare_rule_reread.proofs.NameSums.{AllNames}
use Rattle.rare_rule_reread.proofs.Places.{number_first, number_behind, where_first, size_same, where_is}
use Rattle.rare_rule_reread.proofs.Spoken.{IsNameSpoken, Speaks, IsNamed, AreSpoken}

module _ (before more all : List Param) where
  -- ---- what is found stays found

  number_grows : (text : List ℕ) (k : ℕ) → number_named before text ≡ Some k → number_named (before ++ more) text ≡ Some k
  number_grows text k is =
      let found = where_is is_alone_kind before text k is in
      go (kind_at before k) refl found.0 found.1
    where
      go : (o : Option ParamKind) → kind_at before k ≡ o → number_of_name before text ≡ Some k → is_alone_kind (kind_at before k) ≡ true → number_named (before ++ more) text ≡ Some k
      go None kind found passes = let none : false ≡ true = ap is_alone_kind (sym kind) ∙ passes in absurd cc
      go (Some d) kind found passes = where_first before more text is_alone_kind d k found kind ∙ is

  size_grows : (text : List ℕ) (l : LinearExpression) → size_named before text ≡ Some l → size_named (before ++ more) text ≡ Some l
  size_grows text l is =
      let found = then_some (λ k. size_of_kind k (kind_at before k)) (number_of_name before text) l is in
      go found.0 (kind_at before found.0) refl found.1 found.2
    where
      go : (k : ℕ) (o : Option ParamKind) → kind_at before k ≡ o → number_of_name before text ≡ Some k → size_of_kind k (kind_at before k) ≡ Some l → size_named (before ++ more) text ≡ Some l
      go k None kind found size = absurd (none-some l (ap (size_of_kind k) (sym kind) ∙ size))
      go k (Some d) kind found size = size_same before more text d k found kind ∙ ap (size_of_kind k) (sym kind) ∙ size

  name_grows : (k : ℕ) → IsNameSpoken before all k → IsNameSpoken (before ++ more) all k
  name_grows k (inl n) = inl (record { param = n.param; place = n.place; plain = n.plain; bars = n.bars; named = number_grows n.param.name k n.named })
  name_grows k (inr n) = inr (record { param = n.param; place = n.place; size = n.size; bars = n.bars; sized = size_grows n.param.name (name k) n.sized })

  names_grow : (ps : List Part) → AllNames (IsNameSpoken before all) ps → AllNames (IsNameSpoken (before ++ more) all) ps
  names_grow [] names = tt
  names_grow (p ∷ ps) names = (name_grows p.0 names.0, names_grow ps names.1)

  pub speaks_grows : (l : LinearExpression) → Speaks before all l → Speaks (before ++ more) all l
  speaks_grows l s = record { kept = s.kept; names = names_grow l.parts s.names }

-- ---- one more

-- the next parameter, in its place among all
pub record IsNext (before all : List Param) (p : Param) : Type 0 where
  pub place : slice_get all (length before) ≡ Some p
  pub declared : p.fresh ≡ false
  pub bars : list_all is_in_bars p.name ≡ true
  pub size : (l : LinearExpression) → size_of_kind (length before) (Some p.kind) ≡ Some l → Speaks (before ++ p ∷ []) all l

-- the kind of the last
pub last_kind : (before : List Param) (p : Param) → kind_at (before ++ p ∷ []) (length before) ≡ Some p.kind
last_kind before p = let n : 0 + length before ≡ length before = omega arith in ap (kind_at (before ++ p ∷ [])) (sym n) ∙ kind_behind [] before [] p

module _ (before all : List Param) (p : Param) (spoken : AreSpoken before all) (next : (text : List ℕ) → bytes_eq text p.name ≡ true → number_of_name before text ≡ None → IsNext before all p) where
  abbrev with_one : List Param
  with_one = before ++ p ∷ []

  abbrev IsNamedNow : List ℕ → ℕ → Type 0
  IsNamedNow = IsNamed (before ++ p ∷ []) all

  old_name : (text : List ℕ) (j k : ℕ) → number_of_name before text ≡ Some j → number_of_name (before ++ p ∷ []) text ≡ Some k → j ≡ k
  old_name text j k old is = same_Some j k (sym (number_first before (p ∷ []) text j old) ∙ is)

  new_name : (text : List ℕ) (k : ℕ) → number_of_name before text ≡ None → number_of_name (before ++ p ∷ []) text ≡ Some k → (bytes_eq text p.name ≡ true) × (length before ≡ k)
  new_name text k none is = if_some (bytes_eq text p.name) (length before) k (sym (number_behind before p text none) ∙ is)

  names_now : (text : List ℕ) (k : ℕ) → number_of_name (before ++ p ∷ []) text ≡ Some k → IsNamedNow text k
  names_now text k is = go (number_of_name before text) refl
    where
      go : (o : Option ℕ) → number_of_name before text ≡ o → IsNamedNow text k
      go (Some j) old =
          let n = spoken.names text j old in
          subst (IsNamedNow text) (old_name text j k old is)
          (record { param = n.param; place = n.place; kind = kind_first before (p ∷ []) j n.param.kind n.kind; is_text = n.is_text; declared = n.declared; bars = n.bars })
      go None none =
          let found = new_name text k none is in
          let x = next text found.0 none in
          let same : text ≡ p.name = (bytes_eq-Decides text p.name).0 found.0 in
          subst (IsNamedNow text) found.1
          (record { param = p; place = x.place; kind = last_kind before p; is_text = sym same; declared = x.declared; bars = ap (list_all is_in_bars) same ∙ x.bars })

  sizes_now : (text : List ℕ) (l : LinearExpression) → size_named (before ++ p ∷ []) text ≡ Some l → Speaks (before ++ p ∷ []) all l
  sizes_now text l is =
      let found = then_some (λ k. size_of_kind k (kind_at (before ++ p ∷ []) k)) (number_of_name (before ++ p ∷ []) text) l is in
      go found.0 (number_of_name before text) refl found.1 found.2
    where
      go : (k : ℕ) (o : Option ℕ) → number_of_name before text ≡ o → number_of_name (before ++ p ∷ []) text ≡ Some k → size_of_kind k (kind_at (before ++ p ∷ []) k) ≡ Some l → Speaks (before ++ p ∷ []) all l
      go k (Some j) old found size =
          let n = spoken.names text j old in
          let before_is : size_named before text ≡ size_of_kind j (Some n.param.kind) = ap (option_and_then (λ k. size_of_kind k (kind_at before k))) old ∙ ap (size_of_kind j) n.kind in
          speaks_grows before (p ∷ []) all l (spoken.sizes text l (before_is ∙ sym (size_same before (p ∷ []) text n.param.kind j old n.kind) ∙ is))
      go k None none found size =
          let new = new_name text k none found in
          let x = next text new.0 none in
          x.size l (ap (size_of_kind (length before)) (sym (last_kind before p)) ∙ ap (λ j. size_of_kind j (kind_at (before ++ p ∷ []) j)) new.1 ∙ size)

  pub one_more_spoken : AreSpoken (before ++ p ∷ []) all
  one_more_spoken = record { names = names_now; sizes = sizes_now }

-- ---- fresh ones

-- some parameter has this name
abbrev pub IsTaken : List Param → List ℕ → Type 0
IsTaken ps text = (k : ℕ) × (number_of_name ps text ≡ Some k)

abbrev pub AllTaken : List Param → List Param → Type 0
AllTaken ps [] = Unit {0}
AllTaken ps (f ∷ fs) = IsTaken ps f.name × AllTaken ps fs

pub taken_grows : (ps qs : List Param) (fs : List Param) → AllTaken ps fs → AllTaken (ps ++ qs) fs
taken_grows ps qs [] taken = tt
taken_grows ps qs (f ∷ fs) taken = ((taken.0.0, number_first ps qs f.name taken.0.0 taken.0.1), taken_grows ps qs fs taken.1)

-- parameters whose names stand before
pub fresh_spoken : (before all fs : List Param) → AreSpoken before all → AllTaken before fs → AreSpoken (before ++ fs) all
fresh_spoken before all [] spoken taken = subst (λ (ps : List Param). AreSpoken ps all) (sym (append-nil before)) spoken
fresh_spoken before all (f ∷ fs) spoken taken =
    subst (λ (ps : List Param). AreSpoken ps all) (append_assoc before (f ∷ []) fs)
    (fresh_spoken (before ++ f ∷ []) all fs
    (one_more_spoken before all f spoken (λ text same none.
    let is : text ≡ f.name = (bytes_eq-Decides text f.name).0 same in
    absurd (none-some taken.0.0 (sym none ∙ ap (number_of_name before) is ∙ taken.0.1)))) (taken_grows before (f ∷ []) fs taken.1))
