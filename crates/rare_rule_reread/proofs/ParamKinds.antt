-- The kind of a parameter: what is written of one that was read is read back.
use Rattle.std.proofs.Common.{◌≡◌, ℕ, zero, suc, ◌+◌, Bool, true, false, ◌&&◌, ◌||◌, cond, List, [], ◌∷◌, ◌++◌, length, bytes_eq, slice_get, Option, Some, None, Ok, refl, sym, ap, ◌∙◌, subst, arith, inl, inr}
use Rattle.std.specs.Prelude.{ℤ, pos, codes, if◌then◌else◌}
use Rattle.std.specs.List.{list_all}
use Rattle.std.specs.Option.{option_and_then}
use Rattle.std.proofs.lemmas.Option.{none-some, same_Some}
use Rattle.std.proofs.lemmas.Slice.Eq.{bytes_eq-Decides}
use Rattle.rare_linear.specs.Linears.{Part, LinearExpression}
use Rattle.rare_sexpr.specs.Bytes.{is_in_bars}
use Rattle.rare_sexpr.specs.Written.{is_simple}
use Rattle.rare_sexpr.specs.declared.tree.AtomKind.TheVariants as atom
use Rattle.rare_sexpr.specs.declared.tree.Sexpr.{Sexpr}
use Rattle.rare_sexpr.specs.Tree.{kind_of, text_of}
use Rattle.rare_sort.specs.DeclaredSorts.{sort_nesting}
use Rattle.rare_sort.specs.Sorting.{name}
use Rattle.rare_sort.specs.declared.sort.Sort.{Sort, BitVec, Named}
use Rattle.rare_sort.proofs.Options.{then_some}
use Rattle.rare_scope.specs.Entries.{entry}
use Rattle.rare_scope.specs.Reading.{go_on, is_symbol_kind}
use Rattle.rare_scope.proofs.InOrder.{went, same_Ok}
use Rattle.rare_rule.specs.Params.{kind_at, is_list_kind}
use Rattle.rare_rule.specs.Written.{declared_param, fresh_param}
use Rattle.rare_rule.specs.declared.param.Param.{Param}
use Rattle.rare_rule.specs.declared.param.ParamKind.{ParamKind}
use Rattle.rare_rule.specs.declared.param.ParamKind.TheVariants as kind
use Rattle.rare_parse.specs.ParamText.{WrittenKind, bringing, kind_words, kind_or}
use Rattle.rare_parse.specs.ParamText as spelled
use Rattle.rare_parse.specs.RuleNames.{number_of_name, size_of_kind, size_named}
use Rattle.rare_parse.specs.RuleSortText.{rule_sort_at}
use Rattle.rare_rule_printing.specs.SortPrinting.{rule_sort_text, alone_by, alone, is_fresh_of, word_if_fresh, fresh_word, text_or, kind_text, list_texts}
use Rattle.rare_reread.specs.ReadsAs.{ReadsAs}
use Rattle.rare_reread.proofs.Atoms.{IsAtom, kind_is, text_is, word_reads}
use Rattle.rare_reread.proofs.Linears.{so_reads}
use Rattle.rare_rule_reread.proofs.Growing.{speaks_grows, last_kind}
use Rattle.rare_rule_reread.proofs.NameSums.{AllNames, name_spoken}
use Rattle.rare_rule_reread.proofs.Places.{number_behind}
use Rattle.rare_rule_reread.proofs.Sorts.{IsAgain, IsKnown, width_known, sort_back}
use Rattle.rare_rule_reread.proofs.Spoken.{IsNameSpoken, Speaks, AreSpoken}
use Rattle.rare_rule_reread.proofs.Tables.{entry_pair}

-- how deep what is written of a kind nests, at most
abbrev pub MOST_KIND_LISTS : ℕ
MOST_KIND_LISTS = 1004

-- one name alone, among names that are such
alone_name : (Is : ℕ → Type 0) (c : ℤ) (qs : List Part) (j : ℕ) → alone_by c qs ≡ Some j → AllNames Is qs → Is j
alone_name Is (pos zero) ((k, pos (suc zero)) ∷ []) j is names = subst Is (same_Some k j is) names.0
alone_name Is c qs j is names = absurd (none-some j is)

itself : (t : List ℕ) → bytes_eq t t ≡ true
itself t = (bytes_eq-Decides t t).1 refl

first_no : (a b : Bool) → a ≡ false → (a && b) ≡ false
first_no true b is = absurd cc
first_no false b is = refl

second_no : (a b : Bool) → b ≡ false → (a && b) ≡ false
second_no true b is = is
second_no false b is = refl

no_first : (a b : Bool) → (a || b) ≡ false → a ≡ false
no_first true b is = absurd cc
no_first false b is = refl

-- a new name behind parameters, where a fresh parameter has number n among all
module _ (before all : List Param) (spoken : AreSpoken before all) (n : ℕ) (text : List ℕ) (bars : list_all is_in_bars text ≡ true) (new : number_of_name before text ≡ None) where
  abbrev with_one : ParamKind → List Param
  with_one k = before ++ declared_param text k ∷ []

  pub record IsKindBack (k : WrittenKind) : Type 0 where
    pub reads : ReadsAs MOST_KIND_LISTS (kind_text all text k.kind) (λ x. spelled.kind_at n before x ≡ Ok k)
    pub single : list_texts k.kind ≡ []
    pub size : (l : LinearExpression) → size_of_kind (length before) (Some k.kind) ≡ Some l → Speaks (before ++ declared_param text k.kind ∷ []) all l

  -- the fresh parameter that it brings stands at its number
  abbrev pub IsPlaced : WrittenKind → Type 0
  IsPlaced k = (b : ParamKind) → k.brings ≡ Some b → slice_get all n ≡ Some (fresh_param text b)

  -- ---- words

  word_gives : (word : List ℕ) (k : WrittenKind) (x : Sexpr) → entry (kind_words n) word ≡ Some k → IsAtom atom.Symbol word x → spelled.kind_at n before x ≡ Ok k
  word_gives word k x is a =
      ap (λ o. kind_or o (rule_sort_at before x)) (ap (λ q. if is_symbol_kind q then entry (kind_words n) (text_of x) else None) (kind_is atom.Symbol word x a) ∙ ap (entry (kind_words n)) (text_is atom.Symbol word x a) ∙ is)

  word_kind_reads : (word : List ℕ) (k : WrittenKind) → is_simple word ≡ true → entry (kind_words n) word ≡ Some k → word ≡ kind_text all text k.kind → ReadsAs MOST_KIND_LISTS (kind_text all text k.kind) (λ x. spelled.kind_at n before x ≡ Ok k)
  word_kind_reads word k simple is same =
      so_reads 0 MOST_KIND_LISTS word (kind_text all text k.kind) (IsAtom atom.Symbol word) (λ x. spelled.kind_at n before x ≡ Ok k) (omega arith) same (λ x a. word_gives word k x is a) (word_reads 0 word simple)

  is_fresh_here : (b : ParamKind) → slice_get all n ≡ Some (fresh_param text b) → is_fresh_of text (slice_get all n) ≡ true
  is_fresh_here b place = ap (is_fresh_of text) place ∙ itself text

  fresh_here : (word : List ℕ) (b : ParamKind) → slice_get all n ≡ Some (fresh_param text b) → word_if_fresh all text word (Some n) ≡ Some word
  fresh_here word b place = ap (λ t. if t then Some word else None) (is_fresh_here b place)

  plain_back : (word : List ℕ) (k : ParamKind) → is_simple word ≡ true → entry (kind_words n) word ≡ Some (bringing k None) → word ≡ kind_text all text k → list_texts k ≡ [] → size_of_kind (length before) (Some k) ≡ None → IsKindBack (bringing k None)
  plain_back word k simple is same single none = record { reads = word_kind_reads word (bringing k None) simple is same; single = single; size = λ l size. absurd (none-some l (sym none ∙ size)) }

  sort_word : IsPlaced (bringing (kind.Term (Named n)) (Some kind.SortName)) → IsKindBack (bringing (kind.Term (Named n)) (Some kind.SortName))
  sort_word placed = record {
    reads = word_kind_reads (codes "?") (bringing (kind.Term (Named n)) (Some kind.SortName)) refl refl (sym (ap (λ o. text_or o (rule_sort_text all (Named n))) (fresh_here (codes "?") kind.SortName (placed kind.SortName refl))));
    single = refl;
    size = λ l size. absurd (none-some l size);
  }

  -- its size is the fresh width
  width_sized : size_named (before ++ declared_param text (kind.Term (BitVec (name n))) ∷ []) text ≡ Some (name n)
  width_sized =
      let p = declared_param text (kind.Term (BitVec (name n))) in
      let last : number_of_name (before ++ p ∷ []) text ≡ Some (length before) = number_behind before p text new ∙ ap (λ b. cond b (Some (length before)) None) (itself text) in
      ap (option_and_then (λ k. size_of_kind k (kind_at (before ++ p ∷ []) k))) last ∙ ap (size_of_kind (length before)) (last_kind before p)

  width_word : IsPlaced (bringing (kind.Term (BitVec (name n))) (Some kind.Width)) → IsKindBack (bringing (kind.Term (BitVec (name n))) (Some kind.Width))
  width_word placed = record {
    reads =
        word_kind_reads (codes "?BitVec") (bringing (kind.Term (BitVec (name n))) (Some kind.Width)) refl refl
        (sym (ap (λ o. text_or o (rule_sort_text all (BitVec (name n)))) (fresh_here (codes "?BitVec") kind.Width (placed kind.Width refl))));
    single = refl;
    size = λ l size.
        let p = declared_param text (kind.Term (BitVec (name n))) in
        subst (Speaks (before ++ p ∷ []) all) (same_Some (name n) l size)
        (name_spoken (IsNameSpoken (before ++ p ∷ []) all) n (inr (record { param = fresh_param text kind.Width; place = placed kind.Width refl; size = refl; bars = bars; sized = width_sized })));
  }

  word_back : (word : List ℕ) (k : WrittenKind) → IsPlaced k → entry (kind_words n) word ≡ Some k → IsKindBack k
  word_back word k placed is =
      entry_pair (λ t k. IsPlaced k → IsKindBack k) (kind_words n) word k (
        (λ at. plain_back (codes "Sort") kind.SortName refl refl refl refl refl),
        (
          (λ at. plain_back (codes "Width") kind.Width refl refl refl refl refl),
          ((λ at. plain_back (codes "Index") kind.Index refl refl refl refl refl), (sort_word, (width_word, tt))),
        ),
      ) is placed

  -- ---- sorts

  -- a parameter whose size stands before has another name
  named_before : (u : List ℕ) (l : LinearExpression) → size_named before u ≡ Some l → bytes_eq text u ≡ false
  named_before u l is = go (bytes_eq text u) refl
    where
      go : (b : Bool) → bytes_eq text u ≡ b → b ≡ false
      go true same =
          let found = then_some (λ k. size_of_kind k (kind_at before k)) (number_of_name before u) l is in
          let e : text ≡ u = (bytes_eq-Decides text u).0 same in
          absurd (none-some found.0 (sym new ∙ ap (number_of_name before) e ∙ found.1))
      go false same = refl

  not_fresh : (j : ℕ) → IsNameSpoken before all j → is_fresh_of text (slice_get all j) ≡ false
  not_fresh j (inl m) = ap (is_fresh_of text) m.place ∙ first_no m.param.fresh (bytes_eq text m.param.name) (no_first m.param.fresh (is_list_kind (Some m.param.kind)) m.plain)
  not_fresh j (inr m) = ap (is_fresh_of text) m.place ∙ second_no m.param.fresh (bytes_eq text m.param.name) (named_before m.param.name (name j) m.sized)

  no_word : (word : List ℕ) (j : ℕ) → is_fresh_of text (slice_get all j) ≡ false → word_if_fresh all text word (Some j) ≡ None
  no_word word j is = ap (λ t. if t then Some word else None) is

  no_width : (w : LinearExpression) (o : Option ℕ) → alone w ≡ o → Speaks before all w → word_if_fresh all text (codes "?BitVec") o ≡ None
  no_width w None is speaks = refl
  no_width w (Some j) is speaks = no_word (codes "?BitVec") j (not_fresh j (alone_name (IsNameSpoken before all) w.constant w.parts j is speaks.names))

  no_fresh_word : (s : Sort) → IsKnown before all spoken s → fresh_word all text s ≡ None
  no_fresh_word (Named k) known =
      let m = known.1 in
      no_word (codes "?") k (ap (is_fresh_of text) m.place ∙ first_no m.param.fresh (bytes_eq text m.param.name) m.declared)
  no_fresh_word (BitVec w) known = no_width w (alone w) refl known
  no_fresh_word s known = refl

  abbrev word_at : Sexpr → Option WrittenKind
  word_at x = if is_symbol_kind (kind_of x) then entry (kind_words n) (text_of x) else None

  -- what reads as the sort is no word either
  no_kind_word : (s x : Sexpr) (t : Sort) → word_at s ≡ None → IsAgain before all spoken s t x → word_at x ≡ None
  no_kind_word s x t none again = go (is_symbol_kind (kind_of x)) refl
    where
      go : (b : Bool) → is_symbol_kind (kind_of x) ≡ b → (if b then entry (kind_words n) (text_of x) else None) ≡ None
      go false is = refl
      go true is =
          let same = again.symbol is in
          ap (entry (kind_words n)) same.1 ∙ sym (ap (λ b. if b then entry (kind_words n) (text_of s) else None) same.0) ∙ none

  sort_kind_back : (s : Sexpr) (t : Sort) → word_at s ≡ None → rule_sort_at before s ≡ Ok t → IsKindBack (bringing (kind.Term t) None)
  sort_kind_back s t none is =
      let b = sort_back before all spoken s t is in
      let flat = b.flat in
      record {
        reads =
            so_reads (sort_nesting t + 4) MOST_KIND_LISTS (rule_sort_text all t) (kind_text all text (kind.Term t)) (IsAgain before all spoken s t) (λ x. spelled.kind_at n before x ≡ Ok (bringing (kind.Term t) None)) (omega (arith, flat))
            (sym (ap (λ o. text_or o (rule_sort_text all t)) (no_fresh_word t b.known)))
            (λ x again. ap (λ o. kind_or o (rule_sort_at before x)) (no_kind_word s x t none again) ∙ ap (λ q. go_on q (λ t. Ok (bringing (kind.Term t) None))) again.reads) b.again;
        single = refl;
        size = λ l size. speaks_grows before (declared_param text (kind.Term t) ∷ []) all l (width_known before all spoken t l b.known size);
      }

  -- ---- kinds

  pub kind_back : (s : Sexpr) (k : WrittenKind) → IsPlaced k → spelled.kind_at n before s ≡ Ok k → IsKindBack k
  kind_back s k placed is = go (word_at s) refl is
    where
      by_word : (j : WrittenKind) (b : Bool) → (if b then entry (kind_words n) (text_of s) else None) ≡ Some j → IsPlaced j → IsKindBack j
      by_word j true found placed = word_back (text_of s) j placed found
      by_word j false found placed = absurd (none-some j found)

      go : (o : Option WrittenKind) → word_at s ≡ o → kind_or o (rule_sort_at before s) ≡ Ok k → IsKindBack k
      go (Some j) found is = let same = same_Ok j k is in subst IsKindBack same (by_word j (is_symbol_kind (kind_of s)) found (subst IsPlaced (sym same) placed))
      go None none is =
          let t = went (rule_sort_at before s) (λ t. Ok (bringing (kind.Term t) None)) k is in
          subst IsKindBack (same_Ok (bringing (kind.Term t.0) None) k t.2) (sort_kind_back s t.0 none t.1)
