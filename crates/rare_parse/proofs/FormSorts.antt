-- Sorts and linear expressions that a rule's text spells over the parameters before it are over all of them.
use Rattle.std.proofs.Common.{◌≡◌, ℕ, Bool as Test, true, false, ◌&&◌, List, [], ◌∷◌, Option, Some, None, Ok, refl, sym, ap, ◌∙◌, subst}
use Rattle.std.specs.Prelude.{if◌then◌else◌, nat_le, codes}
use Rattle.std.proofs.lemmas.Option.{none-some, same_Some}
use Rattle.rare_base.specs.declared.answers.Reason.TheVariants as reason
use Rattle.rare_linear.specs.Linears.{LinearExpression}
use Rattle.rare_linear.specs.EntailmentTest.{fits_i128}
use Rattle.rare_sort.specs.DeclaredSorts.{sort_nesting, MOST_NESTED_SORTS}
use Rattle.rare_sort.specs.SortRules.{width}
use Rattle.rare_sort.specs.Sorting.{name}
use Rattle.rare_sort.specs.declared.sort.Sort.{Sort, Bool, Int, BitVec, Named}
use Rattle.rare_sort.specs.declared.sort.Sort.TheBlock.{hidden-the_row-Sort-0}
use Rattle.rare_sort.specs.declared.sort.Sort.TheViews.{Array}
use denote.Hole.Carrier
use Rattle.rare_sort.proofs.NeedsLemmas.{and_both}
use Rattle.rare_sort.proofs.Options.{if_some, then_some}
use Rattle.rare_sexpr.specs.declared.tree.Sexpr.{Sexpr, Atom, List', Row_of-Sexpr, end_of-Sexpr, more_of-Sexpr}
use Rattle.rare_sexpr.specs.Tree.{go_along, kind_of, text_of}
use Rattle.rare_scope.specs.Entries.{entry}
use Rattle.rare_scope.specs.LinearText.{linear_at}
use Rattle.rare_scope.specs.Reading.{Read, refused, go_on, is_symbol_kind, is_word}
use Rattle.rare_scope.specs.Reserved.{is_among}
use Rattle.rare_scope.specs.SortText.{plain_sorts, declared_sort, sort_or, shallow}
use Rattle.rare_scope.proofs.InOrder.{went, same_Ok}
use Rattle.rare_rule.specs.Params.{kind_at, is_alone_kind, is_sort_kind, is_number_kind}
use Rattle.rare_rule.specs.ParamForms.{is_sort_over, has_sort_over, is_shallow}
use Rattle.rare_rule.specs.declared.param.Param.{Param}
use Rattle.rare_rule.specs.declared.param.ParamKind.{ParamKind}
use Rattle.rare_rule.specs.declared.param.ParamKind.TheVariants as kind
use Rattle.rare_rule.proofs.Walks.{nesting-Bool, nesting-Int, nesting-BitVec, nesting-Named}
use Rattle.rare_parse.specs.RuleNames.{number_of_name, number_where, number_named, size_of_kind, size_named, rule_widths, is_own_word, sort_named}
use Rattle.rare_parse.specs.RuleSortText.{fresh_words, name_sort, symbol_sort, word_sort, indexed_sort, list_sort, sort_by, rule_sort_at}
use Rattle.rare_parse.proofs.FormNumbers.{IsNumber, IsOver, IsNarrow, AreNumbers, linear_over, linear_narrow}
use Rattle.rare_parse.proofs.FormTables.{entry_all}

-- a width whose constant is an i128
abbrev is_narrow_sort : Sort → Test
is_narrow_sort (BitVec w) = fits_i128 w.constant
is_narrow_sort s = true

abbrev pub has_narrow_sort : ParamKind → Test
has_narrow_sort (kind.Term s) = is_narrow_sort s
has_narrow_sort d = true

-- the parameters before have their kinds among all, and their sorts are over all
pub record AreAmong (before all : List Param) : Type 0 where
  pub kinds : (k : ℕ) (d : ParamKind) → kind_at before k ≡ Some d → kind_at all k ≡ Some d
  pub sorts : (k : ℕ) (d : ParamKind) → kind_at before k ≡ Some d → has_sort_over all d ≡ true
  pub narrow : (k : ℕ) (d : ParamKind) → kind_at before k ≡ Some d → has_narrow_sort d ≡ true

pub flat_one : (s : Sort) → sort_nesting s ≡ 1 → is_shallow s ≡ true
flat_one s is = ap (λ n. nat_le n MOST_NESTED_SORTS) is

-- a sort that is a word
abbrev is_plain : Sort → Test
is_plain Bool = true
is_plain Int = true
is_plain s = false

-- the number of a name is that of a parameter of a kind that was asked for
pub kind_named : (test : Option ParamKind → Test) (ps : List Param) (text : List ℕ) (k : ℕ) → number_where test ps text ≡ Some k → test (kind_at ps k) ≡ true
kind_named test ps text k is =
    let found = then_some (λ j. if test (kind_at ps j) then (Some j) else None) (number_of_name ps text) k is in
    let good = if_some (test (kind_at ps found.0)) found.0 k found.2 in
    ap (λ j. test (kind_at ps j)) (sym good.1) ∙ good.0

module _ (before all : List Param) (among : AreAmong before all) where
  -- ---- names

  abbrev IsKept : Option ParamKind → Option ParamKind → Type 0
  IsKept o p = (d : ParamKind) → o ≡ Some d → p ≡ Some d

  alone_number : (o p : Option ParamKind) → IsKept o p → is_alone_kind o ≡ true → is_number_kind p ≡ true
  alone_number (Some kind.Width) p kept is = ap is_number_kind (kept kind.Width refl)
  alone_number (Some kind.Index) p kept is = ap is_number_kind (kept kind.Index refl)
  alone_number o p kept is = absurd cc

  sort_name : (o p : Option ParamKind) → IsKept o p → is_sort_kind o ≡ true → is_sort_kind p ≡ true
  sort_name (Some kind.SortName) p kept is = ap is_sort_kind (kept kind.SortName refl)
  sort_name o p kept is = absurd cc

  number_fine : (text : List ℕ) (k : ℕ) → number_named before text ≡ Some k → IsNumber all k
  number_fine text k is = alone_number (kind_at before k) (kind_at all k) (among.kinds k) (kind_named is_alone_kind before text k is)

  width_over : (s : Sort) (l : LinearExpression) → is_sort_over all s ≡ true → width s ≡ Some l → IsOver all l
  width_over (BitVec w) l over is = subst (IsOver all) (same_Some w l is) over
  width_over s l over is = absurd (none-some l is)

  name_over : (k : ℕ) (l : LinearExpression) → IsNumber all k → Some (name k) ≡ Some l → IsOver all l
  name_over k l number is = subst (IsOver all) (same_Some (name k) l is) (and_both _ _ number refl)

  size_over : (k : ℕ) (o : Option ParamKind) (l : LinearExpression) → IsKept o (kind_at all k) → ((d : ParamKind) → o ≡ Some d → has_sort_over all d ≡ true) →
      size_of_kind k o ≡ Some l → IsOver all l
  size_over k (Some (kind.Term s)) l kept sorts is = width_over s l (sorts (kind.Term s) refl) is
  size_over k (Some (kind.List s)) l kept sorts is = name_over k l (ap is_number_kind (kept (kind.List s) refl)) is
  size_over k (Some kind.WideList) l kept sorts is = name_over k l (ap is_number_kind (kept kind.WideList refl)) is
  size_over k o l kept sorts is = absurd (none-some l is)

  size_fine : (text : List ℕ) (l : LinearExpression) → size_named before text ≡ Some l → IsOver all l
  size_fine text l is =
      let found = then_some (λ k. size_of_kind k (kind_at before k)) (number_of_name before text) l is in
      size_over found.0 (kind_at before found.0) l (among.kinds found.0) (among.sorts found.0) found.2

  width_narrow : (s : Sort) (l : LinearExpression) → is_narrow_sort s ≡ true → width s ≡ Some l → IsNarrow l
  width_narrow (BitVec w) l narrow is = subst IsNarrow (same_Some w l is) narrow
  width_narrow s l narrow is = absurd (none-some l is)

  size_narrow : (k : ℕ) (o : Option ParamKind) (l : LinearExpression) → ((d : ParamKind) → o ≡ Some d → has_narrow_sort d ≡ true) → size_of_kind k o ≡ Some l → IsNarrow l
  size_narrow k (Some (kind.Term s)) l narrow is = width_narrow s l (narrow (kind.Term s) refl) is
  size_narrow k (Some (kind.List s)) l narrow is = subst IsNarrow (same_Some (name k) l is) refl
  size_narrow k (Some kind.WideList) l narrow is = subst IsNarrow (same_Some (name k) l is) refl
  size_narrow k o l narrow is = absurd (none-some l is)

  pub widths_narrow : (text : List ℕ) (l : LinearExpression) → size_named before text ≡ Some l → IsNarrow l
  widths_narrow text l is =
      let found = then_some (λ k. size_of_kind k (kind_at before k)) (number_of_name before text) l is in
      size_narrow found.0 (kind_at before found.0) l (among.narrow found.0) found.2

  pub widths_fine : AreNumbers all (rule_widths before)
  widths_fine = record { numbers = number_fine; sizes = size_fine }

  -- ---- sorts

  pub record IsFine (s : Sort) : Type 0 where
    pub over : is_sort_over all s ≡ true
    pub flat : is_shallow s ≡ true
    pub narrow : is_narrow_sort s ≡ true

  abbrev GivesFine : Read Sort → Type 0
  GivesFine read = (s : Sort) → read ≡ Ok s → IsFine s

  abbrev GiveFine : List (Sexpr × Read Sort) → Type 0
  GiveFine [] = Unit {0}
  GiveFine (x ∷ xs) = GivesFine x.1 × GiveFine xs

  fine_Bool : IsFine Bool
  fine_Bool = record { over = refl; flat = flat_one Bool nesting-Bool; narrow = refl }

  fine_Int : IsFine Int
  fine_Int = record { over = refl; flat = flat_one Int nesting-Int; narrow = refl }

  fine_plain : (s : Sort) → is_plain s ≡ true → IsFine s
  fine_plain Bool is = fine_Bool
  fine_plain Int is = fine_Int
  fine_plain s is = absurd cc

  plain_fine : (text : List ℕ) (s : Sort) → entry plain_sorts text ≡ Some s → IsFine s
  plain_fine text s is = fine_plain s (entry_all is_plain plain_sorts text s refl is)

  word_fine : (x : Sexpr) → GivesFine (word_sort before x)
  word_fine x s is =
      let w = went (linear_at (rule_widths before) x) (λ w. Ok (BitVec w)) s is in
      subst IsFine (same_Ok (BitVec w.0) s w.2)
      (record {
        over = linear_over all (rule_widths before) widths_fine x w.0 w.1;
        flat = flat_one (BitVec w.0) (nesting-BitVec w.0);
        narrow = linear_narrow (rule_widths before) widths_narrow x w.0 w.1;
      })

  named_fine : (k : ℕ) → is_sort_kind (kind_at before k) ≡ true → IsFine (Named k)
  named_fine k is = record { over = sort_name (kind_at before k) (kind_at all k) (among.kinds k) is; flat = flat_one (Named k) (nesting-Named k); narrow = refl }

  declared_fine : (e : Sexpr) (o : Option ℕ) → ((k : ℕ) → o ≡ Some k → is_sort_kind (kind_at before k) ≡ true) → GivesFine (declared_sort e o)
  declared_fine e (Some k) h s is = subst IsFine (same_Ok (Named k) s is) (named_fine k (h k refl))
  declared_fine e None h s is = absurd cc

  sort_named_fine : (text : List ℕ) (k : ℕ) → sort_named before text ≡ Some k → is_sort_kind (kind_at before k) ≡ true
  sort_named_fine text k is = go (is_own_word text) is
    where
      go : (b : Test) → (if b then None else (number_where is_sort_kind before text)) ≡ Some k → is_sort_kind (kind_at before k) ≡ true
      go true is = absurd (none-some k is)
      go false is = kind_named is_sort_kind before text k is

  name_fine : (e : Sexpr) → GivesFine (name_sort before e)
  name_fine e s is = go (is_among fresh_words (text_of e)) is
    where
      go : (b : Test) → (if b then refused e reason.BadSort else declared_sort e (sort_named before (text_of e))) ≡ Ok s → IsFine s
      go true is = absurd cc
      go false is = declared_fine e (sort_named before (text_of e)) (sort_named_fine (text_of e)) s is

  or_fine : (o : Option Sort) (other : Read Sort) → ((s : Sort) → o ≡ Some s → IsFine s) → GivesFine other → GivesFine (sort_or o other)
  or_fine (Some t) other h g s is = subst IsFine (same_Ok t s is) (h t refl)
  or_fine None other h g s is = g s is

  symbol_fine : (e : Sexpr) → GivesFine (symbol_sort before e)
  symbol_fine e s is = or_fine (entry plain_sorts (text_of e)) (name_sort before e) (plain_fine (text_of e)) (name_fine e) s is

  indexed_fine : (e h x y : Sexpr) → GivesFine (indexed_sort before e h x y)
  indexed_fine e h x y s is = go (is_word (codes "_") h && is_word (codes "BitVec") x) is
    where
      go : (b : Test) → (if b then word_sort before y else refused e reason.BadSort) ≡ Ok s → IsFine s
      go true is = word_fine y s is
      go false is = absurd cc

  over_Array : (a b : Sort) → is_sort_over all (Array a b) ≡ is_sort_over all a && is_sort_over all b
  unfolding hidden-the_row-Sort-0 denote.Hole.Carrier.hidden
  over_Array a b = refl

  shallow_fine : (e : Sexpr) (a b : Sort) → IsFine a → IsFine b → GivesFine (shallow e (Array a b))
  shallow_fine e a b g h s is = go (is_shallow (Array a b)) refl is
    where
      go : (t : Test) → is_shallow (Array a b) ≡ t → (if t then Ok (Array a b) else refused e reason.TermLimit) ≡ Ok s → IsFine s
      go true flat is = subst IsFine (same_Ok (Array a b) s is) (record { over = over_Array a b ∙ and_both _ _ g.over h.over; flat = flat; narrow = refl })
      go false flat is = absurd cc

  array_fine : (e : Sexpr) (keys entries : Read Sort) → GivesFine keys → GivesFine entries → GivesFine (go_on keys (λ k. go_on entries (λ v. shallow e (Array k v))))
  array_fine e keys entries g h s is =
      let k = went keys (λ k. go_on entries (λ v. shallow e (Array k v))) s is in
      let v = went entries (λ v. shallow e (Array k.0 v)) s k.2 in
      shallow_fine e k.0 v.0 (g k.0 k.1) (h v.0 v.1) s v.2

  list_fine : (e : Sexpr) (items : List (Sexpr × Read Sort)) → GiveFine items → GivesFine (list_sort before e items)
  list_fine e (h ∷ x ∷ []) all s is = go (is_word (codes "BitVec") h.0) is
    where
      go : (b : Test) → (if b then word_sort before x.0 else refused e reason.BadSort) ≡ Ok s → IsFine s
      go true is = word_fine x.0 s is
      go false is = absurd cc
  list_fine e (h ∷ x ∷ y ∷ []) all s is = go (is_word (codes "Array") h.0) is
    where
      go : (b : Test) → (if b then go_on x.1 (λ keys. go_on y.1 (λ entries. shallow e (Array keys entries))) else indexed_sort before e h.0 x.0 y.0) ≡ Ok s → IsFine s
      go true is = array_fine e x.1 y.1 all.1.0 all.1.1.0 s is
      go false is = indexed_fine e h.0 x.0 y.0 s is
  list_fine e items all s is = absurd cc

  by_symbol : (e : Sexpr) (b : Test) (items : List (Sexpr × Read Sort)) → GiveFine items → GivesFine (sort_by before e b items)
  by_symbol e true items all s is = symbol_fine e s is
  by_symbol e false items all s is = list_fine e items all s is

  mutual
    pub sort_fine : (e : Sexpr) → GivesFine (rule_sort_at before e)
    sort_fine (Atom place k text) s is = by_symbol (Atom place k text) (is_symbol_kind (kind_of (Atom place k text))) [] tt s is
    sort_fine (List' place shape row) s is =
        by_symbol (List' place shape row) (is_symbol_kind (kind_of (List' place shape row)))
        (go_along (Read Sort) (λ e items. sort_by before e (is_symbol_kind (kind_of e)) items) row) (along_fine row) s is

    along_fine : {m : _} (row : Row_of-Sexpr m) → GiveFine (go_along (Read Sort) (λ e items. sort_by before e (is_symbol_kind (kind_of e)) items) row)
    along_fine end_of-Sexpr = tt
    along_fine (more_of-Sexpr e rest) = (λ s is. sort_fine e s is, along_fine rest)
