-- Runs of bytes in an atom.
use Rattle.std.proofs.Common.{◌≡◌, ℕ, zero, suc, ◌+◌, ◌<◌, ◌≤◌, Bool, true, false, List, [], ◌∷◌, ◌++◌, length, drop, get_or, nat_eq, refl, ap, sym, ◌∙◌, subst, arith, if◌then◌else◌, not, ◌||◌, ◌-◌, inl, inr}
use Rattle.std.proofs.lemmas.List.{drop_more, drop_all}
use Rattle.std.proofs.Math.Nat.{add-sub_of_le, eq-or-lt_of_le}
use Rattle.std.proofs.lemmas.Bool.{false≢true}
use Rattle.rare_sexpr.specs.declared.tree.AtomKind.TheVariants as kind
use Rattle.rare_sexpr.specs.declared.scan.Part.{Part}
use Rattle.rare_sexpr.specs.declared.scan.Part.TheVariants as part
use Rattle.rare_sexpr.specs.declared.scan.Advance.TheVariants.{Goes, Takes, Wrong}
use Rattle.rare_sexpr.specs.declared.scan.Scanned.{Scanned}
use Rattle.rare_sexpr.specs.declared.scan.Scanned.TheVariants as scanned
use Rattle.rare_sexpr.specs.Bytes.{is_symbol_byte, is_digit, is_in_bars}
use Rattle.rare_sexpr.specs.inner.Scan.{whole, scan, advance, on_advance, behind_bare, IsRun, is_inside}
use Rattle.rare_sexpr.specs.inner.Scanning.{EndsWord, IsScanned}

pub record HasScanned (word : List ℕ) (at : ℕ) (p : Part) (i : ℕ) (q : Part) : Type 0 where
  pub begin : at ≤ i
  pub within : i ≤ length word
  pub same : (more : List ℕ) → scan p at (drop at word ++ more) ≡ scan q i (drop i word ++ more)

-- one byte
pub step_at : (word : List ℕ) (i : ℕ) (p q : Part) (more : List ℕ) → i < length word → advance p (get_or word i 0) ≡ Goes q →
    scan p i (drop i word ++ more) ≡ scan q (i + 1) (drop (i + 1) word ++ more)
step_at word i p q more lt is =
    ap (λ xs. scan p i (xs ++ more)) (drop_more word i 0 lt)
    ∙ ap (λ s. on_advance s i (λ r. scan r (i + 1) (drop (i + 1) word ++ more))) is

-- a run
run_from : (n : ℕ) (word : List ℕ) (at : ℕ) (p : Part) (more : List ℕ) → at + n ≤ length word → ((i : ℕ) → at ≤ i → i < at + n → advance p (get_or word i 0) ≡ Goes p) →
    scan p at (drop at word ++ more) ≡ scan p (at + n) (drop (at + n) word ++ more)
run_from zero word at p more le each = ap (λ k. scan p k (drop k word ++ more)) (omega arith)
run_from (suc n) word at p more le each =
    run_from n word at p more (omega (arith, le)) (λ i a b. each i a (omega (arith, b)))
    ∙ step_at word (at + n) p p more (omega (arith, le)) (each (at + n) (omega arith) (omega arith))
    ∙ ap (λ k. scan p k (drop k word ++ more)) (omega arith)

run_stays : (n : ℕ) (test : ℕ → Bool) (word : List ℕ) (at end : ℕ) (p : Part) → at + n ≡ end → ((b : ℕ) → test b ≡ true → advance p b ≡ Goes p) → IsRun test word at end →
    (more : List ℕ) → scan p at (drop at word ++ more) ≡ scan p end (drop end word ++ more)
run_stays n test word at end p e stays run more =
    run_from n word at p more (omega (arith, e, run.within)) (λ i a b. stays (get_or word i 0) (run.each i a (omega (arith, b, e))))
    ∙ ap (λ k. scan p k (drop k word ++ more)) e

both : (x y : Bool) → not (x || y) ≡ true → (if x then Takes kind.Symbol else if y then Wrong else Goes part.Bars) ≡ Goes part.Bars
both true y t = absurd (false≢true t)
both false true t = absurd (false≢true t)
both false false t = refl

one : (x : Bool) → not x ≡ true → (if x then Goes part.Behind else Goes part.Inside) ≡ Goes part.Inside
one true t = absurd (false≢true t)
one false t = refl

pub append_none : (xs : List ℕ) → xs ++ [] ≡ xs
append_none [] = refl
append_none (x ∷ xs) = ap (λ l. x ∷ l) (append_none xs)

-- a test and one more byte
pub run_more : (test : ℕ → Bool) (word : List ℕ) (at i : ℕ) → IsRun test word at i → i < length word → test (get_or word i 0) ≡ true → IsRun test word at (i + 1)
run_more test word at i run lt is =
    record {
      begin = omega (arith, run.begin);
      within = omega arith;
      each = λ k a b. elim (eq-or-lt_of_le {n = k} {m = i} (omega (arith, b))) [ inl e ↦ subst (λ j. test (get_or word j 0) ≡ true) (sym e) is | inr less ↦ run.each k a less ];
    }

abbrev pub Stays : Part → List ℕ → ℕ → ℕ → Type 0
Stays p word at end = (more : List ℕ) → scan p at (drop at word ++ more) ≡ scan p end (drop end word ++ more)

stays_by : (test : ℕ → Bool) (word : List ℕ) (at end : ℕ) (p q : Part) → p ≡ q → ((b : ℕ) → test b ≡ true → advance q b ≡ Goes q) → IsRun test word at end → Stays p word at end
stays_by test word at end p q e stays run =
    subst (λ r. Stays r word at end) (sym e) (run_stays (end - at) test word at end q (add-sub_of_le run.begin) stays run)

pub stays_symbol : (word : List ℕ) (at end : ℕ) (p : Part) → p ≡ part.Symbol → IsRun is_symbol_byte word at end → Stays p word at end
stays_symbol word at end p e run = stays_by is_symbol_byte word at end p part.Symbol e (λ b t. ap (λ x. if x then Goes part.Symbol else behind_bare b kind.Symbol) t) run

pub stays_keyword : (word : List ℕ) (at end : ℕ) (p : Part) → p ≡ part.Keyword → IsRun is_symbol_byte word at end → Stays p word at end
stays_keyword word at end p e run = stays_by is_symbol_byte word at end p part.Keyword e (λ b t. ap (λ x. if x then Goes part.Keyword else behind_bare b kind.Keyword) t) run

pub stays_numeral : (word : List ℕ) (at end : ℕ) (p : Part) → p ≡ part.Numeral → IsRun is_digit word at end → Stays p word at end
stays_numeral word at end p e run =
    stays_by is_digit word at end p part.Numeral e (λ b t. ap (λ x. if x then Goes part.Numeral else if nat_eq b 46 then Goes part.Point else behind_bare b kind.Numeral) t) run

pub stays_fraction : (word : List ℕ) (at end : ℕ) (p : Part) → p ≡ part.Fraction → IsRun is_digit word at end → Stays p word at end
stays_fraction word at end p e run = stays_by is_digit word at end p part.Fraction e (λ b t. ap (λ x. if x then Goes part.Fraction else behind_bare b kind.Decimal) t) run

bars_step : (b : ℕ) → is_in_bars b ≡ true → advance part.Bars b ≡ Goes part.Bars
bars_step b t = both (nat_eq b 124) (nat_eq b 92) t

pub stays_bars : (word : List ℕ) (at end : ℕ) (p : Part) → p ≡ part.Bars → IsRun is_in_bars word at end → Stays p word at end
stays_bars word at end p e run = stays_by is_in_bars word at end p part.Bars e bars_step run

pub stays_inside : (word : List ℕ) (at end : ℕ) (p : Part) → p ≡ part.Inside → IsRun is_inside word at end → Stays p word at end
stays_inside word at end p e run = stays_by is_inside word at end p part.Inside e (λ b t. one (nat_eq b 34) t) run

-- the end of the text
pub scanned_end : (word : List ℕ) (at : ℕ) (p : Part) (i : ℕ) (q : Part) (told : Bool) (r : Scanned) → HasScanned word at p i q → length word ≤ i → told ≡ true → EndsWord q i r → IsScanned word at p told r
scanned_end word at p i q told (scanned.Whole k end) h le is e = (
  omega (arith, h.begin, e.0),
  omega (arith, h.within, e.0),
  λ more none. h.same more ∙ ap (λ xs. scan q i (xs ++ more)) (drop_all i word le) ∙ ap (scan q i) (none is) ∙ e.1 ∙ ap (λ n. whole k n) (sym e.0),
)
scanned_end word at p i q told (scanned.Bad end) h le is e = absurd e
scanned_end word at p i q told (scanned.Cut r) h le is e =
    (is, ap (scan p at) (sym (append_none (drop at word))) ∙ h.same [] ∙ ap (λ xs. scan q i (xs ++ [])) (drop_all i word le) ∙ e)
scanned_end word at p i q told (scanned.More r) h le is e = absurd e
