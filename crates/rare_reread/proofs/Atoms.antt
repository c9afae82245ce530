-- Texts of atoms.
use Rattle.std.proofs.Common.{◌≡◌, ℕ, ◌+◌, ◌*◌, ◌^◌, ◌<◌, ◌≤◌, Bool, true, false, not, ◌&&◌, List, [], ◌∷◌, ◌++◌, refl, ap, ◌∙◌, subst, arith, nat_le, Some, None, if◌then◌else◌}
use Rattle.std.specs.Fmt.{decimal}
use Rattle.std.specs.List.{list_all}
use Rattle.std.specs.Char.{digit_value}
use Rattle.std.specs.Str.Parse.{AllDigits, digits_value_after}
use Rattle.std.proofs.lemmas.Fmt.{decimal_is_IsNumeral_wide}
use Rattle.std.proofs.lemmas.Str.Parse.{digit_from_value}
use Rattle.std.proofs.lemmas.Bool.Decides.{nat_tests}
use Rattle.std.proofs.lemmas.List.{append-nil}
use Rattle.rare_base.specs.declared.answers.Place.{Place}
use Rattle.rare_sexpr.specs.declared.tree.AtomKind.{AtomKind}
use Rattle.rare_sexpr.specs.declared.tree.AtomKind.TheVariants as atom
use Rattle.rare_sexpr.specs.declared.tree.Kind.TheVariants as kind
use Rattle.rare_sexpr.specs.declared.tree.Sexpr.{Sexpr}
use Rattle.rare_sexpr.specs.declared.tree.Sexpr.TheViews.{outs-List}
use Rattle.rare_sexpr.specs.declared.tree.Sexpr as X
use Rattle.rare_sexpr.specs.Atomic.{kind_of_atom}
use Rattle.rare_sexpr.specs.Bytes.{is_in_bars, is_digit}
use Rattle.rare_sexpr.specs.Tree.{atom_of, list_of, kind_of, text_of, items_of, kind_in, items_in}
use Rattle.rare_sexpr.specs.Grammar.{Are, Atom, Bare, may_follow_bare, Spell}
use Rattle.rare_sexpr.specs.Grammar as grammar
use Rattle.rare_sexpr.specs.Written.{is_simple, are_symbol_bytes, written_symbol}
use Rattle.rare_scope.specs.Numbers as numbers
use Rattle.rare_scope.specs.Numbers.{LARGEST_SMALL, LARGEST_WIDE, digits_from, small_number, wide_number, up_to}
use Rattle.rare_reread.specs.ReadsAs.{ReadsAs}

-- an atom of this kind and text
pub record IsAtom (k : AtomKind) (text : List ℕ) (e : Sexpr) : Type 0 where
  pub place : Place
  pub atom : e ≡ atom_of place k text

atom_kind : (p : Place) (k : AtomKind) (text : List ℕ) → kind_of (atom_of p k text) ≡ kind_of_atom k
unfolding kind_of X.out-Sexpr denote.Hole.Carrier.out
atom_kind p k text = refl

atom_text : (p : Place) (k : AtomKind) (text : List ℕ) → text_of (atom_of p k text) ≡ text
unfolding text_of X.out-Sexpr denote.Hole.Carrier.out
atom_text p k text = refl

pub kind_is : (k : AtomKind) (text : List ℕ) (e : Sexpr) → IsAtom k text e → kind_of e ≡ kind_of_atom k
kind_is k text e a = ap kind_of a.atom ∙ atom_kind a.place k text

pub text_is : (k : AtomKind) (text : List ℕ) (e : Sexpr) → IsAtom k text e → text_of e ≡ text
text_is k text e a = ap text_of a.atom ∙ atom_text a.place k text

pub list_kind : (p : Place) (items : List Sexpr) → kind_of (list_of p items) ≡ kind.List
unfolding kind_of
list_kind p items = ap kind_in (outs-List p items)

pub list_items : (p : Place) (items : List Sexpr) → items_of (list_of p items) ≡ items
unfolding items_of
list_items p items = ap items_in (outs-List p items)

pub atom_reads : (n : ℕ) (k : AtomKind) (text word : List ℕ) → ((rest : List ℕ) → may_follow_bare rest ≡ true → Atom k text word rest) → ReadsAs n word (IsAtom k text)
atom_reads n k text word a = record {
  expression = λ p. atom_of p k text;
  is = λ p. record { place = p; atom = refl };
  spells = λ d p rest le ok. subst (λ (x : List ℕ). Spell d (atom_of p k text ∷ []) p x rest) (append-nil word) (grammar.atom d k text [] p [] word [] rest grammar.none (a rest ok) (grammar.none d _ rest));
}

-- ---- symbols

simple : (text : List ℕ) → is_simple text ≡ true → Bare atom.Symbol text text
simple [] is = absurd cc
simple (b ∷ bs) is = let h = both (not (is_digit b)) (are_symbol_bytes (b ∷ bs)) is in grammar.symbol (b ∷ bs) (record { some = omega arith; each = h.1 }) h.0
  where
    both : (b c : Bool) → (b && c) ≡ true → (b ≡ true) × (c ≡ true)
    both true c e = (refl, e)
    both false c e = cc

-- a word without bars
pub word_reads : (n : ℕ) (text : List ℕ) → is_simple text ≡ true → ReadsAs n text (IsAtom atom.Symbol text)
word_reads n text is = atom_reads n atom.Symbol text text (λ rest ok. grammar.bare atom.Symbol text text rest (simple text is) ok)

-- a name that may stand between bars
pub symbol_reads : (n : ℕ) (name : List ℕ) → list_all is_in_bars name ≡ true → ReadsAs n (written_symbol name) (IsAtom atom.Symbol name)
symbol_reads n name ok = go (is_simple name) refl
  where
    go : (b : Bool) → is_simple name ≡ b → ReadsAs n (if b then name else (124 ∷ (name ++ 124 ∷ []))) (IsAtom atom.Symbol name)
    go true is = word_reads n name is
    go false is = atom_reads n atom.Symbol name (124 ∷ (name ++ 124 ∷ [])) (λ rest end. grammar.bars name rest ok)

-- ---- numerals

digit_byte : (b : ℕ) → digit_value b < 10 → is_digit b ≡ true
digit_byte b lt = let h = digit_from_value b lt in grind (arith, nat_tests)

digits_each : (ds : List ℕ) → AllDigits 10 ds → list_all is_digit ds ≡ true
digits_each [] all = refl
digits_each (b ∷ bs) all = ap (λ t. t && list_all is_digit bs) (digit_byte b all.0) ∙ digits_each bs all.1

pub decimal_digits : (n : ℕ) → n < 10 ^ 64 → Are is_digit (decimal n)
decimal_digits n lt = let h = decimal_is_IsNumeral_wide n lt in record { some = h.0.0; each = digits_each (decimal n) h.0.1 }

pub numeral_reads : (k n : ℕ) → n < 10 ^ 64 → ReadsAs k (decimal n) (IsAtom atom.Numeral (decimal n))
numeral_reads k n lt = atom_reads k atom.Numeral (decimal n) (decimal n) (λ rest ok. grammar.bare atom.Numeral (decimal n) (decimal n) rest (grammar.numeral (decimal n) (decimal_digits n lt)) ok)

digit_counts : (b : ℕ) → digit_value b < 10 → numbers.digit_value b ≡ digit_value b
digit_counts b lt = let h = digit_from_value b lt in grind (arith, nat_tests)

same_number : (n : ℕ) (ds : List ℕ) → AllDigits 10 ds → digits_from 10 n ds ≡ digits_value_after 10 n ds
same_number n [] all = refl
same_number n (b ∷ bs) all =
    let e : 10 * n + numbers.digit_value b ≡ n * 10 + digit_value b = omega (arith, digit_counts b all.0) in
    ap (λ k. digits_from 10 k bs) e ∙ same_number (n * 10 + digit_value b) bs all.1

pub decimal_number : (n : ℕ) → n < 10 ^ 64 → numbers.digits_number 10 (decimal n) ≡ n
decimal_number n lt = let h = decimal_is_IsNumeral_wide n lt in same_number 0 (decimal n) h.0.1 ∙ h.1

at_most : (largest n : ℕ) → n ≤ largest → up_to largest n ≡ Some n
at_most largest n le = let e : nat_le n largest ≡ true = grind (arith, nat_tests) in ap (λ b. if b then Some n else None) e

pub decimal_small : (n : ℕ) → n ≤ LARGEST_SMALL → small_number (decimal n) ≡ Some n
decimal_small n le = ap (up_to LARGEST_SMALL) (decimal_number n (omega arith)) ∙ at_most LARGEST_SMALL n le

pub decimal_wide : (n : ℕ) → n ≤ LARGEST_WIDE → wide_number 10 (decimal n) ≡ Some n
decimal_wide n le = ap (up_to LARGEST_WIDE) (decimal_number n (omega arith)) ∙ at_most LARGEST_WIDE n le
