-- Bytes without a line feed stand on one line, and so does an atom without bars and quotes.
use Rattle.std.proofs.Common.{◌≡◌, ℕ, zero, suc, ◌+◌, Bool, true, false, ◌||◌, if◌then◌else◌, List, [], ◌∷◌, take, get_or, nat_eq, refl, ap, sym, ◌∙◌, subst, arith, Some}
use Rattle.std.proofs.lemmas.Bool.{eqb-true}
use Rattle.rare_base.specs.declared.answers.Place.{Place}
use Rattle.rare_sexpr.specs.declared.tree.AtomKind.{AtomKind}
use Rattle.rare_sexpr.specs.declared.scan.Part.{Part}
use Rattle.rare_sexpr.specs.declared.scan.Part.TheVariants as part
use Rattle.rare_sexpr.specs.declared.scan.Advance.{Advance}
use Rattle.rare_sexpr.specs.declared.scan.Advance.TheVariants.{Goes, Takes, Stops, Wrong}
use Rattle.rare_sexpr.specs.declared.bytes.Class.{Class}
use Rattle.rare_sexpr.specs.declared.bytes.Class.TheVariants.{Blank, LineFeed, Open, Close, Semicolon, Colon, Hash, Digit, Letter, Quote, Bar, Other}
use Rattle.rare_sexpr.specs.Bytes.{after, behind}
use Rattle.rare_sexpr.specs.inner.Classes.{class}
use Rattle.rare_sexpr.specs.inner.Gaps.{along}
use Rattle.rare_sexpr.specs.inner.Wording.{IsAtomOf}
use Rattle.rare_sexpr.proofs.ClassTests.{IsOf, class_tests}
use Rattle.rare_sexpr.proofs.Lists.{append_none}
use Rattle.std.proofs.lemmas.Option.{same_Some}
use Rattle.rare_sexpr.specs.inner.Scan.{whole, scan, advance, on_advance, at_end, begins_class, begins_part}
use Rattle.rare_sexpr.proofs.Shapes.{is_bare}
use Rattle.rare_sexpr.proofs.Complete.{GoesBare, bare_advance, bare_goes}

pub along_none : (p : Place) → p ≡ along p 0
along_none p = ap (λ c. record { line = p.line; column = c }) (omega arith)

pub along_more : (p : Place) (m n : ℕ) → along (along p m) n ≡ along p (m + n)
along_more p m n = ap (λ c. record { line = p.line; column = c }) (omega arith)

pub after_along : (b : ℕ) (p : Place) → nat_eq b 10 ≡ false → after b p ≡ along p 1
after_along b p e = ap (λ t. if t then record { line = p.line + 1; column = 1 } else record { line = p.line; column = p.column + 1 }) e

no_goes : (p q : Part) → is_bare p ≡ true → advance p 10 ≡ Goes q → ⊥
no_goes part.Symbol q h e = cc
no_goes part.Colon q h e = cc
no_goes part.Keyword q h e = cc
no_goes part.Numeral q h e = cc
no_goes part.Point q h e = cc
no_goes part.Fraction q h e = cc
no_goes part.Hash q h e = cc
no_goes part.HashB q h e = cc
no_goes part.HashX q h e = cc
no_goes part.Binary q h e = cc
no_goes part.Hex q h e = cc
no_goes part.Bars q h e = cc
no_goes part.Inside q h e = cc
no_goes part.Behind q h e = cc

on_line : (t : Bool) (p q : Part) (b : ℕ) → nat_eq b 10 ≡ t → is_bare p ≡ true → advance p b ≡ Goes q → t ≡ false
on_line false p q b e h is = refl
on_line true p q b e h is = absurd (no_goes p q h (subst (λ x. advance p x ≡ Goes q) (eqb-true b 10 e) is))

whole_length : (k l : AtomKind) (m n : ℕ) → whole k m ≡ whole l n → m ≡ n
whole_length k l m n e = cc

end_here : (p : Part) (n m : ℕ) (k : AtomKind) → at_end p n ≡ whole k m → n ≡ m
end_here part.Symbol n m k e = cc
end_here part.Colon n m k e = cc
end_here part.Keyword n m k e = cc
end_here part.Numeral n m k e = cc
end_here part.Point n m k e = cc
end_here part.Fraction n m k e = cc
end_here part.Hash n m k e = cc
end_here part.HashB n m k e = cc
end_here part.HashX n m k e = cc
end_here part.Binary n m k e = cc
end_here part.Hex n m k e = cc
end_here part.Bars n m k e = cc
end_here part.Inside n m k e = cc
end_here part.Behind n m k e = cc

byte_along : (a : Advance) (b : ℕ) (bs : List ℕ) (j : ℕ) (p : Part) (n : ℕ) (k : AtomKind) (at : Place) → is_bare p ≡ true → advance p b ≡ a →
    on_advance a n (λ q. scan q (n + 1) bs) ≡ whole k (n + suc j) →
    ((q : Part) → is_bare q ≡ true → scan q (n + 1) bs ≡ whole k ((n + 1) + j) → behind (after b at) (take j bs) ≡ along (after b at) j) → behind at (b ∷ take j bs) ≡ along at (suc j)
byte_along (Goes q) b bs j p n k at h is e rest =
    let one : after b at ≡ along at 1 = after_along b at (on_line (nat_eq b 10) p q b refl h is) in
    rest q (bare_goes p q b h is) (e ∙ ap (whole k) (omega arith)) ∙ ap (λ x. along x j) one ∙ along_more at 1 j ∙ ap (along at) (omega arith)
byte_along (Takes l) b bs j p n k at h is e rest = absurd (subst GoesBare is (bare_advance p b h))
byte_along (Stops l) b bs j p n k at h is e rest = absurd (omega (arith, whole_length l k n (n + suc j) e))
byte_along Wrong b bs j p n k at h is e rest = cc

-- the rest of a bare atom
bare_along : (bs : List ℕ) (j : ℕ) (p : Part) (n : ℕ) (k : AtomKind) (at : Place) → is_bare p ≡ true → scan p n bs ≡ whole k (n + j) → behind at (take j bs) ≡ along at j
bare_along bs zero p n k at h e = along_none at
bare_along [] (suc j) p n k at h e = absurd (omega (arith, end_here p n (n + suc j) k e))
bare_along (b ∷ bs) (suc j) p n k at h e = byte_along (advance p b) b bs j p n k at h refl e (λ q bare next. bare_along bs j q (n + 1) k (after b at) bare next)

first_bare : (c : Class) (b : ℕ) (q : Part) → IsOf c b → begins_class c ≡ Some q → (nat_eq b 34 || nat_eq b 124) ≡ false → is_bare q ≡ true
first_bare Letter b q is e f = subst (λ x. is_bare x ≡ true) (same_Some part.Symbol q e) refl
first_bare Digit b q is e f = subst (λ x. is_bare x ≡ true) (same_Some part.Numeral q e) refl
first_bare Colon b q is e f = subst (λ x. is_bare x ≡ true) (same_Some part.Colon q e) refl
first_bare Hash b q is e f = subst (λ x. is_bare x ≡ true) (same_Some part.Hash q e) refl
first_bare Quote b q is e f = let h : (nat_eq b 34 || nat_eq b 124) ≡ true = ap (λ x. nat_eq x 34 || nat_eq x 124) is in cc
first_bare Bar b q is e f = let h : (nat_eq b 34 || nat_eq b 124) ≡ true = ap (λ x. nat_eq x 34 || nat_eq x 124) is in cc
first_bare Blank b q is e f = cc
first_bare LineFeed b q is e f = cc
first_bare Open b q is e f = cc
first_bare Close b q is e f = cc
first_bare Semicolon b q is e f = cc
first_bare Other b q is e f = cc

first_line : (t : Bool) (b : ℕ) (q : Part) → nat_eq b 10 ≡ t → begins_part b ≡ Some q → t ≡ false
first_line false b q e is = refl
first_line true b q e is = let f : begins_part 10 ≡ Some q = subst (λ x. begins_part x ≡ Some q) (eqb-true b 10 e) is in cc

-- an atom that begins with neither a bar nor a quote
pub atom_along : (bytes : List ℕ) (n : ℕ) (at : Place) → IsAtomOf bytes n → (nat_eq (get_or bytes 0 0) 34 || nat_eq (get_or bytes 0 0) 124) ≡ false → behind at (take n bytes) ≡ along at n
atom_along [] n at w f = absurd (omega (arith, w.2.0, w.2.1))
atom_along (b ∷ bs) zero at w f = absurd (omega (arith, w.2.0))
atom_along (b ∷ bs) (suc n) at w f =
    let comes = w.2.2 in
    let q = comes.0 in
    let rest : scan q 1 bs ≡ whole w.1 (1 + n) = ap (scan q 1) (sym (append_none bs)) ∙ comes.2 [] (λ t. refl) ∙ ap (whole w.1) (omega arith) in
    let one : after b at ≡ along at 1 = after_along b at (first_line (nat_eq b 10) b q refl comes.1) in
    bare_along bs n q 1 w.1 (after b at) (first_bare (class b) b q (class_tests b) comes.1 f) rest ∙ ap (λ x. along x n) one ∙ along_more at 1 n ∙ ap (along at) (omega arith)
