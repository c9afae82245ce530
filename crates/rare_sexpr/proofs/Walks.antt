-- A bare atom leads the scanner through parts without bars and quotes.
use Rattle.std.proofs.Common.{◌≡◌, ℕ, ◌+◌, Bool, true, false, not, ◌||◌, List, [], ◌∷◌, ◌++◌, length, nat_eq, refl, ap, sym, ◌∙◌, subst, arith, Some, if◌then◌else◌}
use Rattle.std.specs.List.{list_all}
use Rattle.std.proofs.lemmas.Bool.{eqb-true}
use Rattle.rare_sexpr.specs.declared.tree.AtomKind.{AtomKind}
use Rattle.rare_sexpr.specs.declared.tree.AtomKind.TheVariants as kind
use Rattle.rare_sexpr.specs.declared.scan.Part.{Part}
use Rattle.rare_sexpr.specs.declared.scan.Part.TheVariants as part
use Rattle.rare_sexpr.specs.declared.scan.Advance.TheVariants.{Goes, Wrong}
use Rattle.rare_sexpr.specs.declared.bytes.Class.{Class}
use Rattle.rare_sexpr.specs.declared.bytes.Class.TheVariants.{Blank, LineFeed, Open, Close, Semicolon, Colon, Hash, Digit, Letter, Quote, Bar, Other}
use Rattle.rare_sexpr.specs.Bytes.{is_in_range, is_sign, is_mark, is_symbol_byte, is_digit, is_hex_digit, is_binary_digit}
use Rattle.rare_sexpr.specs.Grammar.{Are, Bare}
use Rattle.rare_sexpr.specs.Grammar as grammar
use Rattle.rare_sexpr.specs.inner.Classes.{class}
use Rattle.rare_sexpr.specs.inner.Scan.{whole, scan, advance, on_advance, behind_bare, at_end, begins_class, begins_part}
use Rattle.rare_sexpr.proofs.ClassTests.{IsOf, class_tests}
use Rattle.rare_sexpr.proofs.Shapes.{Shape, shape_step, is_bare, first_of_both, second_of_both}

-- these bytes lead from one part to another
pub data Walk : Part → List ℕ → Part → Type 0 where
  here : (p : Part) → Walk p [] p
  on : (p q r : Part) (b : ℕ) (bs : List ℕ) → advance p b ≡ Goes q → Walk q bs r → Walk p (b ∷ bs) r

pub walk_more : (p : Part) (xs : List ℕ) (q : Part) (ys : List ℕ) (r : Part) → Walk p xs q → Walk q ys r → Walk p (xs ++ ys) r
walk_more p xs q ys r (here _) k = k
walk_more p xs q ys r (on _ a _ b bs e h) k = on p a r b (bs ++ ys) e (walk_more a bs q ys r h k)

-- a walk of a longer text passes its front
pub walk_front : (p : Part) (xs ys : List ℕ) (r : Part) → Walk p (xs ++ ys) r → (q : Part) × Walk p xs q × Walk q ys r
walk_front p [] ys r h = (p, here p, h)
walk_front p (x ∷ xs) ys r (on _ a _ _ _ e h) = let f = walk_front a xs ys r h in (f.0, on p a f.0 x xs e f.1, f.2)

-- walks are determined
pub walk_same : (p : Part) (xs : List ℕ) (q r : Part) → Walk p xs q → Walk p xs r → q ≡ r
walk_same p xs q r (here _) (here _) = refl
walk_same p xs q r (on _ a _ b bs e h) (on _ c _ _ _ f k) = let same : c ≡ a = cc in walk_same a bs q r h (subst (λ x. Walk x bs r) same k)

pub walk_scan : (p : Part) (n : ℕ) (xs : List ℕ) (q : Part) (rest : List ℕ) → Walk p xs q → scan p n (xs ++ rest) ≡ scan q (n + length xs) rest
walk_scan p n xs q rest (here _) = let e : n ≡ n + 0 = omega arith in ap (λ k. scan p k rest) e
walk_scan p n xs q rest (on _ a _ b bs e h) =
    let f : n + 1 + length bs ≡ n + length (b ∷ bs) = omega arith in
    ap (λ s. on_advance s n (λ r. scan r (n + 1) (bs ++ rest))) e ∙ walk_scan a (n + 1) bs q rest h ∙ ap (λ k. scan q k rest) f

append3 : (xs ys zs : List ℕ) → (xs ++ ys) ++ zs ≡ xs ++ (ys ++ zs)
append3 [] ys zs = refl
append3 (x ∷ xs) ys zs = ap (λ l. x ∷ l) (append3 xs ys zs)

none : (xs : List ℕ) → xs ++ [] ≡ xs
none [] = refl
none (x ∷ xs) = ap (λ l. x ∷ l) (none xs)

pub walk_shape : (p : Part) (front xs : List ℕ) (q : Part) → Shape p front → Walk p xs q → Shape q (front ++ xs)
walk_shape p front xs q h (here _) = subst (Shape p) (sym (none front)) h
walk_shape p front xs q h (on _ a _ b bs e k) = subst (Shape q) (append3 front (b ∷ []) bs) (walk_shape a (front ++ b ∷ []) bs q (shape_step p a front b h e) k)

-- a run of bytes that leave a part as it is
pub run : (test : ℕ → Bool) (p : Part) (xs : List ℕ) → ((b : ℕ) → test b ≡ true → advance p b ≡ Goes p) → list_all test xs ≡ true → Walk p xs p
run test p [] stays all = here p
run test p (x ∷ xs) stays all = on p p p x xs (stays x (first_of_both (test x) (list_all test xs) all)) (run test p xs stays (second_of_both (test x) (list_all test xs) all))

symbol_stays : (b : ℕ) → is_symbol_byte b ≡ true → advance part.Symbol b ≡ Goes part.Symbol
symbol_stays b t = ap (λ x. if x then Goes part.Symbol else behind_bare b kind.Symbol) t

keyword_stays : (b : ℕ) → is_symbol_byte b ≡ true → advance part.Keyword b ≡ Goes part.Keyword
keyword_stays b t = ap (λ x. if x then Goes part.Keyword else behind_bare b kind.Keyword) t

numeral_stays : (b : ℕ) → is_digit b ≡ true → advance part.Numeral b ≡ Goes part.Numeral
numeral_stays b t = ap (λ x. if x then Goes part.Numeral else if nat_eq b 46 then Goes part.Point else behind_bare b kind.Numeral) t

fraction_stays : (b : ℕ) → is_digit b ≡ true → advance part.Fraction b ≡ Goes part.Fraction
fraction_stays b t = ap (λ x. if x then Goes part.Fraction else behind_bare b kind.Decimal) t

binary_stays : (b : ℕ) → is_binary_digit b ≡ true → advance part.Binary b ≡ Goes part.Binary
binary_stays b t = ap (λ x. if x then Goes part.Binary else behind_bare b kind.Binary) t

hex_stays : (b : ℕ) → is_hex_digit b ≡ true → advance part.Hex b ≡ Goes part.Hex
hex_stays b t = ap (λ x. if x then Goes part.Hex else behind_bare b kind.Hex) t

-- the class of a byte that a bare atom begins with
not_true : (x : Bool) → x ≡ true → x ≡ false → ⊥
not_true x e f = cc

symbol_not : (b v : ℕ) → is_symbol_byte v ≡ false → b ≡ v → is_symbol_byte b ≡ true → ⊥
symbol_not b v fails e t = not_true (is_symbol_byte b) t (ap is_symbol_byte e ∙ fails)

either : (x y : Bool) {P : Type 0} → (x || y) ≡ true → (x ≡ true → P) → (y ≡ true → P) → P
either true y e f g = f refl
either false y e f g = g e

none_holds : (x y d s m : Bool) → (x || y) ≡ false → d ≡ false → s ≡ false → m ≡ false → (x || y || d || s || m) ≡ true → ⊥
none_holds true y d s m e f g h t = cc
none_holds false true d s m e f g h t = cc
none_holds false false true s m e f g h t = cc
none_holds false false false true m e f g h t = cc
none_holds false false false false m e f g h t = cc

blank_no_symbol : (b : ℕ) → (nat_eq b 32 || nat_eq b 9 || nat_eq b 10 || nat_eq b 13) ≡ true → is_symbol_byte b ≡ true → ⊥
blank_no_symbol b e t =
    either _ _ e (λ e. either _ _ e (λ e. either _ _ e (λ e. symbol_not b 32 refl (eqb-true b 32 e) t) (λ e. symbol_not b 9 refl (eqb-true b 9 e) t)) (λ e. symbol_not b 10 refl (eqb-true b 10 e) t)) (λ e. symbol_not b 13 refl (eqb-true b 13 e) t)

symbol_class : (k : Class) (b : ℕ) → IsOf k b → is_symbol_byte b ≡ true → is_digit b ≡ false → k ≡ Letter
symbol_class Letter b h t d = refl
symbol_class Digit b h t d = cc
symbol_class Blank b h t d = absurd (blank_no_symbol b h t)
symbol_class LineFeed b h t d = absurd (blank_no_symbol b h t)
symbol_class Open b h t d = absurd (symbol_not b 40 refl h t)
symbol_class Close b h t d = absurd (symbol_not b 41 refl h t)
symbol_class Semicolon b h t d = absurd (symbol_not b 59 refl h t)
symbol_class Colon b h t d = absurd (symbol_not b 58 refl h t)
symbol_class Hash b h t d = absurd (symbol_not b 35 refl h t)
symbol_class Quote b h t d = absurd (symbol_not b 34 refl h t)
symbol_class Bar b h t d = absurd (symbol_not b 124 refl h t)
symbol_class Other b h t d = absurd (none_holds (is_in_range 97 122 b) (is_in_range 65 90 b) (is_digit b) (is_sign b) (is_mark b) h.letter h.digit h.sign h.mark t)

digit_symbol : (x d s m : Bool) → d ≡ true → (x || d || s || m) ≡ true
digit_symbol true d s m e = refl
digit_symbol false true s m e = refl
digit_symbol false false s m e = cc

digit_is_symbol : (b : ℕ) → is_digit b ≡ true → is_symbol_byte b ≡ true
digit_is_symbol b d = digit_symbol (is_in_range 97 122 b || is_in_range 65 90 b) (is_digit b) (is_sign b) (is_mark b) d

digit_class : (k : Class) (b : ℕ) → IsOf k b → is_digit b ≡ true → k ≡ Digit
digit_class Digit b h d = refl
digit_class Letter b h d = absurd (not_true (is_digit b) d h.1)
digit_class Blank b h d = absurd (blank_no_symbol b h (digit_is_symbol b d))
digit_class LineFeed b h d = absurd (blank_no_symbol b h (digit_is_symbol b d))
digit_class Open b h d = absurd (symbol_not b 40 refl h (digit_is_symbol b d))
digit_class Close b h d = absurd (symbol_not b 41 refl h (digit_is_symbol b d))
digit_class Semicolon b h d = absurd (symbol_not b 59 refl h (digit_is_symbol b d))
digit_class Colon b h d = absurd (symbol_not b 58 refl h (digit_is_symbol b d))
digit_class Hash b h d = absurd (symbol_not b 35 refl h (digit_is_symbol b d))
digit_class Quote b h d = absurd (symbol_not b 34 refl h (digit_is_symbol b d))
digit_class Bar b h d = absurd (symbol_not b 124 refl h (digit_is_symbol b d))
digit_class Other b h d = absurd (not_true (is_digit b) d h.digit)

-- a part that a text may end in, of this kind
abbrev pub Ends : Part → AtomKind → Type 0
Ends p k = (n : ℕ) → at_end p n ≡ whole k n

-- how a bare atom is read
pub record Leads (k : AtomKind) (word : List ℕ) : Type 0 where
  pub byte : ℕ
  pub rest : List ℕ
  pub split : word ≡ byte ∷ rest
  pub first : Part
  pub begins : begins_part byte ≡ Some first
  pub bare : is_bare first ≡ true
  pub last : Part
  pub walk : Walk first rest last
  pub ends : Ends last k

not_false : (x : Bool) → not x ≡ true → x ≡ false
not_false true e = cc
not_false false e = refl

symbol_leads : (text : List ℕ) → Are is_symbol_byte text → grammar.has_no_digit_first text ≡ true → Leads kind.Symbol text
symbol_leads [] a d = absurd (omega (arith, a.some))
symbol_leads (b ∷ bs) a d =
    let t = first_of_both (is_symbol_byte b) (list_all is_symbol_byte bs) a.each in
    record {
      byte = b;
      rest = bs;
      split = refl;
      first = part.Symbol;
      begins = ap begins_class (symbol_class (class b) b (class_tests b) t (not_false (is_digit b) d));
      bare = refl;
      last = part.Symbol;
      walk = run is_symbol_byte part.Symbol bs symbol_stays (second_of_both (is_symbol_byte b) (list_all is_symbol_byte bs) a.each);
      ends = λ n. refl;
    }

numeral_leads : (text : List ℕ) → Are is_digit text → Leads kind.Numeral text
numeral_leads [] a = absurd (omega (arith, a.some))
numeral_leads (b ∷ bs) a =
    let t = first_of_both (is_digit b) (list_all is_digit bs) a.each in
    record {
      byte = b;
      rest = bs;
      split = refl;
      first = part.Numeral;
      begins = ap begins_class (digit_class (class b) b (class_tests b) t);
      bare = refl;
      last = part.Numeral;
      walk = run is_digit part.Numeral bs numeral_stays (second_of_both (is_digit b) (list_all is_digit bs) a.each);
      ends = λ n. refl;
    }

-- behind a part that one byte leads to another, which a run of bytes leaves as it is
first_run : (test : ℕ → Bool) (p q : Part) (xs : List ℕ) → Are test xs → ((b : ℕ) → test b ≡ true → advance p b ≡ Goes q) → ((b : ℕ) → test b ≡ true → advance q b ≡ Goes q) → Walk p xs q
first_run test p q [] a enters stays = absurd (omega (arith, a.some))
first_run test p q (x ∷ xs) a enters stays = on p q q x xs (enters x (first_of_both (test x) (list_all test xs) a.each)) (run test q xs stays (second_of_both (test x) (list_all test xs) a.each))

numeral_last : (p : Part) → Ends p kind.Numeral → p ≡ part.Numeral
numeral_last part.Numeral e = refl
numeral_last part.Symbol e = let f = e 0 in cc
numeral_last part.Colon e = let f = e 0 in cc
numeral_last part.Keyword e = let f = e 0 in cc
numeral_last part.Point e = let f = e 0 in cc
numeral_last part.Fraction e = let f = e 0 in cc
numeral_last part.Hash e = let f = e 0 in cc
numeral_last part.HashB e = let f = e 0 in cc
numeral_last part.HashX e = let f = e 0 in cc
numeral_last part.Binary e = let f = e 0 in cc
numeral_last part.Hex e = let f = e 0 in cc
numeral_last part.Bars e = let f = e 0 in cc
numeral_last part.Inside e = let f = e 0 in cc
numeral_last part.Behind e = let f = e 0 in cc

decimal_leads : (text more : List ℕ) → Are is_digit text → Are is_digit more → Leads kind.Decimal (text ++ 46 ∷ more)
decimal_leads text more a c =
    let h = numeral_leads text a in
    record {
      byte = h.byte;
      rest = h.rest ++ 46 ∷ more;
      split = ap (λ l. l ++ 46 ∷ more) h.split;
      first = h.first;
      begins = h.begins;
      bare = h.bare;
      last = part.Fraction;
      walk = walk_more h.first h.rest part.Numeral (46 ∷ more) part.Fraction (subst (Walk h.first h.rest) (numeral_last h.last h.ends) h.walk)
          (on part.Numeral part.Point part.Fraction 46 more refl (first_run is_digit part.Point part.Fraction more c (λ b t. ap (λ x. if x then Goes part.Fraction else Wrong) t) fraction_stays));
      ends = λ n. refl;
    }

pub bare_leads : (k : AtomKind) (text word : List ℕ) → Bare k text word → Leads k word
bare_leads k text word (grammar.symbol _ a d) = symbol_leads text a d
bare_leads k text word (grammar.keyword _ a) = record {
  byte = 58;
  rest = text;
  split = refl;
  first = part.Colon;
  begins = refl;
  bare = refl;
  last = part.Keyword;
  walk = first_run is_symbol_byte part.Colon part.Keyword text a (λ b t. ap (λ x. if x then Goes part.Keyword else Wrong) t) keyword_stays;
  ends = λ n. refl;
}
bare_leads k text word (grammar.numeral _ a) = numeral_leads text a
bare_leads k text word (grammar.decimal front more a c) = decimal_leads front more a c
bare_leads k text word (grammar.binary _ a) = record {
  byte = 35;
  rest = 98 ∷ text;
  split = refl;
  first = part.Hash;
  begins = refl;
  bare = refl;
  last = part.Binary;
  walk = on part.Hash part.HashB part.Binary 98 text refl (first_run is_binary_digit part.HashB part.Binary text a (λ b t. ap (λ x. if x then Goes part.Binary else Wrong) t) binary_stays);
  ends = λ n. refl;
}
bare_leads k text word (grammar.hex _ a) = record {
  byte = 35;
  rest = 120 ∷ text;
  split = refl;
  first = part.Hash;
  begins = refl;
  bare = refl;
  last = part.Hex;
  walk = on part.Hash part.HashX part.Hex 120 text refl (first_run is_hex_digit part.HashX part.Hex text a (λ b t. ap (λ x. if x then Goes part.Hex else Wrong) t) hex_stays);
  ends = λ n. refl;
}
