-- What the front of an atom looks like.
use Rattle.std.proofs.Common.{◌≡◌, ℕ, ◌<◌, Bool, true, false, not, ◌&&◌, ◌||◌, List, [], ◌∷◌, ◌++◌, length, nat_eq, refl, ap, sym, ◌∙◌, subst, arith, Some, if◌then◌else◌}
use Rattle.std.specs.List.{list_all}
use Rattle.std.proofs.lemmas.Bool.{eqb-true}
use Rattle.rare_sexpr.specs.declared.tree.AtomKind.{AtomKind}
use Rattle.rare_sexpr.specs.declared.tree.AtomKind.TheVariants as kind
use Rattle.rare_sexpr.specs.declared.scan.Part.{Part}
use Rattle.rare_sexpr.specs.declared.scan.Part.TheVariants as part
use Rattle.rare_sexpr.specs.declared.scan.Advance.TheVariants.{Goes, Takes, Stops, Wrong}
use Rattle.rare_sexpr.specs.declared.bytes.Class.{Class}
use Rattle.rare_sexpr.specs.declared.bytes.Class.TheVariants.{Blank, LineFeed, Open, Close, Semicolon, Colon, Hash, Digit, Letter, Quote, Bar, Other}
use Rattle.rare_sexpr.specs.Bytes.{is_symbol_byte, is_digit, is_hex_digit, is_binary_digit, is_in_bars, ends_atom}
use Rattle.rare_sexpr.specs.Written.{doubled}
use Rattle.rare_sexpr.specs.Grammar.{Are, has_no_digit_first, Bare, Atom, may_follow_bare, has_quote_first}
use Rattle.rare_sexpr.specs.Grammar as grammar
use Rattle.rare_sexpr.specs.Faults.{BeginsBare}
use Rattle.rare_sexpr.specs.inner.Classes.{class}
use Rattle.rare_sexpr.specs.inner.Scan.{advance, begins_class, begins_part}
use Rattle.rare_sexpr.proofs.ClassTests.{IsOf, class_tests}

abbrev pub Shape : Part → List ℕ → Type 0
Shape part.Symbol front = Are is_symbol_byte front × (has_no_digit_first front ≡ true)
Shape part.Colon front = front ≡ 58 ∷ []
Shape part.Keyword front = (text : List ℕ) × (front ≡ 58 ∷ text) × Are is_symbol_byte text
Shape part.Numeral front = Are is_digit front
Shape part.Point front = (text : List ℕ) × (front ≡ text ++ 46 ∷ []) × Are is_digit text
Shape part.Fraction front = (text : List ℕ) × (more : List ℕ) × (front ≡ text ++ 46 ∷ more) × Are is_digit text × Are is_digit more
Shape part.Hash front = front ≡ 35 ∷ []
Shape part.HashB front = front ≡ 35 ∷ 98 ∷ []
Shape part.HashX front = front ≡ 35 ∷ 120 ∷ []
Shape part.Binary front = (text : List ℕ) × (front ≡ 35 ∷ 98 ∷ text) × Are is_binary_digit text
Shape part.Hex front = (text : List ℕ) × (front ≡ 35 ∷ 120 ∷ text) × Are is_hex_digit text
Shape part.Bars front = (text : List ℕ) × (front ≡ 124 ∷ text) × (list_all is_in_bars text ≡ true)
Shape part.Inside front = (text : List ℕ) × (front ≡ 34 ∷ doubled text)
Shape part.Behind front = (text : List ℕ) × (front ≡ 34 ∷ (doubled text ++ 34 ∷ []))

both : (x y : Bool) → x ≡ true → y ≡ true → (x && y) ≡ true
both true y e f = f
both false y e f = cc

pub first_of_both : (x y : Bool) → (x && y) ≡ true → x ≡ true
first_of_both true y e = refl
first_of_both false y e = e

pub second_of_both : (x y : Bool) → (x && y) ≡ true → y ≡ true
second_of_both true y e = e
second_of_both false y e = cc

all_snoc : (test : ℕ → Bool) (xs : List ℕ) (b : ℕ) → list_all test xs ≡ true → test b ≡ true → list_all test (xs ++ b ∷ []) ≡ true
all_snoc test [] b all is = both (test b) true is refl
all_snoc test (x ∷ xs) b all is = both (test x) (list_all test (xs ++ b ∷ [])) (first_of_both (test x) (list_all test xs) all) (all_snoc test xs b (second_of_both (test x) (list_all test xs) all) is)

some_snoc : (xs : List ℕ) (b : ℕ) → 0 < length (xs ++ b ∷ [])
some_snoc [] b = omega arith
some_snoc (x ∷ xs) b = omega arith

are_snoc : (test : ℕ → Bool) (xs : List ℕ) (b : ℕ) → Are test xs → test b ≡ true → Are test (xs ++ b ∷ [])
are_snoc test xs b a is = record { some = some_snoc xs b; each = all_snoc test xs b a.each is }

are_one : (test : ℕ → Bool) (b : ℕ) → test b ≡ true → Are test (b ∷ [])
are_one test b is = record { some = omega arith; each = both (test b) true is refl }

no_digit_snoc : (xs : List ℕ) (b : ℕ) → 0 < length xs → has_no_digit_first xs ≡ true → has_no_digit_first (xs ++ b ∷ []) ≡ true
no_digit_snoc [] b some e = absurd (omega (arith, some))
no_digit_snoc (x ∷ xs) b some e = e

append3 : (xs ys zs : List ℕ) → (xs ++ ys) ++ zs ≡ xs ++ (ys ++ zs)
append3 [] ys zs = refl
append3 (x ∷ xs) ys zs = ap (λ l. x ∷ l) (append3 xs ys zs)

by_test : (t : Bool) (x : ℕ) (text : List ℕ) (b : ℕ) → doubled (text ++ b ∷ []) ≡ doubled text ++ b ∷ [] →
    (if t then 34 ∷ 34 ∷ doubled (text ++ b ∷ []) else x ∷ doubled (text ++ b ∷ [])) ≡ (if t then 34 ∷ 34 ∷ doubled text else x ∷ doubled text) ++ b ∷ []
by_test true x text b e = ap (λ l. 34 ∷ 34 ∷ l) e
by_test false x text b e = ap (λ l. x ∷ l) e

doubled_snoc : (text : List ℕ) (b : ℕ) → nat_eq b 34 ≡ false → doubled (text ++ b ∷ []) ≡ doubled text ++ b ∷ []
doubled_snoc [] b e = ap (λ t. if t then 34 ∷ 34 ∷ [] else b ∷ []) e
doubled_snoc (x ∷ text) b e = by_test (nat_eq x 34) x text b (doubled_snoc text b e)

by_pair : (t : Bool) (x : ℕ) (text : List ℕ) → doubled (text ++ 34 ∷ []) ≡ (doubled text ++ 34 ∷ []) ++ 34 ∷ [] →
    (if t then 34 ∷ 34 ∷ doubled (text ++ 34 ∷ []) else x ∷ doubled (text ++ 34 ∷ [])) ≡ ((if t then 34 ∷ 34 ∷ doubled text else x ∷ doubled text) ++ 34 ∷ []) ++ 34 ∷ []
by_pair true x text e = ap (λ l. 34 ∷ 34 ∷ l) e
by_pair false x text e = ap (λ l. x ∷ l) e

doubled_pair : (text : List ℕ) → doubled (text ++ 34 ∷ []) ≡ (doubled text ++ 34 ∷ []) ++ 34 ∷ []
doubled_pair [] = refl
doubled_pair (x ∷ text) = by_pair (nat_eq x 34) x text (doubled_pair text)

-- what a test that fails leaves
pub bare_stops : (t : Bool) (k : AtomKind) (q : Part) → (if t then Stops k else Wrong) ≡ Goes q → ⊥
bare_stops true k q e = cc
bare_stops false k q e = cc

-- a byte that goes on by a test
one_test : (t e : Bool) (p q : Part) (k : AtomKind) (P : Part → Type 0) → (if t then Goes p else (if e then Stops k else Wrong)) ≡ Goes q → (t ≡ true → P p) → P q
one_test true e p q k P is f = let same : p ≡ q = cc in subst P same (f refl)
one_test false e p q k P is f = absurd (bare_stops e k q is)

or_wrong : (t : Bool) (p q : Part) (P : Part → Type 0) → (if t then Goes p else Wrong) ≡ Goes q → (t ≡ true → P p) → P q
or_wrong true p q P is f = let same : p ≡ q = cc in subst P same (f refl)
or_wrong false p q P is f = cc

two_tests : (t u e : Bool) (p r q : Part) (k : AtomKind) (P : Part → Type 0) → (if t then Goes p else if u then Goes r else (if e then Stops k else Wrong)) ≡ Goes q → (t ≡ true → P p) → (u ≡ true → P r) → P q
two_tests true u e p r q k P is f g = let same : p ≡ q = cc in subst P same (f refl)
two_tests false u e p r q k P is f g = one_test u e r q k P is g

two_or_wrong : (t u : Bool) (p r q : Part) (P : Part → Type 0) → (if t then Goes p else if u then Goes r else Wrong) ≡ Goes q → (t ≡ true → P p) → (u ≡ true → P r) → P q
two_or_wrong true u p r q P is f g = let same : p ≡ q = cc in subst P same (f refl)
two_or_wrong false u p r q P is f g = or_wrong u r q P is g

in_bars_go : (x y : Bool) (q : Part) (P : Part → Type 0) → (if x then Takes kind.Symbol else if y then Wrong else Goes part.Bars) ≡ Goes q → (not (x || y) ≡ true → P part.Bars) → P q
in_bars_go true y q P is f = cc
in_bars_go false true q P is f = cc
in_bars_go false false q P is f = let same : part.Bars ≡ q = cc in subst P same (f refl)

either_way : (t : Bool) (p r q : Part) (P : Part → Type 0) → (if t then Goes p else Goes r) ≡ Goes q → (t ≡ true → P p) → (t ≡ false → P r) → P q
either_way true p r q P is f g = let same : p ≡ q = cc in subst P same (f refl)
either_way false p r q P is f g = let same : r ≡ q = cc in subst P same (g refl)

goes_or_stops : (t : Bool) (p q : Part) (k : AtomKind) (P : Part → Type 0) → (if t then Goes p else Stops k) ≡ Goes q → (t ≡ true → P p) → P q
goes_or_stops true p q k P is f = let same : p ≡ q = cc in subst P same (f refl)
goes_or_stops false p q k P is f = cc

-- one more byte
pub shape_step : (p q : Part) (front : List ℕ) (b : ℕ) → Shape p front → advance p b ≡ Goes q → Shape q (front ++ b ∷ [])
shape_step part.Symbol q front b h is =
    one_test (is_symbol_byte b) (ends_atom b) part.Symbol q kind.Symbol (λ r. Shape r (front ++ b ∷ [])) is (λ t. (are_snoc is_symbol_byte front b h.0 t, no_digit_snoc front b h.0.some h.1))
shape_step part.Colon q front b h is =
    or_wrong (is_symbol_byte b) part.Keyword q (λ r. Shape r (front ++ b ∷ [])) is (λ t. (b ∷ [], ap (λ l. l ++ b ∷ []) h, are_one is_symbol_byte b t))
shape_step part.Keyword q front b h is =
    one_test (is_symbol_byte b) (ends_atom b) part.Keyword q kind.Keyword (λ r. Shape r (front ++ b ∷ [])) is (λ t. (h.0 ++ b ∷ [], ap (λ l. l ++ b ∷ []) h.1, are_snoc is_symbol_byte h.0 b h.2 t))
shape_step part.Numeral q front b h is =
    two_tests (is_digit b) (nat_eq b 46) (ends_atom b) part.Numeral part.Point q kind.Numeral (λ r. Shape r (front ++ b ∷ [])) is (λ t. are_snoc is_digit front b h t)
    (λ t. (front, ap (λ x. front ++ x ∷ []) (eqb-true b 46 t), h))
shape_step part.Point q front b h is =
    or_wrong (is_digit b) part.Fraction q (λ r. Shape r (front ++ b ∷ [])) is (λ t. (h.0, b ∷ [], ap (λ l. l ++ b ∷ []) h.1 ∙ append3 h.0 (46 ∷ []) (b ∷ []), h.2, are_one is_digit b t))
shape_step part.Fraction q front b h is =
    one_test (is_digit b) (ends_atom b) part.Fraction q kind.Decimal (λ r. Shape r (front ++ b ∷ [])) is
    (λ t. (h.0, h.1 ++ b ∷ [], ap (λ l. l ++ b ∷ []) h.2 ∙ append3 h.0 (46 ∷ h.1) (b ∷ []), h.3, are_snoc is_digit h.1 b h.4 t))
shape_step part.Hash q front b h is =
    two_or_wrong (nat_eq b 98) (nat_eq b 120) part.HashB part.HashX q (λ r. Shape r (front ++ b ∷ [])) is
    (λ t. ap (λ l. l ++ b ∷ []) h ∙ ap (λ x. 35 ∷ x ∷ []) (eqb-true b 98 t)) (λ t. ap (λ l. l ++ b ∷ []) h ∙ ap (λ x. 35 ∷ x ∷ []) (eqb-true b 120 t))
shape_step part.HashB q front b h is =
    or_wrong (is_binary_digit b) part.Binary q (λ r. Shape r (front ++ b ∷ [])) is (λ t. (b ∷ [], ap (λ l. l ++ b ∷ []) h, are_one is_binary_digit b t))
shape_step part.HashX q front b h is =
    or_wrong (is_hex_digit b) part.Hex q (λ r. Shape r (front ++ b ∷ [])) is (λ t. (b ∷ [], ap (λ l. l ++ b ∷ []) h, are_one is_hex_digit b t))
shape_step part.Binary q front b h is =
    one_test (is_binary_digit b) (ends_atom b) part.Binary q kind.Binary (λ r. Shape r (front ++ b ∷ [])) is (λ t. (h.0 ++ b ∷ [], ap (λ l. l ++ b ∷ []) h.1, are_snoc is_binary_digit h.0 b h.2 t))
shape_step part.Hex q front b h is =
    one_test (is_hex_digit b) (ends_atom b) part.Hex q kind.Hex (λ r. Shape r (front ++ b ∷ [])) is (λ t. (h.0 ++ b ∷ [], ap (λ l. l ++ b ∷ []) h.1, are_snoc is_hex_digit h.0 b h.2 t))
shape_step part.Bars q front b h is =
    in_bars_go (nat_eq b 124) (nat_eq b 92) q (λ r. Shape r (front ++ b ∷ [])) is (λ t. (h.0 ++ b ∷ [], ap (λ l. l ++ b ∷ []) h.1, all_snoc is_in_bars h.0 b h.2 t))
shape_step part.Inside q front b h is =
    either_way (nat_eq b 34) part.Behind part.Inside q (λ r. Shape r (front ++ b ∷ [])) is
    (λ t. (h.0, ap (λ l. l ++ b ∷ []) h.1 ∙ ap (λ x. 34 ∷ (doubled h.0 ++ x ∷ [])) (eqb-true b 34 t)))
    (λ t. (h.0 ++ b ∷ [], ap (λ l. l ++ b ∷ []) h.1 ∙ ap (λ l. 34 ∷ l) (sym (doubled_snoc h.0 b t))))
shape_step part.Behind q front b h is =
    goes_or_stops (nat_eq b 34) part.Inside q kind.Quoted (λ r. Shape r (front ++ b ∷ [])) is
    (λ t. (h.0 ++ 34 ∷ [], ap (λ l. l ++ b ∷ []) h.1 ∙ ap (λ x. 34 ∷ ((doubled h.0 ++ 34 ∷ []) ++ x ∷ [])) (eqb-true b 34 t) ∙ ap (λ l. 34 ∷ l) (sym (doubled_pair h.0))))

not_digit : (x : Bool) → x ≡ false → not x ≡ true
not_digit true e = cc
not_digit false e = refl

-- the first byte
shape_class : (k : Class) (q : Part) (b : ℕ) → IsOf k b → begins_class k ≡ Some q → Shape q (b ∷ [])
shape_class Letter q b h is = let e : part.Symbol ≡ q = cc in subst (λ r. Shape r (b ∷ [])) e (are_one is_symbol_byte b h.0, not_digit (is_digit b) h.1)
shape_class Digit q b h is = let e : part.Numeral ≡ q = cc in subst (λ r. Shape r (b ∷ [])) e (are_one is_digit b h)
shape_class Colon q b h is = let e : part.Colon ≡ q = cc in subst (λ r. Shape r (b ∷ [])) e (ap (λ x. x ∷ []) h)
shape_class Hash q b h is = let e : part.Hash ≡ q = cc in subst (λ r. Shape r (b ∷ [])) e (ap (λ x. x ∷ []) h)
shape_class Quote q b h is = let e : part.Inside ≡ q = cc in subst (λ r. Shape r (b ∷ [])) e ([], ap (λ x. x ∷ []) h)
shape_class Bar q b h is = let e : part.Bars ≡ q = cc in subst (λ r. Shape r (b ∷ [])) e ([], ap (λ x. x ∷ []) h, refl)
shape_class Blank q b h is = cc
shape_class LineFeed q b h is = cc
shape_class Open q b h is = cc
shape_class Close q b h is = cc
shape_class Semicolon q b h is = cc
shape_class Other q b h is = cc

pub shape_first : (b : ℕ) (q : Part) → begins_part b ≡ Some q → Shape q (b ∷ [])
shape_first b q is = shape_class (class b) q b (class_tests b) is

-- no bars and no quotes
abbrev pub is_bare : Part → Bool
is_bare part.Symbol = true
is_bare part.Colon = true
is_bare part.Keyword = true
is_bare part.Numeral = true
is_bare part.Point = true
is_bare part.Fraction = true
is_bare part.Hash = true
is_bare part.HashB = true
is_bare part.HashX = true
is_bare part.Binary = true
is_bare part.Hex = true
is_bare part.Bars = false
is_bare part.Inside = false
is_bare part.Behind = false

append_none : (xs : List ℕ) → xs ++ [] ≡ xs
append_none [] = refl
append_none (x ∷ xs) = ap (λ l. x ∷ l) (append_none xs)

bare_at : (k : AtomKind) (text word front : List ℕ) → Bare k text word → word ≡ front → Bare k text front
bare_at k text word front h e = subst (λ w. Bare k text w) e h

-- such a front goes on to a bare atom
pub shape_begins : (p : Part) (front : List ℕ) → is_bare p ≡ true → Shape p front → BeginsBare front
shape_begins part.Symbol front bare h = (kind.Symbol, front, [], bare_at kind.Symbol front front (front ++ []) (grammar.symbol front h.0 h.1) (sym (append_none front)))
shape_begins part.Colon front bare h = (kind.Keyword, 97 ∷ [], 97 ∷ [], bare_at kind.Keyword (97 ∷ []) (58 ∷ 97 ∷ []) (front ++ 97 ∷ []) (grammar.keyword (97 ∷ []) (are_one is_symbol_byte 97 refl)) (ap (λ l. l ++ 97 ∷ []) (sym h)))
shape_begins part.Keyword front bare h = (kind.Keyword, h.0, [], bare_at kind.Keyword h.0 (58 ∷ h.0) (front ++ []) (grammar.keyword h.0 h.2) (sym h.1 ∙ sym (append_none front)))
shape_begins part.Numeral front bare h = (kind.Numeral, front, [], bare_at kind.Numeral front front (front ++ []) (grammar.numeral front h) (sym (append_none front)))
shape_begins part.Point front bare h =
    (kind.Decimal, h.0 ++ 46 ∷ 48 ∷ [], 48 ∷ [], bare_at kind.Decimal (h.0 ++ 46 ∷ 48 ∷ []) (h.0 ++ 46 ∷ 48 ∷ []) (front ++ 48 ∷ []) (grammar.decimal h.0 (48 ∷ []) h.2 (are_one is_digit 48 refl)) (sym (ap (λ l. l ++ 48 ∷ []) h.1 ∙ append3 h.0 (46 ∷ []) (48 ∷ []))))
shape_begins part.Fraction front bare h = (kind.Decimal, h.0 ++ 46 ∷ h.1, [], bare_at kind.Decimal (h.0 ++ 46 ∷ h.1) (h.0 ++ 46 ∷ h.1) (front ++ []) (grammar.decimal h.0 h.1 h.3 h.4) (sym h.2 ∙ sym (append_none front)))
shape_begins part.Hash front bare h = (kind.Binary, 48 ∷ [], 98 ∷ 48 ∷ [], bare_at kind.Binary (48 ∷ []) (35 ∷ 98 ∷ 48 ∷ []) (front ++ 98 ∷ 48 ∷ []) (grammar.binary (48 ∷ []) (are_one is_binary_digit 48 refl)) (ap (λ l. l ++ 98 ∷ 48 ∷ []) (sym h)))
shape_begins part.HashB front bare h = (kind.Binary, 48 ∷ [], 48 ∷ [], bare_at kind.Binary (48 ∷ []) (35 ∷ 98 ∷ 48 ∷ []) (front ++ 48 ∷ []) (grammar.binary (48 ∷ []) (are_one is_binary_digit 48 refl)) (ap (λ l. l ++ 48 ∷ []) (sym h)))
shape_begins part.HashX front bare h = (kind.Hex, 48 ∷ [], 48 ∷ [], bare_at kind.Hex (48 ∷ []) (35 ∷ 120 ∷ 48 ∷ []) (front ++ 48 ∷ []) (grammar.hex (48 ∷ []) (are_one is_hex_digit 48 refl)) (ap (λ l. l ++ 48 ∷ []) (sym h)))
shape_begins part.Binary front bare h = (kind.Binary, h.0, [], bare_at kind.Binary h.0 (35 ∷ 98 ∷ h.0) (front ++ []) (grammar.binary h.0 h.2) (sym h.1 ∙ sym (append_none front)))
shape_begins part.Hex front bare h = (kind.Hex, h.0, [], bare_at kind.Hex h.0 (35 ∷ 120 ∷ h.0) (front ++ []) (grammar.hex h.0 h.2) (sym h.1 ∙ sym (append_none front)))
shape_begins part.Bars front bare h = cc
shape_begins part.Inside front bare h = cc
shape_begins part.Behind front bare h = cc
