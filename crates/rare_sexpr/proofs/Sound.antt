-- What the scanner finds is an atom or a fault of the grammar.
use Rattle.std.proofs.Common.{◌≡◌, ℕ, ◌+◌, ◌-◌, ◌<◌, ◌≤◌, Bool, true, false, List, [], ◌∷◌, ◌++◌, length, take, drop, get_or, nat_eq, refl, ap, sym, ◌∙◌, subst, arith, Some, if◌then◌else◌}
use Rattle.std.specs.List.{list_all}
use Rattle.std.proofs.lemmas.Bool.{eqb-true}
use Rattle.rare_base.specs.declared.answers.Reason.TheVariants.{BadCharacter, OpenString, OpenSymbol}
use Rattle.rare_sexpr.specs.declared.tree.AtomKind.{AtomKind}
use Rattle.rare_sexpr.specs.declared.tree.AtomKind.TheVariants as kind
use Rattle.rare_sexpr.specs.declared.scan.Part.{Part}
use Rattle.rare_sexpr.specs.declared.scan.Part.TheVariants as part
use Rattle.rare_sexpr.specs.declared.scan.Advance.{Advance}
use Rattle.rare_sexpr.specs.declared.scan.Advance.TheVariants.{Goes, Takes, Stops, Wrong}
use Rattle.rare_sexpr.specs.Bytes.{is_symbol_byte, is_digit, is_hex_digit, is_binary_digit, ends_atom}
use Rattle.rare_sexpr.specs.Written.{doubled}
use Rattle.rare_sexpr.specs.Grammar.{Are, Bare, Atom}
use Rattle.rare_sexpr.specs.Grammar as grammar
use Rattle.rare_sexpr.specs.Faults.{BeginsBare, MayEnd, IsBadWord}
use Rattle.rare_sexpr.specs.Faults as faults
use Rattle.rare_sexpr.specs.inner.Scan.{Word, whole, bad, cut, scan, advance, on_advance, at_end, begins_part}
use Rattle.rare_sexpr.specs.inner.Words.{single, inner, symbol_text, text_of_word}
use Rattle.rare_sexpr.proofs.Lists.{append_none}
use Rattle.rare_sexpr.proofs.Fronts.{take_exact}
use Rattle.rare_sexpr.proofs.Pairs.{single_byte}
use Rattle.rare_sexpr.proofs.Shapes.{Shape, shape_first, shape_begins, is_bare, first_of_both}
use Rattle.rare_sexpr.proofs.Walks.{Walk, here, on, walk_more, walk_front, walk_same, walk_shape, Ends, bare_leads}

append3 : (xs ys zs : List ℕ) → (xs ++ ys) ++ zs ≡ xs ++ (ys ++ zs)
append3 [] ys zs = refl
append3 (x ∷ xs) ys zs = ap (λ l. x ∷ l) (append3 xs ys zs)

-- the text of an atom
by_bar : (t : Bool) (b : ℕ) → nat_eq b 124 ≡ t → is_symbol_byte b ≡ true → t ≡ false
by_bar false b e t = refl
by_bar true b e t = let f : is_symbol_byte b ≡ false = ap is_symbol_byte (eqb-true b 124 e) in cc

symbol_text_is : (front : List ℕ) → Are is_symbol_byte front → symbol_text front ≡ front
symbol_text_is [] a = refl
symbol_text_is (b ∷ bs) a =
    ap (λ t. if t then inner (b ∷ bs) else b ∷ bs) (by_bar (nat_eq b 124) b refl (first_of_both (is_symbol_byte b) (list_all is_symbol_byte bs) a.each))

length_snoc : (xs : List ℕ) (y : ℕ) → length (xs ++ y ∷ []) ≡ length xs + 1
length_snoc [] y = refl
length_snoc (x ∷ xs) y = omega (arith, length_snoc xs y)

pub inner_is : (x : ℕ) (ys : List ℕ) (y : ℕ) → inner (x ∷ (ys ++ y ∷ [])) ≡ ys
inner_is x ys y =
    let n : length (x ∷ (ys ++ y ∷ [])) - 2 ≡ length ys = omega (arith, length_snoc ys y) in
    ap (λ k. take k (ys ++ y ∷ [])) n ∙ take_exact (length ys) ys (y ∷ []) refl

by_pair : (t : Bool) (x : ℕ) (text : List ℕ) → nat_eq x 34 ≡ t → single (doubled text) ≡ text → single (if t then 34 ∷ 34 ∷ doubled text else x ∷ doubled text) ≡ x ∷ text
by_pair true x text e h = ap (λ l. 34 ∷ l) h ∙ ap (λ y. y ∷ text) (sym (eqb-true x 34 e))
by_pair false x text e h = single_byte x (doubled text) e ∙ ap (λ l. x ∷ l) h

pub single_doubled : (text : List ℕ) → single (doubled text) ≡ text
single_doubled [] = refl
single_doubled (x ∷ text) = by_pair (nat_eq x 34) x text refl (single_doubled text)

pub quoted_text : (text : List ℕ) → text_of_word kind.Quoted (34 ∷ (doubled text ++ 34 ∷ [])) ≡ text
quoted_text text = ap single (inner_is 34 (doubled text) 34) ∙ single_doubled text

pub barred_text : (text : List ℕ) → text_of_word kind.Symbol (124 ∷ (text ++ 124 ∷ [])) ≡ text
barred_text text = inner_is 124 text 124

-- a bare atom of its text
pub bare_text : (k : AtomKind) (text word : List ℕ) → Bare k text word → text_of_word k word ≡ text
bare_text k text word (grammar.symbol _ a d) = symbol_text_is text a
bare_text k text word (grammar.keyword _ a) = refl
bare_text k text word (grammar.numeral _ a) = refl
bare_text k text word (grammar.decimal _ _ a c) = refl
bare_text k text word (grammar.binary _ a) = refl
bare_text k text word (grammar.hex _ a) = refl

with_text : (k : AtomKind) (text word : List ℕ) → Bare k text word → Bare k (text_of_word k word) word
with_text k text word h = subst (λ t. Bare k t word) (sym (bare_text k text word h)) h

-- a part that an atom may end in gives one
pub final_bare : (p : Part) (k : AtomKind) (front : List ℕ) → is_bare p ≡ true → Ends p k → Shape p front → Bare k (text_of_word k front) front
final_bare part.Symbol k front bare ends h = let e : kind.Symbol ≡ k = (let f = ends 0 in cc) in subst (λ x. Bare x (text_of_word x front) front) e (with_text kind.Symbol front front (grammar.symbol front h.0 h.1))
final_bare part.Keyword k front bare ends h = let e : kind.Keyword ≡ k = (let f = ends 0 in cc) in subst (λ x. Bare x (text_of_word x front) front) e (subst (λ w. Bare kind.Keyword (text_of_word kind.Keyword w) w) (sym h.1) (grammar.keyword h.0 h.2))
final_bare part.Numeral k front bare ends h = let e : kind.Numeral ≡ k = (let f = ends 0 in cc) in subst (λ x. Bare x (text_of_word x front) front) e (grammar.numeral front h)
final_bare part.Fraction k front bare ends h = let e : kind.Decimal ≡ k = (let f = ends 0 in cc) in subst (λ x. Bare x (text_of_word x front) front) e (subst (λ w. Bare kind.Decimal w w) (sym h.2) (grammar.decimal h.0 h.1 h.3 h.4))
final_bare part.Binary k front bare ends h = let e : kind.Binary ≡ k = (let f = ends 0 in cc) in subst (λ x. Bare x (text_of_word x front) front) e (subst (λ w. Bare kind.Binary (text_of_word kind.Binary w) w) (sym h.1) (grammar.binary h.0 h.2))
final_bare part.Hex k front bare ends h = let e : kind.Hex ≡ k = (let f = ends 0 in cc) in subst (λ x. Bare x (text_of_word x front) front) e (subst (λ w. Bare kind.Hex (text_of_word kind.Hex w) w) (sym h.1) (grammar.hex h.0 h.2))
final_bare part.Colon k front bare ends h = let f = ends 0 in cc
final_bare part.Point k front bare ends h = let f = ends 0 in cc
final_bare part.Hash k front bare ends h = let f = ends 0 in cc
final_bare part.HashB k front bare ends h = let f = ends 0 in cc
final_bare part.HashX k front bare ends h = let f = ends 0 in cc
final_bare part.Bars k front bare ends h = cc
final_bare part.Inside k front bare ends h = cc
final_bare part.Behind k front bare ends h = cc

quoted_atom : (front rest : List ℕ) → Shape part.Behind front → grammar.has_quote_first rest ≡ false → Atom kind.Quoted (text_of_word kind.Quoted front) front rest
quoted_atom front rest h e =
    subst (λ w. Atom kind.Quoted (text_of_word kind.Quoted w) w rest) (sym h.1) (subst (λ t. Atom kind.Quoted t (34 ∷ (doubled h.0 ++ 34 ∷ [])) rest) (sym (quoted_text h.0)) (grammar.quotes h.0 rest e))

end_atom : (p : Part) (k : AtomKind) (front : List ℕ) → Ends p k → Shape p front → Atom k (text_of_word k front) front []
end_atom part.Behind k front ends h = let e : kind.Quoted ≡ k = (let f = ends 0 in cc) in subst (λ x. Atom x (text_of_word x front) front []) e (quoted_atom front [] h refl)
end_atom part.Symbol k front ends h = grammar.bare k (text_of_word k front) front [] (final_bare part.Symbol k front refl ends h) refl
end_atom part.Keyword k front ends h = grammar.bare k (text_of_word k front) front [] (final_bare part.Keyword k front refl ends h) refl
end_atom part.Numeral k front ends h = grammar.bare k (text_of_word k front) front [] (final_bare part.Numeral k front refl ends h) refl
end_atom part.Fraction k front ends h = grammar.bare k (text_of_word k front) front [] (final_bare part.Fraction k front refl ends h) refl
end_atom part.Binary k front ends h = grammar.bare k (text_of_word k front) front [] (final_bare part.Binary k front refl ends h) refl
end_atom part.Hex k front ends h = grammar.bare k (text_of_word k front) front [] (final_bare part.Hex k front refl ends h) refl
end_atom part.Colon k front ends h = let f = ends 0 in cc
end_atom part.Point k front ends h = let f = ends 0 in cc
end_atom part.Hash k front ends h = let f = ends 0 in cc
end_atom part.HashB k front ends h = let f = ends 0 in cc
end_atom part.HashX k front ends h = let f = ends 0 in cc
end_atom part.Bars k front ends h = let f = ends 0 in cc
end_atom part.Inside k front ends h = let f = ends 0 in cc

-- a byte that ends an atom
pub stopped : (t e : Bool) (p : Part) (j k : AtomKind) (P : AtomKind → Type 0) → (if t then Goes p else (if e then Stops j else Wrong)) ≡ Stops k → (e ≡ true → P j) → P k
stopped true e p j k P is f = cc
stopped false true p j k P is f = let same : j ≡ k = cc in subst P same (f refl)
stopped false false p j k P is f = cc

pub stopped_two : (t u e : Bool) (p r : Part) (j k : AtomKind) (P : AtomKind → Type 0) → (if t then Goes p else if u then Goes r else (if e then Stops j else Wrong)) ≡ Stops k → (e ≡ true → P j) → P k
stopped_two true u e p r j k P is f = cc
stopped_two false u e p r j k P is f = stopped u e r j k P is f

pub goes_or_wrong : (t : Bool) (p : Part) (k : AtomKind) → (if t then Goes p else Wrong) ≡ Stops k → ⊥
goes_or_wrong true p k is = cc
goes_or_wrong false p k is = cc

pub two_or_wrong : (t u : Bool) (p r : Part) (k : AtomKind) → (if t then Goes p else if u then Goes r else Wrong) ≡ Stops k → ⊥
two_or_wrong true u p r k is = cc
two_or_wrong false u p r k is = goes_or_wrong u r k is

bars_never_stop : (x y : Bool) (k : AtomKind) → (if x then Takes kind.Symbol else if y then Wrong else Goes part.Bars) ≡ Stops k → ⊥
bars_never_stop true y k is = cc
bars_never_stop false true k is = cc
bars_never_stop false false k is = cc

always_goes : (t : Bool) (p r : Part) (k : AtomKind) → (if t then Goes p else Goes r) ≡ Stops k → ⊥
always_goes true p r k is = cc
always_goes false p r k is = cc

quote_stops : (t : Bool) (k : AtomKind) (P : AtomKind → Type 0) → (if t then Goes part.Inside else Stops kind.Quoted) ≡ Stops k → (t ≡ false → P kind.Quoted) → P k
quote_stops true k P is f = cc
quote_stops false k P is f = let same : kind.Quoted ≡ k = cc in subst P same (f refl)

stop_atom : (p : Part) (k : AtomKind) (front : List ℕ) (b : ℕ) (bs : List ℕ) → advance p b ≡ Stops k → Shape p front → Atom k (text_of_word k front) front (b ∷ bs)
stop_atom part.Symbol k front b bs is h = stopped (is_symbol_byte b) (ends_atom b) part.Symbol kind.Symbol k (λ x. Atom x (text_of_word x front) front (b ∷ bs)) is (λ e. grammar.bare kind.Symbol (text_of_word kind.Symbol front) front (b ∷ bs) (final_bare part.Symbol kind.Symbol front refl (λ n. refl) h) e)
stop_atom part.Keyword k front b bs is h = stopped (is_symbol_byte b) (ends_atom b) part.Keyword kind.Keyword k (λ x. Atom x (text_of_word x front) front (b ∷ bs)) is (λ e. grammar.bare kind.Keyword (text_of_word kind.Keyword front) front (b ∷ bs) (final_bare part.Keyword kind.Keyword front refl (λ n. refl) h) e)
stop_atom part.Numeral k front b bs is h = stopped_two (is_digit b) (nat_eq b 46) (ends_atom b) part.Numeral part.Point kind.Numeral k (λ x. Atom x (text_of_word x front) front (b ∷ bs)) is (λ e. grammar.bare kind.Numeral (text_of_word kind.Numeral front) front (b ∷ bs) (final_bare part.Numeral kind.Numeral front refl (λ n. refl) h) e)
stop_atom part.Fraction k front b bs is h = stopped (is_digit b) (ends_atom b) part.Fraction kind.Decimal k (λ x. Atom x (text_of_word x front) front (b ∷ bs)) is (λ e. grammar.bare kind.Decimal (text_of_word kind.Decimal front) front (b ∷ bs) (final_bare part.Fraction kind.Decimal front refl (λ n. refl) h) e)
stop_atom part.Binary k front b bs is h = stopped (is_binary_digit b) (ends_atom b) part.Binary kind.Binary k (λ x. Atom x (text_of_word x front) front (b ∷ bs)) is (λ e. grammar.bare kind.Binary (text_of_word kind.Binary front) front (b ∷ bs) (final_bare part.Binary kind.Binary front refl (λ n. refl) h) e)
stop_atom part.Hex k front b bs is h = stopped (is_hex_digit b) (ends_atom b) part.Hex kind.Hex k (λ x. Atom x (text_of_word x front) front (b ∷ bs)) is (λ e. grammar.bare kind.Hex (text_of_word kind.Hex front) front (b ∷ bs) (final_bare part.Hex kind.Hex front refl (λ n. refl) h) e)
stop_atom part.Colon k front b bs is h = absurd (goes_or_wrong (is_symbol_byte b) part.Keyword k is)
stop_atom part.Point k front b bs is h = absurd (goes_or_wrong (is_digit b) part.Fraction k is)
stop_atom part.Hash k front b bs is h = absurd (two_or_wrong (nat_eq b 98) (nat_eq b 120) part.HashB part.HashX k is)
stop_atom part.HashB k front b bs is h = absurd (goes_or_wrong (is_binary_digit b) part.Binary k is)
stop_atom part.HashX k front b bs is h = absurd (goes_or_wrong (is_hex_digit b) part.Hex k is)
stop_atom part.Bars k front b bs is h = absurd (bars_never_stop (nat_eq b 124) (nat_eq b 92) k is)
stop_atom part.Inside k front b bs is h = absurd (always_goes (nat_eq b 34) part.Behind part.Inside k is)
stop_atom part.Behind k front b bs is h = quote_stops (nat_eq b 34) k (λ x. Atom x (text_of_word x front) front (b ∷ bs)) is (λ e. quoted_atom front (b ∷ bs) h e)

-- the bar that closes a quoted symbol
never_takes : (t e : Bool) (p : Part) (j k : AtomKind) → (if t then Goes p else (if e then Stops j else Wrong)) ≡ Takes k → ⊥
never_takes true e p j k is = cc
never_takes false true p j k is = cc
never_takes false false p j k is = cc

never_takes_two : (t u e : Bool) (p r : Part) (j k : AtomKind) → (if t then Goes p else if u then Goes r else (if e then Stops j else Wrong)) ≡ Takes k → ⊥
never_takes_two true u e p r j k is = cc
never_takes_two false u e p r j k is = never_takes u e r j k is

never_takes_one : (t : Bool) (p : Part) (k : AtomKind) → (if t then Goes p else Wrong) ≡ Takes k → ⊥
never_takes_one true p k is = cc
never_takes_one false p k is = cc

never_takes_both : (t u : Bool) (p r : Part) (k : AtomKind) → (if t then Goes p else if u then Goes r else Wrong) ≡ Takes k → ⊥
never_takes_both true u p r k is = cc
never_takes_both false u p r k is = never_takes_one u r k is

bar_takes : (x y : Bool) (k : AtomKind) → (if x then Takes kind.Symbol else if y then Wrong else Goes part.Bars) ≡ Takes k → (x ≡ true) × (kind.Symbol ≡ k)
bar_takes true y k is = (refl, cc)
bar_takes false true k is = cc
bar_takes false false k is = cc

inside_takes : (t : Bool) (p r : Part) (k : AtomKind) → (if t then Goes p else Goes r) ≡ Takes k → ⊥
inside_takes true p r k is = cc
inside_takes false p r k is = cc

behind_takes : (t : Bool) (p : Part) (j k : AtomKind) → (if t then Goes p else Stops j) ≡ Takes k → ⊥
behind_takes true p j k is = cc
behind_takes false p j k is = cc

take_atom : (p : Part) (k : AtomKind) (front : List ℕ) (b : ℕ) (bs : List ℕ) → advance p b ≡ Takes k → Shape p front → Atom k (text_of_word k (front ++ b ∷ [])) (front ++ b ∷ []) bs
take_atom part.Bars k front b bs is h =
    let t = bar_takes (nat_eq b 124) (nat_eq b 92) k is in
    let word : front ++ b ∷ [] ≡ 124 ∷ (h.0 ++ 124 ∷ []) = ap (λ l. l ++ b ∷ []) h.1 ∙ ap (λ x. 124 ∷ (h.0 ++ x ∷ [])) (eqb-true b 124 t.0) in
    subst (λ x. Atom x (text_of_word x (front ++ b ∷ [])) (front ++ b ∷ []) bs) t.1
    (subst (λ w. Atom kind.Symbol (text_of_word kind.Symbol w) w bs) (sym word) (subst (λ x. Atom kind.Symbol x (124 ∷ (h.0 ++ 124 ∷ [])) bs) (sym (barred_text h.0)) (grammar.bars h.0 bs h.2)))
take_atom part.Symbol k front b bs is h = absurd (never_takes (is_symbol_byte b) (ends_atom b) part.Symbol kind.Symbol k is)
take_atom part.Keyword k front b bs is h = absurd (never_takes (is_symbol_byte b) (ends_atom b) part.Keyword kind.Keyword k is)
take_atom part.Numeral k front b bs is h = absurd (never_takes_two (is_digit b) (nat_eq b 46) (ends_atom b) part.Numeral part.Point kind.Numeral k is)
take_atom part.Fraction k front b bs is h = absurd (never_takes (is_digit b) (ends_atom b) part.Fraction kind.Decimal k is)
take_atom part.Binary k front b bs is h = absurd (never_takes (is_binary_digit b) (ends_atom b) part.Binary kind.Binary k is)
take_atom part.Hex k front b bs is h = absurd (never_takes (is_hex_digit b) (ends_atom b) part.Hex kind.Hex k is)
take_atom part.Colon k front b bs is h = absurd (never_takes_one (is_symbol_byte b) part.Keyword k is)
take_atom part.Point k front b bs is h = absurd (never_takes_one (is_digit b) part.Fraction k is)
take_atom part.Hash k front b bs is h = absurd (never_takes_both (nat_eq b 98) (nat_eq b 120) part.HashB part.HashX k is)
take_atom part.HashB k front b bs is h = absurd (never_takes_one (is_binary_digit b) part.Binary k is)
take_atom part.HashX k front b bs is h = absurd (never_takes_one (is_hex_digit b) part.Hex k is)
take_atom part.Inside k front b bs is h = absurd (inside_takes (nat_eq b 34) part.Behind part.Inside k is)
take_atom part.Behind k front b bs is h = absurd (behind_takes (nat_eq b 34) part.Inside kind.Quoted k is)

-- a byte that fits no atom
wrong_ends : (t e : Bool) (p : Part) (j : AtomKind) → (if t then Goes p else (if e then Stops j else Wrong)) ≡ Wrong → e ≡ false
wrong_ends true e p j is = cc
wrong_ends false true p j is = cc
wrong_ends false false p j is = refl

wrong_ends_two : (t u e : Bool) (p r : Part) (j : AtomKind) → (if t then Goes p else if u then Goes r else (if e then Stops j else Wrong)) ≡ Wrong → e ≡ false
wrong_ends_two true u e p r j is = cc
wrong_ends_two false u e p r j is = wrong_ends u e r j is

final_wrong : (p : Part) (k : AtomKind) (b : ℕ) → is_bare p ≡ true → Ends p k → advance p b ≡ Wrong → ends_atom b ≡ false
final_wrong part.Symbol k b bare ends is = wrong_ends (is_symbol_byte b) (ends_atom b) part.Symbol kind.Symbol is
final_wrong part.Keyword k b bare ends is = wrong_ends (is_symbol_byte b) (ends_atom b) part.Keyword kind.Keyword is
final_wrong part.Numeral k b bare ends is = wrong_ends_two (is_digit b) (nat_eq b 46) (ends_atom b) part.Numeral part.Point kind.Numeral is
final_wrong part.Fraction k b bare ends is = wrong_ends (is_digit b) (ends_atom b) part.Fraction kind.Decimal is
final_wrong part.Binary k b bare ends is = wrong_ends (is_binary_digit b) (ends_atom b) part.Binary kind.Binary is
final_wrong part.Hex k b bare ends is = wrong_ends (is_hex_digit b) (ends_atom b) part.Hex kind.Hex is
final_wrong part.Colon k b bare ends is = let f = ends 0 in cc
final_wrong part.Point k b bare ends is = let f = ends 0 in cc
final_wrong part.Hash k b bare ends is = let f = ends 0 in cc
final_wrong part.HashB k b bare ends is = let f = ends 0 in cc
final_wrong part.HashX k b bare ends is = let f = ends 0 in cc
final_wrong part.Bars k b bare ends is = cc
final_wrong part.Inside k b bare ends is = cc
final_wrong part.Behind k b bare ends is = cc

-- a bare atom that begins with a byte is walked from the part that it begins
pub bare_walk : (k : AtomKind) (text : List ℕ) (x : ℕ) (xs : List ℕ) (q : Part) → Bare k text (x ∷ xs) → begins_part x ≡ Some q → (is_bare q ≡ true) × ((last : Part) × Walk q xs last × Ends last k)
bare_walk k text x xs q h begins =
    let l = bare_leads k text (x ∷ xs) h in
    let e : x ≡ l.byte = (let s = l.split in cc) in
    let r : xs ≡ l.rest = (let s = l.split in cc) in
    let f : l.first ≡ q = (let b = l.begins in let c = begins in let d = ap begins_part e in cc) in
    (subst (λ p. is_bare p ≡ true) f l.bare, (l.last, subst (λ ys. Walk q ys l.last) (sym r) (subst (λ p. Walk p l.rest l.last) f l.walk), l.ends))

no_step : (p last : Part) (b : ℕ) (more : List ℕ) → advance p b ≡ Wrong → Walk p (b ∷ more) last → ⊥
no_step p last b more is (on _ a _ _ _ e h) = cc

bad_byte : (p q : Part) (x : ℕ) (xs : List ℕ) (b : ℕ) (bs : List ℕ) → is_bare p ≡ true → begins_part x ≡ Some q → Walk q xs p → Shape p (x ∷ xs) → advance p b ≡ Wrong → IsBadWord ((x ∷ xs) ++ b ∷ bs) (length (x ∷ xs)) BadCharacter
bad_byte p q x xs b bs bare begins walk shape is =
    faults.byte (x ∷ xs) b bs (shape_begins p (x ∷ xs) bare shape)
    (λ h.
    let w = bare_walk h.0 h.1 x ((xs ++ b ∷ []) ++ h.2) q h.3 begins in
    let f = walk_front q xs (b ∷ h.2) w.1.0 (subst (λ l. Walk q l w.1.0) (append3 xs (b ∷ []) h.2) w.1.1) in
    let same : f.0 ≡ p = walk_same q xs f.0 p f.1 walk in
    no_step p w.1.0 b h.2 is (subst (λ r. Walk r (b ∷ h.2) w.1.0) same f.2))
    (λ h.
    let w = bare_walk h.0 h.1 x xs q h.2 begins in
    let same : w.1.0 ≡ p = walk_same q xs w.1.0 p w.1.1 walk in
    final_wrong p h.0 b bare (subst (λ r. Ends r h.0) same w.1.2) is)

bars_wrong : (x y : Bool) → (if x then Takes kind.Symbol else if y then Wrong else Goes part.Bars) ≡ Wrong → y ≡ true
bars_wrong true y is = cc
bars_wrong false true is = refl
bars_wrong false false is = cc

inside_wrong : (t : Bool) (p r : Part) → (if t then Goes p else Goes r) ≡ Wrong → ⊥
inside_wrong true p r is = cc
inside_wrong false p r is = cc

behind_wrong : (t : Bool) (p : Part) (j : AtomKind) → (if t then Goes p else Stops j) ≡ Wrong → ⊥
behind_wrong true p j is = cc
behind_wrong false p j is = cc

wrong_word : (p q : Part) (x : ℕ) (xs : List ℕ) (b : ℕ) (bs : List ℕ) → begins_part x ≡ Some q → Walk q xs p → Shape p (x ∷ xs) → advance p b ≡ Wrong → IsBadWord ((x ∷ xs) ++ b ∷ bs) (length (x ∷ xs)) BadCharacter
wrong_word part.Bars q x xs b bs begins walk h is =
    subst (λ w. IsBadWord (w ++ b ∷ bs) (length w) BadCharacter) (sym h.1)
    (subst (λ y. IsBadWord (124 ∷ (h.0 ++ y ∷ bs)) (length (124 ∷ h.0)) BadCharacter) (sym (eqb-true b 92 (bars_wrong (nat_eq b 124) (nat_eq b 92) is))) (faults.backslash h.0 bs h.2))
wrong_word part.Inside q x xs b bs begins walk h is = absurd (inside_wrong (nat_eq b 34) part.Behind part.Inside is)
wrong_word part.Behind q x xs b bs begins walk h is = absurd (behind_wrong (nat_eq b 34) part.Inside kind.Quoted is)
wrong_word part.Symbol q x xs b bs begins walk h is = bad_byte part.Symbol q x xs b bs refl begins walk h is
wrong_word part.Colon q x xs b bs begins walk h is = bad_byte part.Colon q x xs b bs refl begins walk h is
wrong_word part.Keyword q x xs b bs begins walk h is = bad_byte part.Keyword q x xs b bs refl begins walk h is
wrong_word part.Numeral q x xs b bs begins walk h is = bad_byte part.Numeral q x xs b bs refl begins walk h is
wrong_word part.Point q x xs b bs begins walk h is = bad_byte part.Point q x xs b bs refl begins walk h is
wrong_word part.Fraction q x xs b bs begins walk h is = bad_byte part.Fraction q x xs b bs refl begins walk h is
wrong_word part.Hash q x xs b bs begins walk h is = bad_byte part.Hash q x xs b bs refl begins walk h is
wrong_word part.HashB q x xs b bs begins walk h is = bad_byte part.HashB q x xs b bs refl begins walk h is
wrong_word part.HashX q x xs b bs begins walk h is = bad_byte part.HashX q x xs b bs refl begins walk h is
wrong_word part.Binary q x xs b bs begins walk h is = bad_byte part.Binary q x xs b bs refl begins walk h is
wrong_word part.Hex q x xs b bs begins walk h is = bad_byte part.Hex q x xs b bs refl begins walk h is

-- the end of the text inside a word
cut_bare : (p q : Part) (x : ℕ) (xs : List ℕ) → is_bare p ≡ true → begins_part x ≡ Some q → Walk q xs p → Shape p (x ∷ xs) → ((k : AtomKind) → ¬ (Ends p k)) → IsBadWord (x ∷ xs) 0 BadCharacter
cut_bare p q x xs bare begins walk shape never =
    faults.end (x ∷ xs) (omega arith) (shape_begins p (x ∷ xs) bare shape)
    (λ k text h.
    let w = bare_walk k text x xs q h begins in
    let same : w.1.0 ≡ p = walk_same q xs w.1.0 p w.1.1 walk in
    never k (subst (λ r. Ends r k) same w.1.2))

-- what a word of the scanner is to the grammar
abbrev pub Outcome : List ℕ → Word → Type 0
Outcome bytes (whole k n) = (n ≤ length bytes) × Atom k (text_of_word k (take n bytes)) (take n bytes) (drop n bytes)
Outcome bytes (bad n) = (n ≤ length bytes) × IsBadWord bytes n BadCharacter
Outcome bytes (cut r) = IsBadWord bytes 0 r

take_all : (xs : List ℕ) → take (length xs) xs ≡ xs
take_all [] = refl
take_all (x ∷ xs) = ap (λ l. x ∷ l) (take_all xs)

drop_whole : (xs : List ℕ) → drop (length xs) xs ≡ []
drop_whole [] = refl
drop_whole (x ∷ xs) = drop_whole xs

whole_end : (p : Part) (k : AtomKind) (x : ℕ) (xs : List ℕ) → Ends p k → Shape p (x ∷ xs) → Outcome (x ∷ xs) (whole k (length (x ∷ xs)))
whole_end p k x xs ends h =
    (omega arith, subst (λ w. Atom k (text_of_word k w) w (drop (length (x ∷ xs)) (x ∷ xs))) (sym (take_all (x ∷ xs))) (subst (λ r. Atom k (text_of_word k (x ∷ xs)) (x ∷ xs) r) (sym (drop_whole (x ∷ xs))) (end_atom p k (x ∷ xs) ends h)))

drop_exact : (xs ys : List ℕ) → drop (length xs) (xs ++ ys) ≡ ys
drop_exact [] ys = refl
drop_exact (x ∷ xs) ys = drop_exact xs ys

end_outcome : (p q : Part) (x : ℕ) (xs : List ℕ) → begins_part x ≡ Some q → Walk q xs p → Shape p (x ∷ xs) → Outcome (x ∷ xs) (at_end p (length (x ∷ xs)))
end_outcome part.Symbol q x xs begins walk h = whole_end part.Symbol kind.Symbol x xs (λ n. refl) h
end_outcome part.Keyword q x xs begins walk h = whole_end part.Keyword kind.Keyword x xs (λ n. refl) h
end_outcome part.Numeral q x xs begins walk h = whole_end part.Numeral kind.Numeral x xs (λ n. refl) h
end_outcome part.Fraction q x xs begins walk h = whole_end part.Fraction kind.Decimal x xs (λ n. refl) h
end_outcome part.Binary q x xs begins walk h = whole_end part.Binary kind.Binary x xs (λ n. refl) h
end_outcome part.Hex q x xs begins walk h = whole_end part.Hex kind.Hex x xs (λ n. refl) h
end_outcome part.Behind q x xs begins walk h = whole_end part.Behind kind.Quoted x xs (λ n. refl) h
end_outcome part.Bars q x xs begins walk h = subst (λ w. IsBadWord w 0 OpenSymbol) (sym h.1) (faults.no_bar h.0 h.2)
end_outcome part.Inside q x xs begins walk h = subst (λ w. IsBadWord w 0 OpenString) (sym h.1) (faults.no_quote h.0)
end_outcome part.Colon q x xs begins walk h = cut_bare part.Colon q x xs refl begins walk h (λ k e. let f = e 0 in cc)
end_outcome part.Point q x xs begins walk h = cut_bare part.Point q x xs refl begins walk h (λ k e. let f = e 0 in cc)
end_outcome part.Hash q x xs begins walk h = cut_bare part.Hash q x xs refl begins walk h (λ k e. let f = e 0 in cc)
end_outcome part.HashB q x xs begins walk h = cut_bare part.HashB q x xs refl begins walk h (λ k e. let f = e 0 in cc)
end_outcome part.HashX q x xs begins walk h = cut_bare part.HashX q x xs refl begins walk h (λ k e. let f = e 0 in cc)

snoc_front : (xs : List ℕ) (b : ℕ) (bs : List ℕ) → take (length xs + 1) (xs ++ b ∷ bs) ≡ xs ++ b ∷ []
snoc_front xs b bs = ap (take (length xs + 1)) (sym (append3 xs (b ∷ []) bs)) ∙ take_exact (length xs + 1) (xs ++ b ∷ []) bs (length_snoc xs b)

snoc_back : (xs : List ℕ) (b : ℕ) (bs : List ℕ) → drop (length xs + 1) (xs ++ b ∷ bs) ≡ bs
snoc_back xs b bs = ap (drop (length xs + 1)) (sym (append3 xs (b ∷ []) bs)) ∙ ap (λ n. drop n ((xs ++ b ∷ []) ++ bs)) (sym (length_snoc xs b)) ∙ drop_exact (xs ++ b ∷ []) bs

length_both : (xs ys : List ℕ) → length (xs ++ ys) ≡ length xs + length ys
length_both [] ys = omega arith
length_both (x ∷ xs) ys = omega (arith, length_both xs ys)

-- one byte more, where the bytes behind it are sound
step_sound : (b : ℕ) (bs : List ℕ) (p q : Part) (x : ℕ) (xs : List ℕ) (a : Advance) → begins_part x ≡ Some q → Walk q xs p → Shape p (x ∷ xs) → advance p b ≡ a →
    ((r : Part) (ys : List ℕ) → Walk q ys r → Shape r (x ∷ ys) → Outcome ((x ∷ ys) ++ bs) (scan r (length (x ∷ ys)) bs)) →
    Outcome ((x ∷ xs) ++ b ∷ bs) (on_advance a (length (x ∷ xs)) (λ r. scan r (length (x ∷ xs) + 1) bs))
step_sound b bs p q x xs (Goes r) begins walk h is rest =
    let more = walk_more q xs p (b ∷ []) r walk (on p r r b [] is (here r)) in
    subst (λ l. Outcome l (scan r (length (x ∷ xs) + 1) bs)) (append3 (x ∷ xs) (b ∷ []) bs)
    (subst (λ n. Outcome (((x ∷ xs) ++ b ∷ []) ++ bs) (scan r n bs)) (length_snoc (x ∷ xs) b) (rest r (xs ++ b ∷ []) more (walk_shape q (x ∷ []) (xs ++ b ∷ []) r (shape_first x q begins) more)))
step_sound b bs p q x xs (Takes k) begins walk h is rest = (
  omega (arith, length_both (x ∷ xs) (b ∷ bs)),
  subst (λ w. Atom k (text_of_word k w) w (drop (length (x ∷ xs) + 1) ((x ∷ xs) ++ b ∷ bs))) (sym (snoc_front (x ∷ xs) b bs))
      (subst (λ r. Atom k (text_of_word k ((x ∷ xs) ++ b ∷ [])) ((x ∷ xs) ++ b ∷ []) r) (sym (snoc_back (x ∷ xs) b bs)) (take_atom p k (x ∷ xs) b bs is h)),
)
step_sound b bs p q x xs (Stops k) begins walk h is rest = (
  omega (arith, length_both (x ∷ xs) (b ∷ bs)),
  subst (λ w. Atom k (text_of_word k w) w (drop (length (x ∷ xs)) ((x ∷ xs) ++ b ∷ bs))) (sym (take_exact (length (x ∷ xs)) (x ∷ xs) (b ∷ bs) refl))
      (subst (λ r. Atom k (text_of_word k (x ∷ xs)) (x ∷ xs) r) (sym (drop_exact (x ∷ xs) (b ∷ bs))) (stop_atom p k (x ∷ xs) b bs is h)),
)
step_sound b bs p q x xs Wrong begins walk h is rest = (omega (arith, length_both (x ∷ xs) (b ∷ bs)), wrong_word p q x xs b bs begins walk h is)

scan_sound : (bs : List ℕ) (p q : Part) (x : ℕ) (xs : List ℕ) → begins_part x ≡ Some q → Walk q xs p → Shape p (x ∷ xs) → Outcome ((x ∷ xs) ++ bs) (scan p (length (x ∷ xs)) bs)
scan_sound [] p q x xs begins walk h = subst (λ l. Outcome l (at_end p (length (x ∷ xs)))) (sym (append_none (x ∷ xs))) (end_outcome p q x xs begins walk h)
scan_sound (b ∷ bs) p q x xs begins walk h = step_sound b bs p q x xs (advance p b) begins walk h refl (λ r ys w k. scan_sound bs r q x ys begins w k)

-- from the first byte of an atom on
pub word_sound : (bytes : List ℕ) (q : Part) (w : Word) → 0 < length bytes → begins_part (get_or bytes 0 0) ≡ Some q → scan q 1 (drop 1 bytes) ≡ w → Outcome bytes w
word_sound [] q w some begins is = absurd (omega (arith, some))
word_sound (x ∷ bs) q w some begins is = subst (Outcome (x ∷ bs)) is (scan_sound bs q q x [] begins (here q) (shape_first x q begins))
