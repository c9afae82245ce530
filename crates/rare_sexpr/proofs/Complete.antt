-- What is spelled is read, and a fault is refused.
use Rattle.std.proofs.Common.{◌≡◌, ℕ, suc, ◌+◌, ◌<◌, Bool, true, false, not, ◌||◌, List, [], ◌∷◌, ◌++◌, length, take, drop, get_or, nat_eq, nat_lt, refl, ap, sym, ◌∙◌, subst, arith, Some, if◌then◌else◌}
use Rattle.std.specs.List.{list_all}
use Rattle.std.proofs.lemmas.Bool.{eqb-true}
use Rattle.std.proofs.lemmas.Bool.Decides.{nat_tests}
use Rattle.rare_base.specs.declared.answers.Place.{Place}
use Rattle.rare_base.specs.declared.answers.Reason.{Reason}
use Rattle.rare_base.specs.declared.answers.Reason.TheVariants.{Unbalanced, BadCharacter, OpenString, OpenSymbol, TooDeep}
use Rattle.rare_base.specs.Answers.{Refusal}
use Rattle.rare_sexpr.specs.declared.tree.AtomKind.{AtomKind}
use Rattle.rare_sexpr.specs.declared.tree.AtomKind.TheVariants as kind
use Rattle.rare_sexpr.specs.declared.tree.Sexpr.{Sexpr}
use Rattle.rare_sexpr.specs.declared.scan.Part.{Part}
use Rattle.rare_sexpr.specs.declared.scan.Part.TheVariants as part
use Rattle.rare_sexpr.specs.declared.scan.Advance.{Advance}
use Rattle.rare_sexpr.specs.declared.scan.Advance.TheVariants.{Goes, Takes, Stops, Wrong}
use Rattle.rare_sexpr.specs.declared.bytes.Class.{Class}
use Rattle.rare_sexpr.specs.declared.bytes.Class.TheVariants.{Blank, LineFeed, Open, Close, Semicolon, Colon, Hash, Digit, Letter, Quote, Bar, Other}
use Rattle.rare_sexpr.specs.declared.stack.Opened.{Opened}
use Rattle.rare_sexpr.specs.Tree.{atom_of, list_of}
use Rattle.rare_sexpr.specs.Limits.{most_nested_lists}
use Rattle.rare_sexpr.specs.Bytes.{after, behind, is_blank, ends_comment, ends_atom, is_symbol_byte, is_digit, is_binary_digit, is_hex_digit, is_in_bars}
use Rattle.rare_sexpr.specs.Written.{doubled}
use Rattle.rare_sexpr.specs.Commands.{Commands, put_first, refused}
use Rattle.rare_sexpr.specs.Grammar.{IsGap, IsLastGap, is_one_line, Are, Bare, Atom, may_follow_bare, has_quote_first, Spell, Spells}
use Rattle.rare_sexpr.specs.Grammar as grammar
use Rattle.rare_sexpr.specs.Faults.{BeginsBare, MayEnd, IsBadWord, MayStandBefore, HasFaultIn, IsFault}
use Rattle.rare_sexpr.specs.Faults as faults
use Rattle.rare_sexpr.specs.TextGrammar.{AreCommands}
use Rattle.rare_sexpr.specs.TextGrammar as texts
use Rattle.rare_sexpr.specs.Readings.{commands_from}
use Rattle.rare_sexpr.specs.inner.Classes.{class}
use Rattle.rare_sexpr.specs.inner.Scan.{whole, bad, cut, scan, advance, on_advance, at_end, begins_class, begins_part}
use Rattle.rare_sexpr.specs.inner.Words.{Token, atom, wrong, between, begins, words, text_of_word}
use Rattle.rare_sexpr.specs.inner.Gaps.{Passes}
use Rattle.rare_sexpr.specs.inner.Gaps as gaps
use Rattle.rare_sexpr.specs.inner.Reading.{outermost, commands, ended}
use Rattle.rare_sexpr.proofs.Lists.{behind_append}
use Rattle.rare_sexpr.proofs.ClassTests.{IsOf, class_tests}
use Rattle.rare_sexpr.proofs.Blanks.{passes_append}
use Rattle.rare_sexpr.proofs.Fronts.{take_exact}
use Rattle.rare_sexpr.proofs.Left.{passes_words, words_whole, words_bad, words_cut}
use Rattle.rare_sexpr.proofs.Shapes.{Shape, shape_first, shape_step, shape_begins, is_bare, first_of_both, second_of_both}
use Rattle.rare_sexpr.proofs.Walks.{Walk, here, on, walk_front, walk_scan, walk_shape, Ends, bare_leads, run}
use Rattle.rare_sexpr.proofs.Sound.{stopped, stopped_two, goes_or_wrong, two_or_wrong, bare_text, barred_text, quoted_text, final_bare}
use Rattle.rare_sexpr.proofs.Building.{append3, no_more, take_before, drop_before, places}
use Rattle.rare_sexpr.proofs.Refusing.{first_place}

drop_exact : (xs ys : List ℕ) → drop (length xs) (xs ++ ys) ≡ ys
drop_exact [] ys = refl
drop_exact (x ∷ xs) ys = drop_exact xs ys

length_both : (xs ys : List ℕ) → length (xs ++ ys) ≡ length xs + length ys
length_both [] ys = omega arith
length_both (x ∷ xs) ys = omega (arith, length_both xs ys)

-- gaps
not_true : (x : Bool) → not x ≡ true → x ≡ false
not_true true e = cc
not_true false e = refl

line_passes : (text : List ℕ) (b : ℕ) (bs : List ℕ) → is_one_line text ≡ true → ends_comment b ≡ true → Passes false bs false → Passes true (text ++ b ∷ bs) false
line_passes [] b bs one e h = gaps.ends b bs false e h
line_passes (x ∷ text) b bs one e h =
    gaps.text x (text ++ b ∷ bs) false (not_true (ends_comment x) (first_of_both (not (ends_comment x)) (is_one_line text) one)) (line_passes text b bs (second_of_both (not (ends_comment x)) (is_one_line text) one) e h)

open_line : (text : List ℕ) → is_one_line text ≡ true → Passes true text true
open_line [] one = gaps.none true
open_line (x ∷ text) one = gaps.text x text true (not_true (ends_comment x) (first_of_both (not (ends_comment x)) (is_one_line text) one)) (open_line text (second_of_both (not (ends_comment x)) (is_one_line text) one))

gap_passes : (gap : List ℕ) → IsGap gap → Passes false gap false
gap_passes gap grammar.none = gaps.none false
gap_passes gap (grammar.blank b bs is h) = gaps.blank b bs false is (gap_passes bs h)
gap_passes gap (grammar.comment text b bs one e h) = gaps.opens (text ++ b ∷ bs) false (line_passes text b bs one e (gap_passes bs h))

gap_words : (gap rest : List ℕ) (p : Place) → IsGap gap → words between p (gap ++ rest) ≡ words between (behind p gap) rest
gap_words gap rest p g = passes_words false gap false p rest (gap_passes gap g)

last_words : (bytes : List ℕ) (p : Place) → IsLastGap bytes → words between p bytes ≡ []
last_words bytes p (grammar.whole gap g) = ap (words between p) (sym (no_more gap)) ∙ gap_words gap [] p g
last_words bytes p (grammar.cut gap text g one) =
    ap (words between p) (sym (no_more (gap ++ 59 ∷ text)))
    ∙ passes_words false (gap ++ 59 ∷ text) true p [] (passes_append false gap false (59 ∷ text) true (gap_passes gap g) (gaps.opens text true (open_line text one)))

-- an atom
either : (x y : Bool) {P : Type 0} → (x || y) ≡ true → (x ≡ true → P) → (y ≡ true → P) → P
either true y e f g = f refl
either false y e f g = g e

by_value : (P : ℕ → Type 0) → P 32 → P 9 → P 10 → P 13 → P 40 → P 41 → P 59 → P 34 → P 124 → (b : ℕ) → ends_atom b ≡ true → P b
by_value P a c d e f g h i j b is =
    let at : (v : ℕ) → P v → nat_eq b v ≡ true → P b = λ v x t. subst P (sym (eqb-true b v t)) x in
    either _ _ is (λ is. either _ _ is (λ is. either _ _ is (λ is. either _ _ is (λ is. either _ _ is (λ is. either _ _ is (λ is. either _ _ is (λ is. either _ _ is (at 32 a) (at 9 c)) (at 10 d)) (at 13 e)) (at 40 f)) (at 41 g)) (at 59 h)) (at 34 i)) (at 124 j)

final_stops : (p : Part) (k : AtomKind) (b : ℕ) → is_bare p ≡ true → Ends p k → ends_atom b ≡ true → advance p b ≡ Stops k
final_stops part.Symbol k b bare ends e = let f : kind.Symbol ≡ k = (let g = ends 0 in cc) in subst (λ x. advance part.Symbol b ≡ Stops x) f (by_value (λ v. advance part.Symbol v ≡ Stops kind.Symbol) refl refl refl refl refl refl refl refl refl b e)
final_stops part.Keyword k b bare ends e = let f : kind.Keyword ≡ k = (let g = ends 0 in cc) in subst (λ x. advance part.Keyword b ≡ Stops x) f (by_value (λ v. advance part.Keyword v ≡ Stops kind.Keyword) refl refl refl refl refl refl refl refl refl b e)
final_stops part.Numeral k b bare ends e = let f : kind.Numeral ≡ k = (let g = ends 0 in cc) in subst (λ x. advance part.Numeral b ≡ Stops x) f (by_value (λ v. advance part.Numeral v ≡ Stops kind.Numeral) refl refl refl refl refl refl refl refl refl b e)
final_stops part.Fraction k b bare ends e = let f : kind.Decimal ≡ k = (let g = ends 0 in cc) in subst (λ x. advance part.Fraction b ≡ Stops x) f (by_value (λ v. advance part.Fraction v ≡ Stops kind.Decimal) refl refl refl refl refl refl refl refl refl b e)
final_stops part.Binary k b bare ends e = let f : kind.Binary ≡ k = (let g = ends 0 in cc) in subst (λ x. advance part.Binary b ≡ Stops x) f (by_value (λ v. advance part.Binary v ≡ Stops kind.Binary) refl refl refl refl refl refl refl refl refl b e)
final_stops part.Hex k b bare ends e = let f : kind.Hex ≡ k = (let g = ends 0 in cc) in subst (λ x. advance part.Hex b ≡ Stops x) f (by_value (λ v. advance part.Hex v ≡ Stops kind.Hex) refl refl refl refl refl refl refl refl refl b e)
final_stops part.Colon k b bare ends e = let f = ends 0 in cc
final_stops part.Point k b bare ends e = let f = ends 0 in cc
final_stops part.Hash k b bare ends e = let f = ends 0 in cc
final_stops part.HashB k b bare ends e = let f = ends 0 in cc
final_stops part.HashX k b bare ends e = let f = ends 0 in cc
final_stops part.Bars k b bare ends e = cc
final_stops part.Inside k b bare ends e = cc
final_stops part.Behind k b bare ends e = cc

final_scan : (p : Part) (k : AtomKind) (n : ℕ) (rest : List ℕ) → is_bare p ≡ true → Ends p k → may_follow_bare rest ≡ true → scan p n rest ≡ whole k n
final_scan p k n [] bare ends e = ends n
final_scan p k n (b ∷ rest) bare ends e = ap (λ a. on_advance a n (λ q. scan q (n + 1) rest)) (final_stops p k b bare ends e)

-- a part without bars and quotes goes on to one
abbrev pub GoesBare : Advance → Type 0
GoesBare (Goes q) = is_bare q ≡ true
GoesBare (Takes k) = ⊥
GoesBare (Stops k) = Unit {0}
GoesBare Wrong = Unit {0}

one_bare : (t e : Bool) (p : Part) (k : AtomKind) → is_bare p ≡ true → GoesBare (if t then Goes p else (if e then Stops k else Wrong))
one_bare true e p k h = h
one_bare false true p k h = tt
one_bare false false p k h = tt

two_bare : (t u e : Bool) (p q : Part) (k : AtomKind) → is_bare p ≡ true → is_bare q ≡ true → GoesBare (if t then Goes p else if u then Goes q else (if e then Stops k else Wrong))
two_bare true u e p q k h i = h
two_bare false u e p q k h i = one_bare u e q k i

wrong_bare : (t : Bool) (p : Part) → is_bare p ≡ true → GoesBare (if t then Goes p else Wrong)
wrong_bare true p h = h
wrong_bare false p h = tt

both_bare : (t u : Bool) (p q : Part) → is_bare p ≡ true → is_bare q ≡ true → GoesBare (if t then Goes p else if u then Goes q else Wrong)
both_bare true u p q h i = h
both_bare false u p q h i = wrong_bare u q i

pub bare_advance : (p : Part) (b : ℕ) → is_bare p ≡ true → GoesBare (advance p b)
bare_advance part.Symbol b h = one_bare (is_symbol_byte b) (ends_atom b) part.Symbol kind.Symbol refl
bare_advance part.Colon b h = wrong_bare (is_symbol_byte b) part.Keyword refl
bare_advance part.Keyword b h = one_bare (is_symbol_byte b) (ends_atom b) part.Keyword kind.Keyword refl
bare_advance part.Numeral b h = two_bare (is_digit b) (nat_eq b 46) (ends_atom b) part.Numeral part.Point kind.Numeral refl refl
bare_advance part.Point b h = wrong_bare (is_digit b) part.Fraction refl
bare_advance part.Fraction b h = one_bare (is_digit b) (ends_atom b) part.Fraction kind.Decimal refl
bare_advance part.Hash b h = both_bare (nat_eq b 98) (nat_eq b 120) part.HashB part.HashX refl refl
bare_advance part.HashB b h = wrong_bare (is_binary_digit b) part.Binary refl
bare_advance part.HashX b h = wrong_bare (is_hex_digit b) part.Hex refl
bare_advance part.Binary b h = one_bare (is_binary_digit b) (ends_atom b) part.Binary kind.Binary refl
bare_advance part.Hex b h = one_bare (is_hex_digit b) (ends_atom b) part.Hex kind.Hex refl
bare_advance part.Bars b h = cc
bare_advance part.Inside b h = cc
bare_advance part.Behind b h = cc

pub bare_goes : (p q : Part) (b : ℕ) → is_bare p ≡ true → advance p b ≡ Goes q → is_bare q ≡ true
bare_goes p q b bare is = subst GoesBare is (bare_advance p b bare)

walk_bare : (p : Part) (xs : List ℕ) (q : Part) → is_bare p ≡ true → Walk p xs q → is_bare q ≡ true
walk_bare p xs q bare (here _) = bare
walk_bare p xs q bare (on _ a _ b bs e h) = walk_bare a bs q (bare_goes p a b bare e) h

doubled_test : (t : Bool) (x : ℕ) (text : List ℕ) → nat_eq x 34 ≡ t → Walk part.Inside (doubled text) part.Inside → Walk part.Inside (if t then 34 ∷ 34 ∷ doubled text else x ∷ doubled text) part.Inside
doubled_test true x text e h = on part.Inside part.Behind part.Inside 34 (34 ∷ doubled text) refl (on part.Behind part.Inside part.Inside 34 (doubled text) refl h)
doubled_test false x text e h = on part.Inside part.Inside part.Inside x (doubled text) (ap (λ t. if t then Goes part.Behind else Goes part.Inside) e) h

doubled_walk : (text : List ℕ) → Walk part.Inside (doubled text) part.Inside
doubled_walk [] = here part.Inside
doubled_walk (x ∷ text) = doubled_test (nat_eq x 34) x text refl (doubled_walk text)

quote_ends : (n : ℕ) (rest : List ℕ) → has_quote_first rest ≡ false → scan part.Behind n rest ≡ whole kind.Quoted n
quote_ends n [] e = refl
quote_ends n (b ∷ rest) e = ap (λ t. on_advance (if t then Goes part.Inside else Stops kind.Quoted) n (λ q. scan q (n + 1) rest)) e

bars_test : (x y : Bool) → not (x || y) ≡ true → (if x then Takes kind.Symbol else if y then Wrong else Goes part.Bars) ≡ Goes part.Bars
bars_test true y e = cc
bars_test false true e = cc
bars_test false false e = refl

bars_walk : (text : List ℕ) → list_all is_in_bars text ≡ true → Walk part.Bars text part.Bars
bars_walk text all = run is_in_bars part.Bars text (λ b t. bars_test (nat_eq b 124) (nat_eq b 92) t) all

-- how an atom is scanned
pub record Scanned (k : AtomKind) (text word rest : List ℕ) : Type 0 where
  pub first : Part
  pub begins : begins_part (get_or (word ++ rest) 0 0) ≡ Some first
  pub comes : scan first 1 (drop 1 (word ++ rest)) ≡ whole k (length word)
  pub some : 0 < length word
  pub text_is : text_of_word k word ≡ text

atom_scanned : (k : AtomKind) (text word rest : List ℕ) → Atom k text word rest → Scanned k text word rest
atom_scanned k text word rest (grammar.bare _ _ _ _ b m) =
    let l = bare_leads k text word b in
    let e = l.split in
    record {
      first = l.first;
      begins = ap (λ w. begins_part (get_or (w ++ rest) 0 0)) e ∙ l.begins;
      comes =
          ap (λ w. scan l.first 1 (drop 1 (w ++ rest))) e ∙ walk_scan l.first 1 l.rest l.last rest l.walk
          ∙ final_scan l.last k (1 + length l.rest) rest (walk_bare l.first l.rest l.last l.bare l.walk) l.ends m ∙ ap (λ n. whole k n) (omega (arith, ap length e));
      some = omega (arith, ap length e);
      text_is = bare_text k text word b;
    }
atom_scanned k text word rest (grammar.bars _ _ all) = record {
  first = part.Bars;
  begins = refl;
  comes = ap (scan part.Bars 1) (append3 text (124 ∷ []) rest) ∙ walk_scan part.Bars 1 text part.Bars (124 ∷ rest) (bars_walk text all) ∙ ap (λ n. whole kind.Symbol n) (omega (arith, length_both text (124 ∷ [])));
  some = omega arith;
  text_is = barred_text text;
}
atom_scanned k text word rest (grammar.quotes _ _ none) = record {
  first = part.Inside;
  begins = refl;
  comes =
      ap (scan part.Inside 1) (append3 (doubled text) (34 ∷ []) rest) ∙ walk_scan part.Inside 1 (doubled text) part.Inside (34 ∷ rest) (doubled_walk text)
      ∙ quote_ends (1 + length (doubled text) + 1) rest none ∙ ap (λ n. whole kind.Quoted n) (omega (arith, length_both (doubled text) (34 ∷ [])));
  some = omega arith;
  text_is = quoted_text text;
}

atom_words : (k : AtomKind) (text word rest : List ℕ) (p : Place) → Atom k text word rest → words between p (word ++ rest) ≡ atom p k text ∷ words between (behind p word) rest
atom_words k text word rest p a =
    let s = atom_scanned k text word rest a in
    words_whole (word ++ rest) p s.first k (length word) s.begins s.comes s.some (omega (arith, length_both word rest))
    ∙ ap (λ w. atom p k (text_of_word k w) ∷ words between (behind p w) (drop (length word) (word ++ rest))) (take_exact (length word) word rest refl)
    ∙ ap (λ t. atom p k t ∷ words between (behind p word) (drop (length word) (word ++ rest))) s.text_is
    ∙ ap (λ r. atom p k text ∷ words between (behind p word) r) (drop_exact word rest)

-- expressions in an open list
few : (n d : ℕ) → n + suc d ≡ most_nested_lists → nat_lt n most_nested_lists ≡ true
few n d e = grind (arith, nat_tests)

many : (n : ℕ) → n + 0 ≡ most_nested_lists → nat_lt n most_nested_lists ≡ false
many n e = grind (arith, nat_tests)

snoc_items : (items : List Sexpr) (e : Sexpr) (es : List Sexpr) → (items ++ e ∷ []) ++ es ≡ items ++ e ∷ es
snoc_items [] e es = refl
snoc_items (x ∷ items) e es = ap (λ l. x ∷ l) (snoc_items items e es)

-- the words of a list that is opened
open_words : (os : List Opened) (items : List Sexpr) (p : Place) (rest : List ℕ) → nat_lt (length os) most_nested_lists ≡ true →
    commands os items (words between p (40 ∷ rest)) ≡ commands (record { place = p; before = length items } ∷ os) items (words between (after 40 p) rest)
open_words os items p rest lt = ap (λ t. if t then commands (record { place = p; before = length items } ∷ os) items (words between (after 40 p) rest) else refused p TooDeep) lt

close_words : (o q : Opened) (os : List Opened) (items own : List Sexpr) (at p : Place) (rest : List ℕ) → o ≡ record { place = at; before = length items } →
    commands (o ∷ q ∷ os) (items ++ own) (words between p (41 ∷ rest)) ≡ commands (q ∷ os) (items ++ list_of at own ∷ []) (words between (after 41 p) rest)
close_words o q os items own at p rest is =
    ap (λ x. commands (x ∷ q ∷ os) (items ++ own) (words between p (41 ∷ rest))) is
    ∙ ap (λ x. commands (q ∷ os) (x ++ list_of at (drop (length items) (items ++ own)) ∷ []) (words between (after 41 p) rest)) (take_before items own)
    ∙ ap (λ x. commands (q ∷ os) (items ++ list_of at x ∷ []) (words between (after 41 p) rest)) (drop_before items own)

close_first : (at p : Place) (own : List Sexpr) (rest : List ℕ) → commands (record { place = at; before = 0 } ∷ []) own (words between p (41 ∷ rest)) ≡ put_first (list_of at own) (commands_from (after 41 p) rest)
close_first at p own rest = refl

inside_words : (d : ℕ) (es : List Sexpr) (p : Place) (bytes rest : List ℕ) (o : Opened) (os : List Opened) (items : List Sexpr) → Spell d es p bytes rest → length (o ∷ os) + d ≡ most_nested_lists →
    commands (o ∷ os) items (words between p (bytes ++ rest)) ≡ commands (o ∷ os) (items ++ es) (words between (behind p bytes) rest)
inside_words d es p bytes rest o os items (grammar.none _ _ _) n = ap (λ x. commands (o ∷ os) x (words between p rest)) (sym (no_more items))
inside_words d es p bytes rest o os items (grammar.atom _ k text es' _ gap word more _ g a h) n =
    let e = atom_of (behind p gap) k text in
    ap (λ x. commands (o ∷ os) items (words between p x)) (append3 gap (word ++ more) rest ∙ ap (λ x. gap ++ x) (append3 word more rest))
    ∙ ap (commands (o ∷ os) items) (gap_words gap (word ++ (more ++ rest)) p g ∙ atom_words k text word (more ++ rest) (behind p gap) a)
    ∙ ap (λ x. commands (o ∷ os) (items ++ e ∷ []) (words between x (more ++ rest))) (sym (behind_append p gap word))
    ∙ inside_words d es' (behind p (gap ++ word)) more rest o os (items ++ e ∷ []) h n
    ∙ ap (λ x. commands (o ∷ os) x (words between (behind (behind p (gap ++ word)) more) rest)) (snoc_items items e es')
    ∙ ap (λ x. commands (o ∷ os) (items ++ e ∷ es') (words between x rest)) (sym (behind_append p (gap ++ word) more) ∙ ap (behind p) (append3 gap word more))
inside_words d es p bytes rest o os items (grammar.list d' own es' _ gap inside last more _ g s l h) n =
    let q = behind p gap in
    let new : Opened = record { place = q; before = length items } in
    let tail = inside ++ (last ++ 41 ∷ []) in
    let e = list_of q own in
    let split : (gap ++ (40 ∷ (inside ++ (last ++ 41 ∷ more)))) ++ rest ≡ gap ++ (40 ∷ (inside ++ (last ++ 41 ∷ (more ++ rest)))) =
    append3 gap (40 ∷ (inside ++ (last ++ 41 ∷ more))) rest ∙ ap (λ x. gap ++ 40 ∷ x) (append3 inside (last ++ 41 ∷ more) rest ∙ ap (λ x. inside ++ x) (append3 last (41 ∷ more) rest)) in
    let begin : after 40 q ≡ behind p (gap ++ 40 ∷ []) = sym (behind_append p gap (40 ∷ [])) in
    let close : behind (behind (behind p (gap ++ 40 ∷ [])) inside) last ≡ behind (behind p (gap ++ 40 ∷ [])) (inside ++ last) = sym (behind_append (behind p (gap ++ 40 ∷ [])) inside last) in
    let place : after 41 (behind (behind (behind p (gap ++ 40 ∷ [])) inside) last) ≡ behind p (gap ++ (40 ∷ tail)) =
    sym (behind_append (behind (behind p (gap ++ 40 ∷ [])) inside) last (41 ∷ [])) ∙ sym (behind_append (behind p (gap ++ 40 ∷ [])) inside (last ++ 41 ∷ [])) ∙ sym (behind_append p (gap ++ 40 ∷ []) tail) ∙ ap (behind p) (append3 gap (40 ∷ []) tail) in
    let final : behind (behind p (gap ++ (40 ∷ tail))) more ≡ behind p (gap ++ (40 ∷ (inside ++ (last ++ 41 ∷ more)))) =
    sym (behind_append p (gap ++ (40 ∷ tail)) more) ∙ ap (behind p) (append3 gap (40 ∷ tail) more) ∙ ap (λ x. behind p (gap ++ 40 ∷ x)) (append3 inside (last ++ 41 ∷ []) more ∙ ap (λ x. inside ++ x) (append3 last (41 ∷ []) more)) in
    ap (λ x. commands (o ∷ os) items (words between p x)) split
    ∙ ap (commands (o ∷ os) items) (gap_words gap (40 ∷ (inside ++ (last ++ 41 ∷ (more ++ rest)))) p g)
    ∙ open_words (o ∷ os) items q (inside ++ (last ++ 41 ∷ (more ++ rest))) (few (length (o ∷ os)) d' n)
    ∙ ap (λ x. commands (new ∷ o ∷ os) items (words between x (inside ++ (last ++ 41 ∷ (more ++ rest))))) begin
    ∙ inside_words d' own (behind p (gap ++ 40 ∷ [])) inside (last ++ 41 ∷ (more ++ rest)) new (o ∷ os) items s (omega (arith, n))
    ∙ ap (commands (new ∷ o ∷ os) (items ++ own)) (gap_words last (41 ∷ (more ++ rest)) (behind (behind p (gap ++ 40 ∷ [])) inside) l)
    ∙ close_words new o os items own q (behind (behind (behind p (gap ++ 40 ∷ [])) inside) last) (more ++ rest) refl
    ∙ ap (λ x. commands (o ∷ os) (items ++ e ∷ []) (words between x (more ++ rest))) place
    ∙ inside_words (suc d') es' (behind p (gap ++ (40 ∷ tail))) more rest o os (items ++ e ∷ []) h n
    ∙ ap (λ x. commands (o ∷ os) x (words between (behind (behind p (gap ++ (40 ∷ tail))) more) rest)) (snoc_items items e es')
    ∙ ap (λ x. commands (o ∷ os) (items ++ e ∷ es') (words between x rest)) final

-- no expressions have no bytes
nothing : (d : ℕ) (p : Place) (bytes rest : List ℕ) → Spell d [] p bytes rest → bytes ≡ []
nothing d p bytes rest (grammar.none _ _ _) = refl

-- a command
first_words : (e : Sexpr) (p : Place) (bytes rest : List ℕ) → Spells e p bytes rest → commands_from p (bytes ++ rest) ≡ put_first e (commands_from (behind p bytes) rest)
first_words e p bytes rest (grammar.atom _ k text _ _ gap word more _ g a h) =
    let none = nothing most_nested_lists (behind p (gap ++ word)) more rest h in
    ap (λ x. commands_from p x) (append3 gap (word ++ more) rest ∙ ap (λ x. gap ++ x) (append3 word more rest))
    ∙ ap (commands [] []) (gap_words gap (word ++ (more ++ rest)) p g ∙ atom_words k text word (more ++ rest) (behind p gap) a)
    ∙ ap (λ x. put_first (atom_of (behind p gap) k text) (commands_from x (more ++ rest))) (sym (behind_append p gap word))
    ∙ ap (λ x. put_first (atom_of (behind p gap) k text) (commands_from (behind p (gap ++ word)) (x ++ rest))) none
    ∙ ap (λ x. put_first (atom_of (behind p gap) k text) (commands_from (behind p (gap ++ x)) rest)) (sym (no_more word) ∙ ap (λ x. word ++ x) (sym none))
first_words e p bytes rest (grammar.list d' own _ _ gap inside last more _ g s l h) =
    let q = behind p gap in
    let new : Opened = record { place = q; before = 0 } in
    let tail = inside ++ (last ++ 41 ∷ []) in
    let none = nothing most_nested_lists (behind p (gap ++ (40 ∷ tail))) more rest h in
    let split : (gap ++ (40 ∷ (inside ++ (last ++ 41 ∷ more)))) ++ rest ≡ gap ++ (40 ∷ (inside ++ (last ++ 41 ∷ (more ++ rest)))) =
    append3 gap (40 ∷ (inside ++ (last ++ 41 ∷ more))) rest ∙ ap (λ x. gap ++ 40 ∷ x) (append3 inside (last ++ 41 ∷ more) rest ∙ ap (λ x. inside ++ x) (append3 last (41 ∷ more) rest)) in
    let begin : after 40 q ≡ behind p (gap ++ 40 ∷ []) = sym (behind_append p gap (40 ∷ [])) in
    let place : after 41 (behind (behind (behind p (gap ++ 40 ∷ [])) inside) last) ≡ behind p (gap ++ (40 ∷ tail)) =
    sym (behind_append (behind (behind p (gap ++ 40 ∷ [])) inside) last (41 ∷ [])) ∙ sym (behind_append (behind p (gap ++ 40 ∷ [])) inside (last ++ 41 ∷ [])) ∙ sym (behind_append p (gap ++ 40 ∷ []) tail) ∙ ap (behind p) (append3 gap (40 ∷ []) tail) in
    ap (commands_from p) split
    ∙ ap (commands [] []) (gap_words gap (40 ∷ (inside ++ (last ++ 41 ∷ (more ++ rest)))) p g)
    ∙ open_words [] [] q (inside ++ (last ++ 41 ∷ (more ++ rest))) refl
    ∙ ap (λ x. commands (new ∷ []) [] (words between x (inside ++ (last ++ 41 ∷ (more ++ rest))))) begin
    ∙ inside_words d' own (behind p (gap ++ 40 ∷ [])) inside (last ++ 41 ∷ (more ++ rest)) new [] [] s refl
    ∙ ap (commands (new ∷ []) own) (gap_words last (41 ∷ (more ++ rest)) (behind (behind p (gap ++ 40 ∷ [])) inside) l)
    ∙ close_first q (behind (behind (behind p (gap ++ 40 ∷ [])) inside) last) own (more ++ rest)
    ∙ ap (λ x. put_first (list_of q own) (commands_from x (more ++ rest))) place
    ∙ ap (λ x. put_first (list_of q own) (commands_from (behind p (gap ++ (40 ∷ tail))) (x ++ rest))) none
    ∙ ap (λ x. put_first (list_of q own) (commands_from (behind p (gap ++ (40 ∷ (inside ++ (last ++ 41 ∷ x))))) rest)) (sym none)

-- a word that is none
abbrev Wrongs : List ℕ → Place → ℕ → Reason → Type 0
Wrongs bytes p n r = words between p bytes ≡ wrong (behind p (take n bytes)) r ∷ []

-- what a byte of this class begins between words
abbrev on_class : Class → ℕ → Place → List ℕ → List Token
on_class c b p rest = begins c b p rest (λ m. words m (after b p) rest)

ends_value : (P : Type 0) (b v : ℕ) → b ≡ v → ends_atom v ≡ true → ends_atom b ≡ false → P
ends_value P b v e t f = let g : ends_atom b ≡ true = ap ends_atom e ∙ t in cc

begins_one : (b : ℕ) (q : Part) → begins_part b ≡ Some q → is_bare q ≡ true → BeginsBare (b ∷ [])
begins_one b q is bare = shape_begins q (b ∷ []) bare (shape_first b q is)

blank_ends : (b : ℕ) → is_blank b ≡ true → ends_atom b ≡ true
blank_ends b is =
    let at : (v : ℕ) → ends_atom v ≡ true → nat_eq b v ≡ true → ends_atom b ≡ true = λ v t e. ap ends_atom (eqb-true b v e) ∙ t in
    either _ _ is (λ is. either _ _ is (λ is. either _ _ is (at 32 refl) (at 9 refl)) (at 10 refl)) (at 13 refl)

first_class : (k : Class) (b : ℕ) (rest : List ℕ) (p : Place) → class b ≡ k → IsOf k b → ¬ (BeginsBare (b ∷ [])) → ends_atom b ≡ false → Wrongs (b ∷ rest) p 0 BadCharacter
first_class Other b rest p is of never f = ap (λ c. on_class c b p rest) is
first_class Letter b rest p is of never f = absurd (never (begins_one b part.Symbol (ap begins_class is) refl))
first_class Digit b rest p is of never f = absurd (never (begins_one b part.Numeral (ap begins_class is) refl))
first_class Colon b rest p is of never f = absurd (never (begins_one b part.Colon (ap begins_class is) refl))
first_class Hash b rest p is of never f = absurd (never (begins_one b part.Hash (ap begins_class is) refl))
first_class Quote b rest p is of never f = ends_value _ b 34 of refl f
first_class Bar b rest p is of never f = ends_value _ b 124 of refl f
first_class Open b rest p is of never f = ends_value _ b 40 of refl f
first_class Close b rest p is of never f = ends_value _ b 41 of refl f
first_class Semicolon b rest p is of never f = ends_value _ b 59 of refl f
first_class Blank b rest p is of never f = let t = blank_ends b of in cc
first_class LineFeed b rest p is of never f = let t = blank_ends b of in cc

-- how the front of a bare atom is scanned
pub record Front (x : ℕ) (xs : List ℕ) : Type 0 where
  pub first : Part
  pub begins : begins_part x ≡ Some first
  pub last : Part
  pub walk : Walk first xs last
  pub bare : is_bare last ≡ true
  pub shape : Shape last (x ∷ xs)

front_of : (x : ℕ) (xs : List ℕ) → BeginsBare (x ∷ xs) → Front x xs
front_of x xs h =
    let l = bare_leads h.0 h.1 ((x ∷ xs) ++ h.2) h.3 in
    let e : x ≡ l.byte = (let s = l.split in cc) in
    let begins : begins_part x ≡ Some l.first = ap begins_part e ∙ l.begins in
    let r : xs ++ h.2 ≡ l.rest = (let s = l.split in cc) in
    let f = walk_front l.first xs h.2 l.last (subst (λ ys. Walk l.first ys l.last) (sym r) l.walk) in
    record {
      first = l.first;
      begins = begins;
      last = f.0;
      walk = f.1;
      bare = walk_bare l.first xs f.0 l.bare f.1;
      shape = walk_shape l.first (x ∷ []) xs f.0 (shape_first x l.first begins) f.1;
    }

-- a part that stops is one that an atom may end in
stops_end : (p : Part) (k : AtomKind) (b : ℕ) → is_bare p ≡ true → advance p b ≡ Stops k → Ends p k × (ends_atom b ≡ true)
stops_end part.Symbol k b bare is = stopped (is_symbol_byte b) (ends_atom b) part.Symbol kind.Symbol k (λ x. Ends part.Symbol x × (ends_atom b ≡ true)) is (λ e. (λ n. refl, e))
stops_end part.Keyword k b bare is = stopped (is_symbol_byte b) (ends_atom b) part.Keyword kind.Keyword k (λ x. Ends part.Keyword x × (ends_atom b ≡ true)) is (λ e. (λ n. refl, e))
stops_end part.Numeral k b bare is = stopped_two (is_digit b) (nat_eq b 46) (ends_atom b) part.Numeral part.Point kind.Numeral k (λ x. Ends part.Numeral x × (ends_atom b ≡ true)) is (λ e. (λ n. refl, e))
stops_end part.Fraction k b bare is = stopped (is_digit b) (ends_atom b) part.Fraction kind.Decimal k (λ x. Ends part.Fraction x × (ends_atom b ≡ true)) is (λ e. (λ n. refl, e))
stops_end part.Binary k b bare is = stopped (is_binary_digit b) (ends_atom b) part.Binary kind.Binary k (λ x. Ends part.Binary x × (ends_atom b ≡ true)) is (λ e. (λ n. refl, e))
stops_end part.Hex k b bare is = stopped (is_hex_digit b) (ends_atom b) part.Hex kind.Hex k (λ x. Ends part.Hex x × (ends_atom b ≡ true)) is (λ e. (λ n. refl, e))
stops_end part.Colon k b bare is = absurd (goes_or_wrong (is_symbol_byte b) part.Keyword k is)
stops_end part.Point k b bare is = absurd (goes_or_wrong (is_digit b) part.Fraction k is)
stops_end part.Hash k b bare is = absurd (two_or_wrong (nat_eq b 98) (nat_eq b 120) part.HashB part.HashX k is)
stops_end part.HashB k b bare is = absurd (goes_or_wrong (is_binary_digit b) part.Binary k is)
stops_end part.HashX k b bare is = absurd (goes_or_wrong (is_hex_digit b) part.Hex k is)
stops_end part.Bars k b bare is = cc
stops_end part.Inside k b bare is = cc
stops_end part.Behind k b bare is = cc

byte_bad : (x : ℕ) (xs : List ℕ) (b : ℕ) (rest : List ℕ) (f : Front x xs) (a : Advance) → advance f.last b ≡ a → ¬ (BeginsBare ((x ∷ xs) ++ b ∷ [])) → (MayEnd (x ∷ xs) → ends_atom b ≡ false) →
    on_advance a (1 + length xs) (λ q. scan q (1 + length xs + 1) rest) ≡ bad (1 + length xs)
byte_bad x xs b rest f (Goes r) is never ends =
    absurd (never (shape_begins r ((x ∷ xs) ++ b ∷ []) (bare_goes f.last r b f.bare is) (shape_step f.last r (x ∷ xs) b f.shape is)))
byte_bad x xs b rest f (Takes k) is never ends = absurd (subst GoesBare is (bare_advance f.last b f.bare))
byte_bad x xs b rest f (Stops k) is never ends =
    let s = stops_end f.last k b f.bare is in
    let no = ends (k, text_of_word k (x ∷ xs), final_bare f.last k (x ∷ xs) f.bare s.0 f.shape) in
    let yes = s.1 in
    cc
byte_bad x xs b rest f Wrong is never ends = refl

front_bad : (front : List ℕ) (b : ℕ) (rest : List ℕ) (p : Place) → BeginsBare front → ¬ (BeginsBare (front ++ b ∷ [])) → (MayEnd front → ends_atom b ≡ false) → Wrongs (front ++ b ∷ rest) p (length front) BadCharacter
front_bad [] b rest p h never ends = first_class (class b) b rest p refl (class_tests b) never (ends tt)
front_bad (x ∷ xs) b rest p h never ends =
    let f = front_of x xs h in
    let one : 1 + length xs ≡ length (x ∷ xs) = omega arith in
    words_bad ((x ∷ xs) ++ b ∷ rest) p f.first (length (x ∷ xs)) f.begins
    (walk_scan f.first 1 xs f.last (b ∷ rest) f.walk ∙ byte_bad x xs b rest f (advance f.last b) refl never ends ∙ ap (λ n. bad n) one) (omega arith)

-- a part where no atom ends
never_ends : (p : Part) (n : ℕ) → is_bare p ≡ true → ((k : AtomKind) → ¬ (Ends p k)) → at_end p n ≡ cut BadCharacter
never_ends part.Symbol n bare never = absurd (never kind.Symbol (λ n. refl))
never_ends part.Keyword n bare never = absurd (never kind.Keyword (λ n. refl))
never_ends part.Numeral n bare never = absurd (never kind.Numeral (λ n. refl))
never_ends part.Fraction n bare never = absurd (never kind.Decimal (λ n. refl))
never_ends part.Binary n bare never = absurd (never kind.Binary (λ n. refl))
never_ends part.Hex n bare never = absurd (never kind.Hex (λ n. refl))
never_ends part.Colon n bare never = refl
never_ends part.Point n bare never = refl
never_ends part.Hash n bare never = refl
never_ends part.HashB n bare never = refl
never_ends part.HashX n bare never = refl
never_ends part.Bars n bare never = cc
never_ends part.Inside n bare never = cc
never_ends part.Behind n bare never = cc

front_cut : (front : List ℕ) (p : Place) → 0 < length front → BeginsBare front → ((k : AtomKind) (text : List ℕ) → ¬ (Bare k text front)) → Wrongs front p 0 BadCharacter
front_cut [] p some h never = absurd (omega (arith, some))
front_cut (x ∷ xs) p some h never =
    let f = front_of x xs h in
    words_cut (x ∷ xs) p f.first BadCharacter f.begins
    (ap (scan f.first 1) (sym (no_more xs)) ∙ walk_scan f.first 1 xs f.last [] f.walk
    ∙ never_ends f.last (1 + length xs) f.bare (λ k e. never k (text_of_word k (x ∷ xs)) (final_bare f.last k (x ∷ xs) f.bare e f.shape))) (omega arith)

bad_words : (bytes : List ℕ) (n : ℕ) (r : Reason) (p : Place) → IsBadWord bytes n r → Wrongs bytes p n r
bad_words bytes n r p (faults.byte front b rest h never ends) = front_bad front b rest p h never ends
bad_words bytes n r p (faults.end _ some h never) = front_cut bytes p some h never
bad_words bytes n r p (faults.backslash text rest all) =
    words_bad (124 ∷ (text ++ 92 ∷ rest)) p part.Bars (length (124 ∷ text)) refl (walk_scan part.Bars 1 text part.Bars (92 ∷ rest) (bars_walk text all) ∙ ap (λ n. bad n) (omega arith)) (omega arith)
bad_words bytes n r p (faults.no_bar text all) =
    words_cut (124 ∷ text) p part.Bars OpenSymbol refl (ap (scan part.Bars 1) (sym (no_more text)) ∙ walk_scan part.Bars 1 text part.Bars [] (bars_walk text all)) (omega arith)
bad_words bytes n r p (faults.no_quote text) =
    words_cut (34 ∷ doubled text) p part.Inside OpenString refl (ap (scan part.Inside 1) (sym (no_more (doubled text))) ∙ walk_scan part.Inside 1 (doubled text) part.Inside [] (doubled_walk text)) (omega arith)

-- a fault
snoc_none : (qs : List Place) (q : Place) → qs ++ q ∷ [] ≡ [] → ⊥
snoc_none [] q e = cc
snoc_none (x ∷ qs) q e = cc

places_some : (os : List Opened) (q : Place) (qs : List Place) → places os ≡ q ∷ qs → 0 < length os
places_some [] q qs e = cc
places_some (o ∷ os) q qs e = omega arith

ended_first : (os : List Opened) (p : Place) → 0 < length os → ended os ≡ refused (outermost os p) Unbalanced
ended_first [] p some = absurd (omega (arith, some))
ended_first (o ∷ os) p some = refl

no_places : (os : List Opened) → places os ≡ [] → os ≡ []
no_places [] e = refl
no_places (o ∷ os) e = absurd (snoc_none (places os) o.place e)

front_words : (d : ℕ) (es : List Sexpr) (p : Place) (front rest : List ℕ) (os : List Opened) (items : List Sexpr) → MayStandBefore es (places os) → Spell d es p front rest → length os + d ≡ most_nested_lists →
    (all : List Sexpr) × (commands os items (words between p (front ++ rest)) ≡ commands os all (words between (behind p front) rest))
front_words d es p front rest [] items may s n =
    let none = nothing d p front rest (subst (λ x. Spell d x p front rest) may s) in
    (items, ap (λ x. commands [] items (words between p (x ++ rest))) none ∙ ap (λ x. commands [] items (words between (behind p x) rest)) (sym none))
front_words d es p front rest (o ∷ os) items may s n = (items ++ es, inside_words d es p front rest o os items s n)

pub fails_words : (d : ℕ) (qs : List Place) (p : Place) (bytes : List ℕ) (r : Refusal) (os : List Opened) (items : List Sexpr) → HasFaultIn d qs p bytes r → qs ≡ places os → length os + d ≡ most_nested_lists →
    commands os items (words between p bytes) ≡ refused r.place r.reason
fails_words d qs p bytes r os items (faults.closed _ _ gap rest g) e n =
    ap (commands os items) (gap_words gap (41 ∷ rest) p g) ∙ ap (λ x. commands x items (words between (behind p gap) (41 ∷ rest))) (no_places os (sym e))
fails_words d qs p bytes r os items (faults.ended _ es q qs' _ front last s l) e n =
    let f = front_words d es p front last os items (subst (MayStandBefore es) e tt) s n in
    let some : 0 < length os = places_some os q qs' (sym e) in
    let first = first_place os p some in
    let same : first.0 ≡ q = (let a = first.2 in let b = e in cc) in
    f.1 ∙ ap (commands os f.0) (last_words last (behind p front) l) ∙ ended_first os p some ∙ ap (λ x. refused x Unbalanced) (first.3 ∙ same)
fails_words d qs p bytes r os items (faults.deep es _ _ front gap rest may s g) e n =
    let f = front_words 0 es p front (gap ++ 40 ∷ rest) os items (subst (MayStandBefore es) e may) s n in
    f.1 ∙ ap (commands os f.0) (gap_words gap (40 ∷ rest) (behind p front) g)
    ∙ ap (λ t. if t then commands (record { place = behind (behind p front) gap; before = length f.0 } ∷ os) f.0 (words between (after 40 (behind (behind p front) gap)) rest) else refused (behind (behind p front) gap) TooDeep) (many (length os) n)
    ∙ ap (λ x. refused x TooDeep) (sym (behind_append p front gap))
fails_words d qs p bytes r os items (faults.word _ es _ _ front gap good wrongs reason may s g w) e n =
    let f = front_words d es p front (gap ++ (good ++ wrongs)) os items (subst (MayStandBefore es) e may) s n in
    let q = behind (behind p front) gap in
    f.1 ∙ ap (commands os f.0) (gap_words gap (good ++ wrongs) (behind p front) g ∙ bad_words (good ++ wrongs) (length good) reason q w)
    ∙ ap (λ x. refused (behind q x) reason) (take_exact (length good) good wrongs refl)
    ∙ ap (λ x. refused x reason) (sym (behind_append (behind p front) gap good) ∙ sym (behind_append p front (gap ++ good)))
fails_words d qs p bytes r os items (faults.within d' es _ _ front gap rest _ may s g h) e n =
    let f = front_words (suc d') es p front (gap ++ 40 ∷ rest) os items (subst (MayStandBefore es) e may) s n in
    let q = behind (behind p front) gap in
    let at : q ≡ behind p (front ++ gap) = sym (behind_append p front gap) in
    let begin : after 40 q ≡ behind p (front ++ (gap ++ 40 ∷ [])) = sym (behind_append (behind p front) gap (40 ∷ [])) ∙ sym (behind_append p front (gap ++ 40 ∷ [])) in
    let new : Opened = record { place = q; before = length f.0 } in
    f.1 ∙ ap (commands os f.0) (gap_words gap (40 ∷ rest) (behind p front) g) ∙ open_words os f.0 q rest (few (length os) d' n)
    ∙ ap (λ x. commands (new ∷ os) f.0 (words between x rest)) begin
    ∙ fails_words d' _ (behind p (front ++ (gap ++ 40 ∷ []))) rest r (new ∷ os) f.0 h (ap (λ x. x ++ behind p (front ++ gap) ∷ []) e ∙ ap (λ x. places os ++ x ∷ []) (sym at)) (omega (arith, n))

-- a text has one reading
pub one_reading : (p : Place) (bytes : List ℕ) (c : Commands) → AreCommands p bytes c → c ≡ commands_from p bytes
one_reading p bytes c (texts.none _ _ l) = sym (ap (commands [] []) (last_words bytes p l))
one_reading p bytes c (texts.command _ word rest e d s h) = ap (put_first e) (one_reading (behind p word) rest d h) ∙ sym (first_words e p word rest s)
one_reading p bytes c (texts.fault _ _ r f) = sym (fails_words most_nested_lists [] p bytes r [] [] f refl refl)
