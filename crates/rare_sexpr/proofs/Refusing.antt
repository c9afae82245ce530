-- What the reader refuses is a fault of the grammar.
use Rattle.std.proofs.Common.{◌≡◌, ℕ, ◌<◌, Bool, true, false, ◌||◌, List, [], ◌∷◌, ◌++◌, length, take, nat_eq, refl, ap, sym, ◌∙◌, subst, arith, Some, None}
use Rattle.rare_base.specs.declared.answers.Place.{Place}
use Rattle.rare_base.specs.declared.answers.Reason.{Reason}
use Rattle.rare_base.specs.declared.answers.Reason.TheVariants.{Unbalanced, BadCharacter, TooDeep}
use Rattle.rare_sexpr.specs.declared.tree.AtomKind.{AtomKind}
use Rattle.rare_sexpr.specs.declared.tree.AtomKind.TheVariants as kind
use Rattle.rare_sexpr.specs.declared.bytes.Class.TheVariants.{Other}
use Rattle.rare_sexpr.specs.declared.stack.Opened.{Opened}
use Rattle.rare_sexpr.specs.Bytes.{behind, is_symbol_byte, ends_atom}
use Rattle.rare_sexpr.specs.Grammar.{IsGap, IsLastGap, Are, Bare, Spell}
use Rattle.rare_sexpr.specs.Grammar as grammar
use Rattle.rare_sexpr.specs.Limits.{most_nested_lists}
use Rattle.rare_sexpr.specs.Faults.{BeginsBare, IsBadWord, HasFaultIn, IsFault}
use Rattle.rare_sexpr.specs.Faults as faults
use Rattle.rare_sexpr.specs.inner.Classes.{class}
use Rattle.rare_sexpr.specs.inner.Scan.{bad, cut, begins_class}
use Rattle.rare_sexpr.specs.inner.Reading.{outermost}
use Rattle.rare_sexpr.specs.inner.States.{TextState, Refuses}
use Rattle.rare_sexpr.specs.inner.States as states
use Rattle.rare_sexpr.specs.inner.Gaps as gaps
use Rattle.rare_sexpr.specs.inner.Built.{outside, Built}
use Rattle.rare_sexpr.specs.inner.Kept.{begin_at}
use Rattle.rare_sexpr.proofs.Lists.{behind_append}
use Rattle.rare_sexpr.proofs.ClassTests.{IsOf, IsOther, class_tests}
use Rattle.rare_sexpr.proofs.Walks.{bare_leads}
use Rattle.rare_sexpr.proofs.Sound.{word_sound}
use Rattle.rare_sexpr.proofs.Building.{no_more, open_byte, close_byte, whole_gap, last_gap, inside_count, inside_none, none_left, places, fails_out, word_fault}

pub built_begin : (p : Place) (bytes : List ℕ) → Built p bytes (begin_at p bytes)
built_begin p bytes = record { nesting = most_nested_lists; place = p; passed = []; inside = outside; passes = gaps.none false; behind_gap = refl }

-- a byte that begins no word
false_or : (x y : Bool) → x ≡ false → y ≡ false → (x || y) ≡ false
false_or true y e f = cc
false_or false y e f = f

left_false : (x y : Bool) → (x || y) ≡ false → x ≡ false
left_false true y e = cc
left_false false y e = refl

right_false : (x y : Bool) → (x || y) ≡ false → y ≡ false
right_false true y e = cc
right_false false y e = e

other_ends : (b : ℕ) → IsOther b → ends_atom b ≡ false
other_ends b h =
    let two = left_false (nat_eq b 32 || nat_eq b 9) (nat_eq b 13) h.blank in
    let last = right_false (nat_eq b 32 || nat_eq b 9) (nat_eq b 13) h.blank in
    false_or _ (nat_eq b 124) (false_or _ (nat_eq b 34) (false_or _ (nat_eq b 59) (false_or _ (nat_eq b 41) (false_or _ (nat_eq b 40) (false_or _ (nat_eq b 13) (false_or _ (nat_eq b 10) two h.feed) last) h.open) h.close) h.semicolon) h.quote) h.bar

one_letter : Are is_symbol_byte (97 ∷ [])
one_letter = record { some = omega arith; each = refl }

begins_nothing : (b : ℕ) (more : List ℕ) (k : AtomKind) (text : List ℕ) → class b ≡ Other → Bare k text (b ∷ more) → ⊥
begins_nothing b more k text is h =
    let l = bare_leads k text (b ∷ more) h in
    let e : b ≡ l.byte = (let s = l.split in cc) in
    let none : begins_class (class b) ≡ None = ap begins_class is in
    let some : begins_class (class b) ≡ Some l.first = ap (λ x. begins_class (class x)) e ∙ l.begins in
    cc

pub no_word : (b : ℕ) (rest : List ℕ) → class b ≡ Other → IsBadWord (b ∷ rest) 0 BadCharacter
no_word b rest is =
    faults.byte [] b rest (kind.Symbol, 97 ∷ [], 97 ∷ [], grammar.symbol (97 ∷ []) one_letter refl) (λ h. begins_nothing b h.2 h.0 h.1 is h.3)
    (λ t. other_ends b (subst (λ k. IsOf k b) is (class_tests b)))

-- the outermost open list
pub first_place : (os : List Opened) (p : Place) → 0 < length os → (q : Place) × (qs : List Place) × (places os ≡ q ∷ qs) × (outermost os p ≡ q)
first_place [] p some = absurd (omega (arith, some))
first_place (o ∷ []) p some = (o.place, [], refl, refl)
first_place (o ∷ x ∷ os) p some = let h = first_place (x ∷ os) o.place (omega arith) in (h.0, h.1 ++ o.place ∷ [], ap (λ l. l ++ o.place ∷ []) h.2, h.3)

pub built_refuses : (p : Place) (bytes : List ℕ) (s : TextState) (q : Place) (r : Reason) → Built p bytes s → Refuses s q r → IsFault p bytes (record { place = q; reason = r })
built_refuses p bytes s q r h (states.closed _ b rest plain at is lists) =
    let g = whole_gap h.passed s.in_comment plain h.passes in
    let i = inside_none p bytes h.nesting s.opens s.items h.place (h.passed ++ s.bytes) h.inside lists in
    let all : h.passed ++ 41 ∷ rest ≡ bytes = ap (λ x. h.passed ++ x ∷ rest) (sym (close_byte b is)) ∙ ap (λ x. h.passed ++ x) (sym at) ∙ i.2 in
    let place : s.place ≡ behind p h.passed = h.behind_gap ∙ ap (λ x. behind x h.passed) i.1 in
    subst (λ x. IsFault p x (record { place = s.place; reason = Unbalanced })) all
    (subst (λ x. IsFault p (h.passed ++ 41 ∷ rest) (record { place = x; reason = Unbalanced })) (sym place) (faults.closed most_nested_lists p h.passed rest g))
built_refuses p bytes s q r h (states.ended _ none some) =
    let f = first_place s.opens s.place some in
    let rest : h.passed ++ s.bytes ≡ h.passed = ap (λ x. h.passed ++ x) none ∙ no_more h.passed in
    fails_out p bytes h.nesting s.opens s.items h.place (h.passed ++ s.bytes) (record { place = outermost s.opens s.place; reason = Unbalanced }) h.inside
    (λ es a front may spelled is.
    subst (λ x. HasFaultIn h.nesting x a (front ++ (h.passed ++ s.bytes)) (record { place = outermost s.opens s.place; reason = Unbalanced })) (sym f.2)
    (subst (λ x. HasFaultIn h.nesting (f.0 ∷ f.1) a (front ++ (h.passed ++ s.bytes)) (record { place = x; reason = Unbalanced })) (sym f.3)
    (subst (λ x. HasFaultIn h.nesting (f.0 ∷ f.1) a (front ++ x) (record { place = f.0; reason = Unbalanced })) (sym rest)
    (faults.ended h.nesting es f.0 f.1 a front h.passed (subst (λ x. Spell h.nesting es a front x) rest spelled) (last_gap h.passed s.in_comment h.passes)))))
built_refuses p bytes s q r h (states.deep _ b rest plain at is many) =
    let g = whole_gap h.passed s.in_comment plain h.passes in
    let e : s.bytes ≡ 40 ∷ rest = at ∙ ap (λ x. x ∷ rest) (open_byte b is) in
    let none : h.nesting ≡ 0 = none_left h.nesting s.opens (inside_count p bytes h.nesting s.opens s.items h.place (h.passed ++ s.bytes) h.inside) many in
    fails_out p bytes h.nesting s.opens s.items h.place (h.passed ++ s.bytes) (record { place = s.place; reason = TooDeep }) h.inside
    (λ es a front may spelled is'.
    let place : s.place ≡ behind a (front ++ h.passed) = h.behind_gap ∙ ap (λ x. behind x h.passed) is' ∙ sym (behind_append a front h.passed) in
    subst (λ x. HasFaultIn x (places s.opens) a (front ++ (h.passed ++ s.bytes)) (record { place = s.place; reason = TooDeep })) (sym none)
    (subst (λ x. HasFaultIn 0 (places s.opens) a (front ++ (h.passed ++ s.bytes)) (record { place = x; reason = TooDeep })) (sym place)
    (subst (λ x. HasFaultIn 0 (places s.opens) a (front ++ (h.passed ++ x)) (record { place = behind a (front ++ h.passed); reason = TooDeep })) (sym e)
    (faults.deep es (places s.opens) a front h.passed rest may (subst (λ x. Spell 0 es a front (h.passed ++ x)) e (subst (λ x. Spell x es a front (h.passed ++ s.bytes)) none spelled)) g))))
built_refuses p bytes s q r h (states.no_word _ b rest plain at is) =
    word_fault p bytes s 0 s.place BadCharacter h plain (omega arith) (subst (λ x. IsBadWord x 0 BadCharacter) (sym at) (no_word b rest is)) refl
built_refuses p bytes s q r h (states.byte _ n a) =
    let o = word_sound s.bytes a.part (bad n) a.some a.begins a.comes in
    word_fault p bytes s n (behind s.place (take n s.bytes)) BadCharacter h a.between o.0 o.1 refl
built_refuses p bytes s q r h (states.end _ _ a) =
    word_fault p bytes s 0 s.place r h a.between (omega arith) (word_sound s.bytes a.part (cut r) a.some a.begins a.comes) refl
