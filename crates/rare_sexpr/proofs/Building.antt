-- What is read word by word is spelled, or a fault of the grammar.
use Rattle.std.proofs.Common.{◌≡◌, ℕ, zero, suc, ◌+◌, ◌<◌, ◌≤◌, Bool, true, false, not, ◌&&◌, List, [], ◌∷◌, ◌++◌, length, take, drop, nat_lt, refl, ap, sym, ◌∙◌, subst, arith, ◌⊎◌, inl, inr}
use Rattle.std.proofs.lemmas.Bool.Decides.{nat_tests}
use Rattle.rare_base.specs.declared.answers.Place.{Place}
use Rattle.rare_base.specs.declared.answers.Reason.{Reason}
use Rattle.rare_base.specs.Answers.{Refusal}
use Rattle.rare_sexpr.specs.declared.tree.AtomKind.{AtomKind}
use Rattle.rare_sexpr.specs.declared.tree.Sexpr.{Sexpr}
use Rattle.rare_sexpr.specs.declared.bytes.Class.TheVariants.{Open, Close}
use Rattle.rare_sexpr.specs.declared.stack.Opened.{Opened}
use Rattle.rare_sexpr.specs.Tree.{atom_of, list_of}
use Rattle.rare_sexpr.specs.Limits.{most_nested_lists}
use Rattle.rare_sexpr.specs.Bytes.{after, behind, ends_comment}
use Rattle.rare_sexpr.specs.Grammar.{IsGap, IsLastGap, is_one_line, Bare, Atom, Spell, Spells}
use Rattle.rare_sexpr.specs.Grammar as grammar
use Rattle.rare_sexpr.specs.Faults.{BeginsBare, IsBadWord, MayStandBefore, HasFaultIn, IsFault}
use Rattle.rare_sexpr.specs.Faults as faults
use Rattle.rare_sexpr.specs.inner.Classes.{class}
use Rattle.rare_sexpr.specs.inner.Scan.{whole}
use Rattle.rare_sexpr.specs.inner.Words.{text_of_word}
use Rattle.rare_sexpr.specs.inner.Gaps.{Passes}
use Rattle.rare_sexpr.specs.inner.Gaps as gaps
use Rattle.rare_sexpr.specs.inner.States.{TextState, HasAtom, HasWord, atom_in, Takes, Reads, GivesCommand, Refuses}
use Rattle.rare_sexpr.specs.inner.States as states
use Rattle.rare_sexpr.specs.inner.Built.{Inside, outside, list, Built}
use Rattle.rare_sexpr.proofs.Lists.{behind_append}
use Rattle.rare_sexpr.proofs.ClassTests.{IsOf, class_tests}
use Rattle.rare_sexpr.proofs.Blanks.{passes_append}
use Rattle.rare_sexpr.proofs.Fronts.{take_drop}
use Rattle.rare_sexpr.proofs.Sound.{word_sound}

pub append3 : {A : Type 0} → (xs ys zs : List A) → (xs ++ ys) ++ zs ≡ xs ++ (ys ++ zs)
append3 [] ys zs = refl
append3 (x ∷ xs) ys zs = ap (λ l. x ∷ l) (append3 xs ys zs)

pub no_more : {A : Type 0} → (xs : List A) → xs ++ [] ≡ xs
no_more [] = refl
no_more (x ∷ xs) = ap (λ l. x ∷ l) (no_more xs)

-- blanks and comments
abbrev InComment : List ℕ → (List ℕ → Type 0) → Type 0
InComment xs P = (text : List ℕ) × (b : ℕ) × (bs : List ℕ) × (xs ≡ text ++ b ∷ bs) × (is_one_line text ≡ true) × (ends_comment b ≡ true) × P bs

abbrev LastGap : List ℕ → Type 0
LastGap xs = (gap : List ℕ) × (text : List ℕ) × (xs ≡ gap ++ 59 ∷ text) × IsGap gap × (is_one_line text ≡ true)

abbrev Gapped : Bool → List ℕ → Bool → Type 0
Gapped false xs false = IsGap xs
Gapped false xs true = LastGap xs
Gapped true xs false = InComment xs IsGap
Gapped true xs true = (is_one_line xs ≡ true) ⊎ InComment xs LastGap

both : (x y : Bool) → x ≡ true → y ≡ true → (x && y) ≡ true
both true y e f = f
both false y e f = cc

no_end : (x : Bool) → x ≡ false → not x ≡ true
no_end false e = refl
no_end true e = cc

one_more : (b : ℕ) (text : List ℕ) → ends_comment b ≡ false → is_one_line text ≡ true → is_one_line (b ∷ text) ≡ true
one_more b text e h = both (not (ends_comment b)) (is_one_line text) (no_end (ends_comment b) e) h

opened : (bs : List ℕ) → Gapped true bs true → LastGap (59 ∷ bs)
opened bs (inl e) = ([], bs, refl, grammar.none, e)
opened bs (inr g) =
    let k = g.6 in
    (59 ∷ (g.0 ++ g.1 ∷ k.0), k.1, ap (λ l. 59 ∷ l) (g.3 ∙ ap (λ l. g.0 ++ g.1 ∷ l) k.2 ∙ sym (append3 g.0 (g.1 ∷ k.0) (59 ∷ k.1))), grammar.comment g.0 g.1 k.0 g.4 g.5 k.3, k.4)

texted : (b : ℕ) (bs : List ℕ) → ends_comment b ≡ false → Gapped true bs true → Gapped true (b ∷ bs) true
texted b bs is (inl e) = inl (one_more b bs is e)
texted b bs is (inr g) = inr (b ∷ g.0, g.1, g.2, ap (λ l. b ∷ l) g.3, one_more b g.0 is g.4, g.5, g.6)

gapped : (c : Bool) (xs : List ℕ) (d : Bool) → Passes c xs d → Gapped c xs d
gapped false xs d (gaps.none _) = grammar.none
gapped true xs d (gaps.none _) = inl refl
gapped c xs false (gaps.blank b bs _ is h) = grammar.blank b bs is (gapped false bs false h)
gapped c xs true (gaps.blank b bs _ is h) = let g = gapped false bs true h in (b ∷ g.0, g.1, ap (λ l. b ∷ l) g.2, grammar.blank b g.0 is g.3, g.4)
gapped c xs false (gaps.opens bs _ h) =
    let g = gapped true bs false h in
    subst (λ l. IsGap (59 ∷ l)) (sym g.3) (grammar.comment g.0 g.1 g.2 g.4 g.5 g.6)
gapped c xs true (gaps.opens bs _ h) = opened bs (gapped true bs true h)
gapped c xs false (gaps.text b bs _ is h) = let g = gapped true bs false h in (b ∷ g.0, g.1, g.2, ap (λ l. b ∷ l) g.3, one_more b g.0 is g.4, g.5, g.6)
gapped c xs true (gaps.text b bs _ is h) = texted b bs is (gapped true bs true h)
gapped c xs false (gaps.ends b bs _ is h) = ([], b, bs, refl, refl, is, gapped false bs false h)
gapped c xs true (gaps.ends b bs _ is h) = inr ([], b, bs, refl, refl, is, gapped false bs true h)

pub last_gap : (xs : List ℕ) (d : Bool) → Passes false xs d → IsLastGap xs
last_gap xs false h = grammar.whole xs (gapped false xs false h)
last_gap xs true h = let g = gapped false xs true h in subst IsLastGap (sym g.2) (grammar.cut g.0 g.1 g.3 g.4)

pub whole_gap : (xs : List ℕ) (d : Bool) → d ≡ false → Passes false xs d → IsGap xs
whole_gap xs d e h = gapped false xs false (subst (λ x. Passes false xs x) e h)

-- expressions one behind the other
pub spell_more : (d : ℕ) (es fs : List Sexpr) (p : Place) (a rest b last : List ℕ) → Spell d es p a rest → rest ≡ b ++ last → Spell d fs (behind p a) b last → Spell d (es ++ fs) p (a ++ b) last
spell_more d es fs p a rest b last (grammar.none _ _ _) e k = k
spell_more d es fs p a rest b last (grammar.atom _ k text es' _ gap word more _ g atom h) e f =
    let front : (gap ++ (word ++ more)) ++ b ≡ gap ++ (word ++ (more ++ b)) = append3 gap (word ++ more) b ∙ ap (λ l. gap ++ l) (append3 word more b) in
    let place : behind p (gap ++ (word ++ more)) ≡ behind (behind p (gap ++ word)) more = ap (behind p) (sym (append3 gap word more)) ∙ behind_append p (gap ++ word) more in
    let whole_rest : more ++ rest ≡ (more ++ b) ++ last = ap (λ l. more ++ l) e ∙ sym (append3 more b last) in
    subst (λ l. Spell d (atom_of (behind p gap) k text ∷ (es' ++ fs)) p l last) (sym front)
    (grammar.atom d k text (es' ++ fs) p gap word (more ++ b) last g (subst (Atom k text word) whole_rest atom)
    (spell_more d es' fs (behind p (gap ++ word)) more rest b last h e (subst (λ q. Spell d fs q b last) place f)))
spell_more d es fs p a rest b last (grammar.list d' items es' _ gap inside end more _ g spelled l h) e f =
    let tail = inside ++ (end ++ 41 ∷ []) in
    let split : inside ++ (end ++ 41 ∷ more) ≡ tail ++ more = ap (λ x. inside ++ x) (sym (append3 end (41 ∷ []) more)) ∙ sym (append3 inside (end ++ 41 ∷ []) more) in
    let front : (gap ++ (40 ∷ (inside ++ (end ++ 41 ∷ more)))) ++ b ≡ gap ++ (40 ∷ (inside ++ (end ++ 41 ∷ (more ++ b)))) =
    append3 gap (40 ∷ (inside ++ (end ++ 41 ∷ more))) b ∙ ap (λ x. gap ++ 40 ∷ x) (append3 inside (end ++ 41 ∷ more) b ∙ ap (λ x. inside ++ x) (append3 end (41 ∷ more) b)) in
    let place : behind p (gap ++ (40 ∷ (inside ++ (end ++ 41 ∷ more)))) ≡ behind (behind p (gap ++ (40 ∷ tail))) more =
    ap (λ x. behind p (gap ++ 40 ∷ x)) split ∙ ap (behind p) (sym (append3 gap (40 ∷ tail) more)) ∙ behind_append p (gap ++ 40 ∷ tail) more in
    let whole_rest : more ++ rest ≡ (more ++ b) ++ last = ap (λ x. more ++ x) e ∙ sym (append3 more b last) in
    subst (λ x. Spell (suc d') (list_of (behind p gap) items ∷ (es' ++ fs)) p x last) (sym front)
    (grammar.list d' items (es' ++ fs) p gap inside end (more ++ b) last g (subst (λ x. Spell d' items (behind p (gap ++ 40 ∷ [])) inside (end ++ 41 ∷ x)) whole_rest spelled) l
    (spell_more (suc d') es' fs (behind p (gap ++ (40 ∷ tail))) more rest b last h e (subst (λ q. Spell (suc d') fs q b last) place f)))

-- how many lists may still be opened
pub inside_count : (p : Place) (bytes : List ℕ) (d : ℕ) (os : List Opened) (items : List Sexpr) (q : Place) (rest : List ℕ) → Inside p bytes d os items q rest → d + length os ≡ most_nested_lists
inside_count p bytes d os items q rest outside = refl
inside_count p bytes d os items q rest (list _ os' items' own q' gap front _ h g s) = omega (arith, inside_count p bytes (suc d) os' items' q' (gap ++ 40 ∷ (front ++ rest)) h)

-- more items of the innermost list
inside_more : (p : Place) (bytes : List ℕ) (d : ℕ) (os : List Opened) (items es : List Sexpr) (q : Place) (rest piece last : List ℕ) → Inside p bytes d os items q rest → 0 < length os → rest ≡ piece ++ last → Spell d es q piece last →
    Inside p bytes d os (items ++ es) (behind q piece) last
inside_more p bytes d os items es q rest piece last outside some e k = absurd (omega (arith, some))
inside_more p bytes d os items es q rest piece last (list _ os' items' own q' gap front _ h g s) some e k =
    let o : Opened = record { place = behind q' gap; before = length items' } in
    let begin = behind q' (gap ++ 40 ∷ []) in
    subst (λ x. Inside p bytes d (o ∷ os') x (behind (behind begin front) piece) last) (sym (append3 items' own es))
    (subst (λ x. Inside p bytes d (o ∷ os') (items' ++ (own ++ es)) x last) (behind_append begin front piece)
    (list d os' items' (own ++ es) q' gap (front ++ piece) last
    (subst (λ x. Inside p bytes (suc d) os' items' q' (gap ++ 40 ∷ x)) (ap (λ x. front ++ x) e ∙ sym (append3 front piece last)) h) g
    (spell_more d own es begin front rest piece last s e k)))

-- the items of a list and those before it
pub take_before : (xs ys : List Sexpr) → take (length xs) (xs ++ ys) ≡ xs
take_before [] ys = refl
take_before (x ∷ xs) ys = ap (λ l. x ∷ l) (take_before xs ys)

pub drop_before : (xs ys : List Sexpr) → drop (length xs) (xs ++ ys) ≡ ys
drop_before [] ys = refl
drop_before (x ∷ xs) ys = drop_before xs ys

-- the innermost list is closed
pub record Closed (p : Place) (bytes : List ℕ) (o : Opened) (os : List Opened) (items : List Sexpr) (last : List ℕ) (q : Place) : Type 0 where
  pub nesting : ℕ
  pub place : Place
  pub piece : List ℕ
  pub inside : Inside p bytes nesting os (take o.before items) place (piece ++ last)
  pub spelled : Spell nesting (list_of o.place (drop o.before items) ∷ []) place piece last
  pub behind_it : q ≡ behind place piece

inside_closed : (p : Place) (bytes : List ℕ) (d : ℕ) (all : List Opened) (o : Opened) (os : List Opened) (items : List Sexpr) (q : Place) (rest gap last : List ℕ) → Inside p bytes d all items q rest → all ≡ o ∷ os → rest ≡ gap ++ 41 ∷ last → IsGap gap →
    Closed p bytes o os items last (behind q (gap ++ 41 ∷ []))
inside_closed p bytes d all o os items q rest gap last outside is e g = cc
inside_closed p bytes d all o os items q rest gap last (list _ os' items' own q' first front _ h f s) is e g =
    let o' : Opened = record { place = behind q' first; before = length items' } in
    let same : o' ≡ o = cc in
    let others : os' ≡ os = cc in
    let begin = behind q' (first ++ 40 ∷ []) in
    let piece = first ++ (40 ∷ (front ++ (gap ++ 41 ∷ []))) in
    let whole_piece : first ++ 40 ∷ (front ++ rest) ≡ piece ++ last =
    ap (λ x. first ++ 40 ∷ (front ++ x)) (e ∙ sym (append3 gap (41 ∷ []) last)) ∙ ap (λ x. first ++ 40 ∷ x) (sym (append3 front (gap ++ 41 ∷ []) last)) ∙ sym (append3 first (40 ∷ (front ++ (gap ++ 41 ∷ []))) last) in
    let closed : Closed p bytes o' os' (items' ++ own) last (behind (behind begin front) (gap ++ 41 ∷ [])) = record {
      nesting = suc d;
      place = q';
      piece = piece;
      inside = subst (λ x. Inside p bytes (suc d) os' x q' (piece ++ last)) (sym (take_before items' own)) (subst (λ x. Inside p bytes (suc d) os' items' q' x) whole_piece h);
      spelled = subst (λ x. Spell (suc d) (list_of (behind q' first) x ∷ []) q' piece last) (sym (drop_before items' own))
          (grammar.list d own [] q' first front gap [] last f (subst (λ x. Spell d own begin front x) e s) g (grammar.none (suc d) (behind q' piece) last));
      behind_it = sym (behind_append begin front (gap ++ 41 ∷ [])) ∙ sym (behind_append q' (first ++ 40 ∷ []) (front ++ (gap ++ 41 ∷ []))) ∙ ap (behind q') (append3 first (40 ∷ []) (front ++ (gap ++ 41 ∷ [])));
    } in
    subst (λ x. Closed p bytes x os (items' ++ own) last (behind (behind begin front) (gap ++ 41 ∷ []))) same
    (subst (λ x. Closed p bytes o' x (items' ++ own) last (behind (behind begin front) (gap ++ 41 ∷ []))) others closed)

pub open_byte : (b : ℕ) → class b ≡ Open → b ≡ 40
open_byte b is = subst (λ k. IsOf k b) is (class_tests b)

pub close_byte : (b : ℕ) → class b ≡ Close → b ≡ 41
close_byte b is = subst (λ k. IsOf k b) is (class_tests b)

-- an atom behind a gap
word_spelled : (p : Place) (d : ℕ) (s : TextState) (k : AtomKind) (n : ℕ) (place : Place) (passed : List ℕ) → HasWord s k n → IsGap passed → s.place ≡ behind place passed → Spell d (atom_in s k n ∷ []) place (passed ++ take n s.bytes) (drop n s.bytes)
word_spelled p d s k n place passed h g at =
    let word = take n s.bytes in
    let sound = word_sound s.bytes h.atom.part (whole k n) h.atom.some h.atom.begins h.atom.comes in
    subst (λ x. Spell d (atom_of x k (text_of_word k word) ∷ []) place (passed ++ word) (drop n s.bytes)) (sym at)
    (subst (λ x. Spell d (atom_of (behind place passed) k (text_of_word k word) ∷ []) place (passed ++ x) (drop n s.bytes)) (no_more word)
    (grammar.atom d k (text_of_word k word) [] place passed word [] (drop n s.bytes) g sound.1 (grammar.none d (behind place (passed ++ word)) (drop n s.bytes))))

positive : (n : ℕ) (os : List Opened) → n + length os ≡ most_nested_lists → nat_lt (length os) most_nested_lists ≡ true → (m : ℕ) × (n ≡ suc m)
positive zero os e lt = absurd (grind (arith, nat_tests))
positive (suc m) os e lt = (m, refl)

pub none_left : (n : ℕ) (os : List Opened) → n + length os ≡ most_nested_lists → nat_lt (length os) most_nested_lists ≡ false → n ≡ 0
none_left n os e lt = grind (arith, nat_tests)

-- one word
pub built_takes : (p : Place) (bytes : List ℕ) (s t : TextState) → Built p bytes s → Takes s t → Built p bytes t
built_takes p bytes s t h (states.gap _ _ passed at place passes lists items) = record {
  nesting = h.nesting;
  place = h.place;
  passed = h.passed ++ passed;
  inside = subst (λ x. Inside p bytes h.nesting x t.items h.place ((h.passed ++ passed) ++ t.bytes)) (sym lists)
      (subst (λ x. Inside p bytes h.nesting s.opens x h.place ((h.passed ++ passed) ++ t.bytes)) (sym items)
      (subst (λ x. Inside p bytes h.nesting s.opens s.items h.place x) (ap (λ x. h.passed ++ x) at ∙ sym (append3 h.passed passed t.bytes)) h.inside));
  passes = passes_append false h.passed s.in_comment passed t.in_comment h.passes passes;
  behind_gap = place ∙ ap (λ x. behind x passed) h.behind_gap ∙ sym (behind_append h.place h.passed passed);
}
built_takes p bytes s t h (states.opens _ _ b plain at is few to) =
    let g = whole_gap h.passed s.in_comment plain h.passes in
    let m = positive h.nesting s.opens (inside_count p bytes h.nesting s.opens s.items h.place (h.passed ++ s.bytes) h.inside) few in
    let o : Opened = record { place = behind h.place h.passed; before = length s.items } in
    let begin = behind h.place (h.passed ++ 40 ∷ []) in
    let e : s.bytes ≡ 40 ∷ t.bytes = at ∙ ap (λ x. x ∷ t.bytes) (open_byte b is) in
    let next : TextState = record { opens = record { place = s.place; before = length s.items } ∷ s.opens; items = s.items; in_comment = false; place = after b s.place; bytes = t.bytes } in
    subst (Built p bytes) (sym to)
    (record {
      nesting = m.0;
      place = begin;
      passed = [];
      inside = subst (λ x. Inside p bytes m.0 (record { place = x; before = length s.items } ∷ s.opens) s.items begin t.bytes) (sym h.behind_gap)
          (subst (λ x. Inside p bytes m.0 (o ∷ s.opens) x begin t.bytes) (no_more s.items)
          (list m.0 s.opens s.items [] h.place h.passed [] t.bytes
          (subst (λ x. Inside p bytes x s.opens s.items h.place (h.passed ++ 40 ∷ t.bytes)) m.1 (subst (λ x. Inside p bytes h.nesting s.opens s.items h.place (h.passed ++ x)) e h.inside)) g
          (grammar.none m.0 begin t.bytes)));
      passes = gaps.none false;
      behind_gap = ap (λ x. after x s.place) (open_byte b is) ∙ ap (after 40) h.behind_gap ∙ sym (behind_append h.place h.passed (40 ∷ []));
    })
built_takes p bytes s t h (states.closes _ _ b o q os plain at is lists to) =
    let g = whole_gap h.passed s.in_comment plain h.passes in
    let e : s.bytes ≡ 41 ∷ t.bytes = at ∙ ap (λ x. x ∷ t.bytes) (close_byte b is) in
    let c = inside_closed p bytes h.nesting s.opens o (q ∷ os) s.items h.place (h.passed ++ s.bytes) h.passed t.bytes h.inside lists (ap (λ x. h.passed ++ x) e) g in
    subst (Built p bytes) (sym to)
    (record {
      nesting = c.nesting;
      place = behind c.place c.piece;
      passed = [];
      inside = inside_more p bytes c.nesting (q ∷ os) (take o.before s.items) (list_of o.place (drop o.before s.items) ∷ []) c.place (c.piece ++ t.bytes) c.piece t.bytes c.inside (omega arith) refl c.spelled;
      passes = gaps.none false;
      behind_gap = ap (λ x. after x s.place) (close_byte b is) ∙ ap (after 41) h.behind_gap ∙ sym (behind_append h.place h.passed (41 ∷ [])) ∙ c.behind_it;
    })
built_takes p bytes s t h (states.atom _ _ k n o os w lists to) =
    let g = whole_gap h.passed s.in_comment w.atom.between h.passes in
    let word = take n s.bytes in
    let some : 0 < length s.opens = omega (arith, ap length lists) in
    subst (Built p bytes) (sym to)
    (record {
      nesting = h.nesting;
      place = behind h.place (h.passed ++ word);
      passed = [];
      inside = inside_more p bytes h.nesting s.opens s.items (atom_in s k n ∷ []) h.place (h.passed ++ s.bytes) (h.passed ++ word) (drop n s.bytes) h.inside some
          (ap (λ x. h.passed ++ x) (take_drop n s.bytes) ∙ sym (append3 h.passed word (drop n s.bytes))) (word_spelled p h.nesting s k n h.place h.passed w g h.behind_gap);
      passes = gaps.none false;
      behind_gap = ap (λ x. behind x word) h.behind_gap ∙ sym (behind_append h.place h.passed word);
    })

pub built_reads : (p : Place) (bytes : List ℕ) (s t : TextState) → Built p bytes s → Reads s t → Built p bytes t
built_reads p bytes s t h (states.stays _) = h
built_reads p bytes s t h (states.goes _ u _ r k) = built_takes p bytes u t (built_reads p bytes s u h r) k

-- on the outermost level
pub inside_none : (p : Place) (bytes : List ℕ) (d : ℕ) (os : List Opened) (items : List Sexpr) (q : Place) (rest : List ℕ) → Inside p bytes d os items q rest → os ≡ [] → (d ≡ most_nested_lists) × (q ≡ p) × (rest ≡ bytes) × (items ≡ [])
inside_none p bytes d os items q rest outside e = (refl, refl, refl, refl)
inside_none p bytes d os items q rest (list _ os' items' own q' gap front _ h g s) e = cc

-- a command is spelled by the bytes before those that are left
pub record Given (p : Place) (bytes : List ℕ) (e : Sexpr) (q : Place) (rest : List ℕ) : Type 0 where
  pub word : List ℕ
  pub split : bytes ≡ word ++ rest
  pub place : q ≡ behind p word
  pub spelled : Spells e p word rest

pub built_gives : (p : Place) (bytes : List ℕ) (s : TextState) (e : Sexpr) (q : Place) (rest : List ℕ) → Built p bytes s → GivesCommand s e q rest → Given p bytes e q rest
built_gives p bytes s e q rest h (states.atom _ k n w lists) =
    let g = whole_gap h.passed s.in_comment w.atom.between h.passes in
    let i = inside_none p bytes h.nesting s.opens s.items h.place (h.passed ++ s.bytes) h.inside lists in
    let word = take n s.bytes in
    record {
      word = h.passed ++ word;
      split = sym i.2 ∙ ap (λ x. h.passed ++ x) (take_drop n s.bytes) ∙ sym (append3 h.passed word (drop n s.bytes));
      place = ap (λ x. behind x word) h.behind_gap ∙ sym (behind_append h.place h.passed word) ∙ ap (λ x. behind x (h.passed ++ word)) i.1;
      spelled = subst (λ x. Spell most_nested_lists (atom_in s k n ∷ []) x (h.passed ++ word) (drop n s.bytes)) i.1 (word_spelled p most_nested_lists s k n h.place h.passed w g h.behind_gap);
    }
built_gives p bytes s e q rest h (states.closes _ b _ o plain at is lists) =
    let g = whole_gap h.passed s.in_comment plain h.passes in
    let c' : s.bytes ≡ 41 ∷ rest = at ∙ ap (λ x. x ∷ rest) (close_byte b is) in
    let c = inside_closed p bytes h.nesting s.opens o [] s.items h.place (h.passed ++ s.bytes) h.passed rest h.inside lists (ap (λ x. h.passed ++ x) c') g in
    let i = inside_none p bytes c.nesting [] (take o.before s.items) c.place (c.piece ++ rest) c.inside refl in
    record {
      word = c.piece;
      split = sym i.2;
      place = ap (λ x. after x s.place) (close_byte b is) ∙ ap (after 41) h.behind_gap ∙ sym (behind_append h.place h.passed (41 ∷ [])) ∙ c.behind_it ∙ ap (λ x. behind x c.piece) i.1;
      spelled = subst (λ x. Spell most_nested_lists (list_of o.place (drop o.before s.items) ∷ []) x c.piece rest) i.1 (subst (λ x. Spell x (list_of o.place (drop o.before s.items) ∷ []) c.place c.piece rest) i.0 c.spelled);
    }

pub built_finished : (p : Place) (bytes : List ℕ) (s : TextState) → Built p bytes s → s.bytes ≡ [] → s.opens ≡ [] → IsLastGap bytes
built_finished p bytes s h none lists =
    let i = inside_none p bytes h.nesting s.opens s.items h.place (h.passed ++ s.bytes) h.inside lists in
    subst IsLastGap (sym (sym i.2 ∙ ap (λ x. h.passed ++ x) none ∙ no_more h.passed)) (last_gap h.passed s.in_comment h.passes)

-- the places of the open lists, the outermost first
abbrev pub places : List Opened → List Place
places [] = []
places (o ∷ os) = places os ++ o.place ∷ []

stands : (es : List Sexpr) (qs : List Place) (q : Place) → MayStandBefore es (qs ++ q ∷ [])
stands es [] q = tt
stands es (x ∷ qs) q = tt

-- a fault behind the items of the innermost list
abbrev pub FaultFrom : ℕ → List Opened → Place → List ℕ → Refusal → Type 0
FaultFrom d os q rest r = (es : List Sexpr) (a : Place) (front : List ℕ) → MayStandBefore es (places os) → Spell d es a front rest → q ≡ behind a front → HasFaultIn d (places os) a (front ++ rest) r

pub fails_out : (p : Place) (bytes : List ℕ) (d : ℕ) (os : List Opened) (items : List Sexpr) (q : Place) (rest : List ℕ) (r : Refusal) → Inside p bytes d os items q rest → FaultFrom d os q rest r → IsFault p bytes r
fails_out p bytes d os items q rest r outside f = f [] p [] refl (grammar.none most_nested_lists p bytes) refl
fails_out p bytes d os items q rest r (list _ os' items' own q' gap front _ h g s) f =
    let begin = behind q' (gap ++ 40 ∷ []) in
    let o : Opened = record { place = behind q' gap; before = length items' } in
    let inner : HasFaultIn d (places os' ++ behind q' gap ∷ []) begin (front ++ rest) r = f own begin front (stands own (places os') (behind q' gap)) s refl in
    fails_out p bytes (suc d) os' items' q' (gap ++ 40 ∷ (front ++ rest)) r h
    (λ es a before may spelled at.
    let one : behind q' gap ≡ behind a (before ++ gap) = ap (λ x. behind x gap) at ∙ sym (behind_append a before gap) in
    let two : begin ≡ behind a (before ++ (gap ++ 40 ∷ [])) = ap (λ x. behind x (gap ++ 40 ∷ [])) at ∙ sym (behind_append a before (gap ++ 40 ∷ [])) in
    faults.within d es (places os') a before gap (front ++ rest) r may spelled g
    (subst (λ x. HasFaultIn d (places os' ++ x ∷ []) (behind a (before ++ (gap ++ 40 ∷ []))) (front ++ rest) r) one (subst (λ x. HasFaultIn d (places os' ++ behind q' gap ∷ []) x (front ++ rest) r) two inner)))

-- a word that is none
take_length : (n : ℕ) (xs : List ℕ) → n ≤ length xs → length (take n xs) ≡ n
take_length zero xs le = refl
take_length (suc n) [] le = absurd (omega (arith, le))
take_length (suc n) (x ∷ xs) le = omega (arith, take_length n xs (omega (arith, le)))

pub word_fault : (p : Place) (bytes : List ℕ) (s : TextState) (n : ℕ) (q : Place) (reason : Reason) → Built p bytes s → s.in_comment ≡ false → n ≤ length s.bytes → IsBadWord s.bytes n reason → q ≡ behind s.place (take n s.bytes) → IsFault p bytes (record { place = q; reason = reason })
word_fault p bytes s n q reason h plain le bad_word at =
    let g = whole_gap h.passed s.in_comment plain h.passes in
    let good = take n s.bytes in
    let rest = drop n s.bytes in
    let split : s.bytes ≡ good ++ rest = take_drop n s.bytes in
    let len : n ≡ length good = sym (take_length n s.bytes le) in
    fails_out p bytes h.nesting s.opens s.items h.place (h.passed ++ s.bytes) (record { place = q; reason = reason }) h.inside
    (λ es a front may spelled is.
    let where_it_is : q ≡ behind a (front ++ (h.passed ++ good)) =
    at ∙ ap (λ x. behind x good) (h.behind_gap ∙ ap (λ x. behind x h.passed) is ∙ sym (behind_append a front h.passed)) ∙ sym (behind_append a (front ++ h.passed) good) ∙ ap (behind a) (append3 front h.passed good) in
    subst (λ x. HasFaultIn h.nesting (places s.opens) a (front ++ (h.passed ++ s.bytes)) (record { place = x; reason = reason })) (sym where_it_is)
    (subst (λ x. HasFaultIn h.nesting (places s.opens) a (front ++ (h.passed ++ x)) (record { place = behind a (front ++ (h.passed ++ good)); reason = reason })) (sym split)
    (faults.word h.nesting es (places s.opens) a front h.passed good rest reason may (subst (λ x. Spell h.nesting es a front (h.passed ++ x)) split spelled) g
    (subst (λ x. IsBadWord (good ++ rest) x reason) len (subst (λ x. IsBadWord x n reason) split bad_word)))))
