-- What is read leaves the commands as they are.
use Rattle.std.proofs.Common.{◌≡◌, ℕ, zero, suc, ◌<◌, ◌≤◌, Bool, true, false, ◌||◌, List, [], ◌∷◌, ◌++◌, length, take, drop, get_or, nat_eq, refl, ap, sym, ◌∙◌, subst, arith, Some, if◌then◌else◌}
use Rattle.std.proofs.lemmas.Bool.{eqb-true}
use Rattle.rare_base.specs.declared.answers.Place.{Place}
use Rattle.rare_base.specs.declared.answers.Reason.{Reason}
use Rattle.rare_base.specs.declared.answers.Reason.TheVariants.{Unbalanced, BadCharacter, TooDeep}
use Rattle.rare_sexpr.specs.declared.tree.AtomKind.{AtomKind}
use Rattle.rare_sexpr.specs.declared.tree.Sexpr.{Sexpr}
use Rattle.rare_sexpr.specs.declared.bytes.Class.{Class}
use Rattle.rare_sexpr.specs.declared.bytes.Class.TheVariants.{Blank, LineFeed, Open, Close, Semicolon, Colon, Hash, Digit, Letter, Quote, Bar, Other}
use Rattle.rare_sexpr.specs.declared.scan.Part.{Part}
use Rattle.rare_sexpr.specs.declared.stack.Opened.{Opened}
use Rattle.rare_sexpr.specs.Bytes.{is_blank, after, behind}
use Rattle.rare_sexpr.specs.Commands.{put_first, refused}
use Rattle.rare_sexpr.specs.inner.Classes.{class}
use Rattle.rare_sexpr.specs.inner.Scan.{Word, whole, bad, cut, scan, begins_class, begins_part}
use Rattle.rare_sexpr.specs.inner.Words.{Token, closes, atom, wrong, Mode, between, comment, words, begins, begun, on_word, skipping, skip_rest, text_of_word, gap_mode}
use Rattle.rare_sexpr.specs.inner.Gaps.{Passes}
use Rattle.rare_sexpr.specs.inner.Gaps as gaps
use Rattle.rare_sexpr.specs.inner.Reading.{reading_from, outermost, commands, ended}
use Rattle.rare_sexpr.specs.inner.States.{TextState, left, HasAtom, HasWord, atom_in, Takes, Reads, GivesCommand, Refuses}
use Rattle.rare_sexpr.specs.inner.States as states

either : (x y : Bool) {P : Type 0} → (x || y) ≡ true → (x ≡ true → P) → (y ≡ true → P) → P
either true y e f g = f refl
either false y e f g = g e

-- a blank between words
blank_words : (b : ℕ) (p : Place) (bs : List ℕ) (next : Mode → List Token) → is_blank b ≡ true → begins (class b) b p bs next ≡ next between
blank_words b p bs next is =
    let at : (v : ℕ) → begins (class v) v p bs next ≡ next between → nat_eq b v ≡ true → begins (class b) b p bs next ≡ next between =
    λ v h e. subst (λ x. begins (class x) x p bs next ≡ next between) (sym (eqb-true b v e)) h in
    either _ _ is (λ e. either _ _ e (λ e. either _ _ e (at 32 refl) (at 9 refl)) (at 10 refl)) (at 13 refl)

pub passes_words : (c : Bool) (xs : List ℕ) (d : Bool) (p : Place) (rest : List ℕ) → Passes c xs d → words (gap_mode c) p (xs ++ rest) ≡ words (gap_mode d) (behind p xs) rest
passes_words c xs d p rest (gaps.none _) = refl
passes_words c xs d p rest (gaps.blank b bs _ is h) = blank_words b p (bs ++ rest) (λ m. words m (after b p) (bs ++ rest)) is ∙ passes_words false bs d (after b p) rest h
passes_words c xs d p rest (gaps.opens bs _ h) = passes_words true bs d (after 59 p) rest h
passes_words c xs d p rest (gaps.text b bs _ is h) =
    ap (λ t. if t then words between (after b p) (bs ++ rest) else words comment (after b p) (bs ++ rest)) is ∙ passes_words true bs d (after b p) rest h
passes_words c xs d p rest (gaps.ends b bs _ is h) =
    ap (λ t. if t then words between (after b p) (bs ++ rest) else words comment (after b p) (bs ++ rest)) is ∙ passes_words false bs d (after b p) rest h

words_skip : (n : ℕ) (p : Place) (bs : List ℕ) → n ≤ length bs → words (skipping n) p bs ≡ words between (behind p (take n bs)) (drop n bs)
words_skip zero p bs le = refl
words_skip (suc n) p [] le = absurd (omega (arith, le))
words_skip (suc n) p (b ∷ bs) le = words_skip n (after b p) bs (omega (arith, le))

begins_atom : (k : Class) (q : Part) (b : ℕ) (p : Place) (bs : List ℕ) (next : Mode → List Token) → begins_class k ≡ Some q → begins k b p bs next ≡ on_word (scan q 1 bs) p (b ∷ bs) (λ n. next (skip_rest n))
begins_atom Colon q b p bs next e = ap (λ o. begun o p (b ∷ bs) bs (λ n. next (skip_rest n))) e
begins_atom Hash q b p bs next e = ap (λ o. begun o p (b ∷ bs) bs (λ n. next (skip_rest n))) e
begins_atom Letter q b p bs next e = ap (λ o. begun o p (b ∷ bs) bs (λ n. next (skip_rest n))) e
begins_atom Digit q b p bs next e = ap (λ o. begun o p (b ∷ bs) bs (λ n. next (skip_rest n))) e
begins_atom Quote q b p bs next e = ap (λ o. begun o p (b ∷ bs) bs (λ n. next (skip_rest n))) e
begins_atom Bar q b p bs next e = ap (λ o. begun o p (b ∷ bs) bs (λ n. next (skip_rest n))) e
begins_atom Blank q b p bs next e = absurd (grind arith)
begins_atom LineFeed q b p bs next e = absurd (grind arith)
begins_atom Open q b p bs next e = absurd (grind arith)
begins_atom Close q b p bs next e = absurd (grind arith)
begins_atom Semicolon q b p bs next e = absurd (grind arith)
begins_atom Other q b p bs next e = absurd (grind arith)

-- an atom at the front
words_atom : (b : ℕ) (bs : List ℕ) (p : Place) (q : Part) (w : Word) → begins_part b ≡ Some q → scan q 1 bs ≡ w →
    words between p (b ∷ bs) ≡ on_word w p (b ∷ bs) (λ n. words (skip_rest n) (after b p) bs)
words_atom b bs p q w e is = begins_atom (class b) q b p bs (λ m. words m (after b p) bs) e ∙ ap (λ v. on_word v p (b ∷ bs) (λ n. words (skip_rest n) (after b p) bs)) is

skip_whole : (n : ℕ) (b : ℕ) (bs : List ℕ) (p : Place) → 0 < n → n ≤ length (b ∷ bs) → words (skip_rest n) (after b p) bs ≡ words between (behind p (take n (b ∷ bs))) (drop n (b ∷ bs))
skip_whole zero b bs p some le = absurd (omega (arith, some))
skip_whole (suc n) b bs p some le = words_skip n (after b p) bs (omega (arith, le))

pub words_whole : (bytes : List ℕ) (p : Place) (q : Part) (k : AtomKind) (n : ℕ) → begins_part (get_or bytes 0 0) ≡ Some q → scan q 1 (drop 1 bytes) ≡ whole k n → 0 < n → n ≤ length bytes →
    words between p bytes ≡ atom p k (text_of_word k (take n bytes)) ∷ words between (behind p (take n bytes)) (drop n bytes)
words_whole [] p q k n e is some le = absurd (omega (arith, some, le))
words_whole (b ∷ bs) p q k n e is some le = words_atom b bs p q (whole k n) e is ∙ ap (λ ts. atom p k (text_of_word k (take n (b ∷ bs))) ∷ ts) (skip_whole n b bs p some le)

pub words_bad : (bytes : List ℕ) (p : Place) (q : Part) (n : ℕ) → begins_part (get_or bytes 0 0) ≡ Some q → scan q 1 (drop 1 bytes) ≡ bad n → 0 < length bytes → words between p bytes ≡ wrong (behind p (take n bytes)) BadCharacter ∷ []
words_bad [] p q n e is some = absurd (omega (arith, some))
words_bad (b ∷ bs) p q n e is some = words_atom b bs p q (bad n) e is

pub words_cut : (bytes : List ℕ) (p : Place) (q : Part) (r : Reason) → begins_part (get_or bytes 0 0) ≡ Some q → scan q 1 (drop 1 bytes) ≡ cut r → 0 < length bytes → words between p bytes ≡ wrong p r ∷ []
words_cut [] p q r e is some = absurd (omega (arith, some))
words_cut (b ∷ bs) p q r e is some = words_atom b bs p q (cut r) e is

-- the commands that are left, where the words are these
left_words : (s : TextState) (ts : List Token) → s.in_comment ≡ false → words between s.place s.bytes ≡ ts → left s ≡ commands s.opens s.items ts
left_words s ts is e = ap (λ c. commands s.opens s.items (words (gap_mode c) s.place s.bytes)) is ∙ ap (commands s.opens s.items) e

left_byte : (s : TextState) (b : ℕ) (rest : List ℕ) (k : Class) → s.in_comment ≡ false → s.bytes ≡ b ∷ rest → class b ≡ k → left s ≡ commands s.opens s.items (begins k b s.place rest (λ m. words m (after b s.place) rest))
left_byte s b rest k plain at is = left_words s _ plain (ap (words between s.place) at ∙ ap (λ c. begins c b s.place rest (λ m. words m (after b s.place) rest)) is)

left_atom : (s : TextState) (k : AtomKind) (n : ℕ) → HasWord s k n → left s ≡ commands s.opens s.items (atom s.place k (text_of_word k (take n s.bytes)) ∷ words between (behind s.place (take n s.bytes)) (drop n s.bytes))
left_atom s k n h = left_words s _ h.atom.between (words_whole s.bytes s.place h.atom.part k n h.atom.begins h.atom.comes h.some h.within)

takes_left : (s t : TextState) → Takes s t → left s ≡ left t
takes_left s t (states.gap _ _ passed at place passes lists items) =
    ap (λ xs. commands s.opens s.items (words (gap_mode s.in_comment) s.place xs)) at
    ∙ ap (commands s.opens s.items) (passes_words s.in_comment passed t.in_comment s.place t.bytes passes)
    ∙ ap (λ p. commands s.opens s.items (words (gap_mode t.in_comment) p t.bytes)) (sym place)
    ∙ ap (λ o. commands o s.items (words (gap_mode t.in_comment) t.place t.bytes)) (sym lists)
    ∙ ap (λ i. commands t.opens i (words (gap_mode t.in_comment) t.place t.bytes)) (sym items)
takes_left s t (states.opens _ _ b plain at is few to) =
    let o : Opened = record { place = s.place; before = length s.items } in
    left_byte s b t.bytes Open plain at is
    ∙ ap (λ x. if x then commands (o ∷ s.opens) s.items (words between (after b s.place) t.bytes) else refused s.place TooDeep) few
    ∙ ap left (sym to)
takes_left s t (states.closes _ _ b o q os plain at is lists to) =
    left_byte s b t.bytes Close plain at is
    ∙ ap (λ x. commands x s.items (closes s.place ∷ words between (after b s.place) t.bytes)) lists
    ∙ ap left (sym to)
takes_left s t (states.atom _ _ k n o os h lists to) =
    left_atom s k n h
    ∙ ap (λ x. commands x s.items (atom s.place k (text_of_word k (take n s.bytes)) ∷ words between (behind s.place (take n s.bytes)) (drop n s.bytes))) lists
    ∙ ap (λ x. commands x (s.items ++ atom_in s k n ∷ []) (words between (behind s.place (take n s.bytes)) (drop n s.bytes))) (sym lists)
    ∙ ap left (sym to)

pub reads_left : (s t : TextState) → Reads s t → left s ≡ left t
reads_left s t (states.stays _) = refl
reads_left s t (states.goes _ u _ r k) = reads_left s u r ∙ takes_left u t k

pub gives_left : (s : TextState) (e : Sexpr) (p : Place) (rest : List ℕ) → GivesCommand s e p rest → left s ≡ put_first e (reading_from p rest)
gives_left s e p rest (states.atom _ k n h none) =
    left_atom s k n h ∙ ap (λ x. commands x s.items (atom s.place k (text_of_word k (take n s.bytes)) ∷ words between (behind s.place (take n s.bytes)) (drop n s.bytes))) none
gives_left s e p rest (states.closes _ b _ o plain at is lists) = left_byte s b rest Close plain at is ∙ ap (λ x. commands x s.items (closes s.place ∷ words between (after b s.place) rest)) lists

ended_left : (os : List Opened) (p : Place) → 0 < length os → ended os ≡ refused (outermost os p) Unbalanced
ended_left [] p some = absurd (omega (arith, some))
ended_left (o ∷ os) p some = refl

words_none : (c : Bool) (p : Place) → words (gap_mode c) p [] ≡ []
words_none true p = refl
words_none false p = refl

pub finished_left : (s : TextState) → s.bytes ≡ [] → left s ≡ ended s.opens
finished_left s none = ap (λ xs. commands s.opens s.items (words (gap_mode s.in_comment) s.place xs)) none ∙ ap (commands s.opens s.items) (words_none s.in_comment s.place)

pub refuses_left : (s : TextState) (p : Place) (r : Reason) → Refuses s p r → left s ≡ refused p r
refuses_left s p r (states.closed _ b rest plain at is none) = left_byte s b rest Close plain at is ∙ ap (λ x. commands x s.items (closes s.place ∷ words between (after b s.place) rest)) none
refuses_left s p r (states.ended _ none some) = finished_left s none ∙ ended_left s.opens s.place some
refuses_left s p r (states.deep _ b rest plain at is many) =
    let o : Opened = record { place = s.place; before = length s.items } in
    left_byte s b rest Open plain at is ∙ ap (λ x. if x then commands (o ∷ s.opens) s.items (words between (after b s.place) rest) else refused s.place TooDeep) many
refuses_left s p r (states.no_word _ b rest plain at is) = left_byte s b rest Other plain at is
refuses_left s p r (states.byte _ n h) = left_words s _ h.between (words_bad s.bytes s.place h.part n h.begins h.comes h.some)
refuses_left s p r (states.end _ _ h) = left_words s _ h.between (words_cut s.bytes s.place h.part r h.begins h.comes h.some)
