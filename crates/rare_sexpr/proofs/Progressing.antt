-- Each text comes to a command, a fault or its end.
use Rattle.std.proofs.Common.{◌≡◌, ℕ, zero, suc, ◌+◌, ◌<◌, ◌≤◌, Bool, true, false, List, [], ◌∷◌, ◌++◌, length, take, drop, get_or, nat_lt, refl, ap, sym, ◌∙◌, subst, arith, Some, length-drop}
use Rattle.rare_base.specs.declared.answers.Place.{Place}
use Rattle.rare_base.specs.declared.answers.Reason.{Reason}
use Rattle.rare_base.specs.declared.answers.Reason.TheVariants.{Unbalanced, BadCharacter, TooDeep}
use Rattle.rare_sexpr.specs.declared.tree.AtomKind.{AtomKind}
use Rattle.rare_sexpr.specs.declared.tree.Sexpr.{Sexpr}
use Rattle.rare_sexpr.specs.declared.scan.Part.{Part}
use Rattle.rare_sexpr.specs.declared.scan.Part.TheVariants as part
use Rattle.rare_sexpr.specs.declared.scan.Advance.{Advance}
use Rattle.rare_sexpr.specs.declared.scan.Advance.TheVariants.{Goes, Takes as TakesByte, Stops, Wrong}
use Rattle.rare_sexpr.specs.declared.bytes.Class.{Class}
use Rattle.rare_sexpr.specs.declared.bytes.Class.TheVariants.{Blank, LineFeed, Open, Close, Semicolon, Colon, Hash, Digit, Letter, Quote, Bar, Other}
use Rattle.rare_sexpr.specs.declared.stack.Opened.{Opened}
use Rattle.rare_sexpr.specs.Tree.{list_of}
use Rattle.rare_sexpr.specs.Limits.{most_nested_lists}
use Rattle.rare_sexpr.specs.Bytes.{after, behind, ends_comment}
use Rattle.rare_sexpr.specs.Commands.{put_first, no_commands, refused}
use Rattle.rare_sexpr.specs.Grammar.{IsLastGap, Atom, Spell, Spells}
use Rattle.rare_sexpr.specs.Grammar as grammar
use Rattle.rare_sexpr.specs.TextGrammar.{AreCommands}
use Rattle.rare_sexpr.specs.TextGrammar as texts
use Rattle.rare_sexpr.specs.Readings.{commands_from}
use Rattle.rare_sexpr.specs.inner.Classes.{class}
use Rattle.rare_sexpr.specs.inner.Scan.{Word, whole, bad, cut, scan, advance, on_advance, at_end, begins_class, begins_part}
use Rattle.rare_sexpr.specs.inner.Gaps.{Passes}
use Rattle.rare_sexpr.specs.inner.Gaps as gaps
use Rattle.rare_sexpr.specs.inner.Reading.{outermost, ended}
use Rattle.rare_sexpr.specs.inner.States.{TextState, left, HasAtom, HasWord, atom_in, Takes, Reads, GivesCommand, Refuses}
use Rattle.rare_sexpr.specs.inner.States as states
use Rattle.rare_sexpr.specs.inner.Kept.{begin_at}
use Rattle.rare_sexpr.proofs.ClassTests.{IsOf, class_tests}
use Rattle.rare_sexpr.proofs.Walks.{bare_leads}
use Rattle.rare_sexpr.proofs.Turns.{reads_more}
use Rattle.rare_sexpr.proofs.Left.{reads_left, gives_left, refuses_left, finished_left}
use Rattle.rare_sexpr.proofs.Building.{built_reads, built_gives, built_finished}
use Rattle.rare_sexpr.proofs.Refusing.{built_begin, built_refuses}

-- how far the scanner comes
abbrev Within : ℕ → ℕ → Word → Type 0
Within n m (whole k e) = (n ≤ e) × (e ≤ n + m)
Within n m (bad e) = (n ≤ e) × (e ≤ n + m)
Within n m (cut r) = Unit {0}

end_within : (p : Part) (n : ℕ) → Within n 0 (at_end p n)
end_within part.Symbol n = (omega arith, omega arith)
end_within part.Keyword n = (omega arith, omega arith)
end_within part.Numeral n = (omega arith, omega arith)
end_within part.Fraction n = (omega arith, omega arith)
end_within part.Binary n = (omega arith, omega arith)
end_within part.Hex n = (omega arith, omega arith)
end_within part.Behind n = (omega arith, omega arith)
end_within part.Bars n = tt
end_within part.Inside n = tt
end_within part.Colon n = tt
end_within part.Point n = tt
end_within part.Hash n = tt
end_within part.HashB n = tt
end_within part.HashX n = tt

wider : (n m : ℕ) (w : Word) → Within (n + 1) m w → Within n (suc m) w
wider n m (whole k e) h = (omega (arith, h.0), omega (arith, h.1))
wider n m (bad e) h = (omega (arith, h.0), omega (arith, h.1))
wider n m (cut r) h = tt

step_within : (a : Advance) (n m : ℕ) (next : Part → Word) → ((q : Part) → Within (n + 1) m (next q)) → Within n (suc m) (on_advance a n next)
step_within (Goes q) n m next h = wider n m (next q) (h q)
step_within (TakesByte k) n m next h = (omega arith, omega arith)
step_within (Stops k) n m next h = (omega arith, omega arith)
step_within Wrong n m next h = (omega arith, omega arith)

scan_within : (bs : List ℕ) (p : Part) (n : ℕ) → Within n (length bs) (scan p n bs)
scan_within [] p n = end_within p n
scan_within (b ∷ bs) p n = step_within (advance p b) n (length bs) (λ q. scan q (n + 1) bs) (λ q. scan_within bs q (n + 1))

-- what a text comes to
pub data Comes : TextState → Type 0 where
  command : (s t : TextState) (e : Sexpr) (q : Place) (rest : List ℕ) → Reads s t → GivesCommand t e q rest → Comes s
  fault : (s t : TextState) (q : Place) (r : Reason) → Reads s t → Refuses t q r → Comes s
  end : (s t : TextState) → Reads s t → t.bytes ≡ [] → t.opens ≡ [] → Comes s

comes_behind : (s t : TextState) → Takes s t → Comes t → Comes s
comes_behind s t k (command _ u e q rest r g) = command s u e q rest (reads_more s t u (states.goes s s t (states.stays s) k) r) g
comes_behind s t k (fault _ u q r h f) = fault s u q r (reads_more s t u (states.goes s s t (states.stays s) k) h) f
comes_behind s t k (end _ u r b o) = end s u (reads_more s t u (states.goes s s t (states.stays s) k) r) b o

-- the rest of a text is shorter
abbrev Rest : ℕ → Type 0
Rest n = (t : TextState) → length t.bytes ≤ n → Comes t

gap_comes : (n : ℕ) (s : TextState) (b : ℕ) (bs : List ℕ) (d : Bool) → Rest n → s.bytes ≡ b ∷ bs → length s.bytes ≤ suc n → Passes s.in_comment (b ∷ []) d → Comes s
gap_comes n s b bs d rest at le passes =
    let t : TextState = record { opens = s.opens; items = s.items; in_comment = d; place = after b s.place; bytes = bs } in
    comes_behind s t (states.gap s t (b ∷ []) at refl passes refl refl) (rest t (omega (arith, ap length at, le)))

open_comes : (n : ℕ) (s : TextState) (b : ℕ) (bs : List ℕ) (few : Bool) → Rest n → s.in_comment ≡ false → s.bytes ≡ b ∷ bs → length s.bytes ≤ suc n → class b ≡ Open → nat_lt (length s.opens) most_nested_lists ≡ few → Comes s
open_comes n s b bs true rest plain at le is few =
    let t : TextState = record { opens = record { place = s.place; before = length s.items } ∷ s.opens; items = s.items; in_comment = false; place = after b s.place; bytes = bs } in
    comes_behind s t (states.opens s t b plain at is few refl) (rest t (omega (arith, ap length at, le)))
open_comes n s b bs false rest plain at le is many = fault s s s.place TooDeep (states.stays s) (states.deep s b bs plain at is many)

close_comes : (n : ℕ) (s : TextState) (b : ℕ) (bs : List ℕ) (os : List Opened) → Rest n → s.in_comment ≡ false → s.bytes ≡ b ∷ bs → length s.bytes ≤ suc n → class b ≡ Close → s.opens ≡ os → Comes s
close_comes n s b bs [] rest plain at le is lists = fault s s s.place Unbalanced (states.stays s) (states.closed s b bs plain at is lists)
close_comes n s b bs (o ∷ []) rest plain at le is lists = command s s (list_of o.place (drop o.before s.items)) (after b s.place) bs (states.stays s) (states.closes s b bs o plain at is lists)
close_comes n s b bs (o ∷ q ∷ os) rest plain at le is lists =
    let t : TextState = record { opens = q ∷ os; items = take o.before s.items ++ list_of o.place (drop o.before s.items) ∷ []; in_comment = false; place = after b s.place; bytes = bs } in
    comes_behind s t (states.closes s t b o q os plain at is lists refl) (rest t (omega (arith, ap length at, le)))

word_comes : (n : ℕ) (s : TextState) (k : AtomKind) (m : ℕ) (os : List Opened) → Rest n → HasWord s k m → length s.bytes ≤ suc n → s.opens ≡ os → Comes s
word_comes n s k m [] rest h le lists = command s s (atom_in s k m) (behind s.place (take m s.bytes)) (drop m s.bytes) (states.stays s) (states.atom s k m h lists)
word_comes n s k m (o ∷ os) rest h le lists =
    let t : TextState = record { opens = s.opens; items = s.items ++ atom_in s k m ∷ []; in_comment = false; place = behind s.place (take m s.bytes); bytes = drop m s.bytes } in
    comes_behind s t (states.atom s t k m o os h lists refl) (rest t (omega (arith, length-drop m s.bytes, h.some, le)))

scanned_comes : (n : ℕ) (s : TextState) (w : Word) → Rest n → HasAtom s w → Within 1 (length (drop 1 s.bytes)) w → length s.bytes ≤ suc n → Comes s
scanned_comes n s (whole k m) rest h within le =
    word_comes n s k m s.opens rest (record { atom = h; some = omega (arith, within.0); within = omega (arith, within.1, length-drop 1 s.bytes, h.some) }) le refl
scanned_comes n s (bad m) rest h within le = fault s s (behind s.place (take m s.bytes)) BadCharacter (states.stays s) (states.byte s m h)
scanned_comes n s (cut r) rest h within le = fault s s s.place r (states.stays s) (states.end s r h)

atom_comes : (n : ℕ) (s : TextState) (b : ℕ) (bs : List ℕ) (q : Part) → Rest n → s.in_comment ≡ false → s.bytes ≡ b ∷ bs → length s.bytes ≤ suc n → begins_part b ≡ Some q → Comes s
atom_comes n s b bs q rest plain at le begins =
    let w = scan q 1 (drop 1 s.bytes) in
    scanned_comes n s w rest (record { between = plain; part = q; begins = ap (λ l. begins_part (get_or l 0 0)) at ∙ begins; comes = refl; some = omega (arith, ap length at) }) (scan_within (drop 1 s.bytes) q 1) le

class_comes : (k : Class) (n : ℕ) (s : TextState) (b : ℕ) (bs : List ℕ) → Rest n → s.in_comment ≡ false → s.bytes ≡ b ∷ bs → length s.bytes ≤ suc n → class b ≡ k → IsOf k b → Comes s
class_comes Blank n s b bs rest plain at le is of = gap_comes n s b bs false rest at le (subst (λ c. Passes c (b ∷ []) false) (sym plain) (gaps.blank b [] false of (gaps.none false)))
class_comes LineFeed n s b bs rest plain at le is of = gap_comes n s b bs false rest at le (subst (λ c. Passes c (b ∷ []) false) (sym plain) (gaps.blank b [] false of (gaps.none false)))
class_comes Semicolon n s b bs rest plain at le is of =
    gap_comes n s b bs true rest at le (subst (λ c. Passes c (b ∷ []) true) (sym plain) (subst (λ x. Passes false (x ∷ []) true) (sym of) (gaps.opens [] true (gaps.none true))))
class_comes Open n s b bs rest plain at le is of = open_comes n s b bs (nat_lt (length s.opens) most_nested_lists) rest plain at le is refl
class_comes Close n s b bs rest plain at le is of = close_comes n s b bs s.opens rest plain at le is refl
class_comes Other n s b bs rest plain at le is of = fault s s s.place BadCharacter (states.stays s) (states.no_word s b bs plain at is)
class_comes Letter n s b bs rest plain at le is of = atom_comes n s b bs part.Symbol rest plain at le (ap begins_class is)
class_comes Digit n s b bs rest plain at le is of = atom_comes n s b bs part.Numeral rest plain at le (ap begins_class is)
class_comes Colon n s b bs rest plain at le is of = atom_comes n s b bs part.Colon rest plain at le (ap begins_class is)
class_comes Hash n s b bs rest plain at le is of = atom_comes n s b bs part.Hash rest plain at le (ap begins_class is)
class_comes Quote n s b bs rest plain at le is of = atom_comes n s b bs part.Inside rest plain at le (ap begins_class is)
class_comes Bar n s b bs rest plain at le is of = atom_comes n s b bs part.Bars rest plain at le (ap begins_class is)

commented : (t : Bool) (n : ℕ) (s : TextState) (b : ℕ) (bs : List ℕ) → Rest n → s.in_comment ≡ true → s.bytes ≡ b ∷ bs → length s.bytes ≤ suc n → ends_comment b ≡ t → Comes s
commented true n s b bs rest c at le e = gap_comes n s b bs false rest at le (subst (λ x. Passes x (b ∷ []) false) (sym c) (gaps.ends b [] false e (gaps.none false)))
commented false n s b bs rest c at le e = gap_comes n s b bs true rest at le (subst (λ x. Passes x (b ∷ []) true) (sym c) (gaps.text b [] true e (gaps.none true)))

byte_comes : (c : Bool) (n : ℕ) (s : TextState) (b : ℕ) (bs : List ℕ) → Rest n → s.in_comment ≡ c → s.bytes ≡ b ∷ bs → length s.bytes ≤ suc n → Comes s
byte_comes true n s b bs rest c at le = commented (ends_comment b) n s b bs rest c at le refl
byte_comes false n s b bs rest c at le = class_comes (class b) n s b bs rest c at le refl (class_tests b)

end_comes : (os : List Opened) (s : TextState) → s.bytes ≡ [] → s.opens ≡ os → Comes s
end_comes [] s none lists = end s s (states.stays s) none lists
end_comes (o ∷ os) s none lists = fault s s (outermost s.opens s.place) Unbalanced (states.stays s) (states.ended s none (omega (arith, ap length lists)))

bytes_come : (bs : List ℕ) (n : ℕ) (s : TextState) → Rest n → s.bytes ≡ bs → length s.bytes ≤ suc n → Comes s
bytes_come [] n s rest at le = end_comes s.opens s at refl
bytes_come (b ∷ bs) n s rest at le = byte_comes s.in_comment n s b bs rest refl at le

nothing_comes : (bs : List ℕ) (s : TextState) → s.bytes ≡ bs → length s.bytes ≤ 0 → Comes s
nothing_comes [] s at le = end_comes s.opens s at refl
nothing_comes (b ∷ bs) s at le = absurd (omega (arith, ap length at, le))

pub all_come : (n : ℕ) (s : TextState) → length s.bytes ≤ n → Comes s
all_come zero s le = nothing_comes s.bytes s refl le
all_come (suc n) s le = bytes_come s.bytes n s (all_come n) refl le

-- the commands of a text
length_both : (xs ys : List ℕ) → length (xs ++ ys) ≡ length xs + length ys
length_both [] ys = omega arith
length_both (x ∷ xs) ys = omega (arith, length_both xs ys)

-- a command takes a byte at least
atom_some : (k : AtomKind) (text word rest : List ℕ) → Atom k text word rest → 0 < length word
atom_some k text word rest (grammar.bare _ _ _ _ b m) = let l = bare_leads k text word b in omega (arith, ap length l.split)
atom_some k text word rest (grammar.bars text' _ all) = omega arith
atom_some k text word rest (grammar.quotes text' _ none) = omega arith

spell_some : (d : ℕ) (e : Sexpr) (es : List Sexpr) (p : Place) (bytes rest : List ℕ) → Spell d (e ∷ es) p bytes rest → 0 < length bytes
spell_some d e es p bytes rest (grammar.atom _ k text _ _ gap word more _ g a h) = omega (arith, length_both gap (word ++ more), length_both word more, atom_some k text word (more ++ rest) a)
spell_some d e es p bytes rest (grammar.list d' items _ _ gap inside last more _ g s l h) = omega (arith, length_both gap (40 ∷ (inside ++ (last ++ 41 ∷ more))))

shorter : (p : Place) (e : Sexpr) (word rest bytes : List ℕ) → Spells e p word rest → bytes ≡ word ++ rest → length rest < length bytes
shorter p e word rest bytes s is = omega (arith, ap length is, length_both word rest, spell_some most_nested_lists e [] p word rest s)

no_opens : (os : List Opened) → os ≡ [] → ended os ≡ no_commands
no_opens os e = ap ended e

commands_come : (n : ℕ) (p : Place) (bytes : List ℕ) → Comes (begin_at p bytes) → ((q : Place) (rest : List ℕ) → length rest < length bytes → AreCommands q rest (commands_from q rest)) → AreCommands p bytes (commands_from p bytes)
commands_come n p bytes (command _ t e q rest r g) more =
    let s = begin_at p bytes in
    let h = built_gives p bytes t e q rest (built_reads p bytes s t (built_begin p bytes) r) g in
    let is : commands_from p bytes ≡ put_first e (commands_from q rest) = reads_left s t r ∙ gives_left t e q rest g in
    subst (AreCommands p bytes) (sym is)
    (subst (λ l. AreCommands p l (put_first e (commands_from q rest))) (sym h.split)
    (texts.command p h.word rest e (commands_from q rest) h.spelled
    (subst (λ x. AreCommands x rest (commands_from q rest)) h.place (more q rest (shorter p e h.word rest bytes h.spelled h.split)))))
commands_come n p bytes (fault _ t q r h f) more =
    let s = begin_at p bytes in
    let is : commands_from p bytes ≡ refused q r = reads_left s t h ∙ refuses_left t q r f in
    subst (AreCommands p bytes) (sym is) (texts.fault p bytes (record { place = q; reason = r }) (built_refuses p bytes t q r (built_reads p bytes s t (built_begin p bytes) h) f))
commands_come n p bytes (end _ t r none lists) more =
    let s = begin_at p bytes in
    let is : commands_from p bytes ≡ no_commands = reads_left s t r ∙ finished_left t none ∙ no_opens t.opens lists in
    subst (AreCommands p bytes) (sym is) (texts.none p bytes (built_finished p bytes t (built_reads p bytes s t (built_begin p bytes) r) none lists))

up_to : (n : ℕ) (p : Place) (bytes : List ℕ) → length bytes ≤ n → AreCommands p bytes (commands_from p bytes)
up_to zero p bytes le = commands_come zero p bytes (all_come (length bytes) (begin_at p bytes) (omega arith)) (λ q rest lt. absurd (omega (arith, lt, le)))
up_to (suc n) p bytes le = commands_come n p bytes (all_come (length bytes) (begin_at p bytes) (omega arith)) (λ q rest lt. up_to n q rest (omega (arith, lt, le)))

-- the commands that are read are those of the grammar
pub commands_are_read : (p : Place) (bytes : List ℕ) → AreCommands p bytes (commands_from p bytes)
commands_are_read p bytes = up_to (length bytes) p bytes (omega arith)
