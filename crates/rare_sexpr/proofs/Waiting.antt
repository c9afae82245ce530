-- Bytes that go on: some bytes that follow make a command of them, and others don't.
use Rattle.std.proofs.Common.{◌≡◌, ℕ, zero, suc, ◌+◌, ◌<◌, Bool, true, false, List, [], ◌∷◌, ◌++◌, length, take, drop, get_or, Some, None, refl, ap, sym, ◌∙◌, subst, arith}
use Rattle.std.proofs.lemmas.List.{drop_all}
use Rattle.rare_base.specs.declared.answers.Place.{Place}
use Rattle.rare_base.specs.declared.answers.Reason.{Reason}
use Rattle.rare_sexpr.specs.declared.tree.AtomKind.{AtomKind}
use Rattle.rare_sexpr.specs.declared.tree.AtomKind.TheVariants as kind
use Rattle.rare_sexpr.specs.declared.tree.Sexpr.{Sexpr}
use Rattle.rare_sexpr.specs.declared.scan.Part.{Part}
use Rattle.rare_sexpr.specs.declared.scan.Part.TheVariants as part
use Rattle.rare_sexpr.specs.declared.stack.Opened.{Opened}
use Rattle.rare_sexpr.specs.declared.parser.Mode.{Mode}
use Rattle.rare_sexpr.specs.declared.parser.Mode.TheVariants as mode
use Rattle.rare_sexpr.specs.Tree.{atom_of, list_of}
use Rattle.rare_sexpr.specs.Bytes.{after, behind}
use Rattle.rare_sexpr.specs.Commands.{first_command}
use Rattle.rare_sexpr.specs.inner.Scan.{Word, whole, bad, cut, scan, begins_part}
use Rattle.rare_sexpr.specs.inner.Words.{atom, between, words, text_of_word, gap_mode}
use Rattle.rare_sexpr.specs.inner.Wording.{Resumes}
use Rattle.rare_sexpr.specs.inner.Reading.{commands}
use Rattle.rare_sexpr.specs.inner.Parsing.{is_comment, FitsMode, IsAtEnd}
use Rattle.rare_sexpr.proofs.Lists.{first_front, drop_front, take_front, longer}
use Rattle.rare_sexpr.proofs.Left.{words_whole, words_bad, words_cut}

-- so many closing parentheses
abbrev closers : ℕ → List ℕ
closers zero = []
closers (suc n) = 41 ∷ closers n

-- a command comes first
abbrev Makes : List Opened → List Sexpr → Bool → Place → List ℕ → Type 0
Makes os items c p bytes = (e : Sexpr) × (first_command (commands os items (words (gap_mode c) p bytes)) ≡ Some e)

closed_by : (n : ℕ) (o : Opened) (os : List Opened) (items : List Sexpr) (p : Place) → length os ≡ n → Makes (o ∷ os) items false p (closers (suc n))
closed_by zero o [] items p is = (list_of o.place (drop o.before items), refl)
closed_by zero o (q ∷ os) items p is = absurd (omega arith)
closed_by (suc n) o [] items p is = absurd (omega arith)
closed_by (suc n) o (q ∷ os) items p is = closed_by n q os (take o.before items ++ list_of o.place (drop o.before items) ∷ []) (after 41 p) (omega arith)

between_makes : (os : List Opened) (items : List Sexpr) (p : Place) → (more : List ℕ) × Makes os items false p more
between_makes [] items p = (97 ∷ [], (atom_of p kind.Symbol (97 ∷ []), refl))
between_makes (o ∷ os) items p = (closers (suc (length os)), closed_by (length os) o os items p refl)

-- bytes that end an atom
abbrev fill : Part → List ℕ
fill part.Symbol = []
fill part.Keyword = []
fill part.Numeral = []
fill part.Fraction = []
fill part.Binary = []
fill part.Hex = []
fill part.Behind = []
fill part.Colon = 97 ∷ []
fill part.Point = 48 ∷ []
fill part.Hash = 98 ∷ 48 ∷ []
fill part.HashB = 48 ∷ []
fill part.HashX = 48 ∷ []
fill part.Bars = 124 ∷ []
fill part.Inside = 34 ∷ []

abbrev made : Part → AtomKind
made part.Symbol = kind.Symbol
made part.Keyword = kind.Keyword
made part.Numeral = kind.Numeral
made part.Fraction = kind.Decimal
made part.Binary = kind.Binary
made part.Hex = kind.Hex
made part.Behind = kind.Quoted
made part.Colon = kind.Keyword
made part.Point = kind.Decimal
made part.Hash = kind.Binary
made part.HashB = kind.Binary
made part.HashX = kind.Hex
made part.Bars = kind.Symbol
made part.Inside = kind.Quoted

-- nothing, or a parenthesis
data Ends : List ℕ → Type 0 where
  nothing : Ends []
  close : (bs : List ℕ) → Ends (41 ∷ bs)

none_more : (n : ℕ) → n ≡ n + 0
none_more n = omega arith

two_more : (n : ℕ) → n + 1 + 1 ≡ n + 2
two_more n = omega arith

filled : (q : Part) (n : ℕ) (tail : List ℕ) → Ends tail → scan q n (fill q ++ tail) ≡ whole (made q) (n + length (fill q))
filled part.Symbol n tail nothing = ap (λ m. whole kind.Symbol m) (none_more n)
filled part.Symbol n tail (close bs) = ap (λ m. whole kind.Symbol m) (none_more n)
filled part.Keyword n tail nothing = ap (λ m. whole kind.Keyword m) (none_more n)
filled part.Keyword n tail (close bs) = ap (λ m. whole kind.Keyword m) (none_more n)
filled part.Numeral n tail nothing = ap (λ m. whole kind.Numeral m) (none_more n)
filled part.Numeral n tail (close bs) = ap (λ m. whole kind.Numeral m) (none_more n)
filled part.Fraction n tail nothing = ap (λ m. whole kind.Decimal m) (none_more n)
filled part.Fraction n tail (close bs) = ap (λ m. whole kind.Decimal m) (none_more n)
filled part.Binary n tail nothing = ap (λ m. whole kind.Binary m) (none_more n)
filled part.Binary n tail (close bs) = ap (λ m. whole kind.Binary m) (none_more n)
filled part.Hex n tail nothing = ap (λ m. whole kind.Hex m) (none_more n)
filled part.Hex n tail (close bs) = ap (λ m. whole kind.Hex m) (none_more n)
filled part.Behind n tail nothing = ap (λ m. whole kind.Quoted m) (none_more n)
filled part.Behind n tail (close bs) = ap (λ m. whole kind.Quoted m) (none_more n)
filled part.Colon n tail nothing = refl
filled part.Colon n tail (close bs) = refl
filled part.Point n tail nothing = refl
filled part.Point n tail (close bs) = refl
filled part.Hash n tail nothing = ap (λ m. whole kind.Binary m) (two_more n)
filled part.Hash n tail (close bs) = ap (λ m. whole kind.Binary m) (two_more n)
filled part.HashB n tail nothing = refl
filled part.HashB n tail (close bs) = refl
filled part.HashX n tail nothing = refl
filled part.HashX n tail (close bs) = refl
filled part.Bars n tail nothing = refl
filled part.Bars n tail (close bs) = refl
filled part.Inside n tail nothing = refl
filled part.Inside n tail (close bs) = refl

append_drop : (xs ys : List ℕ) → drop (length xs) (xs ++ ys) ≡ ys
append_drop [] ys = refl
append_drop (x ∷ xs) ys = append_drop xs ys

append_twice : (xs ys zs : List ℕ) → (xs ++ ys) ++ zs ≡ xs ++ (ys ++ zs)
append_twice [] ys zs = refl
append_twice (x ∷ xs) ys zs = ap (λ l. x ∷ l) (append_twice xs ys zs)

length_both : (xs ys : List ℕ) → length (xs ++ ys) ≡ length xs + length ys
length_both [] ys = omega arith
length_both (x ∷ xs) ys = omega (arith, length_both xs ys)

take_all : (xs : List ℕ) → take (length xs) xs ≡ xs
take_all [] = refl
take_all (x ∷ xs) = ap (λ l. x ∷ l) (take_all xs)

-- the atom whose front was read
resumed : (rest more : List ℕ) (q : Part) (w : Word) → 0 < length rest → (h : Resumes rest (length rest) q) → scan q (length rest) more ≡ w → scan h.0 1 (drop 1 (rest ++ more)) ≡ w
resumed rest more q w some h is =
    ap (scan h.0 1) (drop_front 1 rest more (omega (arith, some))) ∙ h.2 more ∙ ap (λ l. scan q (length rest) (l ++ more)) (drop_all (length rest) rest (omega arith)) ∙ is

filled_words : (rest : List ℕ) (q : Part) (p : Place) (tail : List ℕ) → 0 < length rest → Resumes rest (length rest) q → Ends tail →
    words between p (rest ++ (fill q ++ tail)) ≡ atom p (made q) (text_of_word (made q) (rest ++ fill q)) ∷ words between (behind p (rest ++ fill q)) tail
filled_words rest q p tail some h end =
    let more = fill q ++ tail in
    let bytes = rest ++ more in
    let n = length rest + length (fill q) in
    let front : bytes ≡ (rest ++ fill q) ++ tail = sym (append_twice rest (fill q) tail) in
    let len : length (rest ++ fill q) ≡ n = length_both rest (fill q) in
    let taken : take n bytes ≡ rest ++ fill q = ap (take n) front ∙ take_front n (rest ++ fill q) tail (omega (arith, len)) ∙ ap (λ m. take m (rest ++ fill q)) (sym len) ∙ take_all (rest ++ fill q) in
    let left : drop n bytes ≡ tail = ap (drop n) front ∙ ap (λ m. drop m ((rest ++ fill q) ++ tail)) (sym len) ∙ append_drop (rest ++ fill q) tail in
    words_whole bytes p h.0 (made q) n (ap begins_part (first_front rest more some) ∙ h.1) (resumed rest more q (whole (made q) n) some h (filled q (length rest) tail end)) (omega (arith, some)) (omega (arith, ap length front, length_both (rest ++ fill q) tail, len))
    ∙ ap (λ w. atom p (made q) (text_of_word (made q) w) ∷ words between (behind p w) (drop n bytes)) taken
    ∙ ap (λ l. atom p (made q) (text_of_word (made q) (rest ++ fill q)) ∷ words between (behind p (rest ++ fill q)) l) left

word_makes : (os : List Opened) (items : List Sexpr) (rest : List ℕ) (q : Part) (p : Place) → 0 < length rest → Resumes rest (length rest) q → (more : List ℕ) × Makes os items false p (rest ++ more)
word_makes [] items rest q p some h =
    (fill q ++ [], (atom_of p (made q) (text_of_word (made q) (rest ++ fill q)), ap (λ ts. first_command (commands [] items ts)) (filled_words rest q p [] some h nothing)))
word_makes (o ∷ os) items rest q p some h =
    let e = atom_of p (made q) (text_of_word (made q) (rest ++ fill q)) in
    let tail = closers (suc (length os)) in
    let made_list = closed_by (length os) o os (items ++ e ∷ []) (behind p (rest ++ fill q)) refl in
    (fill q ++ tail, (made_list.0, ap (λ ts. first_command (commands (o ∷ os) items ts)) (filled_words rest q p tail some h (close (closers (length os)))) ∙ made_list.1))

pub makes : (os : List Opened) (items : List Sexpr) (m : Mode) (p : Place) (rest : List ℕ) → FitsMode rest m → IsAtEnd rest m → (more : List ℕ) × Makes os items (is_comment m) p (rest ++ more)
makes os items mode.Between p rest fits end = let h = between_makes os items p in (h.0, (h.1.0, ap (λ l. first_command (commands os items (words between p (l ++ h.0)))) end ∙ h.1.1))
makes os items mode.Comment p rest fits end =
    let h = between_makes os items (after 10 p) in
    (10 ∷ h.0, (h.1.0, ap (λ l. first_command (commands os items (words (gap_mode true) p (l ++ 10 ∷ h.0)))) end ∙ h.1.1))
makes os items (mode.Word q n) p rest fits end = word_makes os items rest q p (omega (arith, fits.0, fits.1)) (subst (λ k. Resumes rest k q) end fits.2)

-- bytes behind which it is no atom
abbrev spoil : Part → List ℕ
spoil part.Symbol = 0 ∷ []
spoil part.Keyword = 0 ∷ []
spoil part.Numeral = 0 ∷ []
spoil part.Fraction = 0 ∷ []
spoil part.Binary = 0 ∷ []
spoil part.Hex = 0 ∷ []
spoil part.Colon = 0 ∷ []
spoil part.Point = 0 ∷ []
spoil part.Hash = 0 ∷ []
spoil part.HashB = 0 ∷ []
spoil part.HashX = 0 ∷ []
spoil part.Behind = 34 ∷ []
spoil part.Bars = []
spoil part.Inside = []

data Spoils : Word → Type 0 where
  byte : (n : ℕ) → Spoils (bad n)
  end : (r : Reason) → Spoils (cut r)

spoiled : (q : Part) (n : ℕ) → Spoils (scan q n (spoil q))
spoiled part.Symbol n = byte n
spoiled part.Keyword n = byte n
spoiled part.Numeral n = byte n
spoiled part.Fraction n = byte n
spoiled part.Binary n = byte n
spoiled part.Hex n = byte n
spoiled part.Colon n = byte n
spoiled part.Point n = byte n
spoiled part.Hash n = byte n
spoiled part.HashB n = byte n
spoiled part.HashX n = byte n
spoiled part.Behind n = end _
spoiled part.Bars n = end _
spoiled part.Inside n = end _

spoiled_words : (os : List Opened) (items : List Sexpr) (bytes : List ℕ) (p : Place) (q : Part) (w : Word) → Spoils w → begins_part (get_or bytes 0 0) ≡ Some q → scan q 1 (drop 1 bytes) ≡ w → 0 < length bytes →
    first_command (commands os items (words between p bytes)) ≡ None
spoiled_words os items bytes p q w (byte n) e is some = ap (λ ts. first_command (commands os items ts)) (words_bad bytes p q n e is some)
spoiled_words os items bytes p q w (end r) e is some = ap (λ ts. first_command (commands os items ts)) (words_cut bytes p q r e is some)

between_bare : (os : List Opened) (items : List Sexpr) → first_command (commands os items []) ≡ None
between_bare [] items = refl
between_bare (o ∷ os) items = refl

pub bare : (os : List Opened) (items : List Sexpr) (m : Mode) (p : Place) (rest : List ℕ) → FitsMode rest m → IsAtEnd rest m →
    (more : List ℕ) × (first_command (commands os items (words (gap_mode (is_comment m)) p (rest ++ more))) ≡ None)
bare os items mode.Between p rest fits done = ([], ap (λ l. first_command (commands os items (words between p (l ++ [])))) done ∙ between_bare os items)
bare os items mode.Comment p rest fits done = ([], ap (λ l. first_command (commands os items (words (gap_mode true) p (l ++ [])))) done ∙ between_bare os items)
bare os items (mode.Word q n) p rest fits done =
    let some : 0 < length rest = omega (arith, fits.0, fits.1) in
    let h : Resumes rest (length rest) q = subst (λ k. Resumes rest k q) done fits.2 in (
      spoil q,
      spoiled_words os items (rest ++ spoil q) p h.0 (scan q (length rest) (spoil q)) (spoiled q (length rest)) (ap begins_part (first_front rest (spoil q) some) ∙ h.1)
          (resumed rest (spoil q) q (scan q (length rest) (spoil q)) some h refl) (omega (arith, longer 1 rest (spoil q) (omega (arith, some)))),
    )
