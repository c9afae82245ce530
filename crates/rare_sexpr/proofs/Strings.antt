-- How a string is written byte by byte.
use Rattle.std.proofs.Common.{◌≡◌, ℕ, ◌+◌, ◌<◌, Bool, true, false, List, [], ◌∷◌, ◌++◌, length, take, drop, get_or, nat_eq, refl, ap, sym, ◌∙◌, append_assoc, if◌then◌else◌}
use Rattle.std.proofs.lemmas.List.{take_more}
use Rattle.rare_sexpr.specs.Written.{doubled, written_string, IsCut}
use Rattle.rare_sexpr.proofs.Fronts.{take_exact, take_drop}

by_quote : (t : Bool) (x : ℕ) (a b c : List ℕ) → a ≡ b ++ c → (if t then 34 ∷ 34 ∷ a else x ∷ a) ≡ (if t then 34 ∷ 34 ∷ b else x ∷ b) ++ c
by_quote true x a b c e = ap (λ l. 34 ∷ 34 ∷ l) e
by_quote false x a b c e = ap (λ l. x ∷ l) e

pub doubled_append : (xs ys : List ℕ) → doubled (xs ++ ys) ≡ doubled xs ++ doubled ys
doubled_append [] ys = refl
doubled_append (x ∷ xs) ys = by_quote (nat_eq x 34) x (doubled (xs ++ ys)) (doubled xs) (doubled ys) (doubled_append xs ys)

-- a front of the text was written
pub cut_front : (old text xs ys new : List ℕ) → text ≡ xs ++ ys → new ≡ old ++ xs → IsCut old text new
cut_front old text xs ys new e is = (length xs, is ∙ ap (λ l. old ++ l) (sym (ap (take (length xs)) e ∙ take_exact (length xs) xs ys refl)))

pub cut_inside : (old bytes : List ℕ) (i : ℕ) (new : List ℕ) → new ≡ old ++ 34 ∷ doubled (take i bytes) → IsCut old (written_string bytes) new
cut_inside old bytes i new is =
    cut_front old (written_string bytes) (34 ∷ doubled (take i bytes)) (doubled (drop i bytes) ++ 34 ∷ []) new
    (ap (λ l. 34 ∷ (doubled l ++ 34 ∷ [])) (take_drop i bytes) ∙ ap (λ l. 34 ∷ (l ++ 34 ∷ [])) (doubled_append (take i bytes) (drop i bytes)) ∙ ap (λ l. 34 ∷ l) (append_assoc (doubled (take i bytes)) (doubled (drop i bytes)) (34 ∷ [])))
    is

pub one_more : (old bytes : List ℕ) (i : ℕ) (mid new : List ℕ) → i < length bytes → mid ≡ old ++ 34 ∷ doubled (take i bytes) → new ≡ mid ++ doubled (get_or bytes i 0 ∷ []) → new ≡ old ++ 34 ∷ doubled (take (i + 1) bytes)
one_more old bytes i mid new lt is e =
    let b = get_or bytes i 0 in
    e ∙ ap (λ l. l ++ doubled (b ∷ [])) is ∙ append_assoc old (34 ∷ doubled (take i bytes)) (doubled (b ∷ []))
    ∙ ap (λ l. old ++ 34 ∷ l) (sym (ap doubled (take_more bytes i 0 lt) ∙ doubled_append (take i bytes) (b ∷ [])))

pub all_written : (old bytes : List ℕ) (i : ℕ) (mid : List ℕ) → take i bytes ≡ bytes → mid ≡ old ++ 34 ∷ doubled (take i bytes) → mid ≡ old ++ 34 ∷ doubled bytes
all_written old bytes i mid e is = is ∙ ap (λ l. old ++ 34 ∷ doubled l) e
