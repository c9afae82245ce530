-- Texts that are cut where memory ran out.
use Rattle.std.proofs.Common.{◌≡◌, ℕ, zero, suc, ◌+◌, ◌-◌, ◌<◌, ◌≤◌, Bool, true, false, List, [], ◌∷◌, ◌++◌, length, take, drop, get_or, refl, sym, ap, ◌∙◌, arith, append_assoc, length-append, subst, Result, Ok, Err, OnErr}
use Rattle.std.specs.Prelude.{flat_map}
use Rattle.std.proofs.lemmas.List.{append-nil}
use Rattle.rare_sexpr.specs.Written.{IsCut}

front_take : (a b : List ℕ) (n : ℕ) → (m : ℕ) × (take n a ≡ take m (a ++ b))
front_take [] b zero = (0, refl)
front_take [] b (suc n) = (0, refl)
front_take (x ∷ a) b zero = (0, refl)
front_take (x ∷ a) b (suc n) = let h = front_take a b n in (suc h.0, ap (λ xs. x ∷ xs) h.1)

-- the front of a text is the front of a longer one
pub cut_front : (old a b new : List ℕ) → IsCut old a new → IsCut old (a ++ b) new
cut_front old a b new h = let t = front_take a b h.0 in (t.0, h.1 ∙ ap (λ x. old ++ x) t.1)

take_behind : (a b : List ℕ) (n : ℕ) → a ++ take n b ≡ take (length a + n) (a ++ b)
take_behind [] b n = let e : n ≡ 0 + n = omega arith in ap (λ k. take k b) e
take_behind (x ∷ a) b n = let e : suc (length a + n) ≡ length (x ∷ a) + n = omega arith in ap (λ xs. x ∷ xs) (take_behind a b n) ∙ ap (λ k. take k (x ∷ (a ++ b))) e

-- the front of what comes behind a text
pub cut_behind : (old a b mid new : List ℕ) → mid ≡ old ++ a → IsCut mid b new → IsCut old (a ++ b) new
cut_behind old a b mid new is h = (length a + h.0, h.1 ∙ ap (λ x. x ++ take h.0 b) is ∙ append_assoc old a (take h.0 b) ∙ ap (λ x. old ++ x) (take_behind a b h.0))

-- all of a text, and nothing of what comes behind
pub cut_here : (old a b new : List ℕ) → new ≡ old ++ a → IsCut old (a ++ b) new
cut_here old a b new is = cut_behind old a b new new is (0, sym (append-nil new))

pub cut_nothing : (old a new : List ℕ) → new ≡ old → IsCut old a new
cut_nothing old a new is = (0, is ∙ sym (append-nil old))

-- whatever the answer
pub in_any : {A E : Type 0} (r : Result A E) (P : Type 0) → P → OnErr r P
in_any (Ok x) P h = tt
in_any (Err e) P h = h

pub on_err : {A E : Type 0} (r : Result A E) (P Q : Type 0) → OnErr r P → (P → Q) → OnErr r Q
on_err (Ok x) P Q h f = tt
on_err (Err e) P Q h f = f h

-- the text of an item is cut, behind those of the items before
pub cut_item : {X : Type 0} (f : X → List ℕ) (xs : List X) (i : ℕ) (d : X) (old mid new : List ℕ) → i < length xs → mid ≡ old ++ flat_map f (take i xs) → IsCut mid (f (get_or xs i d)) new → IsCut old (flat_map f xs) new
cut_item f [] i d old mid new lt is h = absurd (omega (arith, lt))
cut_item f (x ∷ xs) zero d old mid new lt is h = let same : mid ≡ old = is ∙ append-nil old in subst (λ (o : List ℕ). IsCut o (f x ++ flat_map f xs) new) same (cut_front mid (f x) (flat_map f xs) new h)
cut_item f (x ∷ xs) (suc i) d old mid new lt is h =
    cut_behind old (f x) (flat_map f xs) (old ++ f x) new refl
    (cut_item f xs i d (old ++ f x) mid new (omega arith) (is ∙ sym (append_assoc old (f x) (flat_map f (take i xs)))) h)

take_all : {X : Type 0} (xs : List X) (i : ℕ) → length xs ≤ i → take i xs ≡ xs
take_all [] zero le = refl
take_all [] (suc i) le = refl
take_all (x ∷ xs) zero le = absurd (omega (arith, le))
take_all (x ∷ xs) (suc i) le = ap (λ ys. x ∷ ys) (take_all xs i (omega arith))

-- at the end of a loop over items all texts were written
pub through : {X : Type 0} (f : X → List ℕ) (old mid : List ℕ) (xs : List X) (i : ℕ) → length xs ≤ i → mid ≡ old ++ flat_map f (take i xs) → mid ≡ old ++ flat_map f xs
through f old mid xs i le is = is ∙ ap (λ ys. old ++ flat_map f ys) (take_all xs i le)
