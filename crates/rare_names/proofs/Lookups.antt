-- Look-ups by a name, in the vectors that a table holds, and names that differ.
use Rattle.std.proofs.Common.{◌≡◌, ℕ, Bool, true, false, ◌||◌, List, ◌∷◌, [], ◌++◌, map, length, nat_lt, Some, None, Result, Ok, Err, IfOk, OnErr, refl, sym, ap, ◌∙◌, subst, position, cond, bytes_eq}
use Rattle.std.specs.List.{list_any, position_or_len}
use Rattle.std.proofs.lemmas.List.{length-map}
use Rattle.rare_names.specs.inner.Names.{AllDiffer}

module _ {A B : Type 0} (f : A → B) (p : B → Bool) where
  prefix-map : (xs : List A) → position_or_len p (map f xs) ≡ position_or_len (λ x. p (f x)) xs
  prefix-map [] = refl
  prefix-map (x ∷ xs) = rw (prefix-map xs) refl

  pub position-map : (xs : List A) → position p (map f xs) ≡ position (λ x. p (f x)) xs
  position-map xs =
      ap (λ n. cond (nat_lt n (length (map f xs))) (Some n) None) (prefix-map xs)
      ∙ ap (λ n. cond (nat_lt (position_or_len (λ x. p (f x)) xs) n) (Some (position_or_len (λ x. p (f x)) xs)) None) (length-map xs f)

  pub any-map : (xs : List A) → list_any p (map f xs) ≡ list_any (λ x. p (f x)) xs
  any-map [] = refl
  any-map (x ∷ xs) = rw (any-map xs) refl

either_false : (a b : Bool) → (a || b) ≡ false → (a ≡ false) × (b ≡ false)
either_false true b e = absurd cc
either_false false b e = (refl, e)

both_false : (a b : Bool) → a ≡ false → b ≡ false → (a || b) ≡ false
both_false true b e f = e
both_false false b e f = f

any_behind : (p : List ℕ → Bool) (names : List (List ℕ)) (name : List ℕ) → list_any p names ≡ false → p name ≡ false → list_any p (names ++ name ∷ []) ≡ false
any_behind p [] name none other = both_false (p name) false other refl
any_behind p (n ∷ ns) name none other =
    let parts = either_false (p n) (list_any p ns) none in
    both_false (p n) (list_any p (ns ++ name ∷ [])) parts.0 (any_behind p ns name parts.1 other)

-- one name more, that is none of those before
pub differ-append : (names : List (List ℕ)) (name : List ℕ) → AllDiffer names → list_any (bytes_eq name) names ≡ false → AllDiffer (names ++ name ∷ [])
differ-append [] name h none = (refl, tt)
differ-append (n ∷ ns) name h none =
    let parts = either_false (bytes_eq name n) (list_any (bytes_eq name) ns) none in
    (any_behind (λ other. bytes_eq other n) ns name h.0 parts.0, differ-append ns name h.1 parts.1)

-- what holds of the keys before, and with one more, holds after an insertion
pub holds_after : {X E : Type 0} (result : Result Bool E) (old new grown : List X) (P : List X → Type 0) → IfOk result (λ added. new ≡ grown) → OnErr result (new ≡ old) → P old → P grown → P new
holds_after (Ok added) old new grown P ok err before with_it = subst P (sym ok) with_it
holds_after (Err e) old new grown P ok err before with_it = subst P (sym err) before
