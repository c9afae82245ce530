-- Lists by their items.
use Rattle.std.proofs.Common.{◌≡◌, ℕ, zero, suc, ◌+◌, ◌++◌, Bool, cond, nat_lt, take, drop, map, length, position, List, [], ◌∷◌, slice_get, Some, None, refl, ap, ◌∙◌, arith}
use Rattle.std.specs.List.{list_any, position_or_len}
use Rattle.std.proofs.lemmas.List.{length-map}
use Rattle.std.proofs.lemmas.Option.{none-some, same_Some}

module _ {A : Type 0} where
  -- a list at a place that it has
  pub split_at : (xs : List A) (k : ℕ) (y : A) → slice_get xs k ≡ Some y → xs ≡ take k xs ++ y ∷ drop (suc k) xs
  split_at [] k y is = absurd (none-some y is)
  split_at (x ∷ xs) zero y is = ap (λ z. z ∷ xs) (same_Some x y is)
  split_at (x ∷ xs) (suc k) y is = ap (λ zs. x ∷ zs) (split_at xs k y is)

  take_suc : (xs : List A) (k : ℕ) (y : A) → slice_get xs k ≡ Some y → take (suc k) xs ≡ take k xs ++ y ∷ []
  take_suc [] k y is = absurd (none-some y is)
  take_suc (x ∷ xs) zero y is = ap (λ z. z ∷ []) (same_Some x y is)
  take_suc (x ∷ xs) (suc k) y is = ap (λ zs. x ∷ zs) (take_suc xs k y is)

  pub take_one : (xs : List A) (k : ℕ) (y : A) → slice_get xs k ≡ Some y → take (k + 1) xs ≡ take k xs ++ y ∷ []
  take_one xs k y is = let n : k + 1 ≡ suc k = omega arith in ap (λ j. take j xs) n ∙ take_suc xs k y is

module _ {A B : Type 0} (f : A → B) (p : B → Bool) where
  front_of_map : (xs : List A) → position_or_len p (map f xs) ≡ position_or_len (λ x. p (f x)) xs
  front_of_map [] = refl
  front_of_map (x ∷ xs) = rw (front_of_map xs) refl

  pub position_of_map : (xs : List A) → position p (map f xs) ≡ position (λ x. p (f x)) xs
  position_of_map xs =
      ap (λ n. cond (nat_lt n (length (map f xs))) (Some n) None) (front_of_map xs)
      ∙ ap (λ n. cond (nat_lt (position_or_len (λ x. p (f x)) xs) n) (Some (position_or_len (λ x. p (f x)) xs)) None) (length-map xs f)

  pub any_of_map : (xs : List A) → list_any p (map f xs) ≡ list_any (λ x. p (f x)) xs
  any_of_map [] = refl
  any_of_map (x ∷ xs) = rw (any_of_map xs) refl
