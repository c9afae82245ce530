-- Lists by their items.
use Rattle.std.proofs.Common.{◌≡◌, ℕ, zero, suc, ◌+◌, ◌<◌, ◌++◌, take, drop, List, [], ◌∷◌, length, slice_get, get_or, Option, Some, None, refl, ap, sym, ◌∙◌, arith}
use Rattle.std.specs.Option.{option_map}
use Rattle.std.proofs.lemmas.Option.{none-some, same_Some}
use Rattle.rare_sort.specs.Sorting.{all_of}

module _ {A : Type 0} where
  -- a list at a place that it has
  pub split_at : (xs : List A) (k : ℕ) (y : A) → slice_get xs k ≡ Some y → xs ≡ take k xs ++ y ∷ drop (suc k) xs
  split_at [] k y is = absurd (none-some y is)
  split_at (x ∷ xs) zero y is = ap (λ z. z ∷ xs) (same_Some x y is)
  split_at (x ∷ xs) (suc k) y is = ap (λ zs. x ∷ zs) (split_at xs k y is)

  take_suc : (xs : List A) (k : ℕ) (y : A) → slice_get xs k ≡ Some y → take (suc k) xs ≡ take k xs ++ y ∷ []
  take_suc [] k y is = absurd (none-some y is)
  take_suc (x ∷ xs) zero y is = ap (λ z. z ∷ []) (same_Some x y is)
  take_suc (x ∷ xs) (suc k) y is = ap (λ zs. x ∷ zs) (take_suc xs k y is)

  pub take_one : (xs : List A) (k : ℕ) (y : A) → slice_get xs k ≡ Some y → take (k + 1) xs ≡ take k xs ++ y ∷ []
  take_one xs k y is = let n : k + 1 ≡ suc k = omega arith in ap (λ j. take j xs) n ∙ take_suc xs k y is

  pub head_drop : (xs : List A) (k : ℕ) → k < length xs → (x : A) × (drop k xs ≡ x ∷ drop (k + 1) xs)
  head_drop xs k lt = let h = first xs k lt in let n : suc k ≡ k + 1 = omega arith in (h.0, h.1 ∙ ap (λ j. h.0 ∷ drop j xs) n)
    where
      first : (xs : List A) (k : ℕ) → k < length xs → (x : A) × (drop k xs ≡ x ∷ drop (suc k) xs)
      first [] k lt = absurd (omega (arith, lt))
      first (x ∷ xs) zero lt = (x, refl)
      first (x ∷ xs) (suc k) lt = first xs k (omega (arith, lt))

  -- an item that is there, by its place
  pub there : (xs : List A) (k : ℕ) (d x : A) → slice_get xs k ≡ Some x → (k < length xs) × (get_or xs k d ≡ x)
  there [] k d x is = absurd (none-some x is)
  there (y ∷ xs) zero d x is = (omega arith, same_Some y x is)
  there (y ∷ xs) (suc k) d x is = let r = there xs k d x is in (omega (arith, r.0), r.1)

  -- ---- all of some options

  some_first : (x : A) (os : List (Option A)) (ys : List A) → all_of (Some x ∷ os) ≡ Some ys → (zs : List A) × (all_of os ≡ Some zs) × (ys ≡ x ∷ zs)
  some_first x os ys e = by (all_of os) refl e
    where
      by : (o : Option (List A)) → all_of os ≡ o → option_map (λ xs. x ∷ xs) o ≡ Some ys → (zs : List A) × (all_of os ≡ Some zs) × (ys ≡ x ∷ zs)
      by None n e = absurd (none-some ys e)
      by (Some zs) n e = (zs, n, sym (same_Some (x ∷ zs) ys e))

  pub all_push : (os : List (Option A)) (x : A) (xs : List A) → all_of os ≡ Some xs → all_of (os ++ Some x ∷ []) ≡ Some (xs ++ x ∷ [])
  all_push [] x xs e = ap (λ ys. Some (ys ++ x ∷ [])) (same_Some [] xs e)
  all_push (None ∷ os) x xs e = absurd (none-some xs e)
  all_push (Some y ∷ os) x xs e =
      let f = some_first y os xs e in
      ap (option_map (λ ys. y ∷ ys)) (all_push os x f.0 f.1) ∙ ap (λ ys. Some (ys ++ x ∷ [])) (sym f.2)

  pub all_fail : (os more : List (Option A)) → all_of (os ++ None ∷ more) ≡ None
  all_fail [] more = refl
  all_fail (None ∷ os) more = refl
  all_fail (Some y ∷ os) more = ap (option_map (λ ys. y ∷ ys)) (all_fail os more)
