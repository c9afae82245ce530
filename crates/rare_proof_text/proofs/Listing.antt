-- Lists of ids, one symbol after the other.
use Rattle.std.proofs.Common.{◌≡◌, ℕ, zero, suc, ◌+◌, ◌≤◌, true, false, List, [], ◌∷◌, ◌++◌, map, take, drop, length, slice_get, Some, Ok, refl, ap, sym, ◌∙◌, arith, if◌then◌else◌}
use Rattle.std.proofs.lemmas.List.{map-append}
use Rattle.std.proofs.lemmas.Option.{none-some, same_Some}
use Rattle.rare_base.specs.declared.answers.Reason.TheVariants as reason
use Rattle.rare_sexpr.specs.declared.tree.Sexpr.{Sexpr}
use Rattle.rare_sexpr.specs.Tree.{kind_of, text_of}
use Rattle.rare_scope.proofs.Listing.{drop_at, drop_all}
use Rattle.rare_scope.specs.Reading.{Read, refused, go_on, is_symbol_kind}
use Rattle.rare_proof_text.specs.ProofText.{ids_from}

module _ {A : Type 0} where
  take_suc : (xs : List A) (k : ℕ) (y : A) → slice_get xs k ≡ Some y → take (suc k) xs ≡ take k xs ++ y ∷ []
  take_suc [] k y is = absurd (none-some y is)
  take_suc (x ∷ xs) zero y is = ap (λ z. z ∷ []) (same_Some x y is)
  take_suc (x ∷ xs) (suc k) y is = ap (λ zs. x ∷ zs) (take_suc xs k y is)

  pub take_one : (xs : List A) (k : ℕ) (y : A) → slice_get xs k ≡ Some y → take (k + 1) xs ≡ take k xs ++ y ∷ []
  take_one xs k y is = let n : k + 1 ≡ suc k = omega arith in ap (λ j. take j xs) n ∙ take_suc xs k y is

-- the ids of the first k, and those that are left
abbrev pub ids_on : List Sexpr → ℕ → Read (List (List ℕ))
ids_on xs k = ids_from (map text_of (take k xs)) (drop k xs)

pub ids_more : (xs : List Sexpr) (k : ℕ) (x : Sexpr) → slice_get xs k ≡ Some x → is_symbol_kind (kind_of x) ≡ true → ids_on xs k ≡ ids_on xs (k + 1)
ids_more xs k x at is =
    ap (ids_from (map text_of (take k xs))) (drop_at xs k x at)
    ∙ ap (λ b. go_on (if b then Ok (text_of x) else refused x reason.BadForm) (λ id. ids_from (map text_of (take k xs) ++ id ∷ []) (drop (k + 1) xs))) is
    ∙ ap (λ ids. ids_from ids (drop (k + 1) xs)) (sym (map-append text_of (take k xs) (x ∷ [])) ∙ ap (map text_of) (sym (take_one xs k x at)))

pub ids_stop : (xs : List Sexpr) (k : ℕ) (x : Sexpr) → slice_get xs k ≡ Some x → is_symbol_kind (kind_of x) ≡ false → ids_on xs k ≡ refused x reason.BadForm
ids_stop xs k x at is =
    ap (ids_from (map text_of (take k xs))) (drop_at xs k x at)
    ∙ ap (λ b. go_on (if b then Ok (text_of x) else refused x reason.BadForm) (λ id. ids_from (map text_of (take k xs) ++ id ∷ []) (drop (k + 1) xs))) is

pub ids_whole : (xs : List Sexpr) (k : ℕ) → length xs ≤ k → ids_on xs k ≡ Ok (map text_of xs)
ids_whole xs k le = λ i. ids_from (map text_of (all_taken xs k le i)) (drop_all xs k le i)
  where
    all_taken : (ys : List Sexpr) (j : ℕ) → length ys ≤ j → take j ys ≡ ys
    all_taken [] zero le = refl
    all_taken [] (suc j) le = refl
    all_taken (y ∷ ys) zero le = absurd (omega (arith, le))
    all_taken (y ∷ ys) (suc j) le = ap (λ zs. y ∷ zs) (all_taken ys j (omega (arith, le)))
