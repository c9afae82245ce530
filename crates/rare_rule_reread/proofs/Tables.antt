-- What holds of each word of a table and what stands beside it holds of an entry and the word that it is found by.
use Rattle.std.proofs.Common.{◌≡◌, ℕ, Bool, true, false, ◌&&◌, List, [], ◌∷◌, bytes_eq, Some, refl, sym, subst, if◌then◌else◌}
use Rattle.std.proofs.lemmas.Option.{none-some, same_Some}
use Rattle.std.proofs.lemmas.Slice.Eq.{bytes_eq-Decides}
use Rattle.rare_sort.proofs.NeedsLemmas.{both}
use Rattle.rare_scope.specs.Entries.{entry}

module _ {A : Type 0} where
  abbrev pub EachPair : (List ℕ → A → Type 0) → List (List ℕ × A) → Type 0
  EachPair P [] = Unit {0}
  EachPair P (w ∷ ws) = P w.0 w.1 × EachPair P ws

  pub entry_pair : (P : List ℕ → A → Type 0) (ws : List (List ℕ × A)) (text : List ℕ) (x : A) → EachPair P ws → entry ws text ≡ Some x → P text x
  entry_pair P [] text x each is = absurd (none-some x is)
  entry_pair P (w ∷ ws) text x each is = go (bytes_eq text w.0) refl is (entry_pair P ws text x each.1)
    where
      go : (b : Bool) → bytes_eq text w.0 ≡ b → (if b then Some w.1 else entry ws text) ≡ Some x → (entry ws text ≡ Some x → P text x) → P text x
      go true same e more = subst (λ (t : List ℕ). P t x) (sym ((bytes_eq-Decides text w.0).0 same)) (subst (P w.0) (same_Some w.1 x e) each.0)
      go false same e more = more e

  abbrev pub all_pairs : (List ℕ → A → Bool) → List (List ℕ × A) → Bool
  all_pairs test [] = true
  all_pairs test (w ∷ ws) = test w.0 w.1 && all_pairs test ws

  each_of_all : (test : List ℕ → A → Bool) (ws : List (List ℕ × A)) → all_pairs test ws ≡ true → EachPair (λ t x. test t x ≡ true) ws
  each_of_all test [] is = tt
  each_of_all test (w ∷ ws) is = let x = both _ _ is in (x.0, each_of_all test ws x.1)

  -- the same by a test
  pub entry_passes : (test : List ℕ → A → Bool) (ws : List (List ℕ × A)) (text : List ℕ) (x : A) → all_pairs test ws ≡ true → entry ws text ≡ Some x → test text x ≡ true
  entry_passes test ws text x all is = entry_pair (λ t x. test t x ≡ true) ws text x (each_of_all test ws all) is
