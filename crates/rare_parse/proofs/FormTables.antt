-- What holds of each row of a table of words holds of an entry.
use Rattle.std.proofs.Common.{◌≡◌, ℕ, Bool, true, false, ◌&&◌, List, [], ◌∷◌, bytes_eq, Some, subst, if◌then◌else◌}
use Rattle.std.proofs.lemmas.Option.{none-some, same_Some}
use Rattle.rare_sort.proofs.NeedsLemmas.{both}
use Rattle.rare_scope.specs.Entries.{entry}

module _ {A : Type 0} where
  -- what stands beside each word
  abbrev pub EachRow : (A → Type 0) → List (List ℕ × A) → Type 0
  EachRow P [] = Unit {0}
  EachRow P (w ∷ ws) = P w.1 × EachRow P ws

  pub entry_each : (P : A → Type 0) (ws : List (List ℕ × A)) (text : List ℕ) (x : A) → EachRow P ws → entry ws text ≡ Some x → P x
  entry_each P [] text x each is = absurd (none-some x is)
  entry_each P (w ∷ ws) text x each is = go (bytes_eq text w.0) is (entry_each P ws text x each.1)
    where
      go : (b : Bool) → (if b then Some w.1 else entry ws text) ≡ Some x → (entry ws text ≡ Some x → P x) → P x
      go true e more = subst P (same_Some w.1 x e) each.0
      go false e more = more e

  abbrev pub all_rows : (A → Bool) → List (List ℕ × A) → Bool
  all_rows test [] = true
  all_rows test (w ∷ ws) = test w.1 && all_rows test ws

  each_of_all : (test : A → Bool) (ws : List (List ℕ × A)) → all_rows test ws ≡ true → EachRow (λ x. test x ≡ true) ws
  each_of_all test [] is = tt
  each_of_all test (w ∷ ws) is = let x = both _ _ is in (x.0, each_of_all test ws x.1)

  pub entry_all : (test : A → Bool) (ws : List (List ℕ × A)) (text : List ℕ) (x : A) → all_rows test ws ≡ true → entry ws text ≡ Some x → test x ≡ true
  entry_all test ws text x all is = entry_each (λ x. test x ≡ true) ws text x (each_of_all test ws all) is
