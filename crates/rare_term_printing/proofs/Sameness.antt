-- The test of sameness of operators.
use Rattle.std.proofs.Common.{◌≡◌, Bool, true, false, IsTrue, ◌↔◌, refl}
use Rattle.rare_sort.specs.Sameness.{head_eq}
use Rattle.rare_sort.specs.declared.head.Head.{Head}
use Rattle.rare_sort.proofs.SamenessLemmas.{is_decided}

-- what is true where two operators are one is the test
pub same_test : (a b : Head) (r : Bool) → IsTrue r ↔ (a ≡ b) → r ≡ head_eq a b
same_test a b r h = go r (head_eq a b) refl h
  where
    go : (r t : Bool) → head_eq a b ≡ t → IsTrue r ↔ (a ≡ b) → r ≡ t
    go true true is h = refl
    go false false is h = refl
    go true false is h = let same : a ≡ b = h.0 refl in let yes : head_eq a b ≡ true = (is_decided.operators a b).1 same in absurd cc
    go false true is h = let same : a ≡ b = (is_decided.operators a b).0 is in let no : IsTrue false = h.1 same in absurd cc
