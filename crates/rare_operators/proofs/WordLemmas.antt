-- What the words of operators stand for.
use Rattle.std.proofs.Common.{◌≡◌, ℕ, List, [], ◌∷◌, Bool, true, false, Some, ◌&&◌, bytes_eq, refl, ap, sym, ◌∙◌, if◌then◌else◌}
use Rattle.std.proofs.lemmas.Option.{none-some, same_Some}
use Rattle.rare_linear.specs.Linears.{LinearExpression}
use Rattle.rare_sort.specs.DeclaredSorts.{IsSymbol}
use Rattle.rare_sort.specs.Families.{family}
use Rattle.rare_sort.specs.declared.family.Family.{Family}
use Rattle.rare_sort.specs.declared.family.Family.TheVariants as kind
use Rattle.rare_sort.specs.declared.head.Head.{Head}
use Rattle.rare_sort.specs.declared.head.Head.TheVariants as head
use Rattle.rare_term.specs.Literals.{IsGiven}
use Rattle.rare_scope.specs.Entries.{entry}
use Rattle.rare_operators.specs.declared.words.WordUse.{WordUse}
use Rattle.rare_operators.specs.declared.words.WordUse.TheVariants.{Constant, Difference, Plain}
use Rattle.rare_operators.specs.declared.words.IndexedWord.{IndexedWord}
use Rattle.rare_operators.specs.OperatorWords.{operator_words, operator_of_word, indexed_words}
use Rattle.rare_operators.specs.Plain.{IsPlain, IsPlainUse}

abbrev is_plain_family : Family → Bool
is_plain_family (kind.Symbol k) = false
is_plain_family kind.OfRules = false
is_plain_family kind.Bits = false
is_plain_family f = true

plain_symbol : (n : ℕ) (f : Family) → is_plain_family f ≡ true → IsSymbol n f
plain_symbol n (kind.Symbol k) is = absurd cc
plain_symbol n kind.OfRules is = absurd cc
plain_symbol n kind.Bits is = absurd cc
plain_symbol n f is = tt

plain_bits : (h : Head) (ix : List LinearExpression) → is_plain_family (family h) ≡ true → IsGiven h ix
plain_bits (head.Bits v) ix is = absurd cc
plain_bits h ix is = tt

plain_of : (h : Head) → is_plain_family (family h) ≡ true → IsPlain h
plain_of h is = record { symbol = λ n. plain_symbol n (family h) is; bits = λ ix. plain_bits h ix is }

abbrev is_plain_use : WordUse → Bool
is_plain_use (Constant h) = is_plain_family (family h)
is_plain_use (Plain h) = is_plain_family (family h)
is_plain_use Difference = true

plain_use : (u : WordUse) → is_plain_use u ≡ true → IsPlainUse u
plain_use (Constant h) is = plain_of h is
plain_use (Plain h) is = plain_of h is
plain_use Difference is = tt

abbrev all_rows : {A : Type 0} → (A → Bool) → List (List ℕ × A) → Bool
all_rows test [] = true
all_rows test (w ∷ ws) = test w.1 && all_rows test ws

first_and : (a b : Bool) → (a && b) ≡ true → a ≡ true
first_and true b is = refl
first_and false b is = absurd cc

second_and : (a b : Bool) → (a && b) ≡ true → b ≡ true
second_and true b is = is
second_and false b is = absurd cc

-- what holds of each row of a table holds of an entry
entry_all : {A : Type 0} (test : A → Bool) (ws : List (List ℕ × A)) (text : List ℕ) (x : A) → all_rows test ws ≡ true → entry ws text ≡ Some x → test x ≡ true
entry_all test [] text x all is = absurd (none-some x is)
entry_all test (w ∷ ws) text x all is = go (bytes_eq text w.0) is (λ e. entry_all test ws text x (second_and (test w.1) (all_rows test ws) all) e)
  where
    go : (b : Bool) → (if b then Some w.1 else entry ws text) ≡ Some x → (entry ws text ≡ Some x → test x ≡ true) → test x ≡ true
    go true e more = ap test (sym (same_Some w.1 x e)) ∙ first_and (test w.1) (all_rows test ws) all
    go false e more = more e

pub word_plain : (text : List ℕ) (u : WordUse) → operator_of_word text ≡ Some u → IsPlainUse u
word_plain text u is = plain_use u (entry_all is_plain_use operator_words text u refl is)

pub indexed_plain : (text : List ℕ) (o : IndexedWord) → entry indexed_words text ≡ Some o → IsPlain o.head
indexed_plain text o is = plain_of o.head (entry_all (λ w. is_plain_family (family w.head)) indexed_words text o refl is)
