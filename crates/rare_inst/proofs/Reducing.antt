-- A literal that is kept reduced has the sort of the literal, and means what it means.
use Rattle.std.proofs.Common.{◌≡◌, ℕ, ◌%◌, ◌^◌, ◌<◌, ℤ, pos, negsuc, List, [], ◌∷◌, map, refl, sym, ap, ◌∙◌, arith, Option, Some, None, if◌then◌else◌}
use Rattle.std.specs.Option.{option_map, option_and_then}
use Rattle.std.proofs.lemmas.Nat.{pow_pos}
use Rattle.std.proofs.Math.IntN.{+ℤ_idr}
use Rattle.std.proofs.Math.Nat.{mod-mod, mod-eq_of_lt}
use Rattle.std.specs.Prelude.{◌+ℤ◌}
use Rattle.rare_bits.specs.Bits.{modulo}
use Rattle.rare_linear.specs.Linears.{Part, LinearExpression, linear_value, parts_value}
use Rattle.rare_sort.specs.Families.{family}
use Rattle.rare_sort.specs.SortRules.{sort_rule, number_in, no_names}
use Rattle.rare_sort.specs.Sorting.{Place, One, Many, Wide, Sorting, Scope, place_sort, all_of, least_count, places, place_rule, with_rule, sorted_here, sorting, HasSort}
use Rattle.rare_sort.specs.Trees.{node}
use Rattle.rare_sort.specs.declared.head.Head.{Head}
use Rattle.rare_sort.specs.declared.head.Head.TheVariants as head
use Rattle.rare_sort.specs.declared.sort.Sort.{Sort}
use Rattle.rare_sort.specs.declared.tree.Tree.{Tree}
use Rattle.rare_sort.proofs.SortingLemmas.{sorting-node}
use Rattle.rare_meaning.specs.ClosedSorts.{to_nat}
use Rattle.rare_meaning.specs.Meaning.{meaning}
use Rattle.rare_meaning.specs.Operators.{bits}
use Rattle.rare_meaning.specs.Settings.{Setting, one}
use Rattle.rare_meaning.proofs.MeaningLemmas.{meaning-node}
use Rattle.rare_term.specs.Literals.{application, given_bits, given_literal, natural_of, operator, reduced, reduced_value}
use Rattle.rare_term.specs.declared.literals.Operator.{Operator}

number_cases : (P : Option ℤ → Type 0) (w : LinearExpression) → ((n : ℤ) → number_in w ≡ Some n → P (Some n)) → (number_in w ≡ None → P None) → P (number_in w)
number_cases P w some none = go (number_in w) refl
  where
    go : (o : Option ℤ) → number_in w ≡ o → P o
    go (Some n) e = some n e
    go None e = none e

-- what is kept is either as it stands, or a literal whose value is reduced
pub reduced_cases : (P : Head → List LinearExpression → Operator → Type 0) → ((h : Head) (ix : List LinearExpression) → P h ix (operator h ix)) →
    ((v : ℕ) (w : LinearExpression) (n : ℤ) → number_in w ≡ Some n → P (head.Bits v) (w ∷ []) (operator (head.Bits (v % 2 ^ natural_of n)) (w ∷ []))) →
    ((v w : LinearExpression) (m n : ℤ) → number_in v ≡ Some m → number_in w ≡ Some n → P head.Literal (v ∷ w ∷ []) (operator (head.Bits (reduced_value m n)) (w ∷ []))) →
    (h : Head) (ix : List LinearExpression) → P h ix (reduced h ix)
unfolding reduced
reduced_cases P a b c (head.Bits v) (w ∷ []) =
    number_cases (λ o. P (head.Bits v) (w ∷ []) (given_bits v w o)) w (λ n e. b v w n e) (λ e. a (head.Bits v) (w ∷ []))
reduced_cases P a b c head.Literal (v ∷ w ∷ []) =
    number_cases (λ o. P head.Literal (v ∷ w ∷ []) (given_literal v w o (number_in w))) v
    (λ m e. number_cases (λ o. P head.Literal (v ∷ w ∷ []) (given_literal v w (Some m) o)) w (λ n f. c v w m n e f) (λ f. a head.Literal (v ∷ w ∷ [])))
    (λ e. a head.Literal (v ∷ w ∷ []))
reduced_cases P a b c h ix = a h ix

-- ---- sorts

module _ (Q : LinearExpression → Type 0) (c : Scope) where
  -- operators with one rule of sorts may be put for one another
  same_sorting : (g h : Head) (ix jx : List LinearExpression) → ((xs : List Sorting) → sorted_here c g ix xs ≡ sorted_here c h jx xs) → (ts : List Tree) (s : Sort) →
      HasSort Q c (node g ix ts) s → HasSort Q c (node h jx ts) s
  same_sorting g h ix jx same ts s k = record {
    alike = k.alike;
    needs = k.needs;
    found =
        sorting-node c h jx ts
        ∙ (λ i. option_and_then (λ xs. sym (same xs) i) (all_of (map (sorting c) ts)))
        ∙ sym (sorting-node c g ix ts)
        ∙ k.found;
    same = k.same;
    met = k.met;
  }

  like_literal : (n : ℕ) (p : Place) → place_sort head.Literal p ≡ place_sort (head.Bits n) p
  like_literal n (One t) = refl
  like_literal n (Many t k) = refl
  like_literal n (Wide k) = refl

  like_literals : (n : ℕ) (ps : List Place) → map (place_sort head.Literal) ps ≡ map (place_sort (head.Bits n)) ps
  like_literals n [] = refl
  like_literals n (p ∷ ps) = λ i. like_literal n p i ∷ like_literals n ps i

  like_rule : (n least : ℕ) (v w : LinearExpression) (o : Option (List Sort)) →
      option_and_then (sort_rule c.symbols least (family head.Literal) (v ∷ w ∷ [])) o ≡ option_and_then (sort_rule c.symbols least (family (head.Bits n)) (w ∷ [])) o
  like_rule n least v w None = refl
  like_rule n least v w (Some []) = refl
  like_rule n least v w (Some (s ∷ ss)) = refl

  literal_rule : (n : ℕ) (v w : LinearExpression) (ps : List Place) → place_rule c.symbols head.Literal (v ∷ w ∷ []) ps ≡ place_rule c.symbols (head.Bits n) (w ∷ []) ps
  literal_rule n v w ps =
      ap (λ os. option_and_then (sort_rule c.symbols (least_count ps) (family head.Literal) (v ∷ w ∷ [])) (all_of os)) (like_literals n ps)
      ∙ like_rule n (least_count ps) v w (all_of (map (place_sort (head.Bits n)) ps))

  like_bits : (u n : ℕ) (p : Place) → place_sort (head.Bits u) p ≡ place_sort (head.Bits n) p
  like_bits u n (One t) = refl
  like_bits u n (Many t k) = refl
  like_bits u n (Wide k) = refl

  like_all_bits : (u n : ℕ) (ps : List Place) → map (place_sort (head.Bits u)) ps ≡ map (place_sort (head.Bits n)) ps
  like_all_bits u n [] = refl
  like_all_bits u n (p ∷ ps) = λ i. like_bits u n p i ∷ like_all_bits u n ps i

  bits_rule : (u n : ℕ) (w : LinearExpression) (ps : List Place) → place_rule c.symbols (head.Bits u) (w ∷ []) ps ≡ place_rule c.symbols (head.Bits n) (w ∷ []) ps
  bits_rule u n w ps = ap (λ os. option_and_then (sort_rule c.symbols (least_count ps) (family (head.Bits n)) (w ∷ [])) (all_of os)) (like_all_bits u n ps)

  pub sorted_application : (h : Head) (ix : List LinearExpression) (ts : List Tree) (s : Sort) → HasSort Q c (node h ix ts) s → HasSort Q c (application h ix ts) s
  sorted_application h ix ts s =
      reduced_cases (λ h ix o. HasSort Q c (node h ix ts) s → HasSort Q c (node o.head o.indices ts) s) (λ h ix k. k)
      (λ v w n e. same_sorting (head.Bits v) (head.Bits (v % 2 ^ natural_of n)) (w ∷ []) (w ∷ []) (λ xs. ap (option_map (with_rule c xs)) (bits_rule v (v % 2 ^ natural_of n) w (places xs))) ts s)
      (λ v w m n e f. same_sorting head.Literal (head.Bits (reduced_value m n)) (v ∷ w ∷ []) (w ∷ []) (λ xs. ap (option_map (with_rule c xs)) (literal_rule (reduced_value m n) v w (places xs))) ts s)
      h ix

-- ---- meaning

modulo_below : (z : ℤ) (m : ℕ) → 0 < m → modulo z m < m
modulo_below (pos a) m h = let p : 0 < m = h in omega arith
modulo_below (negsuc a) m h = omega arith

natural : (z : ℤ) → natural_of z ≡ to_nat z
natural (pos n) = refl
natural (negsuc n) = refl

reduced_is : (m n : ℤ) → reduced_value m n ≡ modulo m (2 ^ to_nat n)
reduced_is (pos a) (pos n) = refl
reduced_is (pos a) (negsuc n) = refl
reduced_is (negsuc a) (pos n) = refl
reduced_is (negsuc a) (negsuc n) = refl

-- an expression that is a number has that value
pub number_value : (at : ℕ → ℤ) (l : LinearExpression) (n : ℤ) → number_in l ≡ Some n → linear_value at l ≡ n
number_value at l n h = go l.parts h
  where
    go : (ps : List Part) → (if no_names ps then (Some l.constant) else None) ≡ Some n → l.constant +ℤ parts_value at ps ≡ n
    go [] h = let same : l.constant ≡ n = cc in +ℤ_idr l.constant ∙ same
    go (p ∷ ps) h = cc

module _ (e : Setting) where
  bits_mean : (v : ℕ) (w : LinearExpression) (n : ℤ) (ts : List Tree) → number_in w ≡ Some n →
      meaning e (node (head.Bits (v % 2 ^ natural_of n)) (w ∷ []) ts) ≡ meaning e (node (head.Bits v) (w ∷ []) ts)
  bits_mean v w n ts f =
      let k = to_nat (linear_value e.number w) in
      let same : natural_of n ≡ k = natural n ∙ ap to_nat (sym (number_value e.number w n f)) in
      let again : v % 2 ^ natural_of n % 2 ^ k ≡ v % 2 ^ k = ap (λ j. v % 2 ^ j % 2 ^ k) same ∙ mod-mod v (2 ^ k) in
      meaning-node e (head.Bits (v % 2 ^ natural_of n)) (w ∷ []) ts
      ∙ ap (λ a. one (bits k a)) again
      ∙ sym (meaning-node e (head.Bits v) (w ∷ []) ts)

  literal_means : (v w : LinearExpression) (m n : ℤ) (ts : List Tree) → number_in v ≡ Some m → number_in w ≡ Some n →
      meaning e (node (head.Bits (reduced_value m n)) (w ∷ []) ts) ≡ meaning e (node head.Literal (v ∷ w ∷ []) ts)
  literal_means v w m n ts f g =
      let k = to_nat (linear_value e.number w) in
      let width : to_nat n ≡ k = ap to_nat (sym (number_value e.number w n g)) in
      let value : modulo m (2 ^ to_nat n) ≡ modulo (linear_value e.number v) (2 ^ k) = λ i. modulo (sym (number_value e.number v m f) i) (2 ^ width i) in
      let below = mod-eq_of_lt (modulo_below (linear_value e.number v) (2 ^ k) (pow_pos k)) in
      meaning-node e (head.Bits (reduced_value m n)) (w ∷ []) ts
      ∙ ap (λ a. one (bits k (a % 2 ^ k))) (reduced_is m n ∙ value)
      ∙ ap (λ a. one (bits k a)) below
      ∙ sym (meaning-node e head.Literal (v ∷ w ∷ []) ts)

  pub meaning-application : (h : Head) (ix : List LinearExpression) (ts : List Tree) → meaning e (application h ix ts) ≡ meaning e (node h ix ts)
  meaning-application h ix ts =
      reduced_cases (λ h ix o. meaning e (node o.head o.indices ts) ≡ meaning e (node h ix ts)) (λ h ix. refl)
      (λ v w n f. bits_mean v w n ts f) (λ v w m n f g. literal_means v w m n ts f g) h ix
