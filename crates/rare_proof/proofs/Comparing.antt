-- How terms by ids are told apart, and lists of equations.
use Rattle.std.proofs.Common.{◌≡◌, ℕ, zero, suc, ◌+◌, ◌<◌, ◌↔◌, Bool, true, false, ◌&&◌, nat_eq, IsTrue, List, [], ◌∷◌, ◌++◌, length, take, drop, get_or, slice_get, Some, refl, ap, sym, ◌∙◌, arith, if◌then◌else◌}
use Rattle.std.proofs.lemmas.Bool.{and_parts}
use Rattle.std.proofs.lemmas.Bool.Decides.{same_from_decides, Decides-eqb}
use Rattle.std.proofs.lemmas.Option.{none-some, same_Some, slice_get-get_or}
use Rattle.std.proofs.lemmas.List.{length-take}
use Rattle.rare_sort.specs.Trees.{node, head_of, indices_of, args_of}
use Rattle.rare_sort.specs.declared.head.Head.{Head}
use Rattle.rare_sort.specs.declared.head.Head.TheVariants.{True}
use Rattle.rare_sort.specs.declared.tree.Tree.{Tree}
use Rattle.rare_sort.specs.Ids.{tree_at, IsOneToOne}
use Rattle.rare_sort.specs.Sameness.{tree_eq, head_eq, linear_eq, linears_eq}
use Rattle.rare_linear.specs.Linears.{LinearExpression}
use Rattle.rare_term.specs.inner.TreeLaws.{node_of, head_node, indices_node, args_node}
use Rattle.rare_proof.specs.declared.sides.Sides.{Sides}
use Rattle.rare_proof.specs.Steps.{equation, equation_eq, equations_eq, differing}
use Rattle.rare_proof.specs.Sided.{equation_of, equations_of}
use Rattle.rare_proof.specs.inner.Compared.{unless_same}
use Rattle.rare_proof.proofs.Listing.{take_one}
use Rattle.rare_sort.proofs.SamenessLemmas.{tree_eq-Decides, head_eq-Decides, linear_eq-Decides}

pub heads_same : (a b : Head) (r : Bool) → IsTrue r ↔ (a ≡ b) → r ≡ head_eq a b
heads_same a b r e = same_from_decides r (head_eq a b) (e.0, e.1) (head_eq-Decides a b)

pub indices_same : (a b : LinearExpression) (r : Bool) → IsTrue r ↔ (a ≡ b) → r ≡ linear_eq a b
indices_same a b r e = same_from_decides r (linear_eq a b) (e.0, e.1) (linear_eq-Decides a b)

pub linears_lengths : (xs ys : List LinearExpression) → (length xs ≡ length ys → ⊥) → false ≡ linears_eq xs ys
linears_lengths [] [] ne = absurd (ne refl)
linears_lengths [] (y ∷ ys) ne = refl
linears_lengths (x ∷ xs) [] ne = refl
linears_lengths (x ∷ xs) (y ∷ ys) ne = and_false (linear_eq x y) _ (linears_lengths xs ys (λ e. ne (ap suc e)))
  where
    and_false : (b c : Bool) → false ≡ c → false ≡ (b && c)
    and_false true c e = e
    and_false false c e = refl

linears_at : (xs ys : List LinearExpression) (k : ℕ) (x y : LinearExpression) → slice_get xs k ≡ Some x → slice_get ys k ≡ Some y →
    linears_eq (drop k xs) (drop k ys) ≡ (linear_eq x y && linears_eq (drop (suc k) xs) (drop (suc k) ys))
linears_at [] ys k x y a b = absurd (none-some x a)
linears_at (p ∷ xs) [] k x y a b = absurd (none-some y b)
linears_at (p ∷ xs) (q ∷ ys) zero x y a b = λ i. linear_eq (same_Some p x a i) (same_Some q y b i) && linears_eq xs ys
linears_at (p ∷ xs) (q ∷ ys) (suc k) x y a b = linears_at xs ys k x y a b

-- what is left to compare after the pair at a place
pub linears_more : (xs ys : List LinearExpression) (k : ℕ) (x y : LinearExpression) (same : Bool) → slice_get xs k ≡ Some x → slice_get ys k ≡ Some y → same ≡ linear_eq x y →
    linears_eq (drop k xs) (drop k ys) ≡ (same && linears_eq (drop (k + 1) xs) (drop (k + 1) ys))
linears_more xs ys k x y same a b e =
    let next : suc k ≡ k + 1 = omega arith in
    linears_at xs ys k x y a b ∙ λ i. sym e i && linears_eq (drop (next i) xs) (drop (next i) ys)

-- different ids have different trees
pub terms_same : (ts : List Tree) (i j : ℕ) → IsOneToOne ts → i < length ts → j < length ts → nat_eq i j ≡ tree_eq (tree_at ts i) (tree_at ts j)
terms_same ts i j one li lj =
    let d = Decides-eqb i j in
    let t = tree_eq-Decides (tree_at ts i) (tree_at ts j) in
    same_from_decides (nat_eq i j) (tree_eq (tree_at ts i) (tree_at ts j)) (λ e. ap (tree_at ts) (d.0 e), λ e. d.1 (one i j li lj e)) (λ e. t.0 e, λ e. t.1 e)

-- ---- arguments that differ

pub equations_lengths : (ts : List Tree) (xs ys : List Sides) → (length xs ≡ length ys → ⊥) → false ≡ equations_eq (equations_of ts xs) (equations_of ts ys)
equations_lengths ts [] [] ne = absurd (ne refl)
equations_lengths ts [] (y ∷ ys) ne = refl
equations_lengths ts (x ∷ xs) [] ne = refl
equations_lengths ts (x ∷ xs) (y ∷ ys) ne = and_false (equation_eq (equation_of ts x) (equation_of ts y)) _ (equations_lengths ts xs ys (λ e. ne (ap suc e)))
  where
    and_false : (b c : Bool) → false ≡ c → false ≡ (b && c)
    and_false true c e = e
    and_false false c e = refl

differing-push : (xs ys : List Tree) (a b : Tree) → length xs ≡ length ys → differing (xs ++ a ∷ []) (ys ++ b ∷ []) ≡ differing xs ys ++ unless_same (equation a b)
differing-push [] [] a b n = refl
differing-push [] (y ∷ ys) a b n = absurd (omega (arith, n))
differing-push (x ∷ xs) [] a b n = absurd (omega (arith, n))
differing-push (x ∷ xs) (y ∷ ys) a b n = by (tree_eq x y) refl (differing-push xs ys a b (omega (arith, n)))
  where
    by : (t : Bool) → tree_eq x y ≡ t → differing (xs ++ a ∷ []) (ys ++ b ∷ []) ≡ differing xs ys ++ unless_same (equation a b) →
        (if tree_eq x y then differing (xs ++ a ∷ []) (ys ++ b ∷ []) else (equation x y ∷ differing (xs ++ a ∷ []) (ys ++ b ∷ [])))
        ≡ (if tree_eq x y then differing xs ys else (equation x y ∷ differing xs ys)) ++ unless_same (equation a b)
    by true e ih = rw e ih
    by false e ih = rw e (ap (λ ps. equation x y ∷ ps) ih)

pub differing-more : (xs ys : List Tree) (k : ℕ) (d : Tree) → length xs ≡ length ys → k < length xs →
    differing (take (k + 1) xs) (take (k + 1) ys) ≡ differing (take k xs) (take k ys) ++ unless_same (equation (get_or xs k d) (get_or ys k d))
differing-more xs ys k d n lt =
    let lt' : k < length ys = omega arith in
    let same : length (take k xs) ≡ length (take k ys) = (let p = length-take k xs in let q = length-take k ys in omega arith) in
    (λ i. differing (take_one xs k (get_or xs k d) (slice_get-get_or xs k d lt) i) (take_one ys k (get_or ys k d) (slice_get-get_or ys k d lt') i))
    ∙ differing-push (take k xs) (take k ys) (get_or xs k d) (get_or ys k d) same

-- ---- the term `true`

none_left : {A : Type 0} (xs : List A) → length xs ≡ 0 → xs ≡ []
none_left [] e = refl
none_left (x ∷ xs) e = absurd (omega (arith, e))

all_three : (a b c : Bool) → a ≡ true → b ≡ true → c ≡ true → (a && (b && c)) ≡ true
all_three true true c p q r = r
all_three true false c p q r = cc
all_three false b c p q r = cc

pub truth_same : (t : Tree) → (head_eq (head_of t) True && (nat_eq (length (indices_of t)) 0 && nat_eq (length (args_of t)) 0)) ≡ tree_eq (node True [] []) t
truth_same t =
    same_from_decides (head_eq (head_of t) True && (nat_eq (length (indices_of t)) 0 && nat_eq (length (args_of t)) 0)) (tree_eq (node True [] []) t) (to, from)
    (tree_eq-Decides (node True [] []) t)
  where
    to : (head_eq (head_of t) True && (nat_eq (length (indices_of t)) 0 && nat_eq (length (args_of t)) 0)) ≡ true → node True [] [] ≡ t
    to e =
        let both = and_parts (head_eq (head_of t) True) _ e in
        let counts = and_parts (nat_eq (length (indices_of t)) 0) (nat_eq (length (args_of t)) 0) both.1 in
        let head = (head_eq-Decides (head_of t) True).0 both.0 in
        let indices = none_left (indices_of t) ((Decides-eqb (length (indices_of t)) 0).0 counts.0) in
        let args = none_left (args_of t) ((Decides-eqb (length (args_of t)) 0).0 counts.1) in
        (λ i. node (sym head i) (sym indices i) (sym args i)) ∙ node_of t

    from : node True [] [] ≡ t → (head_eq (head_of t) True && (nat_eq (length (indices_of t)) 0 && nat_eq (length (args_of t)) 0)) ≡ true
    from e =
        all_three (head_eq (head_of t) True) (nat_eq (length (indices_of t)) 0) (nat_eq (length (args_of t)) 0)
        ((head_eq-Decides (head_of t) True).1 (ap head_of (sym e) ∙ head_node True [] []))
        ((Decides-eqb (length (indices_of t)) 0).1 (ap (λ u. length (indices_of u)) (sym e) ∙ ap length (indices_node True [] [])))
        ((Decides-eqb (length (args_of t)) 0).1 (ap (λ u. length (args_of u)) (sym e) ∙ ap length (args_node True [] [])))
