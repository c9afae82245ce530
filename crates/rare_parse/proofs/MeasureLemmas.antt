-- The measures of terms that are read.
use Rattle.std.proofs.Common.{◌≡◌, ℕ, ◌+◌, ◌≤◌, max, min, sum, Bool, true, false, List, [], ◌∷◌, ◌++◌, map, length, Ok, refl, sym, ap, ◌∙◌, arith, if◌then◌else◌}
use Rattle.std.specs.Prelude.{◌||◌, nat_lt, nat_le}
use Rattle.std.proofs.lemmas.List.Sums.{sum_by-cons}
use Rattle.rare_base.specs.declared.answers.Reason.TheVariants as reason
use Rattle.rare_linear.specs.Linears.{LinearExpression}
use Rattle.rare_sexpr.specs.declared.tree.Sexpr.{Sexpr}
use Rattle.rare_sort.specs.Trees.{node, greatest, nesting, size}
use Rattle.rare_sort.specs.declared.head.Head.{Head}
use Rattle.rare_sort.specs.declared.tree.Tree.{Tree}
use Rattle.rare_term.specs.Limits.{MOST_ARGS, MOST_NESTED, MOST_NODES}
use Rattle.rare_term.specs.inner.TreeLaws.{nesting_node, size_node}
use Rattle.rare_scope.specs.Reading.{refused}
use Rattle.rare_operators.specs.declared.head.IndexedHead.{IndexedHead}
use Rattle.rare_parse.specs.RuleTermText.{is_large, application_at}
use Rattle.rare_parse.specs.declared.measured.ReadTerm.{ReadTerm}
use Rattle.rare_parse.specs.declared.measured.Arguments.{Arguments}
use Rattle.rare_parse.specs.inner.TermReading.{IsMeasured, AreCounted}

pub leaf_measured : (t : ReadTerm) (h : Head) (ix : List LinearExpression) → t.tree ≡ node h ix [] → t.nesting ≡ 1 → t.nodes ≡ 1 → IsMeasured t
leaf_measured t h ix is one single = record {
  nesting = one ∙ sym (ap nesting is ∙ nesting_node h ix []);
  nodes = single ∙ sym (ap size is ∙ size_node h ix []);
  shallow = omega (arith, one);
  small = omega (arith, single);
}

greatest_more : (ns : List ℕ) (n : ℕ) → greatest (ns ++ n ∷ []) ≡ max (greatest ns) n
greatest_more [] n = omega arith
greatest_more (m ∷ ns) n = omega (arith, greatest_more ns n)

sum-cons : (n : ℕ) (ns : List ℕ) → sum (n ∷ ns) ≡ n + sum ns
sum-cons n ns = sum_by-cons (λ m. m) n ns

sum_more : (ns : List ℕ) (n : ℕ) → sum (ns ++ n ∷ []) ≡ sum ns + n
sum_more [] n = omega arith
sum_more (m ∷ ns) n = omega (arith, sum_more ns n, sum-cons m ns, sum-cons m (ns ++ n ∷ []))

map_more : {X : Type 0} (f : X → ℕ) (xs : List X) (x : X) → map f (xs ++ x ∷ []) ≡ map f xs ++ f x ∷ []
map_more f [] x = refl
map_more f (y ∷ ys) x = ap (λ zs. f y ∷ zs) (map_more f ys x)

pub more_counted : (a b : Arguments) (t : ReadTerm) → AreCounted a → IsMeasured t → b.trees ≡ a.trees ++ t.tree ∷ [] → b.nesting ≡ max a.nesting t.nesting → b.nodes ≡ min (a.nodes + t.nodes) MOST_NODES → AreCounted b
more_counted a b t counted measured is nest nodes =
    let deep = ap (λ ts. greatest (map nesting ts)) is ∙ ap greatest (map_more nesting a.trees t.tree) ∙ greatest_more (map nesting a.trees) (nesting t.tree) in
    let all = ap (λ ts. sum (map size ts)) is ∙ ap sum (map_more size a.trees t.tree) ∙ sum_more (map size a.trees) (size t.tree) in record {
      nesting = omega (arith, nest, counted.nesting, measured.nesting, deep);
      nodes = omega (arith, nodes, counted.nodes, measured.nodes, all);
      shallow = omega (arith, nest, counted.shallow, measured.shallow);
    }

-- ---- limits

lt_by : (m n k : ℕ) → n ≡ 1 + k → nat_lt m n ≡ nat_le m k
lt_by m n k is = ap (nat_lt m) is ∙ grind arith

le_min : (m n : ℕ) → nat_le m (min n m) ≡ nat_le m n
le_min m n = grind arith

none_of : (a b c : Bool) → (a || (b || c)) ≡ false → (b ≡ false) × (c ≡ false)
none_of true b c is = absurd cc
none_of false true c is = absurd cc
none_of false false c is = (refl, is)

not_lt : (m n : ℕ) → nat_lt m n ≡ false → n ≤ m
not_lt m n is = grind arith

pub large_by : (a : Arguments) → AreCounted a → (h : Head) (ix : List LinearExpression) → (nat_lt MOST_ARGS (length a.trees) || (nat_le MOST_NESTED a.nesting || nat_le MOST_NODES a.nodes)) ≡ is_large h ix a.trees
large_by a counted h ix =
    let deep : nesting (node h ix a.trees) ≡ 1 + a.nesting = nesting_node h ix a.trees ∙ ap (λ n. 1 + n) (sym counted.nesting) in
    let many : nat_le MOST_NODES a.nodes ≡ nat_le MOST_NODES (sum (map size a.trees)) = ap (nat_le MOST_NODES) counted.nodes ∙ le_min MOST_NODES (sum (map size a.trees)) in
    ap (λ b. nat_lt MOST_ARGS (length a.trees) || (b || nat_le MOST_NODES a.nodes)) (sym (lt_by MOST_NESTED (nesting (node h ix a.trees)) a.nesting deep))
    ∙ ap (λ b. nat_lt MOST_ARGS (length a.trees) || (nat_lt MOST_NESTED (nesting (node h ix a.trees)) || b)) (many ∙ sym (lt_by MOST_NODES (size (node h ix a.trees)) (sum (map size a.trees)) (size_node h ix a.trees)))

pub beyond_limits : (e : Sexpr) (o : IndexedHead) (ts : List Tree) → is_large o.head o.indices ts ≡ true → application_at e o ts ≡ refused e reason.TermLimit
beyond_limits e o ts is = ap (λ b. if b then (refused e reason.TermLimit) else Ok (node o.head o.indices ts)) is

pub within_limits : (e : Sexpr) (o : IndexedHead) (ts : List Tree) → is_large o.head o.indices ts ≡ false → application_at e o ts ≡ Ok (node o.head o.indices ts)
within_limits e o ts is = ap (λ b. if b then (refused e reason.TermLimit) else Ok (node o.head o.indices ts)) is

pub node_measured : (a : Arguments) (t : ReadTerm) (h : Head) (ix : List LinearExpression) → AreCounted a → is_large h ix a.trees ≡ false → t.tree ≡ node h ix a.trees → t.nesting ≡ a.nesting + 1 → t.nodes ≡ a.nodes + 1 → IsMeasured t
node_measured a t h ix counted fits is nest nodes =
    let both = none_of (nat_lt MOST_ARGS (length a.trees)) (nat_lt MOST_NESTED (nesting (node h ix a.trees))) (nat_lt MOST_NODES (size (node h ix a.trees))) fits in
    let deep = nesting_node h ix a.trees in
    let all = size_node h ix a.trees in
    let shallow = not_lt MOST_NESTED (nesting (node h ix a.trees)) both.0 in
    let small = not_lt MOST_NODES (size (node h ix a.trees)) both.1 in record {
      nesting = omega (arith, nest, counted.nesting, deep, ap nesting is);
      nodes = omega (arith, nodes, counted.nodes, all, small, ap size is);
      shallow = omega (arith, nest, counted.nesting, deep, shallow);
      small = omega (arith, nodes, counted.nodes, all, small);
    }
