-- A term nests no deeper than it has nodes.
use Rattle.std.proofs.Common.{◌≡◌, ◌≤◌, true, List, [], ◌∷◌, ◌++◌, map, length, sum, None, subst, arith, length-append}
use Rattle.std.specs.Prelude.{nat_le}
use Rattle.std.proofs.lemmas.Bool.{leb-true}
use Rattle.std.proofs.lemmas.List.Sums.{sum_by-cons}
use Rattle.rare_linear.specs.Linears.{LinearExpression}
use Rattle.rare_sort.specs.Each.{Each}
use Rattle.rare_sort.specs.Trees.{node, nesting, size, greatest}
use Rattle.rare_sort.specs.declared.head.Head.{Head}
use Rattle.rare_sort.specs.declared.tree.Tree.{Tree, ind-Tree}
use Rattle.rare_term.specs.inner.TreeLaws.{nesting_node, size_node}
use Rattle.rare_rule.specs.Nodes.{nodes_of}
use Rattle.rare_rule.specs.Rules.{MOST_RULE_NODES}
use Rattle.rare_parse.proofs.NodeLemmas.{nodes_sized}

abbrev IsShallow : Tree → Type 0
IsShallow t = nesting t ≤ size t

below : (ts : List Tree) → Each IsShallow ts → greatest (map nesting ts) ≤ sum (map size ts)
below [] all = omega arith
below (t ∷ ts) all = let rest = below ts all.1 in let first = all.0 in let s = sum_by-cons (λ m. m) (size t) (map size ts) in omega (arith, rest, first, s)

at_node : (h : Head) (ix : List LinearExpression) (ts : List Tree) → Each IsShallow ts → IsShallow (node h ix ts)
at_node h ix ts all = let n = nesting_node h ix ts in let s = size_node h ix ts in let b = below ts all in omega (arith, n, s, b)

all_shallow : (ts : List ((t : Tree) × IsShallow t)) → Each IsShallow (map (λ t. t.0) ts)
all_shallow [] = tt
all_shallow (t ∷ ts) = (t.1, all_shallow ts)

shallow : (t : Tree) → IsShallow t
shallow = ind-Tree IsShallow (λ x y is. at_node x.head x.indices x.args (subst (λ z. Each IsShallow z.args) is (all_shallow y.args)))

-- the sides of a rule of few nodes
pub record AreShallow (left right : Tree) : Type 0 where
  pub left_nests : nesting left ≤ 256
  pub right_nests : nesting right ≤ 256

pub sides_shallow : (left right : Tree) → nat_le (length ((nodes_of left ++ nodes_of right) ++ [])) MOST_RULE_NODES ≡ true → AreShallow left right
sides_shallow left right few =
    let le = leb-true (length ((nodes_of left ++ nodes_of right) ++ [])) MOST_RULE_NODES few in
    let a = length-append (nodes_of left ++ nodes_of right) [] in
    let b = length-append (nodes_of left) (nodes_of right) in
    let l = nodes_sized left None in
    let r = nodes_sized right None in
    let nl = shallow left in
    let nr = shallow right in
    record { left_nests = omega (arith, le, a, b, l, r, nl); right_nests = omega (arith, le, a, b, l, r, nr) }
