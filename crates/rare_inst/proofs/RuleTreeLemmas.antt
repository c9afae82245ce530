-- The trees of a rule in form, node by node.
use Rattle.std.proofs.Common.{◌≡◌, ℕ, zero, suc, ◌<◌, Bool, true, false, ◌&&◌, List, [], ◌∷◌, ◌++◌, length, map, flat_map, get_or, Option, Some, None, refl, sym, ap, ◌∙◌, subst, arith, if◌then◌else◌}
use Rattle.std.proofs.lemmas.Bool.{eqb-true}
use Rattle.std.proofs.lemmas.List.Elements.{All-nil, All-cons}
use Rattle.std.proofs.lemmas.List.{get_or_default}
use Rattle.std.proofs.lemmas.Option.{slice_get_within}
use Rattle.std.specs.Option.{option_map}
use Rattle.std.specs.Prelude.{ℤ, nat_eq, slice_get}
use Rattle.rare_linear.specs.Linears.{Part, LinearExpression, NamesBelow}
use Rattle.rare_sort.specs.DeclaredSorts.{AreNamed, IsSymbol}
use Rattle.rare_sort.specs.Each.{Each}
use Rattle.rare_sort.specs.Families.{family}
use Rattle.rare_sort.specs.Ids.{tree_at}
use Rattle.rare_sort.specs.SortRules.{number_in, no_names}
use Rattle.rare_sort.specs.Trees.{node, args_of, nesting}
use Rattle.rare_sort.specs.declared.head.Head.{Head}
use Rattle.rare_sort.specs.declared.head.Head.TheVariants as head
use Rattle.rare_sort.specs.declared.tree.Tree.{Tree, Tree-F, out-Tree, roll-out-Tree, ind-Tree, every-Tree, every_here-Tree, every_made-Tree}
use Rattle.rare_term.specs.Literals.{IsGiven}
use Rattle.rare_term.specs.inner.TreeLaws.{nesting_falls}
use Rattle.rare_rule.specs.NodeForms.{all_nodes, index_count, has_its_arguments, has_indices, is_node_form, is_literal_within, is_operator_of_rules, is_value_of_width}
use Rattle.rare_rule.specs.Nodes.{Node, Walk, walk, nodes_of, nodes_in}
use Rattle.rare_rule.specs.ParamForms.{are_numbers, all_are_numbers}
use Rattle.rare_rule.specs.Params.{kind_at, is_number_kind}
use Rattle.rare_rule.specs.Rules.{IsInForm, side_nodes, context_nodes, context_parts, rule_nodes}
use Rattle.rare_rule.specs.declared.param.Param.{Param}
use Rattle.rare_rule.specs.declared.param.ParamKind.{ParamKind}
use Rattle.rare_rule.specs.declared.rule.Rule.{Rule}
use Rattle.rare_rule.proofs.Walks.{walk-node}
use Rattle.rare_inst.proofs.Growing.{held_args}
use Rattle.rare_inst.specs.inner.RuleTrees.{IsOfRules, IsRuleNode, IsRuleTree}

pub both : (b c : Bool) → (b && c) ≡ true → (b ≡ true) × (c ≡ true)
both true c e = (refl, e)
both false c e = cc

-- ---- nodes

all_append : (test : Node → Bool) (xs ys : List Node) → all_nodes test (xs ++ ys) ≡ true → (all_nodes test xs ≡ true) × (all_nodes test ys ≡ true)
all_append test [] ys h = (refl, h)
all_append test (x ∷ xs) ys h =
    let a = both (test x) (all_nodes test (xs ++ ys)) h in
    let b = all_append test xs ys a.1 in
    (ap (λ t. t && all_nodes test xs) a.0 ∙ b.0, b.1)

-- a test of nodes that tells something of the node alone tells it at every node
module _ (test : Node → Bool) (Q : Tree-F Tree → Type 0) (tells : (n : Node) (ts : List Tree) → test n ≡ true → Q (record { head = n.head; indices = n.indices; args = ts })) where
  abbrev Claim : Tree → Type 0
  Claim t = (parent : Option Head) → all_nodes test ((walk t).nodes parent) ≡ true → every-Tree Q t

  held : (parent : Option Head) (ys : List ((t : Tree) × Claim t)) → all_nodes test (flat_map (λ (w : Walk). w.nodes parent) (map walk (map (λ y. y.0) ys))) ≡ true →
      (ws : List ((t : Tree) × every-Tree Q t)) × (map (λ w. w.0) ws ≡ map (λ y. y.0) ys)
  held parent [] h = ([], refl)
  held parent (y ∷ ys) h =
      let b = all_append test ((walk y.0).nodes parent) (flat_map (λ (w : Walk). w.nodes parent) (map walk (map (λ y. y.0) ys))) h in
      let rest = held parent ys b.1 in
      ((y.0, y.1 parent b.0) ∷ rest.0, ap (λ ts. y.0 ∷ ts) rest.1)

  pub every_node : (t : Tree) → Claim t
  every_node = ind-Tree Claim (λ x y is parent h.
      let here : Node = record { head = x.head; indices = x.indices; parent = parent; args = map (λ w. w.root) (map walk x.args) } in
      let below = flat_map (λ (w : Walk). w.nodes (Some x.head)) (map walk x.args) in
      let all : all_nodes test (below ++ here ∷ []) ≡ true = subst (λ (w : Walk). all_nodes test (w.nodes parent) ≡ true) (walk-node x.head x.indices x.args) h in
      let b = all_append test below (here ∷ []) all in
      let args_are : map (λ v. v.0) y.args ≡ x.args = ap (λ z. z.args) is in
      let ws = held (Some x.head) y.args (subst (λ ts. all_nodes test (flat_map (λ (w : Walk). w.nodes (Some x.head)) (map walk ts)) ≡ true) (sym args_are) b.0) in
      let w : Tree-F ((t : Tree) × every-Tree Q t) = record { head = x.head; indices = x.indices; args = ws.0 } in
      let whole : map (λ v. v.0) ws.0 ≡ x.args = ws.1 ∙ args_are in
      every_made-Tree Q x w (λ i. record { head = x.head; indices = x.indices; args = whole i }) (tells here x.args (both (test here) true b.1).0))

-- ---- what a rule in form says of its nodes

number_there : (o : Option ParamKind) → is_number_kind o ≡ true → o ≡ None → ⊥
number_there o h e = let never : is_number_kind None ≡ true = ap is_number_kind (sym e) ∙ h in cc

module _ (ps : List Param) where
  pub below_params : (k : ℕ) → is_number_kind (kind_at ps k) ≡ true → k < length ps
  below_params k h = go (slice_get ps k) refl
    where
      go : (o : Option Param) → slice_get ps k ≡ o → k < length ps
      go (Some p) e = slice_get_within ps k p e
      go None e = absurd (number_there (kind_at ps k) h (ap (option_map (λ p. p.kind)) e))

  pub names_below_params : (ns : List Part) → are_numbers ps ns ≡ true → NamesBelow (length ps) ns
  names_below_params [] h = tt
  names_below_params (n ∷ ns) h =
      let b = both (is_number_kind (kind_at ps n.0)) (are_numbers ps ns) h in
      (below_params n.0 b.0, names_below_params ns b.1)

  all_named : (es : List LinearExpression) → all_are_numbers ps es ≡ true → AreNamed (length ps) es
  all_named [] h = All-nil (λ (e : LinearExpression). NamesBelow (length ps) e.parts)
  all_named (e ∷ es) h =
      let b = both (are_numbers ps e.parts) (all_are_numbers ps es) h in
      All-cons (λ (e : LinearExpression). NamesBelow (length ps) e.parts) e es (names_below_params e.parts b.0) (all_named es b.1)

  of_rules : (h : Head) → is_operator_of_rules ps h ≡ true → IsOfRules h
  of_rules (head.Free k) e = cc
  of_rules h e = tt

  value_width : (v : ℕ) (o : Option ℤ) → is_value_of_width v o ≡ true → o ≡ None → ⊥
  value_width v o h e = let never : is_value_of_width v None ≡ true = ap (is_value_of_width v) (sym e) ∙ h in cc

  no_parts : (ns : List Part) (c : ℤ) → ((if no_names ns then (Some c) else None) ≡ None → ⊥) → ns ≡ []
  no_parts [] c h = refl
  no_parts (n ∷ ns) c h = absurd (h refl)

  literal_given : (h : Head) (ix : List LinearExpression) → is_literal_within h ix ≡ true → length ix ≡ index_count h → IsGiven h ix
  literal_given (head.Bits v) [] e n = All-nil (λ (w : LinearExpression). w.parts ≡ [])
  literal_given (head.Bits v) (w ∷ []) e n =
      All-cons (λ (w : LinearExpression). w.parts ≡ []) w [] (no_parts w.parts w.constant (value_width v (number_in w) e)) (All-nil (λ (w : LinearExpression). w.parts ≡ []))
  literal_given (head.Bits v) (w ∷ x ∷ ws) e n = absurd (omega arith)
  literal_given h ix e n = tt

  abbrev is_fine : Node → Bool
  is_fine n = has_indices ps n && (is_node_form ps n && is_literal_within n.head n.indices)

  tells : (n : Node) (ts : List Tree) → is_fine n ≡ true → IsRuleNode (length ps) (record { head = n.head; indices = n.indices; args = ts })
  tells n ts h =
      let b = both (has_indices ps n) (is_node_form ps n && is_literal_within n.head n.indices) h in
      let c = both (is_node_form ps n) (is_literal_within n.head n.indices) b.1 in
      let i = both (nat_eq (length n.indices) (index_count n.head)) (all_are_numbers ps n.indices) b.0 in
      record {
        names = all_named n.indices i.1;
        operator = of_rules n.head (both (is_operator_of_rules ps n.head) (has_its_arguments n.head n.args) c.0).0;
        given = literal_given n.head n.indices c.1 (eqb-true (length n.indices) (index_count n.head) i.0);
      }

  both_pass : (p q : Node → Bool) (ns : List Node) → all_nodes p ns ≡ true → all_nodes q ns ≡ true → all_nodes (λ n. p n && q n) ns ≡ true
  both_pass p q [] h k = refl
  both_pass p q (n ∷ ns) h k =
      let a = both (p n) (all_nodes p ns) h in
      let b = both (q n) (all_nodes q ns) k in
      rw (a.0, b.0) (both_pass p q ns a.1 b.1)

  -- a tree whose nodes pass
  abbrev Passes : List Node → Type 0
  Passes ns = all_nodes is_fine ns ≡ true

  pub tree_passes : (t : Tree) → Passes (nodes_of t) → IsRuleTree (length ps) t
  unfolding IsRuleTree
  tree_passes t h = every_node is_fine (IsRuleNode (length ps)) tells t None h

-- ---- the parts of a rule

module _ (r : Rule) (form : IsInForm r) where
  abbrev Tree' : Tree → Type 0
  Tree' t = IsRuleTree (length r.params) t

  abbrev fine : Node → Bool
  fine = is_fine r.params

  all_fine : all_nodes fine (rule_nodes r) ≡ true
  all_fine =
      both_pass r.params (has_indices r.params) (λ n. is_node_form r.params n && is_literal_within n.head n.indices) (rule_nodes r) form.indices
      (both_pass r.params (is_node_form r.params) (λ n. is_literal_within n.head n.indices) (rule_nodes r) form.operators form.literals)

  parts : (all_nodes fine (side_nodes r) ≡ true) × (all_nodes fine (context_nodes r) ≡ true)
  parts = all_append fine (side_nodes r) (context_nodes r) all_fine

  premise_nodes : all_nodes fine (nodes_in r.premises) ≡ true
  premise_nodes = (all_append fine (nodes_in r.premises) (nodes_of r.left ++ nodes_of r.right) parts.0).0

  sides : (all_nodes fine (nodes_of r.left) ≡ true) × (all_nodes fine (nodes_of r.right) ≡ true)
  sides = all_append fine (nodes_of r.left) (nodes_of r.right) (all_append fine (nodes_in r.premises) (nodes_of r.left ++ nodes_of r.right) parts.0).1

  pub left_tree : Tree' r.left
  left_tree = tree_passes r.params r.left sides.0

  pub right_tree : Tree' r.right
  right_tree = tree_passes r.params r.right sides.1

  each_tree : (ts : List Tree) → all_nodes fine (nodes_in ts) ≡ true → Each Tree' ts
  each_tree [] h = tt
  each_tree (t ∷ ts) h =
      let b = all_append fine (nodes_of t) (nodes_in ts) h in
      (tree_passes r.params t b.0, each_tree ts b.1)

  pub premise_tree : (k : ℕ) (t : Tree) → slice_get r.premises k ≡ Some t → Tree' t
  premise_tree k t e = given_at Tree' r.premises (each_tree r.premises premise_nodes) k t e
    where
      given_at : (P : Tree → Type 0) (xs : List Tree) → Each P xs → (k : ℕ) (x : Tree) → slice_get xs k ≡ Some x → P x
      given_at P [] h k x e = cc
      given_at P (y ∷ ys) h zero x e = let same : y ≡ x = cc in subst P same h.0
      given_at P (y ∷ ys) h (suc k) x e = given_at P ys h.1 k x e

  pub context_tree : (c : Tree) → r.context ≡ Some c → Tree' c
  context_tree c e = (each_tree (c ∷ []) (ap (λ o. all_nodes fine (nodes_in (context_parts o))) (sym e) ∙ parts.1)).0

-- ---- below a node

module _ (n : ℕ) where
  pub rule_here : (t : Tree) → IsRuleTree n t → IsRuleNode n (out-Tree t)
  unfolding IsRuleTree
  rule_here t h = every_here-Tree (IsRuleNode n) t h

  rolled : (t : Tree) → IsRuleTree n t → Each (IsRuleTree n) (args_of t)
  unfolding IsRuleTree
  rolled t h = held_args (IsRuleNode n) (out-Tree t) (subst (every-Tree (IsRuleNode n)) (sym (roll-out-Tree t)) h)

  each_get : (P : Tree → Type 0) (ts : List Tree) → Each P ts → (k : ℕ) → k < length ts → P (tree_at ts k)
  each_get P [] h k lt = absurd (omega arith)
  each_get P (t ∷ ts) h zero lt = h.0
  each_get P (t ∷ ts) h (suc k) lt = each_get P ts h.1 k (omega arith)

  pub rule_below : (t a : Tree) (k : ℕ) → IsRuleTree n t → k < length (args_of t) → a ≡ tree_at (args_of t) k → IsRuleTree n a
  rule_below t a k h lt e = subst (IsRuleTree n) (sym e) (each_get (IsRuleTree n) (args_of t) (rolled t h) k lt)

pub nested_below : (t a : Tree) (k : ℕ) → k < length (args_of t) → a ≡ tree_at (args_of t) k → nesting a < nesting t
nested_below t a k lt e = let h = nesting_falls t k lt in let q = ap nesting e in omega (arith, h, q)

-- an operator of rules that is neither a parameter nor the hole is one of problems
pub problem_symbol : (m : ℕ) (h : Head) → IsOfRules h → ((k : ℕ) → h ≡ head.Param k → ⊥) → (h ≡ head.Hole → ⊥) → IsSymbol m (family h)
problem_symbol m (head.Free k) r p o = absurd r
problem_symbol m (head.Param k) r p o = absurd (p k refl)
problem_symbol m head.Hole r p o = absurd (o refl)
problem_symbol m h r p o = tt

-- an item that is lent from the arguments of a tree
pub item_at : (t : Tree) (ts : List Tree) (i : ℕ) (x : Tree) → ts ≡ args_of t → i < length ts → x ≡ get_or ts i x → (i < length (args_of t)) × (x ≡ tree_at (args_of t) i)
item_at t ts i x are lt is = (subst (λ (us : List Tree). i < length us) are lt, is ∙ sym (get_or_default ts i (node head.True [] []) x lt) ∙ ap (λ us. tree_at us i) are)
