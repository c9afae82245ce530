-- The whole rule by its tests.
use Rattle.std.proofs.Common.{◌≡◌, ℕ, zero, suc, ◌+◌, ◌<◌, ◌≤◌, Bool, true, false, ◌&&◌, List, [], ◌∷◌, ◌++◌, flat_map, length, length-append, drop, Ok, refl, sym, ap, ◌∙◌, subst, arith, append-nil}
use Rattle.std.specs.Prelude.{Some, None, nat_eq, nat_le, not}
use Rattle.std.specs.List.{list_any}
use Rattle.rare_base.specs.declared.answers.Reason.TheVariants as reason
use Rattle.rare_linear.specs.Linears.{LinearExpression, IsNormal}
use Rattle.rare_linear.proofs.NormalForms.{with_parts-nil}
use Rattle.rare_sexpr.specs.declared.tree.Sexpr.{Sexpr}
use Rattle.rare_sort.specs.SortRules.{width_needs, less_one}
use Rattle.rare_sort.specs.Trees.{size}
use Rattle.rare_sort.specs.declared.sort.Sort.{Sort, BitVec}
use Rattle.rare_sort.specs.declared.sort.Sort.TheViews.{Array}
use Rattle.rare_sort.specs.declared.tree.Tree.{Tree}
use Rattle.rare_sort.specs.declared.sort.Sort.TheBlock.{hidden-the_row-Sort-0}
use Rattle.rare_scope.specs.Reading.{Read, refused}
use Rattle.rare_rule.specs.Determination.{Mention, Uses, are_among, are_all_determined, determines, mentions, list_uses, node_mentions}
use Rattle.rare_rule.specs.NodeForms.{all_nodes, has_few_lists, hole_nodes, is_hole, is_placed}
use Rattle.rare_rule.specs.Nodes.{Node, nodes_of, nodes_in, walk}
use Rattle.rare_rule.specs.Rules.{MOST_RULE_NODES, context_parts, side_nodes, context_nodes, rule_nodes, has_holes}
use Rattle.rare_rule.specs.declared.param.Param.{Param}
use Rattle.rare_rule.specs.declared.rule.Rule.{Rule}
use Rattle.rare_parse.specs.RuleText.{refused_unless, is_small, whole_rule}
use Rattle.rare_parse.specs.inner.Following.{Follows, IsOrder, are_all_found, in_order, needs_mentions}
use Rattle.rare_parse.specs.inner.WholeTests.{HasSides, node_test, ordered}
use denote.Hole.Carrier
use Rattle.rare_parse.specs.declared.nodes.Asked.TheVariants.{FewLists, NoHole, Placed}
use Rattle.rare_parse.proofs.FollowLemmas.{follow_both, follow_not, uses}
use Rattle.rare_parse.proofs.NodeLemmas.{all-append, nodes_sized, no_holes}

pub yes_le : (m n : ℕ) → m ≤ n → nat_le m n ≡ true
yes_le m n le = grind arith

pub no_le : (m n : ℕ) → n < m → nat_le m n ≡ false
no_le m n lt = grind arith

-- ---- the nodes of a rule with two sides

module _ (r : Rule) (sides : HasSides r) where
  abbrev both_sides : List Node
  both_sides = nodes_of r.left ++ nodes_of r.right

  sides_are : side_nodes r ≡ both_sides
  sides_are = ap (λ ts. nodes_in ts ++ both_sides) sides.premises

  nodes_are : rule_nodes r ≡ both_sides
  nodes_are = ap (λ ns. ns ++ context_nodes r) sides_are ∙ ap (λ o. both_sides ++ nodes_in (context_parts o)) sides.context ∙ append-nil both_sides

  pub small_by : (n : ℕ) → n ≡ size r.left + size r.right → (nat_le n MOST_RULE_NODES && all_nodes (node_test FewLists r.params) ((walk r.left).nodes None)) ≡ is_small r
  small_by n is =
      let count : n ≡ length (rule_nodes r) =
      is ∙ ap (λ k. k + size r.right) (sym (nodes_sized r.left None)) ∙ ap (λ k. length (nodes_of r.left) + k) (sym (nodes_sized r.right None))
      ∙ sym (length-append (nodes_of r.left) (nodes_of r.right)) ∙ sym (ap length nodes_are) in
      ap (λ k. nat_le k MOST_RULE_NODES && all_nodes (has_few_lists r.params) (nodes_of r.left)) count

  pub holes_by : (all_nodes (node_test NoHole r.params) ((walk r.left).nodes None) && all_nodes (node_test NoHole r.params) ((walk r.right).nodes None)) ≡ has_holes r
  holes_by =
      sym (all-append (λ n. not (is_hole n.head)) (nodes_of r.left) (nodes_of r.right))
      ∙ sym (no_holes both_sides) ∙ ap (λ ns. nat_eq (hole_nodes ns) 0) (sym sides_are)
      ∙ and_right (nat_eq (hole_nodes (side_nodes r)) 0) (nat_eq (hole_nodes (context_nodes r)) (length (context_parts r.context))) (ap (λ o. nat_eq (hole_nodes (nodes_in (context_parts o))) (length (context_parts o))) sides.context)
    where
      and_right : (a b : Bool) → b ≡ true → a ≡ (a && b)
      and_right true b is = sym is
      and_right false b is = refl

  pub placed_by : (all_nodes (node_test Placed r.params) ((walk r.left).nodes None) && all_nodes (node_test Placed r.params) ((walk r.right).nodes None)) ≡ all_nodes (is_placed r.params) (rule_nodes r)
  placed_by = sym (all-append (is_placed r.params) (nodes_of r.left) (nodes_of r.right)) ∙ ap (all_nodes (is_placed r.params)) (sym nodes_are)

-- ---- the whole

module _ (e : Sexpr) (r : Rule) where
  abbrev behind_size : Read Rule
  behind_size = refused_unless (has_holes r) e reason.ContextForm (refused_unless (all_nodes (is_placed r.params) (rule_nodes r)) e reason.MisplacedList (ordered e r))

  pub too_large : is_small r ≡ false → whole_rule e r ≡ refused e reason.RuleTooLarge
  too_large fails = ap (λ b. refused_unless b e reason.RuleTooLarge behind_size) fails

  module _ (small : is_small r ≡ true) where
    one : whole_rule e r ≡ behind_size
    one = ap (λ b. refused_unless b e reason.RuleTooLarge behind_size) small

    pub holed : has_holes r ≡ false → whole_rule e r ≡ refused e reason.ContextForm
    holed fails = one ∙ ap (λ b. refused_unless b e reason.ContextForm (refused_unless (all_nodes (is_placed r.params) (rule_nodes r)) e reason.MisplacedList (ordered e r))) fails

    module _ (holes : has_holes r ≡ true) where
      two : whole_rule e r ≡ refused_unless (all_nodes (is_placed r.params) (rule_nodes r)) e reason.MisplacedList (ordered e r)
      two = one ∙ ap (λ b. refused_unless b e reason.ContextForm (refused_unless (all_nodes (is_placed r.params) (rule_nodes r)) e reason.MisplacedList (ordered e r))) holes

      pub misplaced : all_nodes (is_placed r.params) (rule_nodes r) ≡ false → whole_rule e r ≡ refused e reason.MisplacedList
      misplaced fails = two ∙ ap (λ b. refused_unless b e reason.MisplacedList (ordered e r)) fails

      pub well_placed : all_nodes (is_placed r.params) (rule_nodes r) ≡ true → whole_rule e r ≡ ordered e r
      well_placed is = two ∙ ap (λ b. refused_unless b e reason.MisplacedList (ordered e r)) is

  all_same : (found : List ℕ) (ms : List Mention) → ((k : ℕ) → list_any (nat_eq k) found ≡ list_any (determines k) ms) → (k : ℕ) (ps : List Param) → are_all_found found k ps ≡ are_all_determined ms k ps
  all_same found ms same k [] = refl
  all_same found ms same k (p ∷ ps) = ap (λ b. b && are_all_found found (k + 1) ps) (same k) ∙ ap (λ b. list_any (determines k) ms && b) (all_same found ms same (k + 1) ps)

  pub no_order : IsOrder (mentions r.params r.left) None → ordered e r ≡ refused e reason.LeftIndex
  no_order is = ap (λ b. refused_unless b e reason.LeftIndex (refused_unless (are_all_determined (mentions r.params r.left) 0 r.params) e reason.Unbound (Ok r))) is

  module _ (found : List ℕ) (is : IsOrder (mentions r.params r.left) (Some found)) where
    begun : ordered e r ≡ refused_unless (are_all_found found 0 r.params) e reason.Unbound (Ok r)
    begun =
        ap (λ b. refused_unless b e reason.LeftIndex (refused_unless (are_all_determined (mentions r.params r.left) 0 r.params) e reason.Unbound (Ok r))) is.0
        ∙ ap (λ b. refused_unless b e reason.Unbound (Ok r)) (sym (all_same found (mentions r.params r.left) is.1 0 r.params))

    pub order_fine : are_all_found found 0 r.params ≡ true → ordered e r ≡ Ok r
    order_fine all = begun ∙ ap (λ b. refused_unless b e reason.Unbound (Ok r)) all

    pub order_unbound : are_all_found found 0 r.params ≡ false → ordered e r ≡ refused e reason.Unbound
    order_unbound fails = begun ∙ ap (λ b. refused_unless b e reason.Unbound (Ok r)) fails

-- ---- what follows

end_of : (ms : List Mention) (a b : List ℕ) (ok : Bool) → Follows ms a b ok → in_order a ms ≡ ok
end_of ms a b ok f = ap (in_order a) (sym (append-nil ms)) ∙ f.order [] ∙ and_true ok
  where
    and_true : (b : Bool) → (b && true) ≡ b
    and_true true = refl
    and_true false = refl

module _ (ps : List Param) (left : Tree) where
  abbrev of_nodes : List Mention
  of_nodes = flat_map (node_mentions ps) ((walk left).nodes None)

  pub order_broken_first : (b : List ℕ) → Follows (flat_map (node_mentions ps) ((walk left).nodes None)) [] b false → IsOrder (mentions ps left) None
  order_broken_first b f = end_of (mentions ps left) [] b false (follow_not of_nodes (flat_map list_uses ps) [] b f)

  pub order_broken : (b : List ℕ) → Follows (flat_map (node_mentions ps) ((walk left).nodes None)) [] b true → Follows (flat_map list_uses ps) b b false → IsOrder (mentions ps left) None
  order_broken b f g = end_of (mentions ps left) [] b false (follow_both of_nodes (flat_map list_uses ps) [] b b false f g)

  pub order_known : (b : List ℕ) → Follows (flat_map (node_mentions ps) ((walk left).nodes None)) [] b true → Follows (flat_map list_uses ps) b b true → IsOrder (mentions ps left) (Some b)
  order_known b f g =
      let whole = follow_both of_nodes (flat_map list_uses ps) [] b b true f g in (end_of (mentions ps left) [] b true whole, λ k. whole.found refl k)

-- ---- the sorts of lists

pub word_uses : (w : LinearExpression) (found : List ℕ) (ok : Bool) → IsNormal w.parts → ok ≡ are_among found w.parts → Follows (needs_mentions (BitVec w)) found found ok
word_uses w found ok normal is = uses (less_one w).parts found ok (is ∙ ap (are_among found) (sym (with_parts-nil 0 w.parts normal)))

needs-Array : (a b : Sort) → width_needs (Array a b) ≡ width_needs a ++ width_needs b
unfolding hidden-the_row-Sort-0 denote.Hole.Carrier.hidden
needs-Array a b = refl

needs_array : (a b : Sort) → needs_mentions (Array a b) ≡ needs_mentions a ++ needs_mentions b
needs_array a b = ap (flat_map (λ e. Uses e.parts ∷ [])) (needs-Array a b) ∙ go (width_needs a) (width_needs b)
  where
    go : (xs ys : List LinearExpression) → flat_map (λ e. Uses e.parts ∷ []) (xs ++ ys) ≡ flat_map (λ e. Uses e.parts ∷ []) xs ++ flat_map (λ e. Uses e.parts ∷ []) ys
    go [] ys = refl
    go (x ∷ xs) ys = ap (λ zs. Uses x.parts ∷ zs) (go xs ys)

module _ (s a b : Sort) (found : List ℕ) (is : s ≡ Array a b) where
  of_array : (ok : Bool) → Follows (needs_mentions a ++ needs_mentions b) found found ok → Follows (needs_mentions s) found found ok
  of_array ok f = subst (λ (ms : List Mention). Follows ms found found ok) (sym (ap needs_mentions is ∙ needs_array a b)) f

  pub array_uses : (ok : Bool) → Follows (needs_mentions a) found found true → Follows (needs_mentions b) found found ok → Follows (needs_mentions s) found found ok
  array_uses ok f g = of_array ok (follow_both (needs_mentions a) (needs_mentions b) found found found ok f g)

  pub array_stops : Follows (needs_mentions a) found found false → Follows (needs_mentions s) found found false
  array_stops f = of_array false (follow_not (needs_mentions a) (needs_mentions b) found found f)

-- ---- all parameters one after another

found_next : (found : List ℕ) (ps : List Param) (k j : ℕ) → j < length ps → are_all_found found k (drop j ps) ≡ (list_any (nat_eq k) found && are_all_found found (k + 1) (drop (suc j) ps))
found_next found [] k j lt = absurd (omega (arith, lt))
found_next found (p ∷ ps) k zero lt = refl
found_next found (p ∷ ps) k (suc j) lt = found_next found ps k j (omega (arith, lt))

module _ (found : List ℕ) (ps : List Param) (k : ℕ) (lt : k < length ps) (so : are_all_found found k (drop k ps) ≡ are_all_found found 0 ps) where
  next_found : are_all_found found 0 ps ≡ (list_any (nat_eq k) found && are_all_found found (k + 1) (drop (k + 1) ps))
  next_found = sym so ∙ found_next found ps k k lt ∙ (let e : suc k ≡ k + 1 = omega arith in ap (λ j. list_any (nat_eq k) found && are_all_found found (k + 1) (drop j ps)) e)

  pub one_missing : list_any (nat_eq k) found ≡ false → are_all_found found 0 ps ≡ false
  one_missing fails = next_found ∙ ap (λ b. b && are_all_found found (k + 1) (drop (k + 1) ps)) fails

  pub one_found : list_any (nat_eq k) found ≡ true → are_all_found found (k + 1) (drop (k + 1) ps) ≡ are_all_found found 0 ps
  one_found is = sym (next_found ∙ ap (λ b. b && are_all_found found (k + 1) (drop (k + 1) ps)) is)
