-- The texts of terms by their parts, and what is known of their parts.
use Rattle.std.proofs.Common.{◌≡◌, ℕ, zero, suc, ◌<◌, ◌≤◌, Bool, true, false, ◌||◌, List, [], ◌∷◌, ◌++◌, map, length, get_or, nat_eq, Option, Some, IsTrue, refl, sym, ap, ◌∙◌, subst, arith, append_assoc, if◌then◌else◌}
use Rattle.std.specs.Prelude.{codes, flat_map, nat_le, All}
use Rattle.std.specs.Fmt.{decimal}
use Rattle.std.proofs.lemmas.Bool.Decides.{nat_tests}
use Rattle.std.proofs.lemmas.Bool.{eqb-true}
use Rattle.rare_linear.specs.Linears.{LinearExpression}
use Rattle.rare_sort.specs.Sameness as same
use Rattle.rare_sort.specs.Trees.{head_of, indices_of, args_of, nesting, greatest}
use Rattle.rare_sort.specs.declared.head.Head.{Head}
use Rattle.rare_sort.specs.declared.head.Head.TheVariants as head
use Rattle.rare_sort.specs.declared.tree.Tree.{Tree, fold-roll-Tree}
use Rattle.rare_term.specs.inner.TreeLaws.{node_of, nesting_of}
use Rattle.rare_scope.specs.Numbers.{LARGEST_SMALL}
use Rattle.rare_scope.specs.Printing.{linear_text_by}
use Rattle.rare_term_printing.specs.OperatorTexts.{list_text, operator_word, indexed_word}
use Rattle.rare_rule.specs.NodeForms.{index_count, has_its_arguments, is_operator_of_rules, all_nodes, has_indices, is_node_form}
use Rattle.rare_rule.specs.Nodes.{Node, Walk, walk}
use Rattle.rare_rule.specs.ParamForms.{all_are_numbers}
use Rattle.rare_rule.specs.declared.param.Param.{Param}
use Rattle.rare_rule.proofs.Walks.{walk-node}
use Rattle.rare_rule_printing.specs.ConstraintPrinting.{number_text}
use Rattle.rare_rule_printing.specs.RulePrinting.{index_texts, bits_text, application_text, node_text, term_text_step, rule_term_text}
use Rattle.rare_rule_printing.specs.inner.Printable.{IsPrintable}
use Rattle.rare_rule_printing.specs.inner.RulePieces.{all_spaced, spaced_linear, spaced_term, stands_alone, bits_opening, indices_and_end, application_opening}
use Rattle.rare_rule_printing.proofs.ParamNumbers.{both}
use Rattle.rare_rule_printing.proofs.Steps.{spaced_map, list_parts}

true_word : operator_word head.True ≡ codes "true"
unfolding same.head_eq
true_word = refl

false_word : operator_word head.False ≡ codes "false"
unfolding same.head_eq
false_word = refl

not_empty : (t : Tree) (ts : List Tree) → nat_eq (length (t ∷ ts)) 0 ≡ false
not_empty t ts = let some : ¬ (length (t ∷ ts) ≡ 0) = omega arith in grind (arith, nat_tests)

module _ (ps : List Param) where
  -- ---- operators

  spaced_indices : (ix : List LinearExpression) → flat_map (spaced_linear ps) ix ≡ all_spaced (index_texts ps ix)
  spaced_indices ix = sym (spaced_map (linear_text_by (number_text ps)) ix)

  pub literal_parts : (ix : List LinearExpression) → codes "(bv" ++ indices_and_end ps ix ≡ node_text ps head.Literal ix []
  literal_parts ix = ap (λ t. codes "(bv" ++ (t ++ codes ")")) (spaced_indices ix)

  pub given_parts : (v : ℕ) (ix : List LinearExpression) → bits_opening v ++ indices_and_end ps ix ≡ bits_text v (index_texts ps ix)
  given_parts v ix = go (nat_le v LARGEST_SMALL)
    where
      go : (b : Bool) → (if b then codes "(bv " ++ decimal v else codes "(_ bv" ++ decimal v) ++ indices_and_end ps ix
          ≡ (if b then list_text (codes "bv" ∷ decimal v ∷ index_texts ps ix) else list_text (codes "_" ∷ (codes "bv" ++ decimal v) ∷ index_texts ps ix))
      go true =
          ap (λ t. codes "(bv " ++ (decimal v ++ (t ++ codes ")"))) (spaced_indices ix)
          ∙ ap (λ t. codes "(bv " ++ t) (sym (append_assoc (decimal v) (all_spaced (index_texts ps ix)) (codes ")")))
      go false =
          ap (λ t. codes "(_ bv" ++ (decimal v ++ (t ++ codes ")"))) (spaced_indices ix)
          ∙ ap (λ t. codes "(_ bv" ++ t) (sym (append_assoc (decimal v) (all_spaced (index_texts ps ix)) (codes ")")))

  pub application_parts : (h : Head) (ix : List LinearExpression) (ts : List (List ℕ)) → application_opening ps h ix ++ (all_spaced ts ++ codes ")") ≡ application_text h (index_texts ps ix) ts
  application_parts h [] ts = list_parts (operator_word h) [] ts
  application_parts h (e ∷ ix) ts =
      ap (λ t. ((codes "(" ++ indexed_word h) ++ t) ++ (all_spaced ts ++ codes ")")) (spaced_indices (e ∷ ix)) ∙ list_parts (indexed_word h) (index_texts ps (e ∷ ix)) ts

  -- ---- nodes

  pub term_text : (t : Tree) → node_text ps (head_of t) (indices_of t) (map (rule_term_text ps) (args_of t)) ≡ rule_term_text ps t
  term_text t = sym (ap (rule_term_text ps) (sym (node_of t)) ∙ fold-roll-Tree (List ℕ) (term_text_step ps) (record { head = head_of t; indices = indices_of t; args = args_of t }))

  alone : (h : Head) (ix : List LinearExpression) (ts : List (List ℕ)) → stands_alone h ≡ true → node_text ps h ix [] ≡ node_text ps h ix ts
  alone (head.Param k) ix ts e = refl
  alone head.Hole ix ts e = refl
  alone (head.Numeral n) ix ts e = refl
  alone (head.Bits v) ix ts e = refl
  alone head.Literal ix ts e = refl
  alone h ix ts e = absurd cc

  leaf : (h : Head) (ix : List LinearExpression) (ts : List Tree) → (nat_eq (length ts) 0 || stands_alone h) ≡ true → node_text ps h ix [] ≡ node_text ps h ix (map (rule_term_text ps) ts)
  leaf h ix [] e = refl
  leaf h ix (t ∷ ts) e = let some : nat_eq (length (t ∷ ts)) 0 ≡ false = not_empty t ts in alone h ix (map (rule_term_text ps) (t ∷ ts)) (ap (λ b. b || stands_alone h) (sym some) ∙ e)

  pub leaf_text : (t : Tree) → (nat_eq (length (args_of t)) 0 || stands_alone (head_of t)) ≡ true → node_text ps (head_of t) (indices_of t) [] ≡ rule_term_text ps t
  leaf_text t e = leaf (head_of t) (indices_of t) (args_of t) e ∙ term_text t

  applied : (h : Head) (ix : List LinearExpression) (t : List ℕ) (ts : List (List ℕ)) → stands_alone h ≡ false → nat_eq (length ix) (index_count h) ≡ true →
      application_text h (index_texts ps ix) (t ∷ ts) ≡ node_text ps h ix (t ∷ ts)
  applied (head.Param k) ix t ts e count = absurd cc
  applied head.Hole ix t ts e count = absurd cc
  applied (head.Numeral n) ix t ts e count = absurd cc
  applied (head.Bits v) ix t ts e count = absurd cc
  applied head.Literal ix t ts e count = absurd cc
  applied head.True [] t ts e count = ap (λ w. list_text (w ∷ t ∷ ts)) true_word
  applied head.True (i ∷ ix) t ts e count = absurd (omega (arith, eqb-true (length (i ∷ ix)) 0 count))
  applied head.False [] t ts e count = ap (λ w. list_text (w ∷ t ∷ ts)) false_word
  applied head.False (i ∷ ix) t ts e count = absurd (omega (arith, eqb-true (length (i ∷ ix)) 0 count))
  applied h ix t ts e count = refl

  node_parts : (h : Head) (ix : List LinearExpression) (ts : List Tree) → (nat_eq (length ts) 0 || stands_alone h) ≡ false → nat_eq (length ix) (index_count h) ≡ true →
      application_opening ps h ix ++ (flat_map (spaced_term ps) ts ++ codes ")") ≡ node_text ps h ix (map (rule_term_text ps) ts)
  node_parts h ix [] e count = absurd cc
  node_parts h ix (t ∷ ts) e count =
      let some : nat_eq (length (t ∷ ts)) 0 ≡ false = not_empty t ts in
      let other : stands_alone h ≡ false = ap (λ b. b || stands_alone h) (sym some) ∙ e in
      ap (λ x. application_opening ps h ix ++ (x ++ codes ")")) (sym (spaced_map (rule_term_text ps) (t ∷ ts)))
      ∙ application_parts h ix (map (rule_term_text ps) (t ∷ ts)) ∙ applied h ix (rule_term_text ps t) (map (rule_term_text ps) ts) other count

-- ---- what is known of the parts

pub all_front : (test : Node → Bool) (xs ys : List Node) → IsTrue (all_nodes test (xs ++ ys)) → IsTrue (all_nodes test xs)
all_front test [] ys h = refl
all_front test (x ∷ xs) ys h =
    let now = both (test x) (all_nodes test (xs ++ ys)) h in
    let more = all_front test xs ys now.1 in
    rw (now.0, more) refl

pub all_back : (test : Node → Bool) (xs ys : List Node) → IsTrue (all_nodes test (xs ++ ys)) → IsTrue (all_nodes test ys)
all_back test [] ys h = h
all_back test (x ∷ xs) ys h = all_back test xs ys (both (test x) (all_nodes test (xs ++ ys)) h).1

pub all_at : (test : Node → Bool) (parent : Option Head) (ts : List Tree) (k : ℕ) (d : Tree) → IsTrue (all_nodes test (flat_map (λ w. w.nodes parent) (map walk ts))) → k < length ts →
    IsTrue (all_nodes test ((walk (get_or ts k d)).nodes parent))
all_at test parent [] k d h lt = absurd (omega (arith, lt))
all_at test parent (t ∷ ts) zero d h lt = all_front test ((walk t).nodes parent) (flat_map (λ w. w.nodes parent) (map walk ts)) h
all_at test parent (t ∷ ts) (suc k) d h lt = all_at test parent ts k d (all_back test ((walk t).nodes parent) (flat_map (λ w. w.nodes parent) (map walk ts)) h) (omega arith)

-- trees whose nodes are in form
pub all_printable : (ps : List Param) (parent : Option Head) (ts : List Tree) →
    IsTrue (all_nodes (has_indices ps) (flat_map (λ w. w.nodes parent) (map walk ts))) → IsTrue (all_nodes (is_node_form ps) (flat_map (λ w. w.nodes parent) (map walk ts))) → All (IsPrintable ps) ts
all_printable ps parent ts indices forms k d lt = (parent, (all_at (has_indices ps) parent ts k d indices lt, all_at (is_node_form ps) parent ts k d forms lt))

module _ (ps : List Param) (t : Tree) where
  abbrev below : List Node
  below = flat_map (λ w. w.nodes (Some (head_of t))) (map walk (args_of t))

  abbrev here : Option Head → Node
  here parent = record { head = head_of t; indices = indices_of t; parent = parent; args = map (λ w. w.root) (map walk (args_of t)) }

  nodes_at : (parent : Option Head) → (walk t).nodes parent ≡ below ++ (here parent ∷ [])
  nodes_at parent = ap (λ (w : Walk). w.nodes parent) (ap walk (sym (node_of t)) ∙ walk-node (head_of t) (indices_of t) (args_of t))

  all_nodes_at : (test : Node → Bool) (parent : Option Head) → IsTrue (all_nodes test ((walk t).nodes parent)) → IsTrue (all_nodes test (below ++ (here parent ∷ [])))
  all_nodes_at test parent h = subst (λ (ns : List Node). IsTrue (all_nodes test ns)) (nodes_at parent) h

  at_root : (test : Node → Bool) (parent : Option Head) → IsTrue (all_nodes test ((walk t).nodes parent)) → IsTrue (test (here parent))
  at_root test parent h = (both (test (here parent)) true (all_back test below (here parent ∷ []) (all_nodes_at test parent h))).0

  pub args_printable : IsPrintable ps t → All (IsPrintable ps) (args_of t)
  args_printable h =
      all_printable ps (Some (head_of t)) (args_of t) (all_front (has_indices ps) below (here h.0 ∷ []) (all_nodes_at (has_indices ps) h.0 h.1.0))
      (all_front (is_node_form ps) below (here h.0 ∷ []) (all_nodes_at (is_node_form ps) h.0 h.1.1))

  indices_here : IsPrintable ps t → IsTrue (nat_eq (length (indices_of t)) (index_count (head_of t))) × IsTrue (all_are_numbers ps (indices_of t))
  indices_here h = both (nat_eq (length (indices_of t)) (index_count (head_of t))) (all_are_numbers ps (indices_of t)) (at_root (has_indices ps) h.0 h.1.0)

  pub indices_over : IsPrintable ps t → IsTrue (all_are_numbers ps (indices_of t))
  indices_over h = (indices_here h).1

  pub head_known : IsPrintable ps t → IsTrue (is_operator_of_rules ps (head_of t))
  head_known h = (both (is_operator_of_rules ps (head_of t)) (has_its_arguments (head_of t) (here h.0).args) (at_root (is_node_form ps) h.0 h.1.1)).0

  pub tree_parts : (nat_eq (length (args_of t)) 0 || stands_alone (head_of t)) ≡ false → IsPrintable ps t →
      application_opening ps (head_of t) (indices_of t) ++ (flat_map (spaced_term ps) (args_of t) ++ codes ")") ≡ rule_term_text ps t
  tree_parts e h = node_parts ps (head_of t) (indices_of t) (args_of t) e (indices_here h).0 ∙ term_text ps t

-- ---- how deep terms nest

pub args_less : (t : Tree) (ts : List Tree) → ts ≡ args_of t → greatest (map nesting ts) < nesting t
args_less t ts is = let e = nesting_of t in let f = ap (λ (us : List Tree). greatest (map nesting us)) is in omega (arith, e, f)

at_most_greatest : (ts : List Tree) (k : ℕ) (d : Tree) → k < length ts → nesting (get_or ts k d) ≤ greatest (map nesting ts)
at_most_greatest [] k d lt = absurd (omega (arith, lt))
at_most_greatest (t ∷ ts) zero d lt = omega arith
at_most_greatest (t ∷ ts) (suc k) d lt = let h = at_most_greatest ts k d (omega arith) in omega (arith, h)

pub item_within : (ts : List Tree) (k : ℕ) (t : Tree) → t ≡ get_or ts k t → k < length ts → nesting t ≤ greatest (map nesting ts)
item_within ts k t is lt = let h = at_most_greatest ts k t lt in let e = ap nesting is in omega (arith, h, e)
