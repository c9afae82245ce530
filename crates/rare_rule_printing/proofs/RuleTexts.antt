-- The texts of rules by their parts, and what is known of the parts of a rule in form.
use Rattle.std.proofs.Common.{◌≡◌, ℕ, ◌-◌, ◌<◌, ◌≤◌, List, [], ◌∷◌, ◌++◌, map, length, get_or, take, drop, IsTrue, subst, Option, None, refl, sym, ap, ◌∙◌, arith, append_assoc}
use Rattle.std.specs.Prelude.{codes, flat_map, All}
use Rattle.std.proofs.lemmas.List.{append-nil, take_all}
use Rattle.std.proofs.lemmas.Grind.{flat_map-append}
use Rattle.rare_linear.specs.declared.constraint.Constraint.{Constraint}
use Rattle.rare_sexpr.specs.Written.{written_symbol}
use Rattle.rare_sort.specs.declared.tree.Tree.{Tree}
use Rattle.rare_term_printing.specs.OperatorTexts.{list_text}
use Rattle.rare_rule.specs.ParamForms.{are_numbers, are_bounds}
use Rattle.rare_rule.specs.NodeForms.{has_indices, is_node_form}
use Rattle.rare_rule.specs.Nodes.{nodes_of, nodes_in}
use Rattle.rare_rule.specs.Rules.{IsInForm, side_nodes, context_nodes}
use Rattle.rare_rule.specs.declared.param.Param.{Param}
use Rattle.rare_rule.specs.declared.rule.Rule.{Rule}
use Rattle.rare_rule_printing.specs.ConstraintPrinting.{constraint_text}
use Rattle.rare_rule_printing.specs.SortPrinting.{params_text}
use Rattle.rare_rule_printing.specs.RulePrinting.{rule_term_text, rule_word, bounds_texts, premise_texts, side_texts, rule_text}
use Rattle.rare_rule_printing.specs.inner.Printable.{IsPrintable}
use Rattle.rare_rule_printing.specs.inner.RulePieces.{all_spaced, spaced_constraint, spaced_term, rule_opening, bounds_text, premises_text, context_text, sides_text}
use Rattle.rare_rule_printing.proofs.ParamNumbers.{both}
use Rattle.rare_rule_printing.proofs.Steps.{spaced_map}
use Rattle.rare_rule_printing.proofs.TermTexts.{all_front, all_printable}

bounds_parts : (ps : List Param) (c : Constraint) (cs : List Constraint) →
    codes " :where (" ++ (constraint_text ps c ++ (flat_map (spaced_constraint ps) cs ++ codes ")")) ≡ bounds_text ps (c ∷ cs)
bounds_parts ps c cs =
    ap (λ t. codes " :where (" ++ (constraint_text ps c ++ (t ++ codes ")"))) (sym (spaced_map (constraint_text ps) cs))
    ∙ ap (λ t. codes " :where (" ++ t) (sym (append-nil (constraint_text ps c ++ (all_spaced (map (constraint_text ps) cs) ++ codes ")"))))

split_first : (cs : List Constraint) (first : Constraint) → 0 < length cs → first ≡ get_or cs 0 first → cs ≡ first ∷ take (length cs - 1) (drop 1 cs)
split_first [] first lt is = absurd (omega (arith, lt))
split_first (c ∷ cs) first lt is =
    let e : length cs ≤ length (c ∷ cs) - 1 = omega arith in
    ap (λ x. c ∷ x) (sym (take_all (length (c ∷ cs) - 1) cs e)) ∙ ap (λ x. x ∷ take (length (c ∷ cs) - 1) cs) (sym is)

pub bounds_of : (ps : List Param) (cs : List Constraint) (first : Constraint) → 0 < length cs → first ≡ get_or cs 0 first →
    codes " :where (" ++ (constraint_text ps first ++ (flat_map (spaced_constraint ps) (take (length cs - 1) (drop 1 cs)) ++ codes ")")) ≡ bounds_text ps cs
bounds_of ps cs first lt is = bounds_parts ps first (take (length cs - 1) (drop 1 cs)) ∙ ap (bounds_text ps) (sym (split_first cs first lt is))

pub bounds_over : (ps : List Param) (cs : List Constraint) (first : Constraint) → 0 < length cs → first ≡ get_or cs 0 first → IsTrue (are_bounds ps cs) →
    IsTrue (are_numbers ps first.floor.parts) × IsTrue (are_bounds ps (take (length cs - 1) (drop 1 cs)))
bounds_over ps cs first lt is h =
    both (are_numbers ps first.floor.parts) (are_bounds ps (take (length cs - 1) (drop 1 cs))) (subst (λ (x : List Constraint). IsTrue (are_bounds ps x)) (split_first cs first lt is) h)

pub opening_of : (r : Rule) (word name : List ℕ) → word ≡ rule_word r.kind → name ≡ r.name → codes "(" ++ (word ++ (codes " " ++ (written_symbol name ++ codes " "))) ≡ rule_opening r
opening_of r word name is same =
    ap (λ w. codes "(" ++ (w ++ (codes " " ++ (written_symbol name ++ codes " ")))) is ∙ ap (λ n. codes "(" ++ (rule_word r.kind ++ (codes " " ++ (written_symbol n ++ codes " ")))) same

pub sides_of : (r : Rule) (ps : List Param) (context : Option Tree) → ps ≡ r.params → context ≡ r.context → spaced_term ps r.left ++ (spaced_term ps r.right ++ context_text ps context) ≡ sides_text r
sides_of r ps context is same =
    ap (λ qs. spaced_term qs r.left ++ (spaced_term qs r.right ++ context_text qs context)) is ∙ ap (λ c. spaced_term r.params r.left ++ (spaced_term r.params r.right ++ context_text r.params c)) same

pub few_premises : (ps : List Param) (ts : List Tree) → length ts < 2 → flat_map (spaced_term ps) ts ≡ premises_text ps ts
few_premises ps [] lt = refl
few_premises ps (t ∷ []) lt = refl
few_premises ps (t ∷ u ∷ ts) lt = absurd (omega (arith, lt))

pub many_premises : (ps : List Param) (ts : List Tree) → 2 ≤ length ts → codes " (and" ++ (flat_map (spaced_term ps) ts ++ codes ")") ≡ premises_text ps ts
many_premises ps [] le = absurd (omega (arith, le))
many_premises ps (t ∷ []) le = absurd (omega (arith, le))
many_premises ps (t ∷ u ∷ ts) le =
    ap (λ x. codes " (and" ++ (x ++ codes ")")) (sym (spaced_map (rule_term_text ps) (t ∷ u ∷ ts)))
    ∙ sym (append-nil (codes " (and" ++ (all_spaced (map (rule_term_text ps) (t ∷ u ∷ ts)) ++ codes ")")))

three : (bs ms ss : List (List ℕ)) → all_spaced bs ++ (all_spaced ms ++ (all_spaced ss ++ codes ")")) ≡ all_spaced (bs ++ (ms ++ ss)) ++ codes ")"
three bs ms ss =
    ap (λ t. all_spaced bs ++ t) (sym (append_assoc (all_spaced ms) (all_spaced ss) (codes ")")) ∙ ap (λ t. t ++ codes ")") (sym (flat_map-append (λ u. codes " " ++ u) ms ss)))
    ∙ sym (append_assoc (all_spaced bs) (all_spaced (ms ++ ss)) (codes ")")) ∙ ap (λ t. t ++ codes ")") (sym (flat_map-append (λ u. codes " " ++ u) bs (ms ++ ss)))

module _ (w n p : List ℕ) (bs ms ss : List (List ℕ)) where
  abbrev behind_params : List ℕ
  behind_params = all_spaced bs ++ (all_spaced ms ++ (all_spaced ss ++ codes ")"))

  abbrev all_behind : List ℕ
  all_behind = all_spaced (bs ++ (ms ++ ss))

  with_params : p ++ behind_params ≡ (p ++ all_behind) ++ codes ")"
  with_params = ap (λ t. p ++ t) (three bs ms ss) ∙ sym (append_assoc p all_behind (codes ")"))

  list_of_parts : (codes "(" ++ (w ++ (codes " " ++ (n ++ codes " ")))) ++ (p ++ behind_params) ≡ list_text (w ∷ n ∷ p ∷ (bs ++ (ms ++ ss)))
  list_of_parts =
      ap (λ t. 40 ∷ t) (append_assoc w (32 ∷ (n ++ (32 ∷ []))) (p ++ behind_params)
      ∙ ap (λ t. w ++ (32 ∷ t)) (append_assoc n (32 ∷ []) (p ++ behind_params) ∙ ap (λ t. n ++ (32 ∷ t)) with_params ∙ sym (append_assoc n (32 ∷ (p ++ all_behind)) (codes ")"))))

rule_parts : (r : Rule) →
    rule_opening r ++ (params_text r.params ++ (bounds_text r.params r.bounds ++ (premises_text r.params r.premises ++ (sides_text r ++ codes ")")))) ≡ rule_text r
rule_parts r = list_of_parts (rule_word r.kind) (written_symbol r.name) (params_text r.params) (bounds_texts r.params r.bounds) (premise_texts r.params r.premises) (side_texts r)

pub rule_of : (r : Rule) (ps : List Param) (bs : List Constraint) (ts : List Tree) → ps ≡ r.params → bs ≡ r.bounds → ts ≡ r.premises →
    rule_opening r ++ (params_text ps ++ (bounds_text ps bs ++ (premises_text ps ts ++ (sides_text r ++ codes ")")))) ≡ rule_text r
rule_of r ps bs ts params bounds premises =
    ap (λ qs. rule_opening r ++ (params_text qs ++ (bounds_text qs bs ++ (premises_text qs ts ++ (sides_text r ++ codes ")"))))) params
    ∙ ap (λ cs. rule_opening r ++ (params_text r.params ++ (bounds_text r.params cs ++ (premises_text r.params ts ++ (sides_text r ++ codes ")"))))) bounds
    ∙ ap (λ us. rule_opening r ++ (params_text r.params ++ (bounds_text r.params r.bounds ++ (premises_text r.params us ++ (sides_text r ++ codes ")"))))) premises ∙ rule_parts r

pub premises_printable : (r : Rule) → IsInForm r → All (IsPrintable r.params) r.premises
premises_printable r form =
    all_printable r.params None r.premises
    (all_front (has_indices r.params) (nodes_in r.premises) (nodes_of r.left ++ nodes_of r.right) (all_front (has_indices r.params) (side_nodes r) (context_nodes r) form.indices))
    (all_front (is_node_form r.params) (nodes_in r.premises) (nodes_of r.left ++ nodes_of r.right) (all_front (is_node_form r.params) (side_nodes r) (context_nodes r) form.operators))
