-- A rule that was read is in form.
use Rattle.std.proofs.Common.{◌≡◌, ℕ, Bool, true, false, List, [], ◌∷◌, ◌++◌, length, None, Ok, Err, Result, IfOk, refl, subst}
use Rattle.std.specs.Prelude.{if◌then◌else◌, nat_le, codes}
use Rattle.rare_base.specs.declared.answers.Fault.{Fault}
use Rattle.rare_base.specs.declared.answers.Reason.{Reason}
use Rattle.rare_base.specs.declared.answers.Reason.TheVariants as reason
use Rattle.rare_linear.specs.declared.constraint.Constraint.{Constraint}
use Rattle.rare_sort.specs.declared.tree.Tree.{Tree}
use Rattle.rare_sort.proofs.NeedsLemmas.{both, and_both}
use Rattle.rare_sexpr.specs.declared.tree.Sexpr.{Sexpr}
use Rattle.rare_sexpr.specs.Tree.{kind_of, items_of}
use Rattle.rare_scope.specs.Answers.{Answers}
use Rattle.rare_scope.specs.Reading.{Read, refused, go_on, is_symbol_kind, is_word, is_keyword_word, symbol_at}
use Rattle.rare_scope.proofs.InOrder.{went, same_Ok}
use Rattle.rare_rule.specs.Determination.{mentions, are_in_order, are_all_determined}
use Rattle.rare_rule.specs.NodeForms.{all_nodes, has_few_lists, has_indices, is_node_form, is_placed, is_literal_within}
use Rattle.rare_rule.specs.Nodes.{Node, nodes_of}
use Rattle.rare_rule.specs.ParamForms.{are_bounds}
use Rattle.rare_rule.specs.Rules.{IsInForm, MOST_RULE_NODES, has_holes, rule_nodes}
use Rattle.rare_rule.specs.Written.{plain_rule}
use Rattle.rare_rule.specs.declared.param.Param.{Param}
use Rattle.rare_rule.specs.declared.rule.Rule.{Rule}
use Rattle.rare_parse.specs.ParamText.{params_at}
use Rattle.rare_parse.specs.RuleTermText.{rule_term_at}
use Rattle.rare_parse.specs.RuleText.{bounds_at, refused_unless, is_small, whole_rule, rule_head, ended, with_sides, begins_definitions, behind_bounds, behind_params, has_rule_items, plain_rule_of, rule_of, rule_at}
use Rattle.rare_parse.proofs.FormBounds.{bounds_fine}
use Rattle.rare_parse.proofs.FormHeads.{is_fine_node}
use Rattle.rare_parse.proofs.FormLiterals.{IsFineTree}
use Rattle.rare_parse.proofs.FormParams.{AreParams, all_among, params_fine}
use Rattle.rare_parse.proofs.FormTerms.{nodes-append, term_fine}

-- ---- the tests of the whole

-- the test is passed, and what follows is the answer
passed : (holds : Bool) (e : Sexpr) (why : Reason) (other : Read Rule) (r : Rule) → refused_unless holds e why other ≡ Ok r → (holds ≡ true) × (other ≡ Ok r)
passed true e why other r is = (refl, is)
passed false e why other r is = absurd cc

-- all tests of the whole are passed
record IsPassed (r : Rule) : Type 0 where
  small : is_small r ≡ true
  holes : has_holes r ≡ true
  placed : all_nodes (is_placed r.params) (rule_nodes r) ≡ true
  in_order : are_in_order [] (mentions r.params r.left) ≡ true
  determined : are_all_determined (mentions r.params r.left) 0 r.params ≡ true

whole_passed : (e : Sexpr) (r s : Rule) → whole_rule e r ≡ Ok s → IsPassed r × (r ≡ s)
whole_passed e r s is =
    let determined = refused_unless (are_all_determined (mentions r.params r.left) 0 r.params) e reason.Unbound (Ok r) in
    let in_order = refused_unless (are_in_order [] (mentions r.params r.left)) e reason.LeftIndex determined in
    let placed = refused_unless (all_nodes (is_placed r.params) (rule_nodes r)) e reason.MisplacedList in_order in
    let holes = refused_unless (has_holes r) e reason.ContextForm placed in
    let a = passed (is_small r) e reason.RuleTooLarge holes s is in
    let b = passed (has_holes r) e reason.ContextForm placed s a.1 in
    let c = passed (all_nodes (is_placed r.params) (rule_nodes r)) e reason.MisplacedList in_order s b.1 in
    let d = passed (are_in_order [] (mentions r.params r.left)) e reason.LeftIndex determined s c.1 in
    let f = passed (are_all_determined (mentions r.params r.left) 0 r.params) e reason.Unbound (Ok r) s d.1 in
    (record { small = a.0; holes = b.0; placed = c.0; in_order = d.0; determined = f.0 }, same_Ok r s f.1)

-- ---- the parts of a rule

all_weaker : (test other : Node → Bool) (ns : List Node) → ((n : Node) → test n ≡ true → other n ≡ true) → all_nodes test ns ≡ true → all_nodes other ns ≡ true
all_weaker test other [] weaker h = refl
all_weaker test other (n ∷ ns) weaker h = let x = both _ _ h in and_both _ _ (weaker n x.0) (all_weaker test other ns weaker x.1)

module _ (name : List ℕ) (ps : List Param) (fine : AreParams ps) (bs : List Constraint) (bounds : are_bounds ps bs ≡ true) where
  abbrev rule : Tree → Tree → Rule
  rule left right = plain_rule name ps bs left right

  rule_in_form : (left right : Tree) → IsFineTree ps left → IsFineTree ps right → IsPassed (rule left right) → IsInForm (rule left right)
  rule_in_form left right l r tests =
      let sides = nodes-append (is_fine_node ps) (nodes_of left) (nodes_of right) (l None) (r None) in
      let nodes : all_nodes (is_fine_node ps) (rule_nodes (rule left right)) ≡ true = nodes-append (is_fine_node ps) (nodes_of left ++ nodes_of right) [] sides refl in
      let small = both (nat_le (length (rule_nodes (rule left right))) MOST_RULE_NODES) (all_nodes (has_few_lists ps) (nodes_of left)) tests.small in
      record {
        params = fine.params;
        names = fine.names;
        fresh_last = fine.fresh_last;
        fresh_brought = fine.fresh_brought;
        sorts = fine.sorts;
        bounds = bounds;
        indices = all_weaker (is_fine_node ps) (has_indices ps) (rule_nodes (rule left right)) (λ n h. (both _ _ h).0) nodes;
        operators = all_weaker (is_fine_node ps) (is_node_form ps) (rule_nodes (rule left right)) (λ n h. (both _ _ (both _ _ h).1).0) nodes;
        form = refl;
        literals = all_weaker (is_fine_node ps) (λ n. is_literal_within n.head n.indices) (rule_nodes (rule left right)) (λ n h. (both _ _ (both _ _ h).1).1) nodes;
        shallow = fine.shallow;
        nodes = small.0;
        lists = small.1;
        holes = tests.holes;
        placed = tests.placed;
        in_order = tests.in_order;
        determined = tests.determined;
      }

  whole_fine : (e : Sexpr) (left right : Tree) (r : Rule) → IsFineTree ps left → IsFineTree ps right → whole_rule e (rule left right) ≡ Ok r → IsInForm r
  whole_fine e left right r g h is =
      let x = whole_passed e (rule left right) r is in
      subst IsInForm x.1 (rule_in_form left right g h x.0)

  ended_fine : (e : Sexpr) (left right : Tree) (rest : List Sexpr) (r : Rule) → IsFineTree ps left → IsFineTree ps right → ended rest (whole_rule e (rule left right)) ≡ Ok r → IsInForm r
  ended_fine e left right [] r g h is = whole_fine e left right r g h is
  ended_fine e left right (x ∷ xs) r g h is = absurd cc

  both_sides : (e x y : Sexpr) (rest : List Sexpr) (r : Rule) → with_sides e (rule_head name ps bs) (x ∷ y ∷ rest) ≡ Ok r → IsInForm r
  both_sides e x y rest r is =
      let left = went (rule_term_at ps x) (λ left. go_on (rule_term_at ps y) (λ right. ended rest (whole_rule e (rule left right)))) r is in
      let right = went (rule_term_at ps y) (λ right. ended rest (whole_rule e (rule left.0 right))) r left.2 in
      let among = all_among ps fine in
      ended_fine e left.0 right.0 rest r (term_fine ps among x left.0 left.1) (term_fine ps among y right.0 right.1) right.2

  one_side : (e x : Sexpr) (r : Rule) → with_sides e (rule_head name ps bs) (x ∷ []) ≡ Ok r → IsInForm r
  one_side e x r is = let left = went (rule_term_at ps x) (λ left. refused e reason.BadForm) r is in absurd (no left.2)
    where
      no : ◌≡◌ {A = Read Rule} (refused e reason.BadForm) (Ok r) → ⊥
      no is = cc

  sides_fine : (e : Sexpr) (xs : List Sexpr) (r : Rule) → with_sides e (rule_head name ps bs) xs ≡ Ok r → IsInForm r
  sides_fine e [] r is = absurd cc
  sides_fine e (x ∷ []) r is = one_side e x r is
  sides_fine e (x ∷ y ∷ rest) r is = both_sides e x y rest r is

  bounds_behind : (e : Sexpr) (xs : List Sexpr) (r : Rule) → behind_bounds e (rule_head name ps bs) xs ≡ Ok r → IsInForm r
  bounds_behind e [] r is = absurd cc
  bounds_behind e (x ∷ xs) r is = go (begins_definitions (items_of x)) is
    where
      go : (b : Bool) → (if b then refused x reason.BadForm else with_sides e (rule_head name ps bs) (x ∷ xs)) ≡ Ok r → IsInForm r
      go true is = absurd cc
      go false is = sides_fine e (x ∷ xs) r is

module _ (name : List ℕ) (ps : List Param) (fine : AreParams ps) where
  with_bounds : (e c : Sexpr) (rest : List Sexpr) (r : Rule) → go_on (bounds_at ps c) (λ bs. behind_bounds e (rule_head name ps bs) rest) ≡ Ok r → IsInForm r
  with_bounds e c rest r is =
      let bs = went (bounds_at ps c) (λ bs. behind_bounds e (rule_head name ps bs) rest) r is in
      bounds_behind name ps fine bs.0 (bounds_fine ps (all_among ps fine) c bs.0 bs.1) e rest r bs.2

  params_behind : (e : Sexpr) (xs : List Sexpr) (r : Rule) → behind_params e name ps xs ≡ Ok r → IsInForm r
  params_behind e [] r is = absurd cc
  params_behind e (k ∷ []) r is = absurd cc
  params_behind e (k ∷ c ∷ rest) r is = go (is_keyword_word (codes "where") k) is
    where
      go : (b : Bool) →
          (if b then go_on (bounds_at ps c) (λ bs. behind_bounds e (rule_head name ps bs) rest) else behind_bounds e (rule_head name ps []) (k ∷ c ∷ rest)) ≡ Ok r → IsInForm r
      go true is = with_bounds e c rest r is
      go false is = bounds_behind name ps fine [] refl e (k ∷ c ∷ rest) r is

-- ---- rules

three_behind : (e w n p : Sexpr) (rest : List Sexpr) (r : Rule) → plain_rule_of e (w ∷ n ∷ p ∷ rest) ≡ Ok r → IsInForm r
three_behind e w n p rest r is =
    let name = went (symbol_at n) (λ name. go_on (params_at p) (λ ps. behind_params e name ps rest)) r is in
    let ps = went (params_at p) (λ ps. behind_params e name.0 ps rest) r name.2 in
    params_behind name.0 ps.0 (params_fine p ps.0 ps.1) e rest r ps.2

plain_fine : (e : Sexpr) (items : List Sexpr) (r : Rule) → plain_rule_of e items ≡ Ok r → IsInForm r
plain_fine e [] r is = absurd cc
plain_fine e (w ∷ []) r is = absurd cc
plain_fine e (w ∷ n ∷ []) r is = absurd cc
plain_fine e (w ∷ n ∷ p ∷ rest) r is = three_behind e w n p rest r is

items_fine : (e : Sexpr) (items : List Sexpr) (r : Rule) → rule_of e items ≡ Ok r → IsInForm r
items_fine e [] r is = absurd cc
items_fine e (w ∷ items) r is = go (is_symbol_kind (kind_of w)) (is_word (codes "define-rule") w) (has_rule_items (w ∷ items)) is
  where
    go : (a b c : Bool) →
        (if a
        then (if b then (if c then plain_rule_of e (w ∷ items) else refused e reason.BadForm) else refused e reason.UnknownCommand)
        else refused e reason.BadForm) ≡ Ok r → IsInForm r
    go true true true is = plain_fine e (w ∷ items) r is
    go true true false is = absurd cc
    go true false c is = absurd cc
    go false b c is = absurd cc

-- a rule that an expression spells is in form
pub read_is_in_form : (e : Sexpr) (r : Rule) → rule_at e ≡ Ok r → IsInForm r
read_is_in_form e r is = items_fine e (items_of e) r is

-- and so is one that was answered
pub answer_in_form : (e : Sexpr) (result : Result Rule Fault) → Answers result (rule_at e) → IfOk result IsInForm
answer_in_form e (Ok r) is = read_is_in_form e r is
answer_in_form e (Err f) is = tt
