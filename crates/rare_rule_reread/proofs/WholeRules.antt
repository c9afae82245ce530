-- What is written of a rule that was read is read back as that rule.
use Rattle.std.proofs.Common.{◌≡◌, ℕ, Bool, true, false, List, [], ◌∷◌, length, Ok, Err, refl, sym, ap, ◌∙◌}
use Rattle.std.specs.Prelude.{codes, nat_le, if◌then◌else◌}
use Rattle.std.specs.List.{list_all}
use Rattle.rare_base.specs.declared.answers.Reason.{Reason}
use Rattle.rare_base.specs.declared.answers.Reason.TheVariants as reason
use Rattle.rare_linear.specs.Linears.{LinearExpression}
use Rattle.rare_sexpr.specs.Bytes.{is_in_bars}
use Rattle.rare_sexpr.specs.declared.tree.Sexpr.{Sexpr}
use Rattle.rare_sexpr.specs.Tree.{kind_of, text_of, items_of}
use Rattle.rare_sort.specs.declared.tree.Tree.{Tree}
use Rattle.rare_sort.proofs.NeedsLemmas.{both}
use Rattle.rare_scope.specs.Reading.{Read, refused, go_on, is_keyword_word, is_symbol_kind, is_word, symbol_at}
use Rattle.rare_scope.proofs.InOrder.{went, same_Ok}
use Rattle.rare_rule.specs.Determination.{mentions, are_in_order, are_all_determined}
use Rattle.rare_rule.specs.NodeForms.{all_nodes, has_few_lists, is_placed}
use Rattle.rare_rule.specs.Nodes.{nodes_of}
use Rattle.rare_rule.specs.Rules.{MOST_RULE_NODES, has_holes, rule_nodes}
use Rattle.rare_rule.specs.Written.{plain_rule}
use Rattle.rare_rule.specs.declared.param.Param.{Param}
use Rattle.rare_rule.specs.declared.rule.Rule.{Rule}
use Rattle.rare_parse.specs.ParamText.{params_at}
use Rattle.rare_parse.specs.RuleTermText.{rule_term_at}
use Rattle.rare_parse.specs.RuleText.{bounds_of, bounds_at, refused_unless, is_small, whole_rule, rule_head, ended, with_sides, begins_definitions, behind_bounds, behind_params, has_rule_items, plain_rule_of, rule_of, rule_at}
use Rattle.rare_rule_reread.specs.Spelled.{IsSpelled}
use Rattle.rare_rule_reread.proofs.Arguments.{IsBack}
use Rattle.rare_rule_reread.proofs.RuleBounds.{bounds_speak}
use Rattle.rare_rule_reread.proofs.ParamLists.{AreBack, params_back}
use Rattle.rare_rule_reread.proofs.Sizes.{AreShallow, sides_shallow}
use Rattle.rare_rule_reread.proofs.Spelled.{AllSpelled, items_spelled, symbol_in_bars}
use Rattle.rare_rule_reread.proofs.Spoken.{AllSpeak}
use Rattle.rare_rule_reread.proofs.Terms.{term_back}

-- ---- the tests of the whole

abbrev determined : Sexpr → Rule → Read Rule
determined e s = refused_unless (are_all_determined (mentions s.params s.left) 0 s.params) e reason.Unbound (Ok s)

abbrev ordered : Sexpr → Rule → Read Rule
ordered e s = refused_unless (are_in_order [] (mentions s.params s.left)) e reason.LeftIndex (determined e s)

abbrev placed : Sexpr → Rule → Read Rule
placed e s = refused_unless (all_nodes (is_placed s.params) (rule_nodes s)) e reason.MisplacedList (ordered e s)

abbrev filled : Sexpr → Rule → Read Rule
filled e s = refused_unless (has_holes s) e reason.ContextForm (placed e s)

-- a test that passed
passed : (b : Bool) (e : Sexpr) (why : Reason) (p : Read Rule) (r : Rule) → refused_unless b e why p ≡ Ok r → (b ≡ true) × (p ≡ Ok r)
passed true e why p r is = (refl, is)
passed false e why p r is = absurd cc

-- passes again
passes : (b : Bool) (e : Sexpr) (why : Reason) (p : Read Rule) (r : Rule) → b ≡ true → p ≡ Ok r → refused_unless b e why p ≡ Ok r
passes true e why p r is h = h
passes false e why p r is h = absurd cc

record IsWhole (s r : Rule) : Type 0 where
  small : is_small s ≡ true
  again : (x : Sexpr) → whole_rule x s ≡ Ok r

whole_again : (e : Sexpr) (s r : Rule) → whole_rule e s ≡ Ok r → IsWhole s r
whole_again e s r is =
    let a = passed (is_small s) e reason.RuleTooLarge (filled e s) r is in
    let b = passed (has_holes s) e reason.ContextForm (placed e s) r a.1 in
    let c = passed (all_nodes (is_placed s.params) (rule_nodes s)) e reason.MisplacedList (ordered e s) r b.1 in
    let d = passed (are_in_order [] (mentions s.params s.left)) e reason.LeftIndex (determined e s) r c.1 in
    let f = passed (are_all_determined (mentions s.params s.left) 0 s.params) e reason.Unbound (Ok s) r d.1 in
    record {
      small = a.0;
      again = λ x.
          passes (is_small s) x reason.RuleTooLarge (filled x s) r a.0
          (passes (has_holes s) x reason.ContextForm (placed x s) r b.0
          (passes (all_nodes (is_placed s.params) (rule_nodes s)) x reason.MisplacedList (ordered x s) r c.0
          (passes (are_in_order [] (mentions s.params s.left)) x reason.LeftIndex (determined x s) r d.0
          (passes (are_all_determined (mentions s.params s.left) 0 s.params) x reason.Unbound (Ok s) r f.0 f.1))));
    }

whole_same : (e : Sexpr) (s r : Rule) → whole_rule e s ≡ Ok r → s ≡ r
whole_same e s r is =
    let a = passed (is_small s) e reason.RuleTooLarge (filled e s) r is in
    let b = passed (has_holes s) e reason.ContextForm (placed e s) r a.1 in
    let c = passed (all_nodes (is_placed s.params) (rule_nodes s)) e reason.MisplacedList (ordered e s) r b.1 in
    let d = passed (are_in_order [] (mentions s.params s.left)) e reason.LeftIndex (determined e s) r c.1 in
    let f = passed (are_all_determined (mentions s.params s.left) 0 s.params) e reason.Unbound (Ok s) r d.1 in
    same_Ok s r f.1

-- ---- what was read

-- the parts of a rule that was read, each of which is read back
pub record HasParts (r : Rule) : Type 0 where
  pub name : List ℕ
  pub params : List Param
  pub floors : List LinearExpression
  pub left : Tree
  pub right : Tree
  pub bars : list_all is_in_bars name ≡ true
  pub back : AreBack params
  pub speak : AllSpeak params params floors
  pub left_back : IsBack params left
  pub right_back : IsBack params right
  pub shallow : AreShallow left right
  pub again : (x : Sexpr) → whole_rule x (plain_rule name params (bounds_of floors) left right) ≡ Ok r
  pub same : plain_rule name params (bounds_of floors) left right ≡ r

never : (e : Sexpr) (why : Reason) (q : Read Tree) (r : Rule) → go_on q (λ t. refused {A = Rule} e why) ≡ Ok r → ⊥
never e why (Ok t) r is = cc
never e why (Err f) r is = cc

module _ (e : Sexpr) (r : Rule) where
  module _ (name : List ℕ) (bars : list_all is_in_bars name ≡ true) (ps : List Param) (back : AreBack ps) where
    sides_parts : (fs : List LinearExpression) (xs : List Sexpr) → AllSpeak ps ps fs → AllSpelled xs → with_sides e (rule_head name ps (bounds_of fs)) xs ≡ Ok r → HasParts r
    sides_parts fs [] speak spelled is = absurd cc
    sides_parts fs (l ∷ []) speak spelled is = absurd (never e reason.BadForm (rule_term_at ps l) r is)
    sides_parts fs (l ∷ q ∷ rest) speak spelled is =
        let left = went (rule_term_at ps l) (λ left. go_on (rule_term_at ps q) (λ right. ended rest (whole_rule e (plain_rule name ps (bounds_of fs) left right)))) r is in
        let right = went (rule_term_at ps q) (λ right. ended rest (whole_rule e (plain_rule name ps (bounds_of fs) left.0 right))) r left.2 in
        by_rest rest left.0 right.0 (term_back ps back.spoken l spelled.0 left.0 left.1) (term_back ps back.spoken q spelled.1.0 right.0 right.1) right.2
      where
        by_rest : (rest : List Sexpr) (left right : Tree) → IsBack ps left → IsBack ps right → ended rest (whole_rule e (plain_rule name ps (bounds_of fs) left right)) ≡ Ok r → HasParts r
        by_rest (x ∷ xs) left right lb rb is = absurd cc
        by_rest [] left right lb rb is =
            let w = whole_again e (plain_rule name ps (bounds_of fs) left right) r is in
            let small = both (nat_le (length (rule_nodes (plain_rule name ps (bounds_of fs) left right))) MOST_RULE_NODES) (all_nodes (has_few_lists ps) (nodes_of left)) w.small in
            record {
              name = name;
              params = ps;
              floors = fs;
              left = left;
              right = right;
              bars = bars;
              back = back;
              speak = speak;
              left_back = lb;
              right_back = rb;
              shallow = sides_shallow left right small.0;
              again = w.again;
              same = whole_same e (plain_rule name ps (bounds_of fs) left right) r is;
            }

    bounds_parts : (fs : List LinearExpression) (xs : List Sexpr) → AllSpeak ps ps fs → AllSpelled xs → behind_bounds e (rule_head name ps (bounds_of fs)) xs ≡ Ok r → HasParts r
    bounds_parts fs [] speak spelled is = absurd cc
    bounds_parts fs (x ∷ xs) speak spelled is = go (begins_definitions (items_of x)) is
      where
        go : (b : Bool) → (if b then refused x reason.BadForm else with_sides e (rule_head name ps (bounds_of fs)) (x ∷ xs)) ≡ Ok r → HasParts r
        go true is = absurd cc
        go false is = sides_parts fs (x ∷ xs) speak spelled is

    behind_parts : (xs : List Sexpr) → AllSpelled xs → behind_params e name ps xs ≡ Ok r → HasParts r
    behind_parts [] spelled is = absurd cc
    behind_parts (k ∷ []) spelled is = absurd cc
    behind_parts (k ∷ c ∷ rest) spelled is = go (is_keyword_word (codes "where") k) is
      where
        go : (b : Bool) → (if b then go_on (bounds_at ps c) (λ bs. behind_bounds e (rule_head name ps bs) rest) else behind_bounds e (rule_head name ps []) (k ∷ c ∷ rest)) ≡ Ok r → HasParts r
        go true is =
            let bs = went (bounds_at ps c) (λ bs. behind_bounds e (rule_head name ps bs) rest) r is in
            let f = bounds_speak ps back.spoken c bs.0 bs.1 in
            bounds_parts f.0 rest f.1 spelled.1.1 (ap (λ bs. behind_bounds e (rule_head name ps bs) rest) f.2 ∙ bs.2)
        go false is = bounds_parts [] (k ∷ c ∷ rest) tt spelled is

  name_bars : (n : Sexpr) (name : List ℕ) → IsSpelled n → symbol_at n ≡ Ok name → list_all is_in_bars name ≡ true
  name_bars n name spelled is = go (is_symbol_kind (kind_of n)) refl is
    where
      go : (b : Bool) → is_symbol_kind (kind_of n) ≡ b → (if b then Ok (text_of n) else refused n reason.BadForm) ≡ Ok name → list_all is_in_bars name ≡ true
      go true symbol is = ap (list_all is_in_bars) (sym (same_Ok (text_of n) name is)) ∙ symbol_in_bars n spelled symbol
      go false symbol is = absurd cc

  plain_parts : (xs : List Sexpr) → AllSpelled xs → plain_rule_of e xs ≡ Ok r → HasParts r
  plain_parts [] spelled is = absurd cc
  plain_parts (w ∷ []) spelled is = absurd cc
  plain_parts (w ∷ n ∷ []) spelled is = absurd cc
  plain_parts (w ∷ n ∷ p ∷ rest) spelled is =
      let name = went (symbol_at n) (λ name. go_on (params_at p) (λ ps. behind_params e name ps rest)) r is in
      let ps = went (params_at p) (λ ps. behind_params e name.0 ps rest) r name.2 in
      behind_parts name.0 (name_bars n name.0 spelled.1.0 name.1) ps.0 (params_back p ps.0 spelled.1.1.0 ps.1) rest spelled.1.1.1 ps.2

  items_parts : (xs : List Sexpr) → AllSpelled xs → rule_of e xs ≡ Ok r → HasParts r
  items_parts [] spelled is = absurd cc
  items_parts (w ∷ xs) spelled is = go (is_symbol_kind (kind_of w)) (is_word (codes "define-rule") w) (has_rule_items (w ∷ xs)) is
    where
      go : (a b c : Bool) → (if a then (if b then (if c then plain_rule_of e (w ∷ xs) else refused e reason.BadForm) else refused e reason.UnknownCommand) else refused e reason.BadForm) ≡ Ok r → HasParts r
      go true true true is = plain_parts (w ∷ xs) spelled is
      go true true false is = absurd cc
      go true false c is = absurd cc
      go false b c is = absurd cc

pub rule_parts : (e : Sexpr) (r : Rule) → IsSpelled e → rule_at e ≡ Ok r → HasParts r
rule_parts e r spelled is = items_parts e r (items_of e) (items_spelled e spelled) is
