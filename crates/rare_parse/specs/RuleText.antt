-- The rule that an expression spells (this project's form of rules as in the RARE paper, FMCAD 2022):
-- `(define-rule NAME (PARAM ..) [:where (C ..)] LEFT RIGHT)`.
use Rattle.std.specs.Prelude.{ℕ, nat_le, Bool, false, ◌&&◌, List, [], ◌∷◌, ◌++◌, map, length, codes, Ok, if◌then◌else◌}
use Rattle.rare_base.specs.declared.answers.Reason.{Reason}
use Rattle.rare_base.specs.declared.answers.Reason.TheVariants as reason
use Rattle.rare_sexpr.specs.declared.tree.Sexpr.{Sexpr}
use Rattle.rare_sexpr.specs.Tree.{kind_of, items_of}
use Rattle.rare_linear.specs.Linears.{LinearExpression}
use Rattle.rare_linear.specs.declared.constraint.Constraint.{Constraint}
use Rattle.rare_scope.specs.ConstraintText.{constraints_at}
use Rattle.rare_scope.specs.Reading.{Read, refused, go_on, is_list_kind, is_symbol_kind, is_word, is_keyword_word, symbol_at}
use Rattle.rare_rule.specs.Determination.{mentions, are_in_order, are_all_determined}
use Rattle.rare_rule.specs.NodeForms.{all_nodes, has_few_lists, is_placed}
use Rattle.rare_rule.specs.Nodes.{nodes_of}
use Rattle.rare_rule.specs.Rules.{MOST_RULE_NODES, has_holes, rule_nodes}
use Rattle.rare_rule.specs.Written.{plain_rule}
use Rattle.rare_rule.specs.declared.param.Param.{Param}
use Rattle.rare_rule.specs.declared.rule.Rule.{Rule}
use Rattle.rare_parse.specs.ParamText.{params_at}
use Rattle.rare_parse.specs.RuleNames.{rule_widths}
use Rattle.rare_parse.specs.RuleTermText.{rule_term_at}

-- ---- bounds

abbrev pub bounds_of : List LinearExpression → List Constraint
bounds_of es = map (λ e. record { floor = e }) es

-- what the constraints so far and those that are left say to be at least 0
abbrev pub floors_from : List Param → List LinearExpression → List Sexpr → Read (List LinearExpression)
floors_from ps floors [] = Ok floors
floors_from ps floors (x ∷ xs) = go_on (constraints_at (rule_widths ps) x) (λ fs. floors_from ps (floors ++ fs) xs)

-- `(C ..)`
abbrev pub bounds_at : List Param → Sexpr → Read (List Constraint)
bounds_at ps e =
    if is_list_kind (kind_of e) then go_on (floors_from ps [] (items_of e)) (λ fs. Ok (bounds_of fs)) else refused e reason.BadForm

-- ---- the whole rule

abbrev pub refused_unless : {A : Type 0} → Bool → Sexpr → Reason → Read A → Read A
refused_unless holds e why other = if holds then other else refused e why

-- few nodes, and few list variables among the arguments of one application of the left side
abbrev pub is_small : Rule → Bool
is_small r = nat_le (length (rule_nodes r)) MOST_RULE_NODES && all_nodes (has_few_lists r.params) (nodes_of r.left)

-- a rule whose parts were read, or the first fault of the whole
abbrev pub whole_rule : Sexpr → Rule → Read Rule
whole_rule e r =
    refused_unless (is_small r) e reason.RuleTooLarge (
    refused_unless (has_holes r) e reason.ContextForm (
    refused_unless (all_nodes (is_placed r.params) (rule_nodes r)) e reason.MisplacedList (
    refused_unless (are_in_order [] (mentions r.params r.left)) e reason.LeftIndex (
    refused_unless (are_all_determined (mentions r.params r.left) 0 r.params) e reason.Unbound (
    Ok r)))))

-- ---- the parts of a rule

-- what stands before the sides
pub record RuleHead : Type 0 where
  pub name : List ℕ
  pub params : List Param
  pub bounds : List Constraint

abbrev pub rule_head : List ℕ → List Param → List Constraint → RuleHead
rule_head n ps bs = record { name = n; params = ps; bounds = bs }

-- nothing stands behind the sides
abbrev pub ended : List Sexpr → Read Rule → Read Rule
ended [] rule = rule
ended (x ∷ xs) rule = refused x reason.BadForm

abbrev pub with_sides : Sexpr → RuleHead → List Sexpr → Read Rule
with_sides e a (l ∷ r ∷ rest) =
    go_on (rule_term_at a.params l) (λ left. go_on (rule_term_at a.params r) (λ right. ended rest (whole_rule e (plain_rule a.name a.params a.bounds left right))))
with_sides e a (l ∷ []) = go_on (rule_term_at a.params l) (λ left. refused e reason.BadForm)
with_sides e a [] = refused e reason.BadForm

abbrev pub begins_definitions : List Sexpr → Bool
begins_definitions [] = false
begins_definitions (h ∷ xs) = is_word (codes "def") h

-- definitions are not read
abbrev pub behind_bounds : Sexpr → RuleHead → List Sexpr → Read Rule
behind_bounds e a [] = refused e reason.BadForm
behind_bounds e a (x ∷ xs) = if begins_definitions (items_of x) then refused x reason.BadForm else with_sides e a (x ∷ xs)

-- `:where (C ..)`, where its word stands
abbrev pub behind_params : Sexpr → List ℕ → List Param → List Sexpr → Read Rule
behind_params e name ps (k ∷ c ∷ rest) =
    if is_keyword_word (codes "where") k
    then go_on (bounds_at ps c) (λ bs. behind_bounds e (rule_head name ps bs) rest)
    else behind_bounds e (rule_head name ps []) (k ∷ c ∷ rest)
behind_params e name ps rest = refused e reason.BadForm

-- ---- rules

-- from five to eight items
abbrev pub FEWEST_ITEMS : ℕ
FEWEST_ITEMS = 5

abbrev pub MOST_ITEMS : ℕ
MOST_ITEMS = 8

abbrev pub has_rule_items : List Sexpr → Bool
has_rule_items xs = nat_le FEWEST_ITEMS (length xs) && nat_le (length xs) MOST_ITEMS

abbrev pub plain_rule_of : Sexpr → List Sexpr → Read Rule
plain_rule_of e (w ∷ n ∷ p ∷ rest) = go_on (symbol_at n) (λ name. go_on (params_at p) (λ ps. behind_params e name ps rest))
plain_rule_of e items = refused e reason.BadForm

abbrev pub rule_of : Sexpr → List Sexpr → Read Rule
rule_of e [] = refused e reason.BadForm
rule_of e (w ∷ items) =
    if is_symbol_kind (kind_of w)
    then (if is_word (codes "define-rule") w
    then (if has_rule_items (w ∷ items) then plain_rule_of e (w ∷ items) else refused e reason.BadForm)
    else refused e reason.UnknownCommand)
    else refused e reason.BadForm

-- the rule that an expression spells, or its first fault; an atom has no items
abbrev pub rule_at : Sexpr → Read Rule
rule_at e = rule_of e (items_of e)
