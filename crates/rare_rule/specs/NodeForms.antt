-- What each node of a rule in form is: its operator, its indices, its literals, and where a list variable stands.
use Rattle.std.specs.Prelude.{ℕ, ◌+◌, ◌^◌, ℤ, pos, nat_eq, nat_le, nat_lt, Bool, true, false, not, ◌&&◌, ◌||◌, List, [], ◌∷◌, length, Option, Some}
use Rattle.rare_linear.specs.Linears.{LinearExpression}
use Rattle.rare_sort.specs.SortRules.{number_in}
use Rattle.rare_sort.specs.declared.head.Head.{Head}
use Rattle.rare_sort.specs.declared.head.Head.TheVariants as head
use Rattle.rare_rule.specs.Params.{kind_at, is_list_head, is_term_kind}
use Rattle.rare_rule.specs.ParamForms.{all_are_numbers}
use Rattle.rare_rule.specs.Nodes.{Node, is_spliced}
use Rattle.rare_rule.specs.declared.param.Param.{Param}

-- the most list variables among the arguments of one application of the left side
abbrev pub MOST_LISTS : ℕ
MOST_LISTS = 3

-- ---- operators

-- how many indices an operator has
abbrev pub index_count : Head → ℕ
index_count head.Extract = 2
index_count head.ZeroExtend = 1
index_count head.SignExtend = 1
index_count head.RotateLeft = 1
index_count head.RotateRight = 1
index_count head.Repeat = 1
index_count (head.Bits v) = 1
index_count head.Literal = 2
index_count _ = 0

-- what stands without arguments: a parameter and the hole
abbrev pub has_its_arguments : Head → List Head → Bool
has_its_arguments (head.Param k) hs = nat_eq (length hs) 0
has_its_arguments head.Hole hs = nat_eq (length hs) 0
has_its_arguments h hs = true

-- the operator stands in rules, over parameters of terms
abbrev pub is_operator_of_rules : List Param → Head → Bool
is_operator_of_rules ps (head.Free k) = false
is_operator_of_rules ps (head.Param k) = is_term_kind (kind_at ps k)
is_operator_of_rules ps h = true

-- ---- literals

-- below 2^width and below 2^128
abbrev pub is_value_of_width : ℕ → Option ℤ → Bool
is_value_of_width v (Some (pos n)) = nat_lt v (2 ^ 128) && nat_lt v (2 ^ n)
is_value_of_width v _ = false

-- a literal that isn't of given value and width: one of both has a name, or the width is below 0
abbrev pub is_other_literal : Option ℤ → Option ℤ → Bool
is_other_literal (Some v) (Some (pos n)) = false
is_other_literal v w = true

-- no literal passes its limit, and one of given value and width is kept as such
abbrev pub is_literal_within : Head → List LinearExpression → Bool
is_literal_within (head.Numeral n) ix = nat_lt n (2 ^ 127)
is_literal_within (head.Bits v) (w ∷ []) = is_value_of_width v (number_in w)
is_literal_within head.Literal (v ∷ w ∷ []) = is_other_literal (number_in v) (number_in w)
is_literal_within h ix = true

-- ---- holes and lists

abbrev pub count_one : Bool → ℕ
count_one true = 1
count_one false = 0

abbrev pub is_hole : Head → Bool
is_hole head.Hole = true
is_hole _ = false

abbrev pub hole_nodes : List Node → ℕ
hole_nodes [] = 0
hole_nodes (n ∷ ns) = count_one (is_hole n.head) + hole_nodes ns

-- a list variable is an argument of an operator among whose arguments lists are spliced in
abbrev pub is_placed : List Param → Node → Bool
is_placed ps n = not (is_list_head ps n.head) || is_spliced n.parent

abbrev pub lists_among : List Param → List Head → ℕ
lists_among ps [] = 0
lists_among ps (h ∷ hs) = count_one (is_list_head ps h) + lists_among ps hs

abbrev pub has_few_lists : List Param → Node → Bool
has_few_lists ps n = nat_le (lists_among ps n.args) MOST_LISTS

abbrev pub all_nodes : (Node → Bool) → List Node → Bool
all_nodes test [] = true
all_nodes test (n ∷ ns) = test n && all_nodes test ns

abbrev pub has_indices : List Param → Node → Bool
has_indices ps n = nat_eq (length n.indices) (index_count n.head) && all_are_numbers ps n.indices

abbrev pub is_node_form : List Param → Node → Bool
is_node_form ps n = is_operator_of_rules ps n.head && has_its_arguments n.head n.args
