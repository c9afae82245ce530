-- How rules are written (this project's form of rules as in the RARE paper, FMCAD 2022). Fresh parameters are written where they were
-- brought, and operators with indices without `_`.
use Rattle.std.specs.Prelude.{ℕ, nat_le, List, [], ◌∷◌, ◌++◌, map, codes, Option, Some, None, if◌then◌else◌}
use Rattle.std.specs.Fmt.{decimal}
use Rattle.rare_linear.specs.Linears.{LinearExpression}
use Rattle.rare_linear.specs.declared.constraint.Constraint.{Constraint}
use Rattle.rare_sexpr.specs.Written.{written_symbol}
use Rattle.rare_sort.specs.declared.head.Head.{Head}
use Rattle.rare_sort.specs.declared.head.Head.TheVariants as head
use Rattle.rare_sort.specs.declared.tree.Tree.{Tree}
use Rattle.rare_sort.specs.declared.tree.Tree.TheOpen.{Tree-F}
use Rattle.rare_sort.specs.declared.tree.Tree.TheFolds.{fold-Tree}
use Rattle.rare_scope.specs.Numbers.{LARGEST_SMALL}
use Rattle.rare_scope.specs.Printing.{linear_text_by}
use Rattle.rare_term_printing.specs.OperatorTexts.{list_text, operator_word, indexed_word}
use Rattle.rare_rule.specs.declared.param.Param.{Param}
use Rattle.rare_rule.specs.declared.rule.Rule.{Rule}
use Rattle.rare_rule.specs.declared.rule.RuleKind.{RuleKind}
use Rattle.rare_rule.specs.declared.rule.RuleKind.TheVariants as form
use Rattle.rare_rule_printing.specs.ConstraintPrinting.{number_text, constraint_text}
use Rattle.rare_rule_printing.specs.SortPrinting.{sort_name_text, params_text}

-- ---- terms

abbrev pub index_texts : List Param → List LinearExpression → List (List ℕ)
index_texts ps ix = map (linear_text_by (number_text ps)) ix

-- `(bv V W)`; a value that is no numeral there is written `(_ bvV W)`
abbrev pub bits_text : ℕ → List (List ℕ) → List ℕ
bits_text v ix = if nat_le v LARGEST_SMALL then list_text (codes "bv" ∷ decimal v ∷ ix) else list_text (codes "_" ∷ (codes "bv" ++ decimal v) ∷ ix)

-- `true` and `false` alone; else a list, also without arguments
abbrev pub constant_text : List ℕ → List (List ℕ) → List ℕ
constant_text word [] = word
constant_text word (t ∷ ts) = list_text (word ∷ t ∷ ts)

-- `(op t ..)`, or `(op E .. t ..)` with indices
abbrev pub application_text : Head → List (List ℕ) → List (List ℕ) → List ℕ
application_text h [] ts = list_text (operator_word h ∷ ts)
application_text h (i ∷ ix) ts = list_text (indexed_word h ∷ ((i ∷ ix) ++ ts))

abbrev pub node_text : List Param → Head → List LinearExpression → List (List ℕ) → List ℕ
node_text ps (head.Param k) ix ts = sort_name_text ps k
node_text ps head.Hole ix ts = codes "_"
node_text ps head.True ix ts = constant_text (codes "true") ts
node_text ps head.False ix ts = constant_text (codes "false") ts
node_text ps (head.Numeral n) ix ts = decimal n
node_text ps (head.Bits v) ix ts = bits_text v (index_texts ps ix)
node_text ps head.Literal ix ts = list_text (codes "bv" ∷ index_texts ps ix)
node_text ps h ix ts = application_text h (index_texts ps ix) ts

abbrev pub term_text_step : List Param → Tree-F (List ℕ) → List ℕ
term_text_step ps n = node_text ps n.head n.indices n.args

-- a term of a rule
abbrev pub rule_term_text : List Param → Tree → List ℕ
rule_term_text ps = fold-Tree (List ℕ) (term_text_step ps)

-- ---- rules

abbrev pub rule_word : RuleKind → List ℕ
rule_word form.Plain = codes "define-rule"
rule_word form.Cond = codes "define-cond-rule"
rule_word form.Fixed = codes "define-rule*"

-- `:where (C ..)`, where there are some
abbrev pub bounds_texts : List Param → List Constraint → List (List ℕ)
bounds_texts ps [] = []
bounds_texts ps (c ∷ cs) = codes ":where" ∷ list_text (map (constraint_text ps) (c ∷ cs)) ∷ []

-- the premise of a conditional rule: one, or `and` of more
abbrev pub premise_texts : List Param → List Tree → List (List ℕ)
premise_texts ps [] = []
premise_texts ps (t ∷ []) = rule_term_text ps t ∷ []
premise_texts ps (t ∷ u ∷ ts) = list_text (codes "and" ∷ map (rule_term_text ps) (t ∷ u ∷ ts)) ∷ []

abbrev pub context_texts : List Param → Option Tree → List (List ℕ)
context_texts ps None = []
context_texts ps (Some t) = rule_term_text ps t ∷ []

abbrev pub side_texts : Rule → List (List ℕ)
side_texts r = rule_term_text r.params r.left ∷ rule_term_text r.params r.right ∷ context_texts r.params r.context

-- a rule, in one line where no name has a line feed
abbrev pub rule_text : Rule → List ℕ
rule_text r =
    list_text (rule_word r.kind ∷ written_symbol r.name ∷ params_text r.params
    ∷ (bounds_texts r.params r.bounds ++ (premise_texts r.params r.premises ++ side_texts r)))
