-- The pieces of the texts of rules and of their terms.
use Rattle.std.specs.Prelude.{ℕ, nat_le, Bool, true, false, List, [], ◌∷◌, ◌++◌, flat_map, codes, Option, if◌then◌else◌}
use Rattle.std.specs.Fmt.{decimal}
use Rattle.rare_linear.specs.Linears.{LinearExpression}
use Rattle.rare_linear.specs.declared.constraint.Constraint.{Constraint}
use Rattle.rare_sexpr.specs.Written.{written_symbol}
use Rattle.rare_sort.specs.declared.head.Head.{Head}
use Rattle.rare_sort.specs.declared.head.Head.TheVariants as head
use Rattle.rare_sort.specs.declared.tree.Tree.{Tree}
use Rattle.rare_scope.specs.Numbers.{LARGEST_SMALL}
use Rattle.rare_scope.specs.Printing.{linear_text_by}
use Rattle.rare_term_printing.specs.OperatorTexts.{operator_word, indexed_word}
use Rattle.rare_rule.specs.declared.param.Param.{Param}
use Rattle.rare_rule.specs.declared.rule.Rule.{Rule}
use Rattle.rare_rule_printing.specs.ConstraintPrinting.{number_text, constraint_text}
use Rattle.rare_rule_printing.specs.SortPrinting.{constant_texts, list_texts, declaration_text}
use Rattle.rare_rule_printing.specs.RulePrinting.{rule_term_text, rule_word, bounds_texts, premise_texts, context_texts, side_texts}

-- texts, each behind a blank
abbrev pub all_spaced : List (List ℕ) → List ℕ
all_spaced ts = flat_map (λ u. codes " " ++ u) ts

-- ---- terms

-- an index behind a blank
abbrev pub spaced_linear : List Param → LinearExpression → List ℕ
spaced_linear ps e = codes " " ++ linear_text_by (number_text ps) e

-- a term behind a blank
abbrev pub spaced_term : List Param → Tree → List ℕ
spaced_term ps t = codes " " ++ rule_term_text ps t

-- the arguments of the operator are not written
abbrev pub stands_alone : Head → Bool
stands_alone (head.Param k) = true
stands_alone head.Hole = true
stands_alone (head.Numeral n) = true
stands_alone (head.Bits v) = true
stands_alone head.Literal = true
stands_alone _ = false

-- the beginning of a literal of given value
abbrev pub bits_opening : ℕ → List ℕ
bits_opening v = if nat_le v LARGEST_SMALL then codes "(bv " ++ decimal v else codes "(_ bv" ++ decimal v

-- indices, and the end of the list
abbrev pub indices_and_end : List Param → List LinearExpression → List ℕ
indices_and_end ps ix = flat_map (spaced_linear ps) ix ++ codes ")"

abbrev pub word_for : Head → List LinearExpression → List ℕ
word_for h [] = operator_word h
word_for h (e ∷ ix) = indexed_word h

-- the beginning of an application: `(op E ..`
abbrev pub application_opening : List Param → Head → List LinearExpression → List ℕ
application_opening ps h ix = (codes "(" ++ word_for h ix) ++ flat_map (spaced_linear ps) ix

-- ---- parameters

-- the attributes of a parameter, and the end of its list
abbrev pub declaration_end : Param → List ℕ
declaration_end p = all_spaced (constant_texts p.constant ++ list_texts p.kind) ++ codes ")"

-- a parameter behind a lead, where it is declared
abbrev pub declared_text : List Param → List ℕ → Param → List ℕ
declared_text ps lead p = if p.fresh then [] else (lead ++ declaration_text ps p)

abbrev pub next_lead : List ℕ → Param → List ℕ
next_lead lead p = if p.fresh then lead else codes " "

-- parameters from one on, of which the next one that is declared stands behind a lead, and the end of their list
abbrev pub declared_rest : List Param → (lead : List ℕ) → List Param → List ℕ
declared_rest ps lead [] = codes ")"
declared_rest ps lead (p ∷ qs) = declared_text ps lead p ++ declared_rest ps (next_lead lead p) qs

-- ---- rules

-- a constraint behind a blank
abbrev pub spaced_constraint : List Param → Constraint → List ℕ
spaced_constraint ps c = codes " " ++ constraint_text ps c

-- `(define-rule NAME`, and a blank
abbrev pub rule_opening : Rule → List ℕ
rule_opening r = codes "(" ++ (rule_word r.kind ++ (codes " " ++ (written_symbol r.name ++ codes " ")))

-- what stands behind the parameters: bounds, premises and sides
abbrev pub bounds_text : List Param → List Constraint → List ℕ
bounds_text ps cs = all_spaced (bounds_texts ps cs)

abbrev pub premises_text : List Param → List Tree → List ℕ
premises_text ps ts = all_spaced (premise_texts ps ts)

abbrev pub context_text : List Param → Option Tree → List ℕ
context_text ps t = all_spaced (context_texts ps t)

abbrev pub sides_text : Rule → List ℕ
sides_text r = all_spaced (side_texts r)
