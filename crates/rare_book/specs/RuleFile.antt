-- The rules that a text states, each typed, and the first fault of the text (this project's files of rules, after the RARE paper,
-- FMCAD 2022).
use Rattle.std.specs.Prelude.{◌≡◌, ℕ, ◌≤◌, false, List, [], ◌∷◌, ◌++◌, length, take, Option, Some, None, Result, Ok, Err, if◌then◌else◌}
use Rattle.rare_base.specs.Answers.{Refusal}
use Rattle.rare_base.specs.declared.answers.Fault.{Fault}
use Rattle.rare_base.specs.declared.answers.Fault.TheVariants as fault
use Rattle.rare_base.specs.declared.answers.Reason.{Reason}
use Rattle.rare_base.specs.declared.answers.Reason.TheVariants as reason
use Rattle.rare_linear.specs.declared.constraint.Constraint.{Constraint}
use Rattle.rare_sexpr.specs.declared.tree.Sexpr.{Sexpr}
use Rattle.rare_sexpr.specs.Commands.{Commands}
use Rattle.rare_sexpr.specs.Readings.{commands_of}
use Rattle.rare_scope.specs.Reading.{Read, refused, go_on}
use Rattle.rare_rule.specs.Books.{BookRule, book_rule, is_name_in}
use Rattle.rare_rule.specs.TypedRule.{TypedRule}
use Rattle.rare_rule.specs.declared.rule.Rule.{Rule}
use Rattle.rare_parse.specs.RuleText.{rule_at}
use Rattle.rare_type.specs.FirstCase.{Typing, rule_typing}
use Rattle.rare_type.specs.declared.error.TypeError.{TypeError}
use Rattle.rare_type.specs.declared.error.TypeError.TheVariants as case

-- ---- one rule

-- why a text is refused whose rule doesn't type: want of memory is no refusal of a text
abbrev pub typing_reason : TypeError → Reason
typing_reason case.Clash = reason.Clash
typing_reason case.NonLinear = reason.NonLinear
typing_reason case.TooLarge = reason.TermLimit
typing_reason case.NeverHolds = reason.NeverHolds
typing_reason case.Memory = reason.TermLimit

abbrev pub typed_by : Sexpr → Rule → Typing (List Constraint) → Read TypedRule
typed_by e r (Ok cs) = Ok (record { rule = r; constraints = cs })
typed_by e r (Err c) = refused e (typing_reason c)

-- the rule, if none in the book has its name
abbrev pub new_in : List BookRule → Sexpr → TypedRule → Read TypedRule
new_in bs e t = if is_name_in t.rule.name bs then refused e reason.DuplicateName else Ok t

-- the rule that a command states behind those of a book: read, typed, and of a new name; or the first fault
abbrev pub rule_for : List BookRule → Sexpr → Read TypedRule
rule_for bs e = go_on (rule_at e) (λ r. go_on (typed_by e r (rule_typing r)) (new_in bs e))

-- ---- a text

-- the rules of a book with those of a text behind them, and the first fault of the text: behind it no rule is added
pub record BookText : Type 0 where
  pub rules : List BookRule
  pub fault : Option Refusal

abbrev pub book_text : List BookRule → Option Refusal → BookText
book_text bs f = record { rules = bs; fault = f }

-- with the rule of the next command, or up to its fault
abbrev pub unless_fault : List BookRule → Read TypedRule → (TypedRule → BookText) → BookText
unless_fault bs (Ok t) rest = rest t
unless_fault bs (Err r) rest = book_text bs (Some r)

abbrev pub book_from : List BookRule → List Sexpr → Option Refusal → BookText
book_from bs [] f = book_text bs f
book_from bs (e ∷ es) f = unless_fault bs (rule_for bs e) (λ t. book_from (bs ++ book_rule t false ∷ []) es f)

-- what a whole text makes of a book
abbrev pub book_of : List BookRule → List ℕ → BookText
book_of bs bytes = book_from bs (commands_of bytes).list (commands_of bytes).fault

abbrev pub rules_unless : Option Refusal → List BookRule → Read (List BookRule)
rules_unless None bs = Ok bs
rules_unless (Some r) bs = Err r

-- the rules that a whole text states, or its first fault
abbrev pub rules_of : List ℕ → Read (List BookRule)
rules_of bytes = rules_unless (book_of [] bytes).fault (book_of [] bytes).rules

-- ---- what a reading answers

-- after want of memory the book has some of the rules, from the first on, and all that it had
pub record IsFront (old new all : List BookRule) : Type 0 where
  pub count : ℕ
  pub least : length old ≤ count
  pub front : new ≡ take count all

-- the book has the rules up to the first fault of the text, and that fault is the answer
abbrev pub AnswersBook : List BookRule → Result (Unit {0}) Fault → List BookRule → BookText → Type 0
AnswersBook old (Ok x) new text = (text.fault ≡ None) × (new ≡ text.rules)
AnswersBook old (Err (fault.Refused place why)) new text = (text.fault ≡ Some (record { place = place; reason = why })) × (new ≡ text.rules)
AnswersBook old (Err fault.Memory) new text = IsFront old new text.rules
