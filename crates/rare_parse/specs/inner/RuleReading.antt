-- The parts of a rule as they are read.
use Rattle.std.specs.Prelude.{◌≡◌, ℕ, List, [], ◌∷◌, Result, Ok, Err, if◌then◌else◌}
use Rattle.rare_base.specs.declared.answers.Fault.{Fault}
use Rattle.rare_base.specs.declared.answers.Reason.TheVariants as reason
use Rattle.rare_sexpr.specs.declared.tree.Sexpr.{Sexpr}
use Rattle.rare_sexpr.specs.Tree.{items_of}
use Rattle.rare_linear.specs.declared.constraint.Constraint.{Constraint}
use Rattle.rare_sort.specs.declared.tree.Tree.{Tree}
use Rattle.rare_scope.specs.Answers.{Fails}
use Rattle.rare_scope.specs.Reading.{Read, refused, go_on, is_keyword_word}
use Rattle.rare_rule.specs.declared.param.Param.{Param}
use Rattle.rare_parse.specs.RuleTermText.{rule_term_at}
use Rattle.rare_parse.specs.RuleText.{begins_definitions, bounds_at}
use Rattle.rare_parse.specs.declared.rule.ReadBounds.{ReadBounds}
use Rattle.rare_parse.specs.declared.rule.ReadSides.{ReadSides}
use Rattle.rare_parse.specs.inner.TermReading.{IsMeasured}
use Rattle.std.specs.Prelude.{codes}

-- ---- bounds

-- the bounds, and the place of what stands behind them
pub record Bounded : Type 0 where
  pub bounds : List Constraint
  pub behind : ℕ

abbrev pub bounded : ℕ → List Constraint → Bounded
bounded n cs = record { bounds = cs; behind = n }

abbrev pub bounded_at : List Param → Sexpr → Sexpr → Read Bounded
bounded_at ps k c = if is_keyword_word (codes "where") k then go_on (bounds_at ps c) (λ bs. Ok (bounded 5 bs)) else Ok (bounded 3 [])

abbrev pub AnswersBounds : Result ReadBounds Fault → Read Bounded → Type 0
AnswersBounds (Ok b) read = read ≡ Ok (bounded b.behind b.bounds)
AnswersBounds (Err f) read = Fails f read

-- ---- sides

abbrev pub ended_sides : List Sexpr → Tree × Tree → Read (Tree × Tree)
ended_sides [] ts = Ok ts
ended_sides (x ∷ xs) ts = refused x reason.BadForm

abbrev pub two_sides : List Param → Sexpr → List Sexpr → Read (Tree × Tree)
two_sides ps e (l ∷ r ∷ rest) = go_on (rule_term_at ps l) (λ left. go_on (rule_term_at ps r) (λ right. ended_sides rest (left, right)))
two_sides ps e (l ∷ []) = go_on (rule_term_at ps l) (λ left. refused e reason.BadForm)
two_sides ps e [] = refused e reason.BadForm

abbrev pub sides_at : List Param → Sexpr → List Sexpr → Read (Tree × Tree)
sides_at ps e [] = refused e reason.BadForm
sides_at ps e (x ∷ xs) = if begins_definitions (items_of x) then refused x reason.BadForm else two_sides ps e (x ∷ xs)

abbrev pub AnswersTwo : Result ReadSides Fault → Read (Tree × Tree) → Type 0
AnswersTwo (Ok s) read = read ≡ Ok (s.left.tree, s.right.tree)
AnswersTwo (Err f) read = Fails f read

pub record AreMeasured (s : ReadSides) : Type 0 where
  pub left : IsMeasured s.left
  pub right : IsMeasured s.right
