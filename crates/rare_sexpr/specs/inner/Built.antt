-- What the open lists of a text stand for in the grammar.
use Rattle.std.specs.Prelude.{◌≡◌, ℕ, suc, false, List, [], ◌∷◌, ◌++◌, length}
use Rattle.rare_base.specs.declared.answers.Place.{Place}
use Rattle.rare_sexpr.specs.declared.tree.Sexpr.{Sexpr}
use Rattle.rare_sexpr.specs.declared.stack.Opened.{Opened}
use Rattle.rare_sexpr.specs.Bytes.{behind}
use Rattle.rare_sexpr.specs.Limits.{most_nested_lists}
use Rattle.rare_sexpr.specs.Grammar.{IsGap, Spell}
use Rattle.rare_sexpr.specs.inner.Gaps.{Passes}
use Rattle.rare_sexpr.specs.inner.States.{TextState}

-- From a place and the bytes from there on to another: in these open lists, the innermost first, where so
-- many more may be opened, these items were spelled.
pub data Inside (p : Place) (bytes : List ℕ) : ℕ → List Opened → List Sexpr → Place → List ℕ → Type 0 where
  outside : Inside p bytes most_nested_lists [] [] p bytes
  list : (d : ℕ) (os : List Opened) (items own : List Sexpr) (q : Place) (gap front rest : List ℕ) → Inside p bytes (suc d) os items q (gap ++ 40 ∷ (front ++ rest)) → IsGap gap →
      Spell d own (behind q (gap ++ 40 ∷ [])) front rest →
      Inside p bytes d (record { place = behind q gap; before = length items } ∷ os) (items ++ own) (behind (behind q (gap ++ 40 ∷ [])) front) rest

-- behind the last item a part of a gap was read
pub record Built (p : Place) (bytes : List ℕ) (s : TextState) : Type 0 where
  pub nesting : ℕ
  pub place : Place
  pub passed : List ℕ
  pub inside : Inside p bytes nesting s.opens s.items place (passed ++ s.bytes)
  pub passes : Passes false passed s.in_comment
  pub behind_gap : s.place ≡ behind place passed
