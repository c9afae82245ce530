-- What is done to the open lists.
use Rattle.std.specs.Prelude.{◌≡◌, ◌==◌, false, [], ◌∷◌, ◌++◌, length, take, drop, Option, Some, None}
use Rattle.rare_sexpr.specs.declared.tree.Sexpr.{Sexpr}
use Rattle.rare_sexpr.specs.declared.stack.Opened.{Opened}
use Rattle.rare_sexpr.specs.declared.stack.Stack.{Stack}
use Rattle.rare_sexpr.specs.Tree.{list_of}

abbrev pub empty_stack : Stack
empty_stack = record { opened = []; items = [] }

abbrev pub IsAdded : Stack → Sexpr → Option Sexpr → Stack → Type 0
IsAdded old e None new = ((length old.opened == 0) ≡ false) × (new ≡ record old { items = old.items ++ e ∷ [] })
IsAdded old e (Some x) new = (old.opened ≡ []) × (x ≡ e) × (new ≡ old)

-- the innermost open list is an expression, and its items are no more among those of the outer ones
pub record IsClosed (old : Stack) (e : Sexpr) (new : Stack) : Type 0 where
  pub list : Opened
  pub opened : old.opened ≡ new.opened ++ list ∷ []
  pub closed : e ≡ list_of list.place (drop list.before old.items)
  pub items : new.items ≡ take list.before old.items
