-- The commands of a text, word by word.
use Rattle.std.specs.Prelude.{ℕ, List, [], ◌∷◌, ◌++◌, length, take, drop, nat_lt, if◌then◌else◌}
use Rattle.rare_base.specs.declared.answers.Place.{Place}
use Rattle.rare_base.specs.declared.answers.Reason.TheVariants.{Unbalanced, TooDeep}
use Rattle.rare_sexpr.specs.declared.tree.Sexpr.{Sexpr}
use Rattle.rare_sexpr.specs.declared.stack.Opened.{Opened}
use Rattle.rare_sexpr.specs.Tree.{atom_of, list_of}
use Rattle.rare_sexpr.specs.Limits.{most_nested_lists}
use Rattle.rare_sexpr.specs.Commands.{Commands, put_first, no_commands, refused}
use Rattle.rare_sexpr.specs.inner.Words.{Token, opens, closes, atom, wrong, between, words}

-- the place of the outermost of these open lists, the innermost first, and of p
abbrev pub outermost : List Opened → Place → Place
outermost [] p = p
outermost (o ∷ os) p = outermost os o.place

-- an expression is one more item, and on the outermost level a command
abbrev pub added : List Opened → List Sexpr → Sexpr → (List Opened → List Sexpr → Commands) → Commands
added [] items e next = put_first e (next [] [])
added (o ∷ os) items e next = next (o ∷ os) (items ++ e ∷ [])

abbrev pub closed : List Opened → List Sexpr → Place → (List Opened → List Sexpr → Commands) → Commands
closed [] items p next = refused p Unbalanced
closed (o ∷ os) items p next = added os (take o.before items) (list_of o.place (drop o.before items)) next

abbrev pub on_token : List Opened → List Sexpr → Token → (List Opened → List Sexpr → Commands) → Commands
on_token os items (opens p) next =
    if nat_lt (length os) most_nested_lists then next (record { place = p; before = length items } ∷ os) items else refused p TooDeep
on_token os items (closes p) next = closed os items p next
on_token os items (atom p k text) next = added os items (atom_of p k text) next
on_token os items (wrong p r) next = refused p r

-- the end of a text is a fault in an open list
abbrev pub ended : List Opened → Commands
ended [] = no_commands
ended (o ∷ os) = refused (outermost os o.place) Unbalanced

-- what the words give in these open lists, the innermost first, over all items so far
abbrev pub commands : List Opened → List Sexpr → List Token → Commands
commands os items [] = ended os
commands os items (t ∷ ts) = on_token os items t (λ o i. commands o i ts)

-- the commands of a text that begins at this place
abbrev pub reading_from : Place → List ℕ → Commands
reading_from p bytes = commands [] [] (words between p bytes)
