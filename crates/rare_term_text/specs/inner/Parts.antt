-- What the functions that read a term hand on to one another.
use Rattle.std.specs.Prelude.{◌≡◌, ℕ, ◌<◌, ◌++◌, List, length, map, drop, Result, Ok, Err}
use Rattle.rare_base.specs.declared.answers.Fault.{Fault}
use Rattle.rare_sexpr.specs.Tree.{items_of}
use Rattle.rare_sexpr.specs.declared.tree.Sexpr.{Sexpr}
use Rattle.rare_sort.specs.Ids.{tree_at}
use Rattle.rare_sort.specs.declared.tree.Tree.{Tree}
use Rattle.rare_sort.specs.declared.declarations.Declarations.{Declarations}
use Rattle.rare_term.specs.State.{State}
use Rattle.rare_scope.specs.Answers.{Fails}
use Rattle.rare_scope.specs.Names.{Names, Held, Meant, a_term, names_of, AreMeant}
use Rattle.rare_scope.specs.Reading.{Read}
use Rattle.rare_bindings.specs.declared.bound.Binding.{Binding}
use Rattle.rare_term_text.specs.TermText.{Items, application_of, let_of, roles_at, term_at}

-- expressions, each with what it can be
abbrev pub with_roles : Declarations → List Sexpr → Items
with_roles d xs = map (λ x. (x, roles_at d x)) xs

-- the items of a list, each with what it can be
abbrev pub parts : Declarations → Sexpr → Items
parts d e = with_roles d (items_of e)

-- the names of a scope with those that are bound, by the trees of a state
abbrev pub all_names : State → Held → Held → Names
all_names s scope bound = names_of s.trees (scope ++ bound)

-- what an expression reads as over the names of a scope and those that are bound: a term
abbrev pub term_in : State → Held → Held → Sexpr → Read Tree
term_in s scope bound e = term_at s.declared (all_names s scope bound) e

-- an application of the operator that `h` spells
abbrev pub application_in : State → Held → Held → Sexpr → Sexpr → Read Tree
application_in s scope bound e h = application_of s.declared (all_names s scope bound) e h (with_roles s.declared (drop 1 (items_of e)))

-- a `let`
abbrev pub let_in : State → Held → Held → Sexpr → Read Tree
let_in s scope bound e = let_of (all_names s scope bound) e (parts s.declared e)

-- the bindings of a `let`
abbrev pub bindings_in : State → Held → Held → Sexpr → Read Names
bindings_in s scope bound e = (roles_at s.declared e).bindings (all_names s scope bound)

-- one of them, with those before it
abbrev pub binding_in : State → Held → Held → Held → Sexpr → Read (List ℕ × Meant)
binding_in s scope bound before e = (roles_at s.declared e).binding (all_names s scope bound) (names_of s.trees before)

-- a binding whose term is one of these, or the first fault
abbrev pub AnswersBinding : State → Result Binding Fault → Read (List ℕ × Meant) → Type 0
AnswersBinding s (Ok b) read = (b.term.0 < length s.trees) × (read ≡ Ok (b.name, a_term (tree_at s.trees b.term.0)))
AnswersBinding s (Err f) read = Fails f read

-- names whose terms are of these, or the first fault
abbrev pub AnswersBound : State → Result Held Fault → Read Names → Type 0
AnswersBound s (Ok held) read = AreMeant s held × (read ≡ Ok (names_of s.trees held))
AnswersBound s (Err f) read = Fails f read
