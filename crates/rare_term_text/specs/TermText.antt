-- The term that an expression spells (SMT-LIB 2.6, section on terms and formulas; theories Core, Ints, ArraysEx and
-- FixedSizeBitVectors). Forms are read from the left, and the first fault is the answer.
use Rattle.std.specs.Prelude.{ℕ, Bool, ◌&&◌, List, [], ◌∷◌, ◌++◌, length, map, codes, Ok, if◌then◌else◌}
use Rattle.std.specs.Option.{is_none}
use Rattle.rare_base.specs.declared.answers.Reason.TheVariants as reason
use Rattle.rare_sexpr.specs.declared.tree.Sexpr.{Sexpr}
use Rattle.rare_sexpr.specs.Tree.{Step, go_down, kind_of, text_of, items_of}
use Rattle.rare_sort.specs.declared.declarations.Declarations.{Declarations}
use Rattle.rare_sort.specs.declared.tree.Tree.{Tree}
use Rattle.rare_scope.specs.LinearText.{widths_of}
use Rattle.rare_scope.specs.Names.{Names, Meant, a_term, found}
use Rattle.rare_scope.specs.Reading.{Read, refused, go_on, is_list_kind, is_symbol_kind, is_word}
use Rattle.rare_scope.specs.Reserved.{is_among, is_reserved}
use Rattle.rare_operators.specs.declared.head.IndexedHead.{IndexedHead}
use Rattle.rare_operators.specs.Applications.{application_at}
use Rattle.rare_operators.specs.AtomText.{atom_at}
use Rattle.rare_operators.specs.HeadText.{head_at}
use Rattle.rare_operators.specs.LiteralText.{decimal_literal, linear_literal}

-- what an expression can be: a term, the binding of a `let`, which has names of the same `let` before it, and the list of its bindings
pub record Roles : Type 0 where
  pub term : Names → Read Tree
  pub binding : Names → Names → Read (List ℕ × Meant)
  pub bindings : Names → Read Names

abbrev pub Items : Type 0
Items = List (Sexpr × Roles)

-- ---- applications

-- the application to what was read so far and to the arguments that are left
abbrev pub arguments_from : Declarations → Names → Sexpr → IndexedHead → List Tree → Items → Read Tree
arguments_from d names e o ts [] = application_at d e o.head o.indices ts
arguments_from d names e o ts (x ∷ xs) = go_on (x.1.term names) (λ t. arguments_from d names e o (ts ++ t ∷ []) xs)

-- the operator, then its arguments
abbrev pub application_of : Declarations → Names → Sexpr → Sexpr → Items → Read Tree
application_of d names e h xs = go_on (head_at d names e h (length xs)) (λ o. arguments_from d names e o [] xs)

-- ---- `let`

abbrev pub is_bound : Names → List ℕ → Bool
is_bound bound name = is_among (map (λ n. n.0) bound) name

-- the name of a binding, with these bound before it in the same `let`
abbrev pub bound_name : Names → Sexpr → Read (List ℕ)
bound_name bound n =
    if is_symbol_kind (kind_of n)
    then (if is_reserved (text_of n) then refused n reason.ReservedSymbol else (if is_bound bound (text_of n) then refused n reason.BadForm else Ok (text_of n)))
    else refused n reason.BadForm

-- `(N t)`
abbrev pub binding_of : Names → Names → Sexpr → Items → Read (List ℕ × Meant)
binding_of names bound e (n ∷ x ∷ []) = go_on (bound_name bound n.0) (λ name. go_on (x.1.term names) (λ t. Ok (name, a_term t)))
binding_of names bound e items = refused e reason.BadForm

-- the bindings so far and those that are left, all read over the names outside
abbrev pub bindings_from : Names → Names → Items → Read Names
bindings_from names bound [] = Ok bound
bindings_from names bound (x ∷ xs) = go_on (x.1.binding names bound) (λ b. bindings_from names (bound ++ b ∷ []) xs)

-- one binding or more
abbrev pub bindings_of : Names → Sexpr → Items → Read Names
bindings_of names e [] = refused e reason.BadForm
bindings_of names e (x ∷ xs) = bindings_from names [] (x ∷ xs)

-- `(let ((N t) ..) t)`: the bound names hide others in the last term
abbrev pub let_of : Names → Sexpr → Items → Read Tree
let_of names e (w ∷ b ∷ x ∷ []) = go_on (b.1.bindings names) (λ bound. x.1.term (names ++ bound))
let_of names e items = refused e reason.BadForm

-- ---- terms

-- whether an expression is the word `bv`, which no `let` hides
abbrev pub begins_literal : Names → Sexpr → Bool
begins_literal names h = is_word (codes "bv") h && is_none (found names (codes "bv"))

abbrev pub list_term : Declarations → Names → Sexpr → Items → Read Tree
list_term d names e [] = refused e reason.BadForm
list_term d names e (h ∷ xs) =
    if is_word (codes "let") h.0 then let_of names e (h ∷ xs)
    else if is_word (codes "_") h.0 then decimal_literal d e (items_of e)
    else if begins_literal names h.0 then linear_literal d (widths_of names) e (items_of e)
    else application_of d names e h.0 xs

abbrev pub term_by : Declarations → Names → Sexpr → Bool → Items → Read Tree
term_by d names e is_list items = if is_list then list_term d names e items else atom_at d names e

abbrev pub roles : Declarations → Step Roles
roles d e items = record {
  term = λ names. term_by d names e (is_list_kind (kind_of e)) items;
  binding = λ names bound. binding_of names bound e items;
  bindings = λ names. bindings_of names e items;
}

abbrev pub roles_at : Declarations → Sexpr → Roles
roles_at d = go_down Roles (roles d)

-- the term that an expression spells over these declarations and names, or its first fault
abbrev pub term_at : Declarations → Names → Sexpr → Read Tree
term_at d names e = (roles_at d e).term names
