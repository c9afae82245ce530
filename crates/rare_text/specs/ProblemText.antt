-- The problem that a text states (after SMT-LIB 2.6, section on commands; `declare-width`, `assume-width` and `rewrite` are this
-- project's own). Commands come in order, their forms are read from the left, and the first fault is the answer.
use Rattle.std.specs.Prelude.{ℕ, Bool, List, [], ◌∷◌, map, codes, Option, Some, None, Ok, Err, if◌then◌else◌}
use Rattle.rare_base.specs.Answers.{Refusal}
use Rattle.rare_base.specs.declared.answers.Reason.TheVariants as reason
use Rattle.rare_sexpr.specs.Readings.{commands_of}
use Rattle.rare_sexpr.specs.declared.tree.Sexpr.{Sexpr}
use Rattle.rare_sexpr.specs.Tree.{items_of, kind_of, text_of}
use Rattle.rare_linear.specs.Linears.{LinearExpression}
use Rattle.rare_sort.specs.Sameness.{sort_eq}
use Rattle.rare_sort.specs.SortOf.{sort_of}
use Rattle.rare_sort.specs.declared.declarations.Declarations.{Declarations}
use Rattle.rare_sort.specs.declared.sort.Sort.{Sort}
use Rattle.rare_sort.specs.declared.tree.Tree.{Tree}
use Rattle.rare_scope.specs.ConstraintText.{constraints_at}
use Rattle.rare_scope.specs.Entries.{entry}
use Rattle.rare_scope.specs.LinearText.{widths_of}
use Rattle.rare_scope.specs.Names.{Names, a_term}
use Rattle.rare_scope.specs.Reading.{Read, refused, go_on, is_keyword_kind, is_symbol_kind, symbol_at}
use Rattle.rare_scope.specs.Reserved.{is_among}
use Rattle.rare_scope.specs.SortText.{sort_at}
use Rattle.rare_term_text.specs.TermText.{term_at}
use Rattle.rare_text.specs.Samples.{fit_samples, hold_at_samples}
use Rattle.rare_text.specs.declared.commands.CommandWord.{CommandWord}
use Rattle.rare_text.specs.declared.commands.CommandWord.TheVariants.{SetLogic, SetInfo, SetOption, DeclareSort, DeclareConst, DeclareFun, DefineFun, DeclareWidth, AssumeWidth, Rewrite}
use Rattle.rare_text.specs.Problems.{StatedProblem, StatedRewrite, no_problem, with_floors, with_name, with_rewrite, with_sort, with_symbol, with_width}
use Rattle.rare_text.specs.CommandParts.{is_empty_list, is_zero_numeral, new_name, sample_at, sorts_at}

-- ---- commands

-- `(set-logic S)`, `(set-info K)`, `(set-info K V)`, `(set-option K V)`: passed over
abbrev pub passed_over : (Sexpr → Bool) → StatedProblem → Sexpr → Read StatedProblem
passed_over is_form p e = if is_form e then Ok p else refused e reason.BadForm

abbrev pub is_symbol_at : Sexpr → Bool
is_symbol_at e = is_symbol_kind (kind_of e)

abbrev pub is_keyword_at : Sexpr → Bool
is_keyword_at e = is_keyword_kind (kind_of e)

-- `(declare-sort N 0)`
abbrev pub sort_declaration : StatedProblem → Sexpr → Sexpr → Read StatedProblem
sort_declaration p n z =
    go_on (new_name p.names n) (λ name. if is_zero_numeral z then Ok (with_sort name p) else refused z reason.BadForm)

-- `(declare-const N S)`
abbrev pub constant_declaration : StatedProblem → Sexpr → Sexpr → Read StatedProblem
constant_declaration p n s =
    go_on (new_name p.names n) (λ name. go_on (sort_at p.declared p.names s) (λ gives. Ok (with_symbol name [] gives p)))

-- `(declare-fun N (S ..) S)`
abbrev pub function_declaration : StatedProblem → Sexpr → Sexpr → Sexpr → Read StatedProblem
function_declaration p n ss s =
    go_on (new_name p.names n) (λ name. go_on (sorts_at p.declared p.names ss) (λ args.
    go_on (sort_at p.declared p.names s) (λ gives. Ok (with_symbol name args gives p))))

-- a term of this sort
abbrev pub term_of_sort : Declarations → Sexpr → Sort → Tree → Read Tree
term_of_sort d s gives t = if sort_eq gives (sort_of d.symbols t) then Ok t else refused s reason.IllSorted

-- `() S t`, behind the name of a definition
abbrev pub defined_term : Declarations → Names → Sexpr → Sexpr → Sexpr → Read Tree
defined_term d names l s t =
    if is_empty_list l
    then go_on (sort_at d names s) (λ gives. go_on (term_at d names t) (λ tree. term_of_sort d s gives tree))
    else refused l reason.BadForm

-- `(define-fun N () S t)`
abbrev pub definition : StatedProblem → Sexpr → Sexpr → Sexpr → Sexpr → Read StatedProblem
definition p n l s t =
    go_on (new_name p.names n) (λ name. go_on (defined_term p.declared p.names l s t) (λ tree. Ok (with_name name (a_term tree) p)))

-- `(declare-width N V)`
abbrev pub width_declaration : StatedProblem → Sexpr → Sexpr → Read StatedProblem
width_declaration p n v = go_on (new_name p.names n) (λ name. go_on (sample_at v) (λ sample. Ok (with_width name sample p)))

-- constraints that hold at the samples: where a partial sum leaves i128 there, the constraint is refused, where one is false, the command
abbrev pub tested : StatedProblem → Sexpr → Sexpr → List LinearExpression → Read StatedProblem
tested p e c floors =
    if fit_samples p.samples floors
    then (if hold_at_samples p.samples floors then Ok (with_floors floors p) else refused e reason.SampleFails)
    else refused c reason.TermLimit

-- `(assume-width C)`
abbrev pub assumption_of_widths : StatedProblem → Sexpr → Sexpr → Read StatedProblem
assumption_of_widths p e c = go_on (constraints_at (widths_of p.names) c) (λ floors. tested p e c floors)

-- the name of a rewrite, which may be any symbol
abbrev pub rewrite_name : List StatedRewrite → Sexpr → Read (List ℕ)
rewrite_name rewrites n =
    go_on (symbol_at n) (λ name. if is_among (map (λ r. r.name) rewrites) name then refused n reason.DeclaredTwice else Ok name)

-- two terms of one sort
abbrev pub sides_of_one_sort : Declarations → Sexpr → Tree → Tree → Read (Tree × Tree)
sides_of_one_sort d e a b = if sort_eq (sort_of d.symbols a) (sort_of d.symbols b) then Ok (a, b) else refused e reason.IllSorted

-- `(rewrite N t s)`
abbrev pub rewrite_statement : StatedProblem → Sexpr → Sexpr → Sexpr → Sexpr → Read StatedProblem
rewrite_statement p e n t s =
    go_on (rewrite_name p.rewrites n) (λ name. go_on (term_at p.declared p.names t) (λ a. go_on (term_at p.declared p.names s) (λ b.
    go_on (sides_of_one_sort p.declared e a b) (λ sides. Ok (with_rewrite (record { name = name; left = sides.0; right = sides.1 }) p)))))

abbrev pub command_words : List (List ℕ × CommandWord)
command_words =
    (codes "set-logic", SetLogic) ∷ (codes "set-info", SetInfo) ∷ (codes "set-option", SetOption) ∷ (codes "declare-sort", DeclareSort)
    ∷ (codes "declare-const", DeclareConst) ∷ (codes "declare-fun", DeclareFun) ∷ (codes "define-fun", DefineFun)
    ∷ (codes "declare-width", DeclareWidth) ∷ (codes "assume-width", AssumeWidth) ∷ (codes "rewrite", Rewrite) ∷ []

-- a command by its word and the items behind it; with another number of items it is refused before they are read
abbrev pub command_by : StatedProblem → Sexpr → CommandWord → List Sexpr → Read StatedProblem
command_by p e SetLogic (s ∷ []) = passed_over is_symbol_at p s
command_by p e SetInfo (k ∷ []) = passed_over is_keyword_at p k
command_by p e SetInfo (k ∷ v ∷ []) = passed_over is_keyword_at p k
command_by p e SetOption (k ∷ v ∷ []) = passed_over is_keyword_at p k
command_by p e DeclareSort (n ∷ z ∷ []) = sort_declaration p n z
command_by p e DeclareConst (n ∷ s ∷ []) = constant_declaration p n s
command_by p e DeclareFun (n ∷ ss ∷ s ∷ []) = function_declaration p n ss s
command_by p e DefineFun (n ∷ l ∷ s ∷ t ∷ []) = definition p n l s t
command_by p e DeclareWidth (n ∷ v ∷ []) = width_declaration p n v
command_by p e AssumeWidth (c ∷ []) = assumption_of_widths p e c
command_by p e Rewrite (n ∷ t ∷ s ∷ []) = rewrite_statement p e n t s
command_by p e word items = refused e reason.BadForm

abbrev pub word_or : Sexpr → Option CommandWord → Read CommandWord
word_or e (Some word) = Ok word
word_or e None = refused e reason.UnknownCommand

-- the word of a command by its first item
abbrev pub command_word : Sexpr → Sexpr → Read CommandWord
command_word e h = if is_symbol_kind (kind_of h) then word_or e (entry command_words (text_of h)) else refused e reason.BadForm

abbrev pub command_of : StatedProblem → Sexpr → List Sexpr → Read StatedProblem
command_of p e [] = refused e reason.BadForm
command_of p e (h ∷ items) = go_on (command_word e h) (λ word. command_by p e word items)

-- the problem with one command more, or the first fault of the command
unfoldable pub with_command : StatedProblem → Sexpr → Read StatedProblem
with_command p e = command_of p e (items_of e)

-- the problem with these commands, behind which a fault may stand; or the first fault
abbrev pub problem_from : StatedProblem → List Sexpr → Option Refusal → Read StatedProblem
problem_from p [] None = Ok p
problem_from p [] (Some fault) = Err fault
problem_from p (e ∷ es) fault = go_on (with_command p e) (λ q. problem_from q es fault)

-- the problem of a whole text, or its first fault
abbrev pub problem_of : List ℕ → Read StatedProblem
problem_of bytes = problem_from no_problem (commands_of bytes).list (commands_of bytes).fault
