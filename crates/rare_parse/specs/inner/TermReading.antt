-- Terms as they are read, with their measures, and operators with the place of their first argument.
use Rattle.std.specs.Prelude.{◌≡◌, ℕ, ◌+◌, ◌≤◌, nat_lt, min, sum, List, drop, take, map, length, Option, Some, None, Result, Ok, Err, if◌then◌else◌}
use Rattle.rare_base.specs.declared.answers.Fault.{Fault}
use Rattle.rare_base.specs.declared.answers.Reason.TheVariants as reason
use Rattle.rare_sexpr.specs.declared.tree.Kind.{Kind}
use Rattle.rare_sexpr.specs.declared.tree.Kind.TheVariants as kind
use Rattle.rare_sexpr.specs.declared.tree.Sexpr.{Sexpr}
use Rattle.rare_sexpr.specs.Tree.{kind_of, text_of, items_of}
use Rattle.rare_sort.specs.Trees.{greatest, nesting, size}
use Rattle.rare_sort.specs.declared.tree.Tree.{Tree}
use Rattle.rare_term.specs.Limits.{MOST_NESTED, MOST_NODES}
use Rattle.rare_scope.specs.Answers.{Fails}
use Rattle.rare_scope.specs.Reading.{Read, refused, go_on}
use Rattle.rare_operators.specs.declared.head.IndexedHead.{IndexedHead}
use Rattle.rare_operators.specs.declared.words.IndexedWord.{IndexedWord}
use Rattle.rare_operators.specs.HeadText.{word_head, indices_at, indexed_head, indexed_word_at}
use Rattle.rare_operators.specs.OperatorWords.{operator_of_word}
use Rattle.rare_rule.specs.declared.param.Param.{Param}
use Rattle.rare_parse.specs.RuleNames.{rule_widths}
use Rattle.rare_parse.specs.RuleTermText.{with_indices}
use Rattle.rare_parse.specs.declared.measured.ReadTerm.{ReadTerm}
use Rattle.rare_parse.specs.declared.measured.Arguments.{Arguments}
use Rattle.rare_parse.specs.declared.operator.Applied.{Applied}

-- ---- terms

-- its measures, which are within the limits
pub record IsMeasured (t : ReadTerm) : Type 0 where
  pub nesting : t.nesting ≡ nesting t.tree
  pub nodes : t.nodes ≡ size t.tree
  pub shallow : t.nesting ≤ MOST_NESTED
  pub small : t.nodes ≤ MOST_NODES

abbrev pub only_tree : Result ReadTerm Fault → Result Tree Fault
only_tree (Ok t) = Ok t.tree
only_tree (Err f) = Err f

-- the greatest nesting of the arguments, and their nodes as far as these are counted
pub record AreCounted (a : Arguments) : Type 0 where
  pub nesting : a.nesting ≡ greatest (map nesting a.trees)
  pub nodes : a.nodes ≡ min (sum (map size a.trees)) MOST_NODES
  pub shallow : a.nesting ≤ MOST_NESTED

-- ---- operators

-- an operator with its indices, and the place of its first argument among the items of the list
pub record Placed : Type 0 where
  pub operator : IndexedHead
  pub first : ℕ

abbrev pub placed : ℕ → IndexedHead → Placed
placed k o = record { operator = o; first = k }

abbrev pub word_placed : List Param → Sexpr → Sexpr → List Sexpr → Option IndexedWord → Read Placed
word_placed ps e h xs (Some w) =
    if nat_lt (length xs) w.indices
    then refused e reason.BadForm
    else go_on (indices_at (rule_widths ps) (take w.indices xs)) (λ ix. Ok (placed (1 + w.indices) (with_indices w.head ix)))
word_placed ps e h xs None = go_on (word_head e h (length xs) (operator_of_word (text_of h))) (λ o. Ok (placed 1 o))

abbrev pub placed_by : List Param → Sexpr → Sexpr → List Sexpr → Kind → Read Placed
placed_by ps e h xs kind.Symbol = word_placed ps e h xs (indexed_word_at h)
placed_by ps e h xs kind.List = go_on (indexed_head (rule_widths ps) h (items_of h)) (λ o. Ok (placed 1 o))
placed_by ps e h xs k = refused h reason.BadForm

abbrev pub operator_at : List Param → Sexpr → Sexpr → Read Placed
operator_at ps e h = placed_by ps e h (drop 1 (items_of e)) (kind_of h)

abbrev pub AnswersPlaced : Result Applied Fault → Read Placed → Type 0
AnswersPlaced (Ok a) read = read ≡ Ok (placed a.first a.operator)
AnswersPlaced (Err f) read = Fails f read
