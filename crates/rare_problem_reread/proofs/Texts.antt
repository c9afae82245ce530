-- The names of the problem that a text states.
use Rattle.std.proofs.Common.{◌≡◌, ℕ, ◌<◌, ◌^◌, Bool, true, false, List, [], ◌∷◌, length, length-append, Ok, refl, sym, ap, ◌∙◌, arith}
use Rattle.std.specs.Prelude.{if◌then◌else◌}
use Rattle.std.specs.List.{list_all}
use Rattle.rare_base.specs.declared.answers.Place.{Place}
use Rattle.rare_base.specs.declared.answers.Reason.TheVariants as reason
use Rattle.rare_base.specs.Answers.{first_place}
use Rattle.rare_sexpr.specs.declared.tree.Sexpr.{Sexpr}
use Rattle.rare_sexpr.specs.Bytes.{behind, is_in_bars}
use Rattle.rare_sexpr.specs.Commands.{Commands}
use Rattle.rare_sexpr.specs.Limits.{most_nested_lists}
use Rattle.rare_sexpr.specs.Readings.{commands_of}
use Rattle.rare_sexpr.specs.TextGrammar.{AreCommands}
use Rattle.rare_sexpr.specs.TextGrammar as grammar
use Rattle.rare_sexpr.specs.Tree.{items_of, kind_of, text_of}
use Rattle.rare_sexpr.proofs.Progressing.{commands_are_read}
use Rattle.rare_scope.specs.Reading.{is_symbol_kind, refused}
use Rattle.rare_scope.proofs.InOrder.{same_Ok}
use Rattle.rare_text.specs.ProblemText.{problem_of}
use Rattle.rare_text.specs.Problems.{StatedProblem}
use Rattle.rare_rule_reread.specs.Spelled.{IsSpelled}
use Rattle.rare_rule_reread.proofs.Spelled.{AllSpelled, items_spelled, symbol_in_bars}
use Rattle.rare_problem_reread.specs.ReadNames.{Reads}
use Rattle.rare_problem_reread.proofs.Commands.{AllNameSo, CommandsNameSo, IsKept, NamesSo, commands_kept}

-- ---- names alone

abbrev pub IsAny : List ℕ → Type 0
IsAny name = Unit {0}

any_items : (es : List Sexpr) → AllNameSo IsAny es
any_items [] = tt
any_items (e ∷ es) = (λ name is. tt, any_items es)

any_commands : (es : List Sexpr) → CommandsNameSo IsAny es
any_commands [] = tt
any_commands (e ∷ es) = (any_items (items_of e), any_commands es)

pub problem_kept : (bytes : List ℕ) (p : StatedProblem) → problem_of bytes ≡ Ok p → IsKept IsAny p
problem_kept bytes p is = commands_kept IsAny (commands_of bytes).list (commands_of bytes).fault p (any_commands (commands_of bytes).list) is

-- ---- names between bars

abbrev pub IsInBars : List ℕ → Type 0
IsInBars name = list_all is_in_bars name ≡ true

name_in_bars : (e : Sexpr) → IsSpelled e → NamesSo IsInBars e
name_in_bars e spelled name is = go (is_symbol_kind (kind_of e)) refl is
  where
    go : (b : Bool) → is_symbol_kind (kind_of e) ≡ b → (if b then Ok (text_of e) else refused e reason.BadForm) ≡ Ok name → IsInBars name
    go true symbol is = ap (list_all is_in_bars) (sym (same_Ok (text_of e) name is)) ∙ symbol_in_bars e spelled symbol
    go false symbol is = absurd cc

items_in_bars : (es : List Sexpr) → AllSpelled es → AllNameSo IsInBars es
items_in_bars [] spelled = tt
items_in_bars (e ∷ es) spelled = (name_in_bars e spelled.0, items_in_bars es spelled.1)

commands_in_bars : (es : List Sexpr) → AllSpelled es → CommandsNameSo IsInBars es
commands_in_bars [] spelled = tt
commands_in_bars (e ∷ es) spelled = (items_in_bars (items_of e) (items_spelled e spelled.0), commands_in_bars es spelled.1)

-- the commands of a text are spelled
commands_spelled : (p : Place) (bytes : List ℕ) (c : Commands) → length bytes < 2 ^ 64 → AreCommands p bytes c → AllSpelled c.list
commands_spelled p bytes c short (grammar.none _ _ last) = tt
commands_spelled p bytes c short (grammar.command _ word rest e more spells behind_it) =
    let n = length-append word rest in (
      record { depth = most_nested_lists; place = p; bytes = word; rest = rest; spells = spells; short = omega (arith, short, n) },
      commands_spelled (behind p word) rest more (omega (arith, short, n)) behind_it,
    )
commands_spelled p bytes c short (grammar.fault _ _ r is) = tt

pub problem_in_bars : (bytes : List ℕ) (p : StatedProblem) → Reads bytes p → IsKept IsInBars p
problem_in_bars bytes p r =
    let spelled = commands_spelled first_place bytes (commands_of bytes) r.short (commands_are_read first_place bytes) in
    commands_kept IsInBars (commands_of bytes).list (commands_of bytes).fault p (commands_in_bars (commands_of bytes).list spelled) r.problem
