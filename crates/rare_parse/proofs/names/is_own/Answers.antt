use Rattle.std.proofs.Common.{◌∙◌, ap, sym}
use Rattle.std.specs.Prelude.{is_some}
use Rattle.rare_scope.specs.Reserved.{is_theory_word}
use Rattle.rare_operators.specs.OperatorWords.{indexed_words}
use Rattle.rare_parse.proofs.Tables.{entry_among, right_or}
use Rattle.rare_parse.proofs.names.is_own.Goals as goal

pub returns-else-is_theory_word_name : goal.returns-else-is_theory_word_name
returns-else-is_theory_word_name c =
    c.is_some.ensures ∙ ap is_some c.indexed_word.ensures.uses ∙ entry_among indexed_words c.args.word.now
    ∙ right_or (is_theory_word c.args.word.now) _ (sym c.is_theory_word_name.ensures ∙ c.if-is_theory_word_name.false)
