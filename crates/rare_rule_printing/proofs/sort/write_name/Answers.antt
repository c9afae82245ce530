use Rattle.std.proofs.Common.{◌∙◌, ap}
use Rattle.rare_sexpr.specs.Written.{written_symbol}
use Rattle.rare_term_printing.proofs.Texts.{err_text}
use Rattle.rare_rule_printing.specs.SortPrinting.{sort_name_text}
use Rattle.rare_rule_printing.proofs.SortTexts.{name_at}
use Rattle.rare_rule_printing.proofs.sort.write_name.Goals as goal

pub returns-clause-err : goal.returns-clause-err
returns-clause-err c =
    err_text c.write_symbol.result c.args.out.now (written_symbol c.bytes.result.now) (sort_name_text c.args.params.now c.args.k) c.write_symbol.new.out
    (ap written_symbol c.bytes.ensures ∙ name_at c.args.params.now c.args.k c.index-params-k.result c.requires) c.write_symbol.ensures.err
