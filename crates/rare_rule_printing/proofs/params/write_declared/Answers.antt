use Rattle.rare_term_printing.proofs.Texts.{err_both}
use Rattle.rare_rule_printing.specs.SortPrinting.{declaration_text}
use Rattle.rare_rule_printing.specs.inner.RulePieces.{declared_text}
use Rattle.rare_rule_printing.proofs.ParamTexts.{declared_of}
use Rattle.rare_rule_printing.proofs.params.write_declared.Goals as goal

pub returns-clause-err : goal.returns-clause-err
returns-clause-err c =
    let ps = c.args.params.now in
    let p = c.args.param.now in
    let lead = c.args.lead.now in
    err_both c.write_declaration.result c.args.out.now lead (declaration_text ps p) (declared_text ps lead p) c.append.new.self c.write_declaration.new.out (declared_of ps lead p c.if-param.false) c.in_ok-append.ensures.ok c.write_declaration.ensures.err
