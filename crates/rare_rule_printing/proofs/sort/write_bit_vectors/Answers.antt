use Rattle.std.proofs.Common.{◌++◌, ◌∷◌, [], ◌∙◌}
use Rattle.std.specs.Prelude.{codes}
use Rattle.rare_scope.specs.Printing.{linear_text_by}
use Rattle.rare_scope.proofs.Cutting.{cut_front, cut_behind, cut_here}
use Rattle.rare_term_printing.specs.OperatorTexts.{list_text}
use Rattle.rare_rule_printing.specs.ConstraintPrinting.{number_text}
use Rattle.rare_rule_printing.proofs.ParamNumbers.{names_below}
use Rattle.rare_rule_printing.proofs.SortTexts.{words_parts}
use Rattle.rare_rule_printing.proofs.Steps.{err_cut, err_last}
use Rattle.rare_rule_printing.proofs.sort.write_bit_vectors.Goals as goal

pub write_linear_over-requires : goal.write_linear_over-requires
write_linear_over-requires c = names_below c.args.params.now c.args.width.now.parts c.requires

pub returns-in_err-write_linear_over-clause-err : goal.returns-in_err-write_linear_over-clause-err
returns-in_err-write_linear_over-clause-err c =
    let text = linear_text_by (number_text c.args.params.now) c.args.width.now in
    err_cut c.from_residual-in_err-write_linear_over.result c.args.out.now (codes "(BitVec " ++ (text ++ codes ")")) (list_text (codes "BitVec" ∷ text ∷ [])) c.write_linear_over.new.out (words_parts text)
    (cut_behind c.args.out.now (codes "(BitVec ") (text ++ codes ")") c.append.new.self c.write_linear_over.new.out c.in_ok-append.ensures.ok
    (cut_front c.append.new.self text (codes ")") c.write_linear_over.new.out c.in_err-write_linear_over.ensures.err))

pub returns-clause-err : goal.returns-clause-err
returns-clause-err c =
    let text = linear_text_by (number_text c.args.params.now) c.args.width.now in
    err_last c.push.result c.args.out.now (codes "(BitVec " ++ (text ++ codes ")")) (list_text (codes "BitVec" ∷ text ∷ [])) c.push.new.self c.write_linear_over.new.out (words_parts text) c.push.ensures.err
    (λ h. cut_behind c.args.out.now (codes "(BitVec ") (text ++ codes ")") c.append.new.self c.push.new.self c.in_ok-append.ensures.ok (cut_here c.append.new.self text (codes ")") c.push.new.self (h ∙ c.in_ok-write_linear_over.ensures.ok)))
