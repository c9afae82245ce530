use Rattle.std.proofs.Common.{◌++◌, ◌∙◌, refl}
use Rattle.std.specs.Prelude.{codes}
use Rattle.rare_sexpr.specs.Written.{written_symbol}
use Rattle.rare_scope.proofs.Cutting.{cut_front, cut_behind, cut_here}
use Rattle.rare_rule_printing.specs.inner.RulePieces.{rule_opening}
use Rattle.rare_rule_printing.proofs.RuleTexts.{opening_of}
use Rattle.rare_rule_printing.proofs.Steps.{err_cut, err_last}
use Rattle.rare_rule_printing.proofs.rule.write_opening.Goals as goal

pub returns-in_err-push-2-clause-err : goal.returns-in_err-push-2-clause-err
returns-in_err-push-2-clause-err c =
    let r = c.args.rule.now in
    let word = c.rule_word.result.now in
    let name = written_symbol r.name in
    let new = c.push-2.new.self in
    err_cut c.from_residual-in_err-push-2.result c.args.out.now (codes "(" ++ (word ++ (codes " " ++ (name ++ codes " ")))) (rule_opening r) new (opening_of r word r.name c.rule_word.ensures refl)
    (cut_behind c.args.out.now (codes "(") (word ++ (codes " " ++ (name ++ codes " "))) c.push.new.self new c.in_ok-push.ensures.ok
    (cut_here c.push.new.self word (codes " " ++ (name ++ codes " ")) new (c.in_err-push-2.ensures.err ∙ c.in_ok-append.ensures.ok)))

pub returns-in_err-write_symbol-clause-err : goal.returns-in_err-write_symbol-clause-err
returns-in_err-write_symbol-clause-err c =
    let r = c.args.rule.now in
    let word = c.rule_word.result.now in
    let name = written_symbol c.bytes.result.now in
    let new = c.write_symbol.new.out in
    err_cut c.from_residual-in_err-write_symbol.result c.args.out.now (codes "(" ++ (word ++ (codes " " ++ (name ++ codes " ")))) (rule_opening r) new (opening_of r word c.bytes.result.now c.rule_word.ensures c.bytes.ensures)
    (cut_behind c.args.out.now (codes "(") (word ++ (codes " " ++ (name ++ codes " "))) c.push.new.self new c.in_ok-push.ensures.ok
    (cut_behind c.push.new.self word (codes " " ++ (name ++ codes " ")) c.append.new.self new c.in_ok-append.ensures.ok
    (cut_behind c.append.new.self (codes " ") (name ++ codes " ") c.push-2.new.self new c.in_ok-push-2.ensures.ok
    (cut_front c.push-2.new.self name (codes " ") new c.in_err-write_symbol.ensures.err))))

pub returns-clause-err : goal.returns-clause-err
returns-clause-err c =
    let r = c.args.rule.now in
    let word = c.rule_word.result.now in
    let name = written_symbol c.bytes.result.now in
    let new = c.push-3.new.self in
    err_last c.push-3.result c.args.out.now (codes "(" ++ (word ++ (codes " " ++ (name ++ codes " ")))) (rule_opening r) new c.write_symbol.new.out (opening_of r word c.bytes.result.now c.rule_word.ensures c.bytes.ensures) c.push-3.ensures.err
    (λ h. cut_behind c.args.out.now (codes "(") (word ++ (codes " " ++ (name ++ codes " "))) c.push.new.self new c.in_ok-push.ensures.ok
    (cut_behind c.push.new.self word (codes " " ++ (name ++ codes " ")) c.append.new.self new c.in_ok-append.ensures.ok
    (cut_behind c.append.new.self (codes " ") (name ++ codes " ") c.push-2.new.self new c.in_ok-push-2.ensures.ok
    (cut_here c.push-2.new.self name (codes " ") new (h ∙ c.in_ok-write_symbol.ensures.ok)))))
