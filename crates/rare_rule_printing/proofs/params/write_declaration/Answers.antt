use Rattle.std.proofs.Common.{◌++◌, ◌∙◌, refl}
use Rattle.std.specs.Prelude.{codes}
use Rattle.rare_sexpr.specs.Written.{written_symbol}
use Rattle.rare_scope.proofs.Cutting.{cut_front, cut_behind, cut_here}
use Rattle.rare_rule_printing.specs.SortPrinting.{kind_text, declaration_text}
use Rattle.rare_rule_printing.specs.inner.RulePieces.{declaration_end}
use Rattle.rare_rule_printing.proofs.ParamTexts.{declaration_of}
use Rattle.rare_rule_printing.proofs.Steps.{err_cut, err_last}
use Rattle.rare_rule_printing.proofs.params.write_declaration.Goals as goal

pub returns-in_err-write_symbol-clause-err : goal.returns-in_err-write_symbol-clause-err
returns-in_err-write_symbol-clause-err c =
    let ps = c.args.params.now in
    let p = c.args.param.now in
    let name = written_symbol c.bytes.result.now in
    let behind = codes " " ++ (kind_text ps p.name p.kind ++ declaration_end p) in
    let new = c.write_symbol.new.out in
    err_cut c.from_residual-in_err-write_symbol.result c.args.out.now (codes "(" ++ (name ++ behind)) (declaration_text ps p) new (declaration_of ps p c.bytes.result.now p.name (declaration_end p) c.bytes.ensures refl refl)
    (cut_behind c.args.out.now (codes "(") (name ++ behind) c.push.new.self new c.in_ok-push.ensures.ok (cut_front c.push.new.self name behind new c.in_err-write_symbol.ensures.err))

pub returns-in_err-push-2-clause-err : goal.returns-in_err-push-2-clause-err
returns-in_err-push-2-clause-err c =
    let ps = c.args.params.now in
    let p = c.args.param.now in
    let name = written_symbol c.bytes.result.now in
    let behind = codes " " ++ (kind_text ps p.name p.kind ++ declaration_end p) in
    let new = c.push-2.new.self in
    err_cut c.from_residual-in_err-push-2.result c.args.out.now (codes "(" ++ (name ++ behind)) (declaration_text ps p) new (declaration_of ps p c.bytes.result.now p.name (declaration_end p) c.bytes.ensures refl refl)
    (cut_behind c.args.out.now (codes "(") (name ++ behind) c.push.new.self new c.in_ok-push.ensures.ok (cut_here c.push.new.self name behind new (c.in_err-push-2.ensures.err ∙ c.in_ok-write_symbol.ensures.ok)))

pub returns-in_err-write_kind-clause-err : goal.returns-in_err-write_kind-clause-err
returns-in_err-write_kind-clause-err c =
    let ps = c.args.params.now in
    let p = c.args.param.now in
    let name = written_symbol c.bytes.result.now in
    let kind = kind_text ps c.bytes-2.result.now p.kind in
    let end = declaration_end p in
    let new = c.write_kind.new.out in
    err_cut c.from_residual-in_err-write_kind.result c.args.out.now (codes "(" ++ (name ++ (codes " " ++ (kind ++ end)))) (declaration_text ps p) new
    (declaration_of ps p c.bytes.result.now c.bytes-2.result.now end c.bytes.ensures c.bytes-2.ensures refl)
    (cut_behind c.args.out.now (codes "(") (name ++ (codes " " ++ (kind ++ end))) c.push.new.self new c.in_ok-push.ensures.ok
    (cut_behind c.push.new.self name (codes " " ++ (kind ++ end)) c.write_symbol.new.out new c.in_ok-write_symbol.ensures.ok
    (cut_behind c.write_symbol.new.out (codes " ") (kind ++ end) c.push-2.new.self new c.in_ok-push-2.ensures.ok
    (cut_front c.push-2.new.self kind end new c.in_err-write_kind.ensures.err))))

pub returns-clause-err : goal.returns-clause-err
returns-clause-err c =
    let ps = c.args.params.now in
    let p = c.args.param.now in
    let name = written_symbol c.bytes.result.now in
    let kind = kind_text ps c.bytes-2.result.now p.kind in
    let end = c.declaration_end.result.now in
    let new = c.append.new.self in
    err_last c.append.result c.args.out.now (codes "(" ++ (name ++ (codes " " ++ (kind ++ end)))) (declaration_text ps p) new c.write_kind.new.out
    (declaration_of ps p c.bytes.result.now c.bytes-2.result.now end c.bytes.ensures c.bytes-2.ensures c.declaration_end.ensures) c.append.ensures.err
    (λ h. cut_behind c.args.out.now (codes "(") (name ++ (codes " " ++ (kind ++ end))) c.push.new.self new c.in_ok-push.ensures.ok
    (cut_behind c.push.new.self name (codes " " ++ (kind ++ end)) c.write_symbol.new.out new c.in_ok-write_symbol.ensures.ok
    (cut_behind c.write_symbol.new.out (codes " ") (kind ++ end) c.push-2.new.self new c.in_ok-push-2.ensures.ok
    (cut_here c.push-2.new.self kind end new (h ∙ c.in_ok-write_kind.ensures.ok)))))
