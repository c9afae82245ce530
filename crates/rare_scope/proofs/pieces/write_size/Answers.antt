use Rattle.std.proofs.Common.{◌≡◌, ◌++◌, ◌∷◌, [], ◌∙◌}
use Rattle.std.specs.Prelude.{codes}
use Rattle.rare_sexpr.specs.Written.{written_symbol, IsCut}
use Rattle.rare_scope.specs.Pieces.{size_text}
use Rattle.rare_scope.proofs.Cutting.{cut_front, cut_behind, cut_here, in_any, on_err}
use Rattle.rare_scope.proofs.pieces.write_size.Goals as goal

pub returns-in_err-write_symbol-clause-err : goal.returns-in_err-write_symbol-clause-err
returns-in_err-write_symbol-clause-err c =
    let old = c.args.out.now in
    let text = written_symbol c.args.name.now in
    let new = c.write_symbol.new.out in
    in_any c.from_residual-in_err-write_symbol.result (IsCut old (size_text c.args.name.now) new)
    (cut_behind old (codes "(bvsize ") (text ++ (41 ∷ [])) c.append.new.self new c.in_ok-append.ensures.ok (cut_front c.append.new.self text (41 ∷ []) new c.in_err-write_symbol.ensures.err))

pub returns-clause-err : goal.returns-clause-err
returns-clause-err c =
    let old = c.args.out.now in
    let text = written_symbol c.args.name.now in
    let new = c.push.new.self in
    on_err c.push.result (new ≡ c.write_symbol.new.out) (IsCut old (size_text c.args.name.now) new) c.push.ensures.err
    (λ h. cut_behind old (codes "(bvsize ") (text ++ (41 ∷ [])) c.append.new.self new c.in_ok-append.ensures.ok (cut_here c.append.new.self text (41 ∷ []) new (h ∙ c.in_ok-write_symbol.ensures.ok)))
