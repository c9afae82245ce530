use Rattle.std.proofs.Common.{◌≡◌, ◌++◌, ◌∷◌, [], ◌∙◌}
use Rattle.std.specs.Prelude.{codes}
use Rattle.rare_sexpr.specs.Written.{IsCut}
use Rattle.rare_scope.specs.Names.{width_names}
use Rattle.rare_scope.specs.Printing.{bit_vectors_text, linear_text}
use Rattle.rare_scope.proofs.Cutting.{cut_front, cut_behind, cut_here, in_any, on_err}
use Rattle.rare_scope.proofs.write.write_bit_vectors.Goals as goal

pub returns-in_err-write_linear-clause-err : goal.returns-in_err-write_linear-clause-err
returns-in_err-write_linear-clause-err c =
    let old = c.args.out.now in
    let text = linear_text (width_names c.args.scope.now) c.args.width.now in
    let new = c.write_linear.new.out in
    in_any c.from_residual-in_err-write_linear.result (IsCut old (bit_vectors_text c.args.scope.now c.args.width.now) new)
    (cut_behind old (codes "(_ BitVec ") (text ++ (41 ∷ [])) c.append.new.self new c.in_ok-append.ensures.ok (cut_front c.append.new.self text (41 ∷ []) new c.in_err-write_linear.ensures.err))

pub returns-clause-err : goal.returns-clause-err
returns-clause-err c =
    let old = c.args.out.now in
    let text = linear_text (width_names c.args.scope.now) c.args.width.now in
    let new = c.push.new.self in
    on_err c.push.result (new ≡ c.write_linear.new.out) (IsCut old (bit_vectors_text c.args.scope.now c.args.width.now) new) c.push.ensures.err
    (λ h. cut_behind old (codes "(_ BitVec ") (text ++ (41 ∷ [])) c.append.new.self new c.in_ok-append.ensures.ok (cut_here c.append.new.self text (41 ∷ []) new (h ∙ c.in_ok-write_linear.ensures.ok)))
