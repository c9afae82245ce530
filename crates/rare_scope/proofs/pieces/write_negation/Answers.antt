use Rattle.std.proofs.Common.{◌≡◌, ◌++◌, ◌∷◌, [], ◌∙◌, List, ℕ}
use Rattle.std.specs.Prelude.{codes}
use Rattle.std.specs.Fmt.{decimal}
use Rattle.rare_sexpr.specs.Written.{IsCut}
use Rattle.rare_scope.specs.Printing.{negation_text}
use Rattle.rare_scope.proofs.Cutting.{cut_behind, cut_here, in_any, on_err}
use Rattle.rare_scope.proofs.pieces.write_negation.Goals as goal

pub returns-in_err-write_digits-clause-err : goal.returns-in_err-write_digits-clause-err
returns-in_err-write_digits-clause-err c =
    in_any c.from_residual-in_err-write_digits.result (IsCut c.args.out.now (negation_text c.args.k) c.write_digits.new.out)
    (cut_here c.args.out.now (codes "(- ") (decimal c.args.k ++ (41 ∷ [])) c.write_digits.new.out (c.in_err-write_digits.ensures.err ∙ c.in_ok-append.ensures.ok))

pub returns-clause-err : goal.returns-clause-err
returns-clause-err c =
    on_err c.push.result (c.push.new.self ≡ c.write_digits.new.out) (IsCut c.args.out.now (negation_text c.args.k) c.push.new.self) c.push.ensures.err
    (λ h. cut_behind c.args.out.now (codes "(- ") (decimal c.args.k ++ (41 ∷ [])) c.append.new.self c.push.new.self c.in_ok-append.ensures.ok
    (cut_here c.append.new.self (decimal c.args.k) (41 ∷ []) c.push.new.self (h ∙ c.in_ok-write_digits.ensures.ok)))
