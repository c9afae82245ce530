use Rattle.std.proofs.Common.{◌≡◌, ◌++◌, ◌∙◌}
use Rattle.rare_sexpr.specs.Written.{IsCut}
use Rattle.rare_scope.proofs.Cutting.{cut_here, on_err}
use Rattle.rare_term_printing.proofs.text.write_led.Goals as goal

pub returns-clause-err : goal.returns-clause-err
returns-clause-err c =
    let new = c.append-2.new.self in
    on_err c.append-2.result (new ≡ c.append.new.self) (IsCut c.args.out.now (c.args.lead.now ++ c.args.text.now) new) c.append-2.ensures.err
    (λ h. cut_here c.args.out.now c.args.lead.now c.args.text.now new (h ∙ c.in_ok-append.ensures.ok))
