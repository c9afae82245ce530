use Rattle.std.proofs.Common.{rules, ◌≡◌, ◌++◌, ap, sym, ◌∙◌, refl, Err, Ok}
use Rattle.rare_type.proofs.Typed.{goes_on, first_err, second_err, both_ok}
use Rattle.rare_type.proofs.linears.+needs_of_widths.Goals as goal

pub returns-in_err-needs-in-Array : goal.returns-in_err-needs-in-Array
returns-in_err-needs-in-Array t c =
    let same : c.from_residual-in_err-needs-in-Array.result ≡ Err c.in_err-needs-in-Array.field-0.0 = search rules in
    goes_on (λ x. x) (λ x. x) _ _ _ _ same c.in_err-needs-in-Array.ensures
    (first_err c.args.sort.now c.get.result.now c.in-Array.entries c.in-Array.keys c.in-Array.entries c.in-Array.is c.get.ensures refl)

pub returns-in_err-more-in-Array : goal.returns-in_err-more-in-Array
returns-in_err-more-in-Array t c =
    let same : c.from_residual-in_err-more-in-Array.result ≡ Err c.in_err-more-in-Array.field-0.0 = search rules in
    goes_on (λ x. x) (λ x. x) _ _ _ _ same c.in_err-more-in-Array.ensures
    (λ k h. second_err c.args.sort.now c.get.result.now c.get-in-Array.result.now c.in-Array.keys c.in-Array.entries c.in-Array.is c.get.ensures c.get-in-Array.ensures
    c.in_ok-needs-in-Array.needs k c.in_ok-needs-in-Array.ensures h)

pub returns-in_ok-append-in-Array : goal.returns-in_ok-append-in-Array
returns-in_ok-append-in-Array t c =
    both_ok c.args.sort.now c.get.result.now c.get-in-Array.result.now c.in-Array.keys c.in-Array.entries c.in-Array.is c.get.ensures c.get-in-Array.ensures
    c.in_ok-needs-in-Array.needs c.in_ok-more-in-Array.more c.in_ok-needs-in-Array.ensures c.in_ok-more-in-Array.ensures
    ∙ ap Ok (ap (λ z. c.in_ok-needs-in-Array.needs ++ z) (sym c.items.ensures) ∙ sym c.in_ok-append-in-Array.ensures)
