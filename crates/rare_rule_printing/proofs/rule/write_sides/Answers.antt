use Rattle.std.proofs.Common.{◌++◌, List, ℕ, refl, subst}
use Rattle.std.specs.Option.{option_map}
use Rattle.rare_sexpr.specs.Written.{IsCut}
use Rattle.rare_scope.proofs.Cutting.{cut_front, cut_behind, on_err}
use Rattle.rare_rule_printing.specs.inner.RulePieces.{spaced_term, context_text, sides_text}
use Rattle.rare_rule_printing.proofs.RuleTexts.{sides_of}
use Rattle.rare_rule_printing.proofs.Steps.{err_cut}
use Rattle.rare_rule_printing.proofs.rule.write_sides.Goals as goal

pub returns-in_err-write_spaced-clause-err : goal.returns-in_err-write_spaced-clause-err
returns-in_err-write_spaced-clause-err c =
    let r = c.args.rule.now in
    let ps = c.items-params.result.now in
    let left = spaced_term ps r.left in
    let rest = spaced_term ps r.right ++ context_text ps r.context in
    let new = c.write_spaced.new.out in
    err_cut c.from_residual.result c.args.out.now (left ++ rest) (sides_text r) new (sides_of r ps r.context c.items-params.ensures refl) (cut_front c.args.out.now left rest new c.in_err-write_spaced.ensures.err)

pub returns-in_err-write_spaced-2-clause-err : goal.returns-in_err-write_spaced-2-clause-err
returns-in_err-write_spaced-2-clause-err c =
    let r = c.args.rule.now in
    let ps = c.items-params.result.now in
    let left = spaced_term ps r.left in
    let right = spaced_term ps r.right in
    let context = context_text ps r.context in
    let new = c.write_spaced-2.new.out in
    err_cut c.from_residual-in_err-write_spaced-2.result c.args.out.now (left ++ (right ++ context)) (sides_text r) new (sides_of r ps r.context c.items-params.ensures refl)
    (cut_behind c.args.out.now left (right ++ context) c.write_spaced.new.out new c.in_ok-write_spaced.ensures.ok (cut_front c.write_spaced.new.out right context new c.in_err-write_spaced-2.ensures.err))

pub returns-clause-err : goal.returns-clause-err
returns-clause-err c =
    let r = c.args.rule.now in
    let ps = c.items-params.result.now in
    let left = spaced_term ps r.left in
    let right = spaced_term ps r.right in
    let text = context_text ps (option_map (λ t. t.now) c.as_ref.result) in
    let new = c.write_context.new.out in
    let same = sides_of r ps (option_map (λ t. t.now) c.as_ref.result) c.items-params.ensures c.as_ref.ensures.value in
    on_err c.write_context.result (IsCut c.write_spaced-2.new.out text new) (IsCut c.args.out.now (sides_text r) new) c.write_context.ensures.err
    (λ h. subst (λ (t : List ℕ). IsCut c.args.out.now t new) same
    (cut_behind c.args.out.now left (right ++ text) c.write_spaced.new.out new c.in_ok-write_spaced.ensures.ok
    (cut_behind c.write_spaced.new.out right text c.write_spaced-2.new.out new c.in_ok-write_spaced-2.ensures.ok h)))
