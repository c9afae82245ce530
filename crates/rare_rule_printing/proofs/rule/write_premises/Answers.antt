use Rattle.std.proofs.Common.{◌++◌, ◌∙◌}
use Rattle.std.specs.Prelude.{codes, flat_map}
use Rattle.rare_scope.proofs.Cutting.{cut_front, cut_behind, cut_here}
use Rattle.rare_rule_printing.specs.inner.RulePieces.{spaced_term, premises_text}
use Rattle.rare_rule_printing.proofs.RuleTexts.{many_premises}
use Rattle.rare_rule_printing.proofs.Steps.{err_cut, err_last, ok_last, after}
use Rattle.rare_rule_printing.proofs.rule.write_premises.Goals as goal

pub returns-in_err-write_terms-clause-err : goal.returns-in_err-write_terms-clause-err
returns-in_err-write_terms-clause-err c =
    let ps = c.args.params.now in
    let ts = c.args.premises.now in
    let args = flat_map (spaced_term ps) ts in
    let new = c.write_terms-2.new.out in
    err_cut c.from_residual-in_err-write_terms.result c.args.out.now (codes " (and" ++ (args ++ codes ")")) (premises_text ps ts) new (many_premises ps ts c.if-premises-lt2.false)
    (cut_behind c.args.out.now (codes " (and") (args ++ codes ")") c.append.new.self new c.in_ok-append.ensures.ok (cut_front c.append.new.self args (codes ")") new c.in_err-write_terms.ensures.err))

pub returns-clause-ok : goal.returns-clause-ok
returns-clause-ok c =
    let ps = c.args.params.now in
    let ts = c.args.premises.now in
    let args = flat_map (spaced_term ps) ts in
    let new = c.push.new.self in
    ok_last c.push.result c.args.out.now (codes " (and" ++ (args ++ codes ")")) (premises_text ps ts) (codes ")") new c.write_terms-2.new.out (many_premises ps ts c.if-premises-lt2.false) c.push.ensures.ok
    (λ h. after c.args.out.now (codes " (and") (args ++ codes ")") c.append.new.self new c.in_ok-append.ensures.ok (after c.append.new.self args (codes ")") c.write_terms-2.new.out new c.in_ok-write_terms.ensures.ok h))

pub returns-clause-err : goal.returns-clause-err
returns-clause-err c =
    let ps = c.args.params.now in
    let ts = c.args.premises.now in
    let args = flat_map (spaced_term ps) ts in
    let new = c.push.new.self in
    err_last c.push.result c.args.out.now (codes " (and" ++ (args ++ codes ")")) (premises_text ps ts) new c.write_terms-2.new.out (many_premises ps ts c.if-premises-lt2.false) c.push.ensures.err
    (λ h. cut_behind c.args.out.now (codes " (and") (args ++ codes ")") c.append.new.self new c.in_ok-append.ensures.ok (cut_here c.append.new.self args (codes ")") new (h ∙ c.in_ok-write_terms.ensures.ok)))
