use Rattle.std.proofs.Common.{◌++◌, ◌∙◌, List, subst, sym, refl}
use Rattle.std.specs.Prelude.{codes, All}
use Rattle.rare_rule.specs.declared.param.Param.{Param}
use Rattle.rare_sort.specs.declared.tree.Tree.{Tree}
use Rattle.rare_scope.proofs.Cutting.{cut_front, cut_behind, cut_here}
use Rattle.rare_rule_printing.specs.SortPrinting.{params_text}
use Rattle.rare_rule_printing.specs.RulePrinting.{rule_text}
use Rattle.rare_rule_printing.specs.inner.Printable.{IsPrintable}
use Rattle.rare_rule_printing.specs.inner.RulePieces.{rule_opening, bounds_text, premises_text, sides_text}
use Rattle.rare_rule_printing.proofs.RuleTexts.{rule_of, premises_printable}
use Rattle.rare_rule_printing.proofs.Steps.{err_cut, err_last, ok_last, after}
use Rattle.rare_rule_printing.proofs.rule.print_rule.Goals as goal

pub write_premises-requires : goal.write_premises-requires
write_premises-requires c =
    let r = c.args.rule.now in
    subst (λ (ps : List Param). All (IsPrintable ps) c.items-2.result.now) (sym c.items-params.ensures)
    (subst (λ (ts : List Tree). All (IsPrintable r.params) ts) (sym c.items-2.ensures) (premises_printable r c.requires))

pub returns-in_err-write_opening-clause-err : goal.returns-in_err-write_opening-clause-err
returns-in_err-write_opening-clause-err c =
    let r = c.args.rule.now in
    let ps = c.items-params.result.now in
    let bs = r.bounds in
    let ts = r.premises in
    let opening = rule_opening r in
    let params = params_text ps in
    let bounds = bounds_text ps bs in
    let premises = premises_text ps ts in
    let sides = sides_text r in
    let new = c.write_opening.new.out in
    err_cut c.from_residual.result c.args.out.now (opening ++ (params ++ (bounds ++ (premises ++ (sides ++ (codes ")")))))) (rule_text r) new (rule_of r ps bs ts c.items-params.ensures refl refl)
    (cut_front c.args.out.now opening (params ++ (bounds ++ (premises ++ (sides ++ (codes ")"))))) new c.in_err-write_opening.ensures.err)

pub returns-in_err-write_params-clause-err : goal.returns-in_err-write_params-clause-err
returns-in_err-write_params-clause-err c =
    let r = c.args.rule.now in
    let ps = c.items-params.result.now in
    let bs = r.bounds in
    let ts = r.premises in
    let opening = rule_opening r in
    let params = params_text ps in
    let bounds = bounds_text ps bs in
    let premises = premises_text ps ts in
    let sides = sides_text r in
    let new = c.write_params.new.out in
    err_cut c.from_residual-in_err-write_params.result c.args.out.now (opening ++ (params ++ (bounds ++ (premises ++ (sides ++ (codes ")")))))) (rule_text r) new (rule_of r ps bs ts c.items-params.ensures refl refl)
    (cut_behind c.args.out.now opening (params ++ (bounds ++ (premises ++ (sides ++ (codes ")"))))) c.write_opening.new.out new c.in_ok-write_opening.ensures.ok
    (cut_front c.write_opening.new.out params (bounds ++ (premises ++ (sides ++ (codes ")")))) new c.in_err-write_params.ensures.err))

pub returns-in_err-write_bounds-clause-err : goal.returns-in_err-write_bounds-clause-err
returns-in_err-write_bounds-clause-err c =
    let r = c.args.rule.now in
    let ps = c.items-params.result.now in
    let bs = c.items.result.now in
    let ts = r.premises in
    let opening = rule_opening r in
    let params = params_text ps in
    let bounds = bounds_text ps bs in
    let premises = premises_text ps ts in
    let sides = sides_text r in
    let new = c.write_bounds.new.out in
    err_cut c.from_residual-in_err-write_bounds.result c.args.out.now (opening ++ (params ++ (bounds ++ (premises ++ (sides ++ (codes ")")))))) (rule_text r) new (rule_of r ps bs ts c.items-params.ensures c.items.ensures refl)
    (cut_behind c.args.out.now opening (params ++ (bounds ++ (premises ++ (sides ++ (codes ")"))))) c.write_opening.new.out new c.in_ok-write_opening.ensures.ok
    (cut_behind c.write_opening.new.out params (bounds ++ (premises ++ (sides ++ (codes ")")))) c.write_params.new.out new c.in_ok-write_params.ensures.ok
    (cut_front c.write_params.new.out bounds (premises ++ (sides ++ (codes ")"))) new c.in_err-write_bounds.ensures.err)))

pub returns-in_err-write_premises-clause-err : goal.returns-in_err-write_premises-clause-err
returns-in_err-write_premises-clause-err c =
    let r = c.args.rule.now in
    let ps = c.items-params.result.now in
    let bs = c.items.result.now in
    let ts = c.items-2.result.now in
    let opening = rule_opening r in
    let params = params_text ps in
    let bounds = bounds_text ps bs in
    let premises = premises_text ps ts in
    let sides = sides_text r in
    let new = c.write_premises.new.out in
    err_cut c.from_residual-in_err-write_premises.result c.args.out.now (opening ++ (params ++ (bounds ++ (premises ++ (sides ++ (codes ")")))))) (rule_text r) new (rule_of r ps bs ts c.items-params.ensures c.items.ensures c.items-2.ensures)
    (cut_behind c.args.out.now opening (params ++ (bounds ++ (premises ++ (sides ++ (codes ")"))))) c.write_opening.new.out new c.in_ok-write_opening.ensures.ok
    (cut_behind c.write_opening.new.out params (bounds ++ (premises ++ (sides ++ (codes ")")))) c.write_params.new.out new c.in_ok-write_params.ensures.ok
    (cut_behind c.write_params.new.out bounds (premises ++ (sides ++ (codes ")"))) c.write_bounds.new.out new c.in_ok-write_bounds.ensures.ok
    (cut_front c.write_bounds.new.out premises (sides ++ (codes ")")) new c.in_err-write_premises.ensures.err))))

pub returns-in_err-write_sides-clause-err : goal.returns-in_err-write_sides-clause-err
returns-in_err-write_sides-clause-err c =
    let r = c.args.rule.now in
    let ps = c.items-params.result.now in
    let bs = c.items.result.now in
    let ts = c.items-2.result.now in
    let opening = rule_opening r in
    let params = params_text ps in
    let bounds = bounds_text ps bs in
    let premises = premises_text ps ts in
    let sides = sides_text r in
    let new = c.write_sides.new.out in
    err_cut c.from_residual-in_err-write_sides.result c.args.out.now (opening ++ (params ++ (bounds ++ (premises ++ (sides ++ (codes ")")))))) (rule_text r) new (rule_of r ps bs ts c.items-params.ensures c.items.ensures c.items-2.ensures)
    (cut_behind c.args.out.now opening (params ++ (bounds ++ (premises ++ (sides ++ (codes ")"))))) c.write_opening.new.out new c.in_ok-write_opening.ensures.ok
    (cut_behind c.write_opening.new.out params (bounds ++ (premises ++ (sides ++ (codes ")")))) c.write_params.new.out new c.in_ok-write_params.ensures.ok
    (cut_behind c.write_params.new.out bounds (premises ++ (sides ++ (codes ")"))) c.write_bounds.new.out new c.in_ok-write_bounds.ensures.ok
    (cut_behind c.write_bounds.new.out premises (sides ++ (codes ")")) c.write_premises.new.out new c.in_ok-write_premises.ensures.ok
    (cut_front c.write_premises.new.out sides (codes ")") new c.in_err-write_sides.ensures.err)))))

pub returns-clause-ok : goal.returns-clause-ok
returns-clause-ok c =
    let r = c.args.rule.now in
    let ps = c.items-params.result.now in
    let bs = c.items.result.now in
    let ts = c.items-2.result.now in
    let opening = rule_opening r in
    let params = params_text ps in
    let bounds = bounds_text ps bs in
    let premises = premises_text ps ts in
    let sides = sides_text r in
    let new = c.push.new.self in
    ok_last c.push.result c.args.out.now (opening ++ (params ++ (bounds ++ (premises ++ (sides ++ (codes ")")))))) (rule_text r) (codes ")") new c.write_sides.new.out (rule_of r ps bs ts c.items-params.ensures c.items.ensures c.items-2.ensures) c.push.ensures.ok
    (λ h. after c.args.out.now opening (params ++ (bounds ++ (premises ++ (sides ++ (codes ")"))))) c.write_opening.new.out new c.in_ok-write_opening.ensures.ok
    (after c.write_opening.new.out params (bounds ++ (premises ++ (sides ++ (codes ")")))) c.write_params.new.out new c.in_ok-write_params.ensures.ok
    (after c.write_params.new.out bounds (premises ++ (sides ++ (codes ")"))) c.write_bounds.new.out new c.in_ok-write_bounds.ensures.ok
    (after c.write_bounds.new.out premises (sides ++ (codes ")")) c.write_premises.new.out new c.in_ok-write_premises.ensures.ok
    (after c.write_premises.new.out sides (codes ")") c.write_sides.new.out new c.in_ok-write_sides.ensures.ok h)))))

pub returns-clause-err : goal.returns-clause-err
returns-clause-err c =
    let r = c.args.rule.now in
    let ps = c.items-params.result.now in
    let bs = c.items.result.now in
    let ts = c.items-2.result.now in
    let opening = rule_opening r in
    let params = params_text ps in
    let bounds = bounds_text ps bs in
    let premises = premises_text ps ts in
    let sides = sides_text r in
    let new = c.push.new.self in
    err_last c.push.result c.args.out.now (opening ++ (params ++ (bounds ++ (premises ++ (sides ++ (codes ")")))))) (rule_text r) new c.write_sides.new.out (rule_of r ps bs ts c.items-params.ensures c.items.ensures c.items-2.ensures) c.push.ensures.err
    (λ h. cut_behind c.args.out.now opening (params ++ (bounds ++ (premises ++ (sides ++ (codes ")"))))) c.write_opening.new.out new c.in_ok-write_opening.ensures.ok
    (cut_behind c.write_opening.new.out params (bounds ++ (premises ++ (sides ++ (codes ")")))) c.write_params.new.out new c.in_ok-write_params.ensures.ok
    (cut_behind c.write_params.new.out bounds (premises ++ (sides ++ (codes ")"))) c.write_bounds.new.out new c.in_ok-write_bounds.ensures.ok
    (cut_behind c.write_bounds.new.out premises (sides ++ (codes ")")) c.write_premises.new.out new c.in_ok-write_premises.ensures.ok
    (cut_here c.write_premises.new.out sides (codes ")") new (h ∙ c.in_ok-write_sides.ensures.ok))))))
