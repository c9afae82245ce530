use Rattle.std.proofs.Common.{◌++◌, ◌-◌, length, take, drop, subst, sym, arith, IsTrue}
use Rattle.std.specs.Prelude.{codes, flat_map}
use Rattle.rare_linear.specs.declared.constraint.Constraint.{Constraint}
use Rattle.rare_sexpr.specs.Written.{IsCut}
use Rattle.rare_scope.proofs.Cutting.{cut_front, cut_behind, cut_nothing, cut_item}
use Rattle.rare_term_printing.proofs.Texts.{item_more, all_ended, all_written}
use Rattle.rare_rule.specs.ParamForms.{are_numbers}
use Rattle.rare_rule_printing.specs.ConstraintPrinting.{constraint_text}
use Rattle.rare_rule_printing.specs.inner.RulePieces.{spaced_constraint, bounds_text}
use Rattle.rare_rule_printing.proofs.ParamNumbers.{bound_over}
use Rattle.rare_rule_printing.proofs.RuleTexts.{bounds_of, bounds_over}
use Rattle.rare_rule_printing.proofs.Steps.{err_cut, err_last, ok_last, after}
use Rattle.rare_rule_printing.proofs.bounds.write_bounds.Goals as goal

pub write_constraint-requires : goal.write_constraint-requires
write_constraint-requires c = (bounds_over c.args.params.now c.args.bounds.now c.first-item.result (omega arith) c.first-item.is c.requires).0

pub write_constraint-requires-in-loop-bound : goal.write_constraint-requires-in-loop-bound
write_constraint-requires-in-loop-bound c =
    let cs = c.args.bounds.now in
    let over = (bounds_over c.args.params.now cs c.first-item.result (omega arith) c.first-item.is c.requires).1 in
    subst (λ (b : Constraint). IsTrue (are_numbers c.args.params.now b.floor.parts)) (sym c.bound-item.is)
    (bound_over c.args.params.now (take (length cs - 1) (drop 1 cs)) c.loop-bound.bound-index c.bound-item.result over c.loop-bound-test.true)

pub returns-in_err-write_constraint-clause-err : goal.returns-in_err-write_constraint-clause-err
returns-in_err-write_constraint-clause-err c =
    let ps = c.args.params.now in
    let cs = c.args.bounds.now in
    let rest = flat_map (spaced_constraint ps) (take (length cs - 1) (drop 1 cs)) in
    let first = constraint_text ps c.first-item.result in
    let new = c.write_constraint.new.out in
    err_cut c.from_residual-in_err-write_constraint.result c.args.out.now (codes " :where (" ++ (first ++ (rest ++ codes ")"))) (bounds_text ps cs) new (bounds_of ps cs c.first-item.result (omega arith) c.first-item.is)
    (cut_behind c.args.out.now (codes " :where (") (first ++ (rest ++ codes ")")) c.append.new.self new c.in_ok-append.ensures.ok
    (cut_front c.append.new.self first (rest ++ codes ")") new c.in_err-write_constraint.ensures.err))

pub returns-in_err-push-clause-err : goal.returns-in_err-push-clause-err
returns-in_err-push-clause-err c =
    let ps = c.args.params.now in
    let cs = c.args.bounds.now in
    let bs = take (length cs - 1) (drop 1 cs) in
    let f = spaced_constraint ps in
    let rest = flat_map f bs in
    let first = constraint_text ps c.first-item.result in
    let new = c.push.new.self in
    err_cut c.from_residual-in_err-push.result c.args.out.now (codes " :where (" ++ (first ++ (rest ++ codes ")"))) (bounds_text ps cs) new (bounds_of ps cs c.first-item.result (omega arith) c.first-item.is)
    (cut_behind c.args.out.now (codes " :where (") (first ++ (rest ++ codes ")")) c.append.new.self new c.in_ok-append.ensures.ok
    (cut_behind c.append.new.self first (rest ++ codes ")") c.write_constraint.new.out new c.in_ok-write_constraint.ensures.ok
    (cut_front c.write_constraint.new.out rest (codes ")") new
    (cut_item f bs c.loop-bound.bound-index c.bound-item.result c.write_constraint.new.out c.loop-bound.out new c.loop-bound-test.true c.loop-bound.invariant
    (subst (λ (b : Constraint). IsCut c.loop-bound.out (f b) new) c.bound-item.is (cut_nothing c.loop-bound.out (f c.bound-item.result) new c.in_err-push.ensures.err))))))

pub returns-in_err-write_constraint-2-clause-err : goal.returns-in_err-write_constraint-2-clause-err
returns-in_err-write_constraint-2-clause-err c =
    let ps = c.args.params.now in
    let cs = c.args.bounds.now in
    let bs = take (length cs - 1) (drop 1 cs) in
    let f = spaced_constraint ps in
    let rest = flat_map f bs in
    let first = constraint_text ps c.first-item.result in
    let text = constraint_text ps c.bound-item.result in
    let new = c.write_constraint-in-loop-bound.new.out in
    err_cut c.from_residual-in_err-write_constraint-2.result c.args.out.now (codes " :where (" ++ (first ++ (rest ++ codes ")"))) (bounds_text ps cs) new (bounds_of ps cs c.first-item.result (omega arith) c.first-item.is)
    (cut_behind c.args.out.now (codes " :where (") (first ++ (rest ++ codes ")")) c.append.new.self new c.in_ok-append.ensures.ok
    (cut_behind c.append.new.self first (rest ++ codes ")") c.write_constraint.new.out new c.in_ok-write_constraint.ensures.ok
    (cut_front c.write_constraint.new.out rest (codes ")") new
    (cut_item f bs c.loop-bound.bound-index c.bound-item.result c.write_constraint.new.out c.loop-bound.out new c.loop-bound-test.true c.loop-bound.invariant
    (subst (λ (b : Constraint). IsCut c.loop-bound.out (f b) new) c.bound-item.is (cut_behind c.loop-bound.out (codes " ") text c.push.new.self new c.in_ok-push.ensures.ok c.in_err-write_constraint-2.ensures.err))))))

pub loop-bound-preserved : goal.loop-bound-preserved
loop-bound-preserved c =
    let ps = c.args.params.now in
    let cs = c.args.bounds.now in
    let new = c.write_constraint-in-loop-bound.new.out in
    item_more (spaced_constraint ps) (take (length cs - 1) (drop 1 cs)) c.loop-bound.bound-index c.bound-item.result c.write_constraint.new.out c.loop-bound.out new c.loop-bound-test.true (sym c.bound-item.is) c.loop-bound.invariant
    (after c.loop-bound.out (codes " ") (constraint_text ps c.bound-item.result) c.push.new.self new c.in_ok-push.ensures.ok c.in_ok-write_constraint-2.ensures.ok)

pub returns-clause-ok : goal.returns-clause-ok
returns-clause-ok c =
    let ps = c.args.params.now in
    let cs = c.args.bounds.now in
    let bs = take (length cs - 1) (drop 1 cs) in
    let rest = flat_map (spaced_constraint ps) bs in
    let first = constraint_text ps c.first-item.result in
    let new = c.push-2.new.self in
    ok_last c.push-2.result c.args.out.now (codes " :where (" ++ (first ++ (rest ++ codes ")"))) (bounds_text ps cs) (codes ")") new c.loop-bound.out (bounds_of ps cs c.first-item.result (omega arith) c.first-item.is) c.push-2.ensures.ok
    (λ h. after c.args.out.now (codes " :where (") (first ++ (rest ++ codes ")")) c.append.new.self new c.in_ok-append.ensures.ok
    (after c.append.new.self first (rest ++ codes ")") c.write_constraint.new.out new c.in_ok-write_constraint.ensures.ok
    (all_ended (spaced_constraint ps) bs c.loop-bound.bound-index c.write_constraint.new.out c.loop-bound.out (codes ")") new c.loop-bound-test.false c.loop-bound.invariant h)))

pub returns-clause-err : goal.returns-clause-err
returns-clause-err c =
    let ps = c.args.params.now in
    let cs = c.args.bounds.now in
    let bs = take (length cs - 1) (drop 1 cs) in
    let rest = flat_map (spaced_constraint ps) bs in
    let first = constraint_text ps c.first-item.result in
    let new = c.push-2.new.self in
    err_last c.push-2.result c.args.out.now (codes " :where (" ++ (first ++ (rest ++ codes ")"))) (bounds_text ps cs) new c.loop-bound.out (bounds_of ps cs c.first-item.result (omega arith) c.first-item.is) c.push-2.ensures.err
    (λ h. cut_behind c.args.out.now (codes " :where (") (first ++ (rest ++ codes ")")) c.append.new.self new c.in_ok-append.ensures.ok
    (cut_behind c.append.new.self first (rest ++ codes ")") c.write_constraint.new.out new c.in_ok-write_constraint.ensures.ok
    (all_written (spaced_constraint ps) bs c.loop-bound.bound-index c.write_constraint.new.out c.loop-bound.out (codes ")") new c.loop-bound-test.false c.loop-bound.invariant h)))
