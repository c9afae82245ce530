use Rattle.std.proofs.Common.{◌++◌, refl, sym, subst, arith, IsTrue, ◌∙◌}
use Rattle.std.specs.Prelude.{codes}
use Rattle.rare_sort.specs.declared.sort.Sort.{Sort}
use Rattle.rare_scope.specs.Printing.{arrays_text}
use Rattle.rare_scope.proofs.Cutting.{cut_front, cut_behind, cut_here}
use Rattle.rare_rule.specs.ParamForms.{is_sort_over}
use Rattle.rare_rule_printing.specs.SortPrinting.{rule_sort_text}
use Rattle.rare_rule_printing.proofs.SortTexts.{array_over, array_parts, keys_less, entries_less}
use Rattle.rare_rule_printing.proofs.ParamNumbers.{sort_below}
use Rattle.rare_rule_printing.proofs.Steps.{err_cut, err_last, ok_last, after}
use Rattle.rare_rule_printing.proofs.sort.+write_sort.Goals as goal

pub write_sort-requires : goal.write_sort-requires
write_sort-requires t c =
    let over : IsTrue (is_sort_over c.args.params.now c.in-Array.keys) = (array_over c.args.params.now c.args.sort.now c.in-Array.keys c.in-Array.entries c.in-Array.is c.requires).0 in
    let less = keys_less c.args.sort.now c.in-Array.keys c.in-Array.entries c.get.result.now c.in-Array.is c.get.ensures in
    let now = c.decreases in
    (omega (arith, less, now), subst (λ (s : Sort). IsTrue (is_sort_over c.args.params.now s)) (sym c.get.ensures) over)

pub write_sort-requires-in-Array : goal.write_sort-requires-in-Array
write_sort-requires-in-Array t c =
    let over : IsTrue (is_sort_over c.args.params.now c.in-Array.entries) = (array_over c.args.params.now c.args.sort.now c.in-Array.keys c.in-Array.entries c.in-Array.is c.requires).1 in
    let less = entries_less c.args.sort.now c.in-Array.keys c.in-Array.entries c.get-in-Array.result.now c.in-Array.is c.get-in-Array.ensures in
    let now = c.decreases in
    (omega (arith, less, now), subst (λ (s : Sort). IsTrue (is_sort_over c.args.params.now s)) (sym c.get-in-Array.ensures) over)

pub write_name-requires : goal.write_name-requires
write_name-requires t c = sort_below c.args.params.now c.in-Named.k (subst (λ (s : Sort). IsTrue (is_sort_over c.args.params.now s)) c.in-Named.is c.requires)

pub returns-in_err-write_sort-in-Array-clause-err : goal.returns-in_err-write_sort-in-Array-clause-err
returns-in_err-write_sort-in-Array-clause-err t c =
    let ps = c.args.params.now in
    let old = c.args.out.now in
    let new = c.write_sort.new.out in
    let k = rule_sort_text ps c.get.result.now in
    let v = rule_sort_text ps c.in-Array.entries in
    err_cut c.from_residual-in_err-write_sort-in-Array.result old (arrays_text k v) (rule_sort_text ps c.args.sort.now) new
    (array_parts ps c.args.sort.now c.in-Array.keys c.in-Array.entries c.get.result.now c.in-Array.entries c.in-Array.is c.get.ensures refl)
    (cut_behind old (codes "(Array ") (k ++ (codes " " ++ (v ++ codes ")"))) c.append-in-Array.new.self new c.in_ok-append-in-Array.ensures.ok
    (cut_front c.append-in-Array.new.self k (codes " " ++ (v ++ codes ")")) new c.in_err-write_sort-in-Array.ensures.err))

pub returns-in_err-push-in-Array-clause-err : goal.returns-in_err-push-in-Array-clause-err
returns-in_err-push-in-Array-clause-err t c =
    let ps = c.args.params.now in
    let old = c.args.out.now in
    let new = c.push.new.self in
    let k = rule_sort_text ps c.get.result.now in
    let v = rule_sort_text ps c.in-Array.entries in
    err_cut c.from_residual-in_err-push-in-Array.result old (arrays_text k v) (rule_sort_text ps c.args.sort.now) new
    (array_parts ps c.args.sort.now c.in-Array.keys c.in-Array.entries c.get.result.now c.in-Array.entries c.in-Array.is c.get.ensures refl)
    (cut_behind old (codes "(Array ") (k ++ (codes " " ++ (v ++ codes ")"))) c.append-in-Array.new.self new c.in_ok-append-in-Array.ensures.ok
    (cut_here c.append-in-Array.new.self k (codes " " ++ (v ++ codes ")")) new (c.in_err-push-in-Array.ensures.err ∙ c.in_ok-write_sort-in-Array.ensures.ok)))

pub returns-in_err-write_sort-in-Array-2-clause-err : goal.returns-in_err-write_sort-in-Array-2-clause-err
returns-in_err-write_sort-in-Array-2-clause-err t c =
    let ps = c.args.params.now in
    let old = c.args.out.now in
    let new = c.write_sort-in-Array.new.out in
    let k = rule_sort_text ps c.get.result.now in
    let v = rule_sort_text ps c.get-in-Array.result.now in
    err_cut c.from_residual-in_err-write_sort-in-Array-2.result old (arrays_text k v) (rule_sort_text ps c.args.sort.now) new
    (array_parts ps c.args.sort.now c.in-Array.keys c.in-Array.entries c.get.result.now c.get-in-Array.result.now c.in-Array.is c.get.ensures c.get-in-Array.ensures)
    (cut_behind old (codes "(Array ") (k ++ (codes " " ++ (v ++ codes ")"))) c.append-in-Array.new.self new c.in_ok-append-in-Array.ensures.ok
    (cut_behind c.append-in-Array.new.self k (codes " " ++ (v ++ codes ")")) c.write_sort.new.out new c.in_ok-write_sort-in-Array.ensures.ok
    (cut_behind c.write_sort.new.out (codes " ") (v ++ codes ")") c.push.new.self new c.in_ok-push-in-Array.ensures.ok
    (cut_front c.push.new.self v (codes ")") new c.in_err-write_sort-in-Array-2.ensures.err))))

pub returns-in_ok-write_sort-in-Array-2-clause-err : goal.returns-in_ok-write_sort-in-Array-2-clause-err
returns-in_ok-write_sort-in-Array-2-clause-err t c =
    let ps = c.args.params.now in
    let old = c.args.out.now in
    let new = c.push-in-Array.new.self in
    let k = rule_sort_text ps c.get.result.now in
    let v = rule_sort_text ps c.get-in-Array.result.now in
    err_last c.push-in-Array.result old (arrays_text k v) (rule_sort_text ps c.args.sort.now) new c.write_sort-in-Array.new.out
    (array_parts ps c.args.sort.now c.in-Array.keys c.in-Array.entries c.get.result.now c.get-in-Array.result.now c.in-Array.is c.get.ensures c.get-in-Array.ensures) c.push-in-Array.ensures.err
    (λ h. cut_behind old (codes "(Array ") (k ++ (codes " " ++ (v ++ codes ")"))) c.append-in-Array.new.self new c.in_ok-append-in-Array.ensures.ok
    (cut_behind c.append-in-Array.new.self k (codes " " ++ (v ++ codes ")")) c.write_sort.new.out new c.in_ok-write_sort-in-Array.ensures.ok
    (cut_behind c.write_sort.new.out (codes " ") (v ++ codes ")") c.push.new.self new c.in_ok-push-in-Array.ensures.ok
    (cut_here c.push.new.self v (codes ")") new (h ∙ c.in_ok-write_sort-in-Array-2.ensures.ok)))))

pub returns-in_ok-write_sort-in-Array-2-clause-ok : goal.returns-in_ok-write_sort-in-Array-2-clause-ok
returns-in_ok-write_sort-in-Array-2-clause-ok t c =
    let ps = c.args.params.now in
    let old = c.args.out.now in
    let new = c.push-in-Array.new.self in
    let k = rule_sort_text ps c.get.result.now in
    let v = rule_sort_text ps c.get-in-Array.result.now in
    ok_last c.push-in-Array.result old (arrays_text k v) (rule_sort_text ps c.args.sort.now) (codes ")") new c.write_sort-in-Array.new.out
    (array_parts ps c.args.sort.now c.in-Array.keys c.in-Array.entries c.get.result.now c.get-in-Array.result.now c.in-Array.is c.get.ensures c.get-in-Array.ensures) c.push-in-Array.ensures.ok
    (λ h. after old (codes "(Array ") (k ++ (codes " " ++ (v ++ codes ")"))) c.append-in-Array.new.self new c.in_ok-append-in-Array.ensures.ok
    (after c.append-in-Array.new.self k (codes " " ++ (v ++ codes ")")) c.write_sort.new.out new c.in_ok-write_sort-in-Array.ensures.ok
    (after c.write_sort.new.out (codes " ") (v ++ codes ")") c.push.new.self new c.in_ok-push-in-Array.ensures.ok
    (after c.push.new.self v (codes ")") c.write_sort-in-Array.new.out new c.in_ok-write_sort-in-Array-2.ensures.ok h))))
