use Rattle.std.proofs.Common.{◌≡◌, ◌++◌, ◌<◌, ◌≤◌, ◌∙◌, ℕ, List, length, sym, ap, subst, arith, rules, Some, None}
use Rattle.std.specs.Prelude.{codes, flat_map}
use Rattle.std.specs.Fmt.{decimal}
use Rattle.rare_sexpr.specs.Written.{IsCut}
use Rattle.rare_sort.specs.Ids.{tree_at, trees_at}
use Rattle.rare_sort.specs.Trees.{args_of, head_of, indices_of}
use Rattle.rare_sort.specs.declared.tree.TermId.{TermId}
use Rattle.rare_scope.proofs.Cutting.{cut_behind, in_any, on_err}
use Rattle.rare_term_printing.specs.OperatorTexts.{operator_text}
use Rattle.rare_term_printing.specs.TermPrinting.{number_from, term_text}
use Rattle.rare_term_printing.specs.inner.Writing.{id_from, spaced_part}
use Rattle.rare_term_printing.proofs.Texts.{deeper, at_place, on_ok, number_by_id, part_named, part_written, text_alone, text_applied, item_more, item_cut, all_written, all_ended, ok_text, err_text, ok_both, err_both, err_first}
use Rattle.rare_term_printing.proofs.term.+printing.Goals as goal

pub write_part-returns-in-Some-clause-ok : goal.write_part-returns-in-Some-clause-ok
write_part-returns-in-Some-clause-ok g t c =
    let ts = (g.T.Terms.state c.args.terms.now).trees in
    let shared = trees_at ts c.args.shared.now in
    let term = tree_at ts c.args.id.0 in
    let number : number_from 1 shared term ≡ Some c.in-Some.k =
    number_by_id ts 1 c.args.shared.now c.args.id (g.met.T.Terms.one_to_one c.args.terms.now) c.requires.shared c.requires.id
    ∙ ap (λ (ids : List TermId). id_from 1 ids c.args.id) (sym c.items.ensures) ∙ sym c.number_of.ensures ∙ c.in-Some.is in
    ok_text c.write_number.result c.args.out.now (codes " @" ++ decimal c.in-Some.k) (spaced_part c.args.scope.now shared term) c.write_number.new.out (part_named c.args.scope.now shared term c.in-Some.k number) c.write_number.ensures.ok

pub write_part-returns-in-Some-clause-err : goal.write_part-returns-in-Some-clause-err
write_part-returns-in-Some-clause-err g t c =
    let ts = (g.T.Terms.state c.args.terms.now).trees in
    let shared = trees_at ts c.args.shared.now in
    let term = tree_at ts c.args.id.0 in
    let number : number_from 1 shared term ≡ Some c.in-Some.k =
    number_by_id ts 1 c.args.shared.now c.args.id (g.met.T.Terms.one_to_one c.args.terms.now) c.requires.shared c.requires.id
    ∙ ap (λ (ids : List TermId). id_from 1 ids c.args.id) (sym c.items.ensures) ∙ sym c.number_of.ensures ∙ c.in-Some.is in
    err_text c.write_number.result c.args.out.now (codes " @" ++ decimal c.in-Some.k) (spaced_part c.args.scope.now shared term) c.write_number.new.out (part_named c.args.scope.now shared term c.in-Some.k number) c.write_number.ensures.err

pub write_part-returns-in_ok-push-in-None-clause-ok : goal.write_part-returns-in_ok-push-in-None-clause-ok
write_part-returns-in_ok-push-in-None-clause-ok g t c =
    let ts = (g.T.Terms.state c.args.terms.now).trees in
    let shared = trees_at ts c.args.shared.now in
    let term = tree_at ts c.args.id.0 in
    let number : number_from 1 shared term ≡ None =
    number_by_id ts 1 c.args.shared.now c.args.id (g.met.T.Terms.one_to_one c.args.terms.now) c.requires.shared c.requires.id
    ∙ ap (λ (ids : List TermId). id_from 1 ids c.args.id) (sym c.items.ensures) ∙ sym c.number_of.ensures ∙ c.in-None.is in
    ok_both c.write_term.result c.args.out.now (codes " ") (term_text c.args.scope.now shared term) (spaced_part c.args.scope.now shared term) c.push.new.self c.write_term.new.out (part_written c.args.scope.now shared term number)
    c.in_ok-push-in-None.ensures.ok c.write_term.ensures.ok

pub write_part-returns-in_ok-push-in-None-clause-err : goal.write_part-returns-in_ok-push-in-None-clause-err
write_part-returns-in_ok-push-in-None-clause-err g t c =
    let ts = (g.T.Terms.state c.args.terms.now).trees in
    let shared = trees_at ts c.args.shared.now in
    let term = tree_at ts c.args.id.0 in
    let number : number_from 1 shared term ≡ None =
    number_by_id ts 1 c.args.shared.now c.args.id (g.met.T.Terms.one_to_one c.args.terms.now) c.requires.shared c.requires.id
    ∙ ap (λ (ids : List TermId). id_from 1 ids c.args.id) (sym c.items.ensures) ∙ sym c.number_of.ensures ∙ c.in-None.is in
    err_both c.write_term.result c.args.out.now (codes " ") (term_text c.args.scope.now shared term) (spaced_part c.args.scope.now shared term) c.push.new.self c.write_term.new.out (part_written c.args.scope.now shared term number)
    c.in_ok-push-in-None.ensures.ok c.write_term.ensures.err

pub write_term-returns-then-arg_count-eq0-clause-ok : goal.write_term-returns-then-arg_count-eq0-clause-ok
write_term-returns-then-arg_count-eq0-clause-ok g t c =
    let ts = (g.T.Terms.state c.args.terms.now).trees in
    let shared = trees_at ts c.args.shared.now in
    let term = tree_at ts c.args.id.0 in
    ok_text c.write_operator.result c.args.out.now (operator_text c.args.scope.now (head_of term) (indices_of term)) (term_text c.args.scope.now shared term) c.write_operator.new.out
    (text_alone c.args.scope.now shared term (sym c.arg_count.ensures ∙ c.if-arg_count-eq0.true)) c.write_operator.ensures.ok

pub write_term-returns-then-arg_count-eq0-clause-err : goal.write_term-returns-then-arg_count-eq0-clause-err
write_term-returns-then-arg_count-eq0-clause-err g t c =
    let ts = (g.T.Terms.state c.args.terms.now).trees in
    let shared = trees_at ts c.args.shared.now in
    let term = tree_at ts c.args.id.0 in
    err_text c.write_operator.result c.args.out.now (operator_text c.args.scope.now (head_of term) (indices_of term)) (term_text c.args.scope.now shared term) c.write_operator.new.out
    (text_alone c.args.scope.now shared term (sym c.arg_count.ensures ∙ c.if-arg_count-eq0.true)) c.write_operator.ensures.err

pub write_term-returns-in_err-write_opening-clause-err : goal.write_term-returns-in_err-write_opening-clause-err
write_term-returns-in_err-write_opening-clause-err g t c =
    let ts = (g.T.Terms.state c.args.terms.now).trees in
    let shared = trees_at ts c.args.shared.now in
    let term = tree_at ts c.args.id.0 in
    let opening = codes "(" ++ operator_text c.args.scope.now (head_of term) (indices_of term) in
    err_first c.from_residual.result c.args.out.now opening (flat_map (spaced_part c.args.scope.now shared) (args_of term) ++ codes ")") (term_text c.args.scope.now shared term) c.write_opening.new.out
    (text_applied c.args.scope.now shared term (λ z. c.if-arg_count-eq0.false (c.arg_count.ensures ∙ z))) c.in_err-write_opening.ensures.err

pub write_term-write_part-requires : goal.write_term-write_part-requires
write_term-write_part-requires g t c κs within =
    let ts = (g.T.Terms.state c.args.terms.now).trees in
    let lt : c.arguments.k < length (args_of (tree_at ts c.args.id.0)) = subst (λ (n : ℕ). c.arguments.k < n) c.arg_count-k-end.ensures c.arguments-test.true in
    let less = deeper (tree_at ts c.args.id.0) (tree_at ts c.arg.result.0) _ c.arg.ensures.tree (omega (arith, lt)) in
    let now = c.decreases in
    (omega (arith, less, now), (search rules, (c.arg.ensures.id, (c.requires.shared, (c.requires.symbols, c.requires.widths)))))

pub write_term-returns-in_err-write_part-clause-err : goal.write_term-returns-in_err-write_part-clause-err
write_term-returns-in_err-write_part-clause-err g t c =
    let ts = (g.T.Terms.state c.args.terms.now).trees in
    let shared = trees_at ts c.args.shared.now in
    let term = tree_at ts c.args.id.0 in
    let opening = codes "(" ++ operator_text c.args.scope.now (head_of term) (indices_of term) in
    let rest = flat_map (spaced_part c.args.scope.now shared) (args_of term) ++ codes ")" in
    let lt : c.arguments.k < length (args_of term) = subst (λ (n : ℕ). c.arguments.k < n) c.arg_count-k-end.ensures c.arguments-test.true in
    let new = c.write_part.new.out in
    let some = text_applied c.args.scope.now shared term (λ z. c.if-arg_count-eq0.false (c.arg_count.ensures ∙ z)) in
    in_any c.from_residual-in_err-write_part.result (IsCut c.args.out.now (term_text c.args.scope.now shared term) new)
    (subst (λ (x : List ℕ). IsCut c.args.out.now x new) some
    (cut_behind c.args.out.now opening rest c.write_opening.new.out new c.in_ok-write_opening.ensures.ok
    (item_cut (spaced_part c.args.scope.now shared) (args_of term) c.arguments.k (tree_at ts c.arg.result.0) c.write_opening.new.out c.arguments.out (codes ")") new lt (at_place (args_of term) c.arguments.k (tree_at ts c.arg.result.0) c.arg.ensures.tree lt)
    c.arguments.invariant c.in_err-write_part.ensures.err)))

pub write_term-arguments-preserved : goal.write_term-arguments-preserved
write_term-arguments-preserved g t c =
    let ts = (g.T.Terms.state c.args.terms.now).trees in
    let shared = trees_at ts c.args.shared.now in
    let term = tree_at ts c.args.id.0 in
    let lt : c.arguments.k < length (args_of term) = subst (λ (n : ℕ). c.arguments.k < n) c.arg_count-k-end.ensures c.arguments-test.true in
    item_more (spaced_part c.args.scope.now shared) (args_of term) c.arguments.k (tree_at ts c.arg.result.0) c.write_opening.new.out c.arguments.out c.write_part.new.out lt (at_place (args_of term) c.arguments.k (tree_at ts c.arg.result.0) c.arg.ensures.tree lt)
    c.arguments.invariant c.in_ok-write_part.ensures.ok

pub write_term-returns-clause-ok : goal.write_term-returns-clause-ok
write_term-returns-clause-ok g t c =
    let ts = (g.T.Terms.state c.args.terms.now).trees in
    let shared = trees_at ts c.args.shared.now in
    let term = tree_at ts c.args.id.0 in
    let f = spaced_part c.args.scope.now shared in
    let opening = codes "(" ++ operator_text c.args.scope.now (head_of term) (indices_of term) in
    let rest = flat_map (spaced_part c.args.scope.now shared) (args_of term) ++ codes ")" in
    let le : length (args_of term) ≤ c.arguments.k = subst (λ (n : ℕ). n ≤ c.arguments.k) c.arg_count-k-end.ensures c.arguments-test.false in
    ok_both c.push.result c.args.out.now opening rest (term_text c.args.scope.now shared term) c.write_opening.new.out c.push.new.self
    (text_applied c.args.scope.now shared term (λ z. c.if-arg_count-eq0.false (c.arg_count.ensures ∙ z))) c.in_ok-write_opening.ensures.ok
    (on_ok c.push.result (c.push.new.self ≡ c.arguments.out ++ codes ")") (c.push.new.self ≡ c.write_opening.new.out ++ rest) c.push.ensures.ok
    (λ h. all_ended (spaced_part c.args.scope.now shared) (args_of term) c.arguments.k c.write_opening.new.out c.arguments.out (codes ")") c.push.new.self le c.arguments.invariant h))

pub write_term-returns-clause-err : goal.write_term-returns-clause-err
write_term-returns-clause-err g t c =
    let ts = (g.T.Terms.state c.args.terms.now).trees in
    let shared = trees_at ts c.args.shared.now in
    let term = tree_at ts c.args.id.0 in
    let opening = codes "(" ++ operator_text c.args.scope.now (head_of term) (indices_of term) in
    let rest = flat_map (spaced_part c.args.scope.now shared) (args_of term) ++ codes ")" in
    let le : length (args_of term) ≤ c.arguments.k = subst (λ (n : ℕ). n ≤ c.arguments.k) c.arg_count-k-end.ensures c.arguments-test.false in
    err_both c.push.result c.args.out.now opening rest (term_text c.args.scope.now shared term) c.write_opening.new.out c.push.new.self
    (text_applied c.args.scope.now shared term (λ z. c.if-arg_count-eq0.false (c.arg_count.ensures ∙ z))) c.in_ok-write_opening.ensures.ok
    (on_err c.push.result (c.push.new.self ≡ c.arguments.out) (IsCut c.write_opening.new.out rest c.push.new.self) c.push.ensures.err
    (λ h. all_written (spaced_part c.args.scope.now shared) (args_of term) c.arguments.k c.write_opening.new.out c.arguments.out (codes ")") c.push.new.self le c.arguments.invariant h))
