use Rattle.std.proofs.Common.{◌++◌, ◌∙◌, [], List, refl, sym, ap, subst, arith}
use Rattle.std.specs.Prelude.{codes, flat_map, All}
use Rattle.rare_linear.specs.Linears.{LinearExpression}
use Rattle.rare_sexpr.specs.Written.{IsCut}
use Rattle.rare_sort.specs.Trees.{head_of, indices_of, args_of}
use Rattle.rare_sort.specs.declared.tree.Tree.{Tree}
use Rattle.rare_scope.proofs.Cutting.{cut_front, cut_behind, cut_here, cut_nothing, cut_item}
use Rattle.rare_term_printing.proofs.Texts.{err_text}
use Rattle.rare_rule_printing.specs.RulePrinting.{node_text, rule_term_text}
use Rattle.rare_rule_printing.specs.inner.Printable.{IsPrintable}
use Rattle.rare_rule_printing.specs.inner.RulePieces.{application_opening, spaced_term}
use Rattle.rare_rule_printing.proofs.Steps.{err_cut, err_last, ok_last, after}
use Rattle.rare_rule_printing.proofs.TermTexts.{leaf_text, tree_parts, args_printable, args_less, item_within}
use Rattle.rare_rule_printing.proofs.term.+terms.Goals as goal

pub write_term-returns-then-is_leaf-clause-err : goal.write_term-returns-then-is_leaf-clause-err
write_term-returns-then-is_leaf-clause-err t c =
    let ps = c.args.params.now in
    let tree = c.args.tree.now in
    err_text c.write_leaf.result c.args.out.now (node_text ps (head_of tree) c.items.result.now []) (rule_term_text ps tree) c.write_leaf.new.out
    (ap (λ (ix : List LinearExpression). node_text ps (head_of tree) ix []) c.items.ensures ∙ leaf_text ps tree (sym c.is_leaf.ensures ∙ c.if-is_leaf.true)) c.write_leaf.ensures.err

pub write_term-write_terms-requires : goal.write_term-write_terms-requires
write_term-write_terms-requires t c =
    let less = args_less c.args.tree.now c.items-3.result.now c.items-3.ensures in
    let now = c.decreases in
    (omega (arith, less, now), subst (λ (ts : List Tree). All (IsPrintable c.args.params.now) ts) (sym c.items-3.ensures) (args_printable c.args.params.now c.args.tree.now c.requires))

pub write_term-returns-in_err-write_opening-clause-err : goal.write_term-returns-in_err-write_opening-clause-err
write_term-returns-in_err-write_opening-clause-err t c =
    let ps = c.args.params.now in
    let tree = c.args.tree.now in
    let rest = flat_map (spaced_term ps) (args_of tree) ++ codes ")" in
    let opening = application_opening ps (head_of tree) in
    let new = c.write_opening.new.out in
    err_cut c.from_residual.result c.args.out.now (opening c.items-2.result.now ++ rest) (rule_term_text ps tree) new
    (ap (λ (ix : List LinearExpression). opening ix ++ rest) c.items-2.ensures ∙ tree_parts ps tree (sym c.is_leaf.ensures ∙ c.if-is_leaf.false) c.requires)
    (cut_front c.args.out.now (opening c.items-2.result.now) rest new c.in_err-write_opening.ensures.err)

pub write_term-returns-in_err-write_terms-clause-err : goal.write_term-returns-in_err-write_terms-clause-err
write_term-returns-in_err-write_terms-clause-err t c =
    let ps = c.args.params.now in
    let tree = c.args.tree.now in
    let args = flat_map (spaced_term ps) c.items-3.result.now in
    let opening = application_opening ps (head_of tree) in
    let new = c.write_terms.new.out in
    err_cut c.from_residual-in_err-write_terms.result c.args.out.now (opening c.items-2.result.now ++ (args ++ codes ")")) (rule_term_text ps tree) new
    (ap (λ (ix : List LinearExpression). opening ix ++ (args ++ codes ")")) c.items-2.ensures ∙ ap (λ (ts : List Tree). opening (indices_of tree) ++ (flat_map (spaced_term ps) ts ++ codes ")")) c.items-3.ensures
    ∙ tree_parts ps tree (sym c.is_leaf.ensures ∙ c.if-is_leaf.false) c.requires)
    (cut_behind c.args.out.now (opening c.items-2.result.now) (args ++ codes ")") c.write_opening.new.out new c.in_ok-write_opening.ensures.ok (cut_front c.write_opening.new.out args (codes ")") new c.in_err-write_terms.ensures.err))

pub write_term-returns-clause-ok : goal.write_term-returns-clause-ok
write_term-returns-clause-ok t c =
    let ps = c.args.params.now in
    let tree = c.args.tree.now in
    let args = flat_map (spaced_term ps) c.items-3.result.now in
    let opening = application_opening ps (head_of tree) in
    let new = c.push.new.self in
    ok_last c.push.result c.args.out.now (opening c.items-2.result.now ++ (args ++ codes ")")) (rule_term_text ps tree) (codes ")") new c.write_terms.new.out
    (ap (λ (ix : List LinearExpression). opening ix ++ (args ++ codes ")")) c.items-2.ensures ∙ ap (λ (ts : List Tree). opening (indices_of tree) ++ (flat_map (spaced_term ps) ts ++ codes ")")) c.items-3.ensures
    ∙ tree_parts ps tree (sym c.is_leaf.ensures ∙ c.if-is_leaf.false) c.requires) c.push.ensures.ok
    (λ h. after c.args.out.now (opening c.items-2.result.now) (args ++ codes ")") c.write_opening.new.out new c.in_ok-write_opening.ensures.ok (after c.write_opening.new.out args (codes ")") c.write_terms.new.out new c.in_ok-write_terms.ensures.ok h))

pub write_term-returns-clause-err : goal.write_term-returns-clause-err
write_term-returns-clause-err t c =
    let ps = c.args.params.now in
    let tree = c.args.tree.now in
    let args = flat_map (spaced_term ps) c.items-3.result.now in
    let opening = application_opening ps (head_of tree) in
    let new = c.push.new.self in
    err_last c.push.result c.args.out.now (opening c.items-2.result.now ++ (args ++ codes ")")) (rule_term_text ps tree) new c.write_terms.new.out
    (ap (λ (ix : List LinearExpression). opening ix ++ (args ++ codes ")")) c.items-2.ensures ∙ ap (λ (ts : List Tree). opening (indices_of tree) ++ (flat_map (spaced_term ps) ts ++ codes ")")) c.items-3.ensures
    ∙ tree_parts ps tree (sym c.is_leaf.ensures ∙ c.if-is_leaf.false) c.requires) c.push.ensures.err
    (λ h. cut_behind c.args.out.now (opening c.items-2.result.now) (args ++ codes ")") c.write_opening.new.out new c.in_ok-write_opening.ensures.ok
    (cut_here c.write_opening.new.out args (codes ")") new (h ∙ c.in_ok-write_terms.ensures.ok)))

pub write_terms-write_term-requires : goal.write_terms-write_term-requires
write_terms-write_term-requires t c =
    let within = item_within c.args.trees.now c.loop-tree.tree-index c.tree-item.result c.tree-item.is c.loop-tree-test.true in
    let now = c.decreases in
    (omega (arith, within, now), subst (IsPrintable c.args.params.now) (sym c.tree-item.is) (c.requires c.loop-tree.tree-index c.tree-item.result c.loop-tree-test.true))

pub write_terms-returns-in_err-push-clause-err : goal.write_terms-returns-in_err-push-clause-err
write_terms-returns-in_err-push-clause-err t c =
    let f = spaced_term c.args.params.now in
    let new = c.push.new.self in
    err_cut c.from_residual.result c.args.out.now (flat_map f c.args.trees.now) (flat_map f c.args.trees.now) new refl
    (cut_item f c.args.trees.now c.loop-tree.tree-index c.tree-item.result c.args.out.now c.loop-tree.out new c.loop-tree-test.true c.loop-tree.invariant
    (subst (λ (x : Tree). IsCut c.loop-tree.out (f x) new) c.tree-item.is (cut_nothing c.loop-tree.out (f c.tree-item.result) new c.in_err-push.ensures.err)))

pub write_terms-returns-in_err-write_term-clause-err : goal.write_terms-returns-in_err-write_term-clause-err
write_terms-returns-in_err-write_term-clause-err t c =
    let f = spaced_term c.args.params.now in
    let new = c.write_term.new.out in
    let text = rule_term_text c.args.params.now c.tree-item.result in
    err_cut c.from_residual-in_err-write_term.result c.args.out.now (flat_map f c.args.trees.now) (flat_map f c.args.trees.now) new refl
    (cut_item f c.args.trees.now c.loop-tree.tree-index c.tree-item.result c.args.out.now c.loop-tree.out new c.loop-tree-test.true c.loop-tree.invariant
    (subst (λ (x : Tree). IsCut c.loop-tree.out (f x) new) c.tree-item.is (cut_behind c.loop-tree.out (codes " ") text c.push.new.self new c.in_ok-push.ensures.ok c.in_err-write_term.ensures.err)))
