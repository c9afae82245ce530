use Rattle.std.proofs.Common.{◌≡◌, ◌<◌, length, arith, sym, ap, ◌∙◌, subst, IfOk, Some}
use Rattle.std.proofs.lemmas.List.{get_or_default}
use Rattle.rare_linear.specs.Linears.{LinearExpression}
use Rattle.rare_sort.specs.DeclaredSorts.{AreNamed}
use Rattle.rare_sort.specs.Ids.{tree_at}
use Rattle.rare_sort.specs.Trees.{node, head_of, indices_of, args_of}
use Rattle.rare_sort.specs.declared.head.Head.TheVariants.{True}
use Rattle.rare_sort.specs.declared.tree.Tree.{Tree}
use Rattle.rare_inst.proofs.LiteralTests.{one_fails, node_decides}
use Rattle.rare_inst.proofs.RuleTreeLemmas.{item_at, rule_here, rule_below, nested_below}
use Rattle.rare_inst.proofs.literals.+fits_literals.Goals as goal

pub fits_literals-requires : goal.fits_literals-requires
fits_literals-requires t c =
    let i = item_at c.args.tree.now c.items-arg-items.result.now c.loop-arg.arg-index c.arg-item.result c.items-arg-items.ensures c.loop-arg-test.true c.arg-item.is in
    let less = nested_below c.args.tree.now c.arg-item.result c.loop-arg.arg-index i.0 i.1 in
    let now = c.decreases in
    (omega (arith, less, now), rule_below (length c.args.numbers.now.values) c.args.tree.now c.arg-item.result c.loop-arg.arg-index c.requires i.0 i.1)

pub returns-then-not-branch : goal.returns-then-not-branch
returns-then-not-branch t c a stands is parent =
    let h = Some (head_of c.args.tree.now) in
    one_fails a c.args.k c.args.tree.now c.items-arg-items.result.now c.loop-arg.arg-index c.arg-item.result c.in_ok-fits_literals.field-0 parent c.items-arg-items.ensures c.loop-arg-test.true c.arg-item.is
    (c.loop-arg.invariant a stands is h) (c.in_ok-fits_literals.ensures a stands is h) c.if-not-branch.true

pub fits_literal-requires : goal.fits_literal-requires
fits_literal-requires t c =
    subst (AreNamed (length c.args.numbers.now.values)) (sym c.items.ensures) (rule_here (length c.args.numbers.now.values) c.args.tree.now c.requires).names

pub returns : goal.returns
returns t c a stands is parent =
    let h = Some (head_of c.args.tree.now) in
    subst (λ o. IfOk c.fits_literal.result (λ b. b ≡ o))
    (node_decides a c.args.k c.args.tree.now c.items-arg-items.result.now c.items.result.now c.loop-arg.arg-index parent c.items-arg-items.ensures c.items.ensures c.loop-arg-test.false (c.loop-arg.invariant a stands is h))
    (c.fits_literal.ensures a stands is)
