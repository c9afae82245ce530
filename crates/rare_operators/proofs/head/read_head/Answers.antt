use Rattle.std.proofs.Common.{sym, ap, ◌∙◌, subst}
use Rattle.std.proofs.lemmas.Result.{IfOk-weaker}
use Rattle.rare_sexpr.specs.Tree.{items_of}
use Rattle.rare_sort.specs.DeclaredSorts.{widths}
use Rattle.rare_scope.specs.Answers.{Answers}
use Rattle.rare_scope.specs.Names.{names_of}
use Rattle.rare_scope.specs.Reading.{Read}
use Rattle.rare_scope.proofs.SortSteps.{same_widths, widths_below}
use Rattle.rare_operators.specs.declared.head.IndexedHead.{IndexedHead}
use Rattle.rare_operators.specs.HeadText.{head_by, indexed_head}
use Rattle.rare_operators.proofs.head.read_head.Goals as goal

pub returns-in-List-clause-read : goal.returns-in-List-clause-read
returns-in-List-clause-read g c =
    let s = g.T.Terms.state c.args.terms.now in
    let h = g.E.Expr.tree c.args.head.now in
    let held = c.args.names.now in
    subst (λ (r : Read IndexedHead). Answers c.read_indexed_head.result r)
    (sym (ap (head_by s.declared (names_of s.trees held) (g.E.Expr.tree c.args.e.now) h c.args.arguments) (sym c.kind.ensures ∙ c.in-List.is)
    ∙ ap (λ w. indexed_head w h (items_of h)) (same_widths s.trees held)))
    c.read_indexed_head.ensures.read

pub returns-in-List-clause-indices : goal.returns-in-List-clause-indices
returns-in-List-clause-indices g c =
    let s = g.T.Terms.state c.args.terms.now in
    IfOk-weaker c.read_indexed_head.result _ _ (λ a named. named (widths s.declared) (widths_below s c.args.names.now c.requires)) c.read_indexed_head.ensures.named
