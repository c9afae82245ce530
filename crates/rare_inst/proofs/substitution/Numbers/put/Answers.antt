use Rattle.std.proofs.Common.{◌∙◌, sym, ap, subst, Err, List}
use Rattle.rare_linear.specs.Linears.{LinearExpression, NamesBelow, substitute, value_at}
use Rattle.rare_linear.specs.PartialSums.{PartialSumsFit}
use Rattle.rare_linear.proofs.Names.{NamesBelow-substitute, value_at_below}
use Rattle.rare_inst.specs.inner.Standing.{all_formed}
use Rattle.rare_inst.proofs.Putting.{put_unformed, put_is, put_not}
use Rattle.rare_inst.proofs.substitution.Numbers.put.Goals as goal

pub returns-then-not-are_formed-clause-value : goal.returns-then-not-are_formed-clause-value
returns-then-not-are_formed-clause-value c a stands =
    put_unformed a c.args.self.now stands c.args.e.now c.requires
    (ap (all_formed c.args.self.now.formed) (sym c.parts.ensures.parts) ∙ sym c.are_formed.ensures ∙ c.if-not-are_formed.true)

pub returns-in-Ok-clause-value : goal.returns-in-Ok-clause-value
returns-in-Ok-clause-value c a stands =
    let e = c.args.e.now in
    let formed = ap (all_formed c.args.self.now.formed) (sym c.parts.ensures.parts) ∙ sym c.are_formed.ensures ∙ c.if-not-are_formed.false in
    put_is a c.args.self.now stands e c.requires formed c.in-Ok.sum
    (c.in-Ok.ensures.substituted ∙ ap (λ (vs : List LinearExpression). substitute (value_at vs) e) c.items.ensures)
    (subst (λ (vs : List LinearExpression). PartialSumsFit (value_at vs) e) c.items.ensures c.in-Ok.ensures.within)

pub returns-in-Ok-clause-named : goal.returns-in-Ok-clause-named
returns-in-Ok-clause-named c n named =
    let e = c.args.e.now in
    let is = c.in-Ok.ensures.substituted ∙ ap (λ (vs : List LinearExpression). substitute (value_at vs) e) c.items.ensures in
    subst (λ (s : LinearExpression). NamesBelow n s.parts) (sym is)
    (NamesBelow-substitute n (value_at c.args.self.now.values) e (value_at_below n c.args.self.now.values named))

pub returns-in-Err-TooLarge-clause-value : goal.returns-in-Err-TooLarge-clause-value
returns-in-Err-TooLarge-clause-value c a stands =
    let e = c.args.e.now in
    let formed = ap (all_formed c.args.self.now.formed) (sym c.parts.ensures.parts) ∙ sym c.are_formed.ensures ∙ c.if-not-are_formed.false in
    put_not a c.args.self.now stands e c.requires formed
    (λ fits. c.in-Err-TooLarge.ensures.too_large (ap Err c.in-Err-TooLarge.field-0-is) (subst (λ (vs : List LinearExpression). PartialSumsFit (value_at vs) e) (sym c.items.ensures) fits))
