use Rattle.std.specs.Int.{w128}
use Rattle.std.specs.Prelude.{pos}
use Rattle.rare_eval.specs.Limited.{IsLimited}
use Rattle.std.proofs.Common.{rules, to_z, ◌≡◌, [], ◌∷◌, ap, sym, ◌∙◌, subst}
use Rattle.rare_linear.specs.Linears.{number}
use Rattle.rare_sort.specs.declared.head.Head.TheVariants as head
use Rattle.rare_term.specs.Literals.{application}
use Rattle.rare_eval.specs.ValueTerms.{value_term_of}
use Rattle.rare_eval.specs.declared.values.Value.TheVariants as value
use Rattle.rare_eval.proofs.ValueTermLemmas.{made_true, made_false, made_bits, adds_one, if_ok}
use Rattle.rare_eval.proofs.Unrefused.{never_refused}
use Rattle.rare_eval.proofs.value_terms.value_term.Goals as goal

pub returns-in-Truth-true-clause-term : goal.returns-in-Truth-true-clause-term
returns-in-Truth-true-clause-term g c =
    let is = made_true ∙ ap value_term_of (sym (c.in-Truth-true.is ∙ ap value.Truth c.in-Truth-true.field-0-test)) in
    if_ok c.made.result _ _ (λ id h. h ∙ is) c.made.ensures.term

pub returns-in-Truth-true-clause-grows : goal.returns-in-Truth-true-clause-grows
returns-in-Truth-true-clause-grows g c =
    adds_one _ _ _ _ (made_true ∙ ap value_term_of (sym (c.in-Truth-true.is ∙ ap value.Truth c.in-Truth-true.field-0-test))) c.made.ensures.grows

pub returns-in-Truth-false-clause-term : goal.returns-in-Truth-false-clause-term
returns-in-Truth-false-clause-term g c =
    let is = made_false ∙ ap value_term_of (sym (c.in-Truth-false.is ∙ ap value.Truth c.in-Truth-false.field-0-test)) in
    if_ok c.made-in-Truth-false.result _ _ (λ id h. h ∙ is) c.made-in-Truth-false.ensures.term

pub returns-in-Truth-false-clause-grows : goal.returns-in-Truth-false-clause-grows
returns-in-Truth-false-clause-grows g c =
    adds_one _ _ _ _ (made_false ∙ ap value_term_of (sym (c.in-Truth-false.is ∙ ap value.Truth c.in-Truth-false.field-0-test))) c.made-in-Truth-false.ensures.grows

pub returns-in-Bits-clause-term : goal.returns-in-Bits-clause-term
returns-in-Bits-clause-term g c =
    let below = (subst IsLimited c.in-Bits.is c.requires).below in
    let width : to_z w128 c.in-Bits.width ≡ pos c.in-Bits.width = search rules in
    let is = ap (λ x. application (head.Bits c.in-Bits.value) (x ∷ []) []) (c.constant-index.ensures ∙ ap number width) ∙ made_bits c.in-Bits.width c.in-Bits.value below ∙ ap value_term_of (sym c.in-Bits.is) in
    if_ok c.made-in-Bits.result _ _ (λ id h. h ∙ is) c.made-in-Bits.ensures.term

pub returns-in-Bits-clause-grows : goal.returns-in-Bits-clause-grows
returns-in-Bits-clause-grows g c =
    let below = (subst IsLimited c.in-Bits.is c.requires).below in
    let width : to_z w128 c.in-Bits.width ≡ pos c.in-Bits.width = search rules in
    let is = ap (λ x. application (head.Bits c.in-Bits.value) (x ∷ []) []) (c.constant-index.ensures ∙ ap number width) ∙ made_bits c.in-Bits.width c.in-Bits.value below ∙ ap value_term_of (sym c.in-Bits.is) in
    adds_one _ _ _ _ is c.made-in-Bits.ensures.grows

pub returns-in-Truth-true-clause-free : goal.returns-in-Truth-true-clause-free
returns-in-Truth-true-clause-free g c = never_refused c.args.value c.requires

pub returns-in-Truth-false-clause-free : goal.returns-in-Truth-false-clause-free
returns-in-Truth-false-clause-free g c = never_refused c.args.value c.requires

pub returns-in-Whole-clause-free : goal.returns-in-Whole-clause-free
returns-in-Whole-clause-free g c = never_refused c.args.value c.requires

pub returns-in-Bits-clause-free : goal.returns-in-Bits-clause-free
returns-in-Bits-clause-free g c = never_refused c.args.value c.requires
