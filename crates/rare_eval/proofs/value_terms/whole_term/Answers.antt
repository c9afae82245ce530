use Rattle.std.specs.Prelude.{ℤ, unsigned_abs}
use Rattle.std.specs.Int.{w128}
use Rattle.std.proofs.Common.{rules, to_z, of_z, ℕ, ◌≡◌, [], ◌∷◌, ap, ◌∙◌, subst}
use Rattle.rare_sort.specs.Trees.{node}
use Rattle.rare_sort.specs.declared.head.Head.TheVariants as head
use Rattle.rare_term.specs.State.{AddsAtMost}
use Rattle.rare_eval.specs.ValueTerms.{AddsPartsOf}
use Rattle.rare_eval.proofs.ValueTermLemmas.{made_numeral, made_neg, adds_one, adds_two, if_ok, negative_term, numeral_term, negated}
use Rattle.rare_eval.proofs.value_terms.whole_term.Goals as goal

same_abs : (m : ℕ) (y z : ℤ) → m ≡ unsigned_abs y → y ≡ z → m ≡ unsigned_abs z
same_abs m y z e q = e ∙ ap unsigned_abs q

pub returns-then-n-lt0-clause-term : goal.returns-then-n-lt0-clause-term
returns-then-n-lt0-clause-term g c =
    let m = c.unsigned_abs.result in
    let arg = c.in_ok-numeral.ensures.term ∙ made_numeral m in
    let is = made_neg _ ∙ ap (λ t. node head.Neg [] (t ∷ [])) arg ∙ negative_term c.args.n m (search rules) (same_abs c.unsigned_abs.result (to_z w128 (of_z w128 c.args.n)) c.args.n c.unsigned_abs.ensures.value (search rules)) in
    if_ok c.made-then-n-lt0.result _ _ (λ id h. h ∙ is) c.made-then-n-lt0.ensures.term

pub returns-then-n-lt0-clause-grows : goal.returns-then-n-lt0-clause-grows
returns-then-n-lt0-clause-grows g c =
    let m = c.unsigned_abs.result in
    let arg = c.in_ok-numeral.ensures.term ∙ made_numeral m in
    let t = negative_term c.args.n m (search rules) (same_abs c.unsigned_abs.result (to_z w128 (of_z w128 c.args.n)) c.args.n c.unsigned_abs.ensures.value (search rules)) in
    let is = made_neg _ ∙ ap (λ t. node head.Neg [] (t ∷ [])) arg in
    subst (λ x. AddsPartsOf x (g.T.Terms.state c.args.terms.now) (g.T.Terms.state c.made-then-n-lt0.new.terms)) t
    (adds_two (node head.Neg [] (node (head.Numeral m) [] [] ∷ [])) (node (head.Numeral m) [] []) _ (g.T.Terms.state c.args.terms.now) (g.T.Terms.state c.made.new.terms) (g.T.Terms.state c.made-then-n-lt0.new.terms)
    (negated (node (head.Numeral m) [] [])) is
    (subst (λ u. AddsAtMost u (g.T.Terms.state c.args.terms.now) (g.T.Terms.state c.made.new.terms)) (made_numeral m) c.in_ok-numeral.ensures.grows) c.made-then-n-lt0.ensures.grows)

pub returns-else-n-lt0-clause-term : goal.returns-else-n-lt0-clause-term
returns-else-n-lt0-clause-term g c =
    c.in_ok-numeral.ensures.term ∙ made_numeral c.unsigned_abs.result ∙ numeral_term c.args.n c.unsigned_abs.result (search rules) (same_abs c.unsigned_abs.result (to_z w128 (of_z w128 c.args.n)) c.args.n c.unsigned_abs.ensures.value (search rules))

pub returns-else-n-lt0-clause-grows : goal.returns-else-n-lt0-clause-grows
returns-else-n-lt0-clause-grows g c =
    adds_one _ _ _ _ (made_numeral c.unsigned_abs.result ∙ numeral_term c.args.n c.unsigned_abs.result (search rules) (same_abs c.unsigned_abs.result (to_z w128 (of_z w128 c.args.n)) c.args.n c.unsigned_abs.ensures.value (search rules))) c.in_ok-numeral.ensures.grows
