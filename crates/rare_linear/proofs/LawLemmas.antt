-- Proofs of the laws of linear expressions.
use Rattle.std.proofs.Common.{◌≡◌, ℕ, ◌<◌, ◌↔◌, List, [], ◌∷◌, length, get_or, All, refl, sym, ap, ◌∙◌, subst, arith, inl, inr}
use Rattle.std.specs.Prelude.{pos, negsuc, ◌+ℤ◌, ◌*ℤ◌, ◌≤ℤ◌}
use Rattle.std.proofs.lemmas.List.{length-append, get_or_append_left}
use Rattle.rare_linear.specs.Linears.{Part, LinearExpression, NamesBelow, parts_value, linear_value, scale}
use Rattle.rare_linear.specs.Entailment.{low_of, minus, IsPlainlyMet, IsEntailed}
use Rattle.rare_linear.specs.LinearLaws.{MoreEntailsMore, OnesEntailAlike}
use Rattle.rare_linear.specs.declared.constraint.Constraint.{Constraint}
use Rattle.rare_linear.proofs.Names.{NamesBelow-add, NamesBelow-scale}

pub entailed_more : MoreEntailsMore
entailed_more lows have more e h =
    record {
      within = h.within;
      met = elim h.met [
        | inl plain ↦ inl plain
        | inr one ↦ inr (one.0, (one.1.0, one.1.1, omega (arith, length-append have more, one.1.2), get_or_append_left have more one.1.1 one.1.0 one.1.2 ∙ one.1.3, one.1.4))
      ];
    }

module _ (lows : List ℕ) (ones : All (λ n. n ≡ 1) lows) where
  low_one : (k : ℕ) → k < length lows → low_of lows k ≡ pos 1
  low_one k less = ap pos (ones k 0 less)

  value_alike : (ps : List Part) → NamesBelow (length lows) ps → parts_value (low_of lows) ps ≡ parts_value (λ k. pos 1) ps
  value_alike [] named = refl
  value_alike (p ∷ ps) named = λ i. (p.1 *ℤ low_one p.0 named.0 i) +ℤ value_alike ps named.1 i

  met_alike : (e : LinearExpression) → NamesBelow (length lows) e.parts → IsPlainlyMet (low_of lows) e ↔ IsPlainlyMet (λ k. pos 1) e
  met_alike e named =
      let same : linear_value (low_of lows) e ≡ linear_value (λ k. pos 1) e = ap (λ z. e.constant +ℤ z) (value_alike e.parts named) in (
        (λ h. record { coefficients = h.coefficients; least = subst (λ z. pos 0 ≤ℤ z) same h.least }),
        (λ h. record { coefficients = h.coefficients; least = subst (λ z. pos 0 ≤ℤ z) (sym same) h.least }),
      )

  difference_named : (e : LinearExpression) (c : Constraint) → NamesBelow (length lows) e.parts → NamesBelow (length lows) c.floor.parts →
      NamesBelow (length lows) (minus e c.floor).parts
  difference_named e c he hc =
      NamesBelow-add (length lows) e (scale (negsuc 0) c.floor) he (NamesBelow-scale (length lows) (negsuc 0) c.floor hc)

  pub entailed_alike : (have : List Constraint) (e : LinearExpression) → All (λ c. NamesBelow (length lows) c.floor.parts) have →
      NamesBelow (length lows) e.parts → IsEntailed (low_of lows) have e ↔ IsEntailed (λ k. pos 1) have e
  entailed_alike have e hc he =
      let named = λ (k : ℕ) (c : Constraint) (less : k < length have) (is : get_or have k c ≡ c).
      difference_named e c he (subst (λ (x : Constraint). NamesBelow (length lows) x.floor.parts) is (hc k c less)) in (
        (λ h.
            record {
              within = h.within;
              met = elim h.met [
                | inl plain ↦ inl ((met_alike e he).0 plain)
                | inr one ↦ inr (one.0, (one.1.0, one.1.1, one.1.2, one.1.3, (met_alike (minus e one.1.1.floor) (named one.1.0 one.1.1 one.1.2 one.1.3)).0 one.1.4))
              ];
            }),
        (λ h.
            record {
              within = h.within;
              met = elim h.met [
                | inl plain ↦ inl ((met_alike e he).1 plain)
                | inr one ↦ inr (one.0, (one.1.0, one.1.1, one.1.2, one.1.3, (met_alike (minus e one.1.1.floor) (named one.1.0 one.1.1 one.1.2 one.1.3)).1 one.1.4))
              ];
            }),
      )

pub ones_alike : OnesEntailAlike
ones_alike lows have e ones hc he = entailed_alike lows ones have e hc he
