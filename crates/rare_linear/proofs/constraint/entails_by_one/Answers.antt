use Rattle.std.proofs.Common.{arith, Bool, true, false, ◌≡◌, refl, inl, inr, subst, sym}
use Rattle.rare_linear.specs.Entailment.{IsPlainlyMet, low_of, minus}
use Rattle.rare_linear.proofs.Entailing.{minus-number}
use Rattle.rare_linear.proofs.constraint.entails_by_one.Goals as goal

no_more : (b : Bool) → b ≡ true → b ≡ false → ⊥
no_more b left right = cc

pub returns-then-is_above : goal.returns-then-is_above
returns-then-is_above c =
    let plain = c.is_above.ensures.met.0 c.if-is_above.true in (
      (λ _. record { within = c.is_above.ensures.within; met = inl (subst (IsPlainlyMet (low_of c.args.lows.now)) (minus-number c.args.want.now c.is_above.ensures.want_normal) plain) }),
      (λ _. refl),
    )

pub returns : goal.returns
returns c = (
  (λ never. cc),
  (λ entailed.
      elim entailed.met [
        | inl plain ↦
            let met = c.is_above.ensures.met.1 (subst (IsPlainlyMet (low_of c.args.lows.now)) (sym (minus-number c.args.want.now c.is_above.ensures.want_normal)) plain) in
            absurd (no_more c.is_above.result met c.if-is_above.false)
        | inr one ↦
            let k = one.1.0 in
            let d = one.1.1 in
            absurd (c.loop-constraint.invariant k d (omega (arith, one.1.2)) (subst (λ e. IsPlainlyMet (low_of c.args.lows.now) (minus c.args.want.now e.floor)) (sym one.1.3) one.1.4))
      ]),
)
