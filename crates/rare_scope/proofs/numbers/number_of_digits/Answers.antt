use Rattle.std.proofs.Common.{◌≡◌, ap, ◌∙◌, ◌+◌, ◌*◌, arith, length, get_or}
use Rattle.std.proofs.Math.Nat.{mul_comm}
use Rattle.rare_scope.specs.Numbers.{digit_value, digits_from}
use Rattle.rare_scope.proofs.Counting.{digit_step}
use Rattle.rare_scope.proofs.numbers.number_of_digits.Goals as goal

pub loop-digit-preserved : goal.loop-digit-preserved
loop-digit-preserved c =
    let base = c.args.base in
    let text = c.args.digits.now in
    let value : c.from-in-loop-digit.result ≡ digit_value (get_or text c.loop-digit.digit-index 0) = cc in
    let shifted : c.in-Some.shifted ≡ base * c.loop-digit.n = c.in-Some.ensures.1 ∙ ap (λ k. c.loop-digit.n * k) c.from.ensures ∙ mul_comm c.loop-digit.n base in
    let next : c.in-Some-checked_add.next ≡ base * c.loop-digit.n + digit_value (get_or text c.loop-digit.digit-index 0) =
    omega (arith, value, c.in-Some-checked_add.ensures.1, shifted) in
    record {
      same = digit_step base text c.loop-digit.n c.loop-digit.digit-index c.in-Some-checked_add.next (digits_from base 0 text) c.loop-digit-test.true next c.loop-digit.invariant.same;
      small = omega (arith, c.in-Some-checked_add.ensures.0, c.in-Some-checked_add.ensures.1);
    }
