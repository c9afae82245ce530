-- Digits.
use Rattle.std.proofs.Common.{◌≡◌, ℕ, ◌+◌, ◌*◌, ◌-◌, ◌^◌, ◌<◌, ◌≤◌, Bool, true, false, List, [], ◌∷◌, drop, refl, ap, sym, ◌∙◌, arith, None, get_or, length, drop-cons}
use Rattle.std.specs.Prelude.{nat_le}
use Rattle.std.proofs.Math.Nat.{mul-le-mul_left}
use Rattle.rare_scope.specs.Numbers.{LARGEST_WIDE, digit_value, digits_from, up_to, wide_number}

times_more : (base n : ℕ) → 1 ≤ base → n ≤ base * n
times_more base n le = grind (arith, mul-le-mul_left n le)

digits_rise : (base n : ℕ) (bs : List ℕ) → 1 ≤ base → n ≤ digits_from base n bs
digits_rise base n [] le = omega arith
digits_rise base n (b ∷ bs) le = omega (arith, times_more base n le, digits_rise base (base * n + digit_value b) bs le)

not_up_to : (largest n : ℕ) → largest < n → up_to largest n ≡ None
not_up_to largest n lt = let f : nat_le n largest ≡ false = grind arith in rw f refl

-- digits whose first ones already pass 2^128 - 1
wide : (base : ℕ) (text : List ℕ) (n b : ℕ) (bs rest : List ℕ) → 1 ≤ base → rest ≡ b ∷ bs → digits_from base n rest ≡ digits_from base 0 text → LARGEST_WIDE < base * n + digit_value b →
    None ≡ wide_number base text
wide base text n b bs rest least is same le =
    let more = digits_rise base (base * n + digit_value b) bs least in
    let whole : digits_from base (base * n + digit_value b) bs ≡ digits_from base 0 text = ap (digits_from base n) (sym is) ∙ same in
    sym (not_up_to LARGEST_WIDE (digits_from base 0 text) (omega (arith, more, whole, le)))

pub too_wide : (base : ℕ) (text : List ℕ) (n i : ℕ) → 2 ≤ base → i < length text → digits_from base n (drop i text) ≡ digits_from base 0 text → LARGEST_WIDE < base * n + digit_value (get_or text i 0) →
    None ≡ wide_number base text
too_wide base text n i least lt same le = wide base text n (get_or text i 0) (drop (i + 1) text) (drop i text) (omega arith) (grind (arith, drop-cons)) same le

-- one digit more
pub digit_step : (base : ℕ) (text : List ℕ) (n i next whole : ℕ) → i < length text → next ≡ base * n + digit_value (get_or text i 0) → digits_from base n (drop i text) ≡ whole → digits_from base next (drop (i + 1) text) ≡ whole
digit_step base text n i next whole lt is same = rw is (sym (split (drop i text) (grind (arith, drop-cons))) ∙ same)
  where
    split : (rest : List ℕ) → rest ≡ get_or text i 0 ∷ drop (i + 1) text → digits_from base n rest ≡ digits_from base (base * n + digit_value (get_or text i 0)) (drop (i + 1) text)
    split rest e = ap (digits_from base n) e
