-- Pairs of quotes.
use Rattle.std.proofs.Common.{◌≡◌, ℕ, zero, suc, ◌+◌, ◌<◌, ◌≤◌, Bool, true, false, not, List, [], ◌∷◌, ◌++◌, length, drop, get_or, nat_eq, refl, ap, sym, ◌∙◌, arith, append_assoc, if◌then◌else◌}
use Rattle.std.proofs.lemmas.List.{drop_more, drop_all}
use Rattle.std.proofs.lemmas.Bool.Decides.{nat_tests}
use Rattle.rare_sexpr.specs.inner.Scan.{IsRun, is_inside}
use Rattle.rare_sexpr.specs.inner.Words.{single}

is_not : (t : Bool) → not t ≡ true → t ≡ false
is_not true e = cc
is_not false e = refl

-- a byte that is no quote
pub single_byte : (b : ℕ) (bs : List ℕ) → nat_eq b 34 ≡ false → single (b ∷ bs) ≡ b ∷ single bs
single_byte b [] is = refl
single_byte b (d ∷ bs) is = ap (λ t. if t then b ∷ single bs else b ∷ single (d ∷ bs)) is

-- two quotes
single_pair : (b d : ℕ) (bs : List ℕ) → nat_eq b 34 ≡ true → single (b ∷ d ∷ bs) ≡ b ∷ single bs
single_pair b d bs is = ap (λ t. if t then b ∷ single bs else b ∷ single (d ∷ bs)) is

-- the last byte
single_last : (b : ℕ) (bs : List ℕ) → bs ≡ [] → single (b ∷ bs) ≡ b ∷ single bs
single_last b [] is = refl
single_last b (d ∷ bs) is = cc

no_quotes : (n : ℕ) (xs : List ℕ) (at : ℕ) → at + n ≡ length xs → ((i : ℕ) → at ≤ i → i < length xs → is_inside (get_or xs i 0) ≡ true) → single (drop at xs) ≡ drop at xs
no_quotes zero xs at e each = ap single (drop_all at xs (omega (arith, e))) ∙ sym (drop_all at xs (omega (arith, e)))
no_quotes (suc n) xs at e each =
    let lt : at < length xs = omega (arith, e) in
    let b = get_or xs at 0 in
    ap single (drop_more xs at 0 lt) ∙ single_byte b (drop (at + 1) xs) (is_not (nat_eq b 34) (each at (omega arith) lt))
    ∙ ap (λ l. b ∷ l) (no_quotes n xs (at + 1) (omega (arith, e)) (λ i le lt'. each i (omega (arith, le)) lt'))
    ∙ sym (drop_more xs at 0 lt)

-- a string without quotes inside
pub single_none : (xs : List ℕ) (end : ℕ) → IsRun is_inside xs 0 end → end ≡ length xs → single xs ≡ xs
single_none xs end run e = let l : 0 + length xs ≡ length xs = omega arith in no_quotes (length xs) xs 0 l (λ i le lt. run.each i le (omega (arith, lt, e)))

-- one turn of the loop
pub turn_byte : (text xs : List ℕ) (at : ℕ) (now : List ℕ) → at < length xs → nat_eq (get_or xs at 0) 34 ≡ false → now ≡ text ++ get_or xs at 0 ∷ [] → text ++ single (drop at xs) ≡ single xs → now ++ single (drop (at + 1) xs) ≡ single xs
turn_byte text xs at now lt plain e h =
    let b = get_or xs at 0 in
    ap (λ l. l ++ single (drop (at + 1) xs)) e ∙ append_assoc text (b ∷ []) (single (drop (at + 1) xs))
    ∙ ap (λ l. text ++ l) (sym (single_byte b (drop (at + 1) xs) plain) ∙ ap single (sym (drop_more xs at 0 lt))) ∙ h

pub turn_last : (text xs : List ℕ) (at : ℕ) (now : List ℕ) → at < length xs → length xs ≤ at + 1 → now ≡ text ++ get_or xs at 0 ∷ [] → text ++ single (drop at xs) ≡ single xs → now ++ single (drop (at + 1) xs) ≡ single xs
turn_last text xs at now lt end e h =
    let b = get_or xs at 0 in
    ap (λ l. l ++ single (drop (at + 1) xs)) e ∙ append_assoc text (b ∷ []) (single (drop (at + 1) xs))
    ∙ ap (λ l. text ++ l) (sym (single_last b (drop (at + 1) xs) (drop_all (at + 1) xs end)) ∙ ap single (sym (drop_more xs at 0 lt))) ∙ h

pub turn_pair : (text xs : List ℕ) (at : ℕ) (now : List ℕ) → at + 1 < length xs → nat_eq (get_or xs at 0) 34 ≡ true → now ≡ text ++ get_or xs at 0 ∷ [] → text ++ single (drop at xs) ≡ single xs → now ++ single (drop (at + 2) xs) ≡ single xs
turn_pair text xs at now lt is e h =
    let b = get_or xs at 0 in
    let two : at + 1 + 1 ≡ at + 2 = omega arith in
    ap (λ l. l ++ single (drop (at + 2) xs)) e ∙ append_assoc text (b ∷ []) (single (drop (at + 2) xs))
    ∙ ap (λ l. text ++ l) (ap (λ k. b ∷ single (drop k xs)) (sym two) ∙ sym (single_pair b (get_or xs (at + 1) 0) (drop (at + 1 + 1) xs) is) ∙ ap (λ l. single (b ∷ l)) (sym (drop_more xs (at + 1) 0 lt)) ∙ ap single (sym (drop_more xs at 0 (omega arith))))
    ∙ h

pub is_no_quote : (b : ℕ) → (b ≡ 34 → ⊥) → nat_eq b 34 ≡ false
is_no_quote b other = grind (arith, nat_tests)
