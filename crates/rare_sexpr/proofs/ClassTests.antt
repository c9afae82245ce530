-- Which bytes a class has.
use Rattle.std.proofs.Common.{◌≡◌, ℕ, Bool, true, false, ◌||◌, nat_eq, refl, if◌then◌else◌}
use Rattle.std.proofs.lemmas.Bool.{eqb-true}
use Rattle.rare_sexpr.specs.declared.bytes.Class.{Class}
use Rattle.rare_sexpr.specs.declared.bytes.Class.TheVariants.{Blank, LineFeed, Open, Close, Semicolon, Colon, Hash, Digit, Letter, Quote, Bar, Other}
use Rattle.rare_sexpr.specs.Bytes.{is_blank, is_symbol_byte, is_digit, is_in_range, is_mark, is_sign}
use Rattle.rare_sexpr.specs.inner.Classes.{class}

-- neither a blank, nor a parenthesis, nor `;`, `:`, `#`, a quote, a bar or a symbol byte
pub record IsOther (b : ℕ) : Type 0 where
  pub blank : (nat_eq b 32 || nat_eq b 9 || nat_eq b 13) ≡ false
  pub feed : nat_eq b 10 ≡ false
  pub «open» : nat_eq b 40 ≡ false
  pub close : nat_eq b 41 ≡ false
  pub semicolon : nat_eq b 59 ≡ false
  pub colon : nat_eq b 58 ≡ false
  pub hash : nat_eq b 35 ≡ false
  pub digit : is_digit b ≡ false
  pub letter : (is_in_range 97 122 b || is_in_range 65 90 b) ≡ false
  pub mark : is_mark b ≡ false
  pub sign : is_sign b ≡ false
  pub quote : nat_eq b 34 ≡ false
  pub bar : nat_eq b 124 ≡ false

abbrev pub IsOf : Class → ℕ → Type 0
IsOf Blank b = is_blank b ≡ true
IsOf LineFeed b = is_blank b ≡ true
IsOf Open b = b ≡ 40
IsOf Close b = b ≡ 41
IsOf Semicolon b = b ≡ 59
IsOf Colon b = b ≡ 58
IsOf Hash b = b ≡ 35
IsOf Quote b = b ≡ 34
IsOf Bar b = b ≡ 124
IsOf Digit b = is_digit b ≡ true
IsOf Letter b = (is_symbol_byte b ≡ true) × (is_digit b ≡ false)
IsOf Other b = IsOther b

choice : (t : Bool) (x y : Class) (P : Class → Type 0) → (t ≡ true → P x) → (t ≡ false → P y) → P (if t then x else y)
choice true x y P f g = f refl
choice false x y P f g = g refl

symbol_letter : (x y d s m : Bool) → (x || y) ≡ true → (x || y || d || s || m) ≡ true
symbol_letter true y d s m e = refl
symbol_letter false true d s m e = refl
symbol_letter false false d s m e = cc

symbol_mark : (x d s m : Bool) → m ≡ true → (x || d || s || m) ≡ true
symbol_mark true d s m e = refl
symbol_mark false true s m e = refl
symbol_mark false false true m e = refl
symbol_mark false false false m e = e

symbol_sign : (x d s m : Bool) → s ≡ true → (x || d || s || m) ≡ true
symbol_sign true d s m e = refl
symbol_sign false true s m e = refl
symbol_sign false false true m e = refl
symbol_sign false false false m e = cc

blank_byte : (x y z f : Bool) → (x || y || z) ≡ true → (x || y || f || z) ≡ true
blank_byte true y z f e = refl
blank_byte false true z f e = refl
blank_byte false false true true e = refl
blank_byte false false true false e = refl
blank_byte false false false f e = cc

blank_feed : (x y z f : Bool) → f ≡ true → (x || y || f || z) ≡ true
blank_feed true y z f e = refl
blank_feed false true z f e = refl
blank_feed false false z true e = refl
blank_feed false false z false e = cc

pub class_tests : (b : ℕ) → IsOf (class b) b
class_tests b =
    let P : Class → Type 0 = λ k. IsOf k b in
    choice (nat_eq b 32 || nat_eq b 9 || nat_eq b 13) Blank _ P (λ e. blank_byte (nat_eq b 32) (nat_eq b 9) (nat_eq b 13) (nat_eq b 10) e) (λ blank.
    choice (nat_eq b 10) LineFeed _ P (λ e. blank_feed (nat_eq b 32) (nat_eq b 9) (nat_eq b 13) (nat_eq b 10) e) (λ feed.
    choice (nat_eq b 40) Open _ P (λ e. eqb-true b 40 e) (λ «open».
    choice (nat_eq b 41) Close _ P (λ e. eqb-true b 41 e) (λ close.
    choice (nat_eq b 59) Semicolon _ P (λ e. eqb-true b 59 e) (λ semicolon.
    choice (nat_eq b 58) Colon _ P (λ e. eqb-true b 58 e) (λ colon.
    choice (nat_eq b 35) Hash _ P (λ e. eqb-true b 35 e) (λ hash.
    choice (is_digit b) Digit _ P (λ e. e) (λ digit.
    choice (is_in_range 97 122 b || is_in_range 65 90 b) Letter _ P (λ e. (symbol_letter (is_in_range 97 122 b) (is_in_range 65 90 b) (is_digit b) (is_sign b) (is_mark b) e, digit)) (λ letter.
    choice (is_mark b) Letter _ P (λ e. (symbol_mark (is_in_range 97 122 b || is_in_range 65 90 b) (is_digit b) (is_sign b) (is_mark b) e, digit)) (λ mark.
    choice (is_sign b) Letter _ P (λ e. (symbol_sign (is_in_range 97 122 b || is_in_range 65 90 b) (is_digit b) (is_sign b) (is_mark b) e, digit)) (λ sign.
    choice (nat_eq b 34) Quote _ P (λ e. eqb-true b 34 e) (λ quote.
    choice (nat_eq b 124) Bar Other P (λ e. eqb-true b 124 e) (λ bar.
    record { blank = blank; feed = feed; «open» = «open»; close = close; semicolon = semicolon; colon = colon; hash = hash; digit = digit; letter = letter; mark = mark; sign = sign; quote = quote; bar = bar })))))))))))))
