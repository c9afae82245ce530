-- The digits of literals, read.
use Rattle.std.proofs.Common.{◌≡◌, ℕ, ◌<◌, ◌≤◌, ◌^◌, Bool, true, false, ◌&&◌, ◌||◌, List, [], ◌∷◌, ◌++◌, take, drop, bytes_eq, Ok, refl, ap, ◌∙◌, arith, if◌then◌else◌}
use Rattle.std.specs.Prelude.{codes}
use Rattle.std.specs.List.{list_all}
use Rattle.std.specs.Fmt.{decimal}
use Rattle.rare_base.specs.declared.answers.Reason.TheVariants.{BadForm}
use Rattle.rare_sexpr.specs.Bytes.{is_digit, is_symbol_byte, is_in_range, is_sign, is_mark}
use Rattle.rare_sexpr.specs.Grammar.{Are}
use Rattle.rare_sexpr.specs.Written.{is_simple}
use Rattle.rare_sexpr.specs.declared.tree.AtomKind.TheVariants as atom
use Rattle.rare_sexpr.specs.declared.tree.Sexpr.{Sexpr}
use Rattle.rare_sexpr.specs.Tree.{text_of}
use Rattle.rare_scope.specs.Numbers.{LARGEST_SMALL, LARGEST_WIDE, small_number}
use Rattle.rare_scope.specs.Reading.{is_symbol_kind, is_numeral_kind, refused}
use Rattle.rare_operators.specs.LiteralText.{are_digits, digits_behind, width_numeral, numeral_at}
use Rattle.rare_reread.proofs.Atoms.{IsAtom, kind_is, text_is, decimal_digits, decimal_small}

-- ---- words that end in digits

or_third : (a b c d e : Bool) → c ≡ true → (a || b || c || d || e) ≡ true
or_third true b c d e is = refl
or_third false true c d e is = refl
or_third false false c d e is = ap (λ t. (false || false || t || d || e)) is

digit_in_symbol : (b : ℕ) → is_digit b ≡ true → is_symbol_byte b ≡ true
digit_in_symbol b is = or_third (is_in_range 97 122 b) (is_in_range 65 90 b) (is_digit b) (is_sign b) (is_mark b) is

digits_in_symbol : (ds : List ℕ) → list_all is_digit ds ≡ true → list_all is_symbol_byte ds ≡ true
digits_in_symbol [] all = refl
digits_in_symbol (b ∷ bs) all = go (is_digit b) refl all (λ rest. digits_in_symbol bs rest)
  where
    go : (t : Bool) → is_digit b ≡ t → (t && list_all is_digit bs) ≡ true → (list_all is_digit bs ≡ true → list_all is_symbol_byte bs ≡ true) → (is_symbol_byte b && list_all is_symbol_byte bs) ≡ true
    go true is rest ih = ap (λ t. t && list_all is_symbol_byte bs) (digit_in_symbol b is) ∙ ih rest
    go false is rest ih = absurd cc

pub decimal_in_symbol : (n : ℕ) → n < 10 ^ 64 → list_all is_symbol_byte (decimal n) ≡ true
decimal_in_symbol n lt = digits_in_symbol (decimal n) (let a = decimal_digits n lt in a.each)

pub bv_simple : (n : ℕ) → n < 10 ^ 64 → is_simple (codes "bv" ++ decimal n) ≡ true
bv_simple n lt = decimal_in_symbol n lt

-- ---- literals

are_number : (ds : List ℕ) → Are is_digit ds → are_digits ds ≡ true
are_number [] a = absurd (let lt = a.some in omega arith)
are_number (b ∷ bs) a = a.each

pub digits_read : (x : Sexpr) (v : ℕ) → v ≤ LARGEST_WIDE → IsAtom atom.Symbol (codes "bv" ++ decimal v) x → digits_behind x ≡ Ok (decimal v)
digits_read x v le a =
    let text : List ℕ = codes "bv" ++ decimal v in
    let digits : are_digits (decimal v) ≡ true = are_number (decimal v) (decimal_digits v (omega arith)) in
    ap (λ k. if is_symbol_kind k && (bytes_eq (take 2 (text_of x)) (codes "bv") && are_digits (drop 2 (text_of x))) then Ok (drop 2 (text_of x)) else refused x BadForm) (kind_is atom.Symbol text x a)
    ∙ ap (λ (t : List ℕ). if bytes_eq (take 2 t) (codes "bv") && are_digits (drop 2 t) then Ok (drop 2 t) else refused x BadForm) (text_is atom.Symbol text x a)
    ∙ ap (λ b. if b then Ok (decimal v) else refused x BadForm) digits

pub width_read : (x : Sexpr) (k : ℕ) → k ≤ LARGEST_SMALL → IsAtom atom.Numeral (decimal k) x → numeral_at x ≡ Ok k
width_read x k le a =
    ap (λ q. if is_numeral_kind q then width_numeral x (small_number (text_of x)) else refused x BadForm) (kind_is atom.Numeral (decimal k) x a)
    ∙ ap (λ t. width_numeral x (small_number t)) (text_is atom.Numeral (decimal k) x a) ∙ ap (width_numeral x) (decimal_small k le)
