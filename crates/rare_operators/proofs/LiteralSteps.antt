-- The steps of a reading of a literal.
use Rattle.std.proofs.Common.{◌≡◌, ℕ, ◌<◌, ◌≤◌, ◌^◌, List, [], ◌∷◌, true, length, slice_get, Some, Ok, ap, ◌∙◌, arith}
use Rattle.std.specs.Prelude.{nat_lt}
use Rattle.std.proofs.Math.Pow.{pow_mono}
use Rattle.std.proofs.lemmas.Bool.{lt-ltb}
use Rattle.std.proofs.lemmas.List.Elements.{All-nil, All-cons}
use Rattle.std.proofs.lemmas.Option.{none-some, same_Some}
use Rattle.rare_base.specs.declared.answers.Fault.{Fault}
use Rattle.rare_linear.specs.Linears.{LinearExpression, NamesBelow}
use Rattle.rare_sexpr.specs.declared.tree.Sexpr.{Sexpr}
use Rattle.rare_sort.specs.DeclaredSorts.{AreNamed}
use Rattle.rare_sort.specs.declared.declarations.Declarations.{Declarations}
use Rattle.rare_sort.specs.declared.head.Head.TheVariants as head
use Rattle.rare_sort.specs.declared.tree.Tree.{Tree}
use Rattle.rare_scope.specs.Answers.{Fails}
use Rattle.rare_scope.specs.LinearText.{WidthNames, linear_at, widths_of, widths_held}
use Rattle.rare_scope.specs.Names.{Held, names_of}
use Rattle.rare_scope.specs.Reading.{Read, go_on}
use Rattle.rare_scope.proofs.InOrder.{fails_on, goes_on}
use Rattle.rare_scope.proofs.SortSteps.{same_widths}
use Rattle.rare_operators.specs.LiteralText.{linear_literal, literal_at}

-- a value below 2^128 is below each greater power
pub below_wide : (v w : ℕ) → v < 2 ^ 128 → 128 ≤ w → nat_lt v (2 ^ w) ≡ true
below_wide v w small wide = let p = pow_mono wide in lt-ltb v (2 ^ w) (omega (arith, p, small))

pub both_named : (n : ℕ) (a b : LinearExpression) → NamesBelow n a.parts → NamesBelow n b.parts → AreNamed n (a ∷ b ∷ [])
both_named n a b ha hb =
    let P : LinearExpression → Type 0 = λ e. NamesBelow n e.parts in
    All-cons P a (b ∷ []) ha (All-cons P b [] hb (All-nil P))

-- ---- `(bv E E)`

abbrev pub width_next : Declarations → WidthNames → Sexpr → LinearExpression → LinearExpression → Read Tree
width_next d names e a b = literal_at d e head.Literal (a ∷ b ∷ [])

abbrev pub value_next : Declarations → WidthNames → Sexpr → Sexpr → LinearExpression → Read Tree
value_next d names e w a = go_on (linear_at names w) (width_next d names e a)

module _ (d : Declarations) (ts : List Tree) (held : Held) (e v w : Sexpr) (xs : List Sexpr) (three : length xs ≡ 3) (second : slice_get xs 1 ≡ Some v) (third : slice_get xs 2 ≡ Some w) where
  abbrev whole : Read Tree
  whole = linear_literal d (widths_of (names_of ts held)) e xs

  parts_read : (names : WidthNames) → linear_literal d names e xs ≡ go_on (linear_at names v) (value_next d names e w)
  parts_read names = go xs three second third
    where
      go : (ys : List Sexpr) → length ys ≡ 3 → slice_get ys 1 ≡ Some v → slice_get ys 2 ≡ Some w → linear_literal d names e ys ≡ go_on (linear_at names v) (value_next d names e w)
      go [] n s t = absurd (none-some v s)
      go (a ∷ []) n s t = absurd (none-some v s)
      go (a ∷ b ∷ []) n s t = absurd (none-some w t)
      go (a ∷ b ∷ c ∷ []) n s t =
          ap (λ x. go_on (linear_at names x) (value_next d names e c)) (same_Some b v s)
          ∙ ap (λ x. go_on (linear_at names v) (value_next d names e x)) (same_Some c w t)
      go (a ∷ b ∷ c ∷ x ∷ ys) n s t = absurd (omega (arith, n))

  held_read : whole ≡ go_on (linear_at (widths_held held) v) (value_next d (widths_held held) e w)
  held_read = parts_read (widths_of (names_of ts held)) ∙ ap (λ names. go_on (linear_at names v) (value_next d names e w)) (same_widths ts held)

  -- the value has a fault
  pub value_fails : (f : Fault) → Fails f (linear_at (widths_held held) v) → Fails f whole
  value_fails f bad = fails_on f (linear_at (widths_held held) v) (value_next d (widths_held held) e w) whole held_read bad

  -- the width has a fault
  pub width_fails : (f : Fault) (a : LinearExpression) → linear_at (widths_held held) v ≡ Ok a → Fails f (linear_at (widths_held held) w) → Fails f whole
  width_fails f a good bad =
      fails_on f (linear_at (widths_held held) w) (width_next d (widths_held held) e a) whole
      (goes_on (linear_at (widths_held held) v) a (value_next d (widths_held held) e w) whole held_read good) bad

  -- both are read
  pub both_read : (a b : LinearExpression) → linear_at (widths_held held) v ≡ Ok a → linear_at (widths_held held) w ≡ Ok b → whole ≡ literal_at d e head.Literal (a ∷ b ∷ [])
  both_read a b good fine =
      goes_on (linear_at (widths_held held) w) b (width_next d (widths_held held) e a) whole
      (goes_on (linear_at (widths_held held) v) a (value_next d (widths_held held) e w) whole held_read good) fine
