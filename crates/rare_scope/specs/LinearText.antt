-- The linear expression that an expression spells, over names of widths.
use Rattle.std.specs.Prelude.{◌<◌, IfSome, ℕ, ℤ, pos, negsuc, List, [], ◌∷◌, drop, nat_lt, nat_eq, length, codes, Option, Some, None, Bool, true, false, if◌then◌else◌, Result, Ok, IfOk}
use Rattle.rare_base.specs.declared.answers.Reason.TheVariants as reason
use Rattle.rare_sexpr.specs.declared.tree.Kind.{Kind}
use Rattle.rare_sexpr.specs.declared.tree.Kind.TheVariants as kind
use Rattle.rare_sexpr.specs.declared.tree.Sexpr.{Sexpr}
use Rattle.rare_sexpr.specs.Tree.{go_down, kind_of, text_of, items_of}
use Rattle.rare_linear.specs.Linears.{LinearExpression, NamesBelow, linear, number, add, scale}
use Rattle.rare_linear.specs.Entailment.{minus}
use Rattle.rare_linear.specs.EntailmentTest.{is_within}
use Rattle.rare_sort.specs.SortRules.{number_in}
use Rattle.rare_scope.specs.declared.sign.Sign.{Sign}
use Rattle.rare_scope.specs.declared.sign.Sign.TheVariants as sign
use Rattle.rare_scope.specs.Reading.{Read, refused, go_on, is_symbol_kind, is_word}
use Rattle.rare_scope.specs.Entries.{entry}
use Rattle.rare_scope.specs.Names.{Names, Held, found, width_in, width_among}
use Rattle.rare_scope.specs.Numbers.{small_number}

-- which names are widths; where `bvsize` is a word, also the sizes of names
pub record WidthNames : Type 0 where
  pub number : List ℕ → Option ℕ
  pub size : Option (List ℕ → Option LinearExpression)

-- the size of a name; none has one where names have no sizes
abbrev pub size_by : Option (List ℕ → Option LinearExpression) → List ℕ → Option LinearExpression
size_by None text = None
size_by (Some size) text = size text

-- the names of every size are below the bound
abbrev pub SizesBelow : ℕ → Option (List ℕ → Option LinearExpression) → Type 0
SizesBelow n size = (text : List ℕ) → IfSome (size_by size text) (λ l. NamesBelow n l.parts)

-- the numbers of the names are below the bound, and the names of their sizes
pub record AreBelow (n : ℕ) (w : WidthNames) : Type 0 where
  pub numbers : (text : List ℕ) → IfSome (w.number text) (λ k. k < n)
  pub sizes : SizesBelow n w.size

-- the width names of a problem
abbrev pub widths_of : Names → WidthNames
widths_of names = record { number = width_among names; size = None }

-- the same, as a scope holds them
abbrev pub widths_held : Held → WidthNames
widths_held held = record { number = λ text. width_in (found held text); size = None }

abbrev pub Items : Type 0
Items = List (Sexpr × Read LinearExpression)

-- ---- the form of a list

abbrev pub signs : List (List ℕ × Sign)
signs = (codes "+", sign.Plus) ∷ (codes "-", sign.Minus) ∷ (codes "*", sign.Times) ∷ []

abbrev pub sign_at : Sexpr → Option Sign
sign_at e = if is_symbol_kind (kind_of e) then entry signs (text_of e) else None

-- whether a sign has this number of operands behind its first
abbrev pub may_have : Sign → ℕ → Bool
may_have sign.Minus n = true
may_have sign.Plus n = nat_lt 0 n
may_have sign.Times n = nat_eq 1 n

abbrev pub form_by : Sexpr → Sexpr → ℕ → Option Sign → Read Sign
form_by e h n None = refused h reason.BadForm
form_by e h n (Some s) = if may_have s n then Ok s else refused e reason.BadForm

abbrev pub form_of : Sexpr → List Sexpr → Read Sign
form_of e [] = refused e reason.BadForm
form_of e (h ∷ []) = refused e reason.BadForm
form_of e (h ∷ x ∷ ys) = form_by e h (length ys) (sign_at h)

-- the sign of a list that has a form, before its operands are read
abbrev pub linear_form : Sexpr → Read Sign
linear_form e = form_of e (items_of e)

-- ---- operands

abbrev pub numeral : Sexpr → Option ℕ → Read LinearExpression
numeral e (Some n) = Ok (number (pos n))
numeral e None = refused e reason.TermLimit

abbrev pub width_named : Sexpr → Option ℕ → Read LinearExpression
width_named e (Some k) = Ok (linear (pos 0) ((k, pos 1) ∷ []))
width_named e None = refused e reason.UnknownSymbol

-- an expression whose numbers are i128
abbrev pub fitting : Sexpr → LinearExpression → Read LinearExpression
fitting e l = if is_within l then Ok l else refused e reason.TermLimit

abbrev pub times_by : Sexpr → LinearExpression → LinearExpression → Option ℤ → Option ℤ → Read LinearExpression
times_by e l m (Some k) n = fitting e (scale k m)
times_by e l m None (Some n) = fitting e (scale n l)
times_by e l m None None = refused e reason.NonLinear

-- a sum, a difference, or a product of which one factor has no name
abbrev pub joined : Sexpr → Sign → LinearExpression → LinearExpression → Read LinearExpression
joined e sign.Plus l m = fitting e (add l m)
joined e sign.Minus l m = fitting e (minus l m)
joined e sign.Times l m = times_by e l m (number_in l) (number_in m)

-- what was read so far, joined with the operands that are left
abbrev pub folded : Sexpr → Sign → LinearExpression → Items → Read LinearExpression
folded e s l [] = Ok l
folded e s l (x ∷ xs) = go_on x.1 (λ m. go_on (joined e s l m) (λ n. folded e s n xs))

-- one operand alone is negated
abbrev pub from_first : Sexpr → Sign → LinearExpression → Items → Read LinearExpression
from_first e s l [] = fitting e (scale (negsuc 0) l)
from_first e s l (y ∷ ys) = folded e s l (y ∷ ys)

abbrev pub operands : Sexpr → Sign → Items → Read LinearExpression
operands e s [] = refused e reason.BadForm
operands e s (x ∷ ys) = go_on x.1 (λ l. from_first e s l ys)

-- `(bvsize x)`, the size of a name
abbrev pub size_named : Sexpr → Bool → Option LinearExpression → Read LinearExpression
size_named x true (Some l) = Ok l
size_named x true None = refused x reason.UnknownSymbol
size_named x false l = refused x reason.BadForm

abbrev pub size_of : (List ℕ → Option LinearExpression) → Sexpr → List Sexpr → Read LinearExpression
size_of size e (h ∷ x ∷ []) = size_named x (is_symbol_kind (kind_of x)) (size (text_of x))
size_of size e xs = refused e reason.BadForm

abbrev pub begins_size : List Sexpr → Bool
begins_size [] = false
begins_size (h ∷ xs) = is_word (codes "bvsize") h

-- where names have sizes, `bvsize` begins a form of its own
abbrev pub sized : Option (List ℕ → Option LinearExpression) → Sexpr → Read LinearExpression → Read LinearExpression
sized None e other = other
sized (Some size) e other = if begins_size (items_of e) then size_of size e (items_of e) else other

abbrev pub linear_by : WidthNames → Sexpr → Kind → Items → Read LinearExpression
linear_by w e kind.Numeral items = numeral e (small_number (text_of e))
linear_by w e kind.Symbol items = width_named e (w.number (text_of e))
linear_by w e kind.List items = sized w.size e (go_on (linear_form e) (λ s. operands e s (drop 1 items)))
linear_by w e k items = refused e reason.BadForm

-- the linear expression that an expression spells over these width names, or its first fault
abbrev pub linear_at : WidthNames → Sexpr → Read LinearExpression
linear_at w = go_down (Read LinearExpression) (λ e items. linear_by w e (kind_of e) items)

-- the names of what was read are below each bound that those of widths and of sizes are below
abbrev pub AllNamed : {F : Type 0} → WidthNames → Result LinearExpression F → Type 0
AllNamed w result = (n : ℕ) → AreBelow n w → IfOk result (λ l. NamesBelow n l.parts)
