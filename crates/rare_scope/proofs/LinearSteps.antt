-- The steps of a reading of a linear expression.
use Rattle.std.proofs.Common.{◌≡◌, ℕ, ◌+◌, ◌<◌, ◌≤◌, List, [], ◌∷◌, map, drop, length, slice_get, Option, Some, None, refl, ap, sym, ◌∙◌, arith, Bool, true, false, Ok, if◌then◌else◌}
use Rattle.std.specs.Prelude.{◌&&◌, codes, is_some}
use Rattle.std.proofs.lemmas.Option.{none-some, same_Some}
use Rattle.rare_base.specs.declared.answers.Reason.TheVariants as reason
use Rattle.rare_sexpr.specs.declared.tree.Sexpr.{Sexpr}
use Rattle.rare_sexpr.specs.declared.tree.Kind.{Kind}
use Rattle.rare_sexpr.specs.declared.tree.Kind.TheVariants as kind
use Rattle.rare_sexpr.specs.Tree.{items_of, text_of, kind_of}
use Rattle.rare_sexpr.proofs.Trees.{go_out}
use Rattle.rare_linear.specs.Linears.{LinearExpression}
use Rattle.rare_scope.specs.declared.sign.Sign.{Sign}
use Rattle.rare_scope.specs.Reading.{Read, refused, go_on, is_list_kind, is_symbol_kind, is_word}
use Rattle.rare_scope.specs.LinearText.{WidthNames, Items, begins_size, size_by, size_named, size_of, sized, linear_at, linear_by, linear_form, form_by, form_of, sign_at, operands, from_first, folded, joined}
use Rattle.rare_scope.proofs.InOrder.{goes_on}
use Rattle.rare_scope.proofs.Listing.{drop_at, drop_all}

few : (e : Sexpr) (xs : List Sexpr) → length xs < 2 → form_of e xs ≡ refused e reason.BadForm
few e [] lt = refl
few e (x ∷ []) lt = refl
few e (x ∷ y ∷ xs) lt = absurd (omega (arith, lt))

pub form_few : (e : Sexpr) → length (items_of e) < 2 → linear_form e ≡ refused e reason.BadForm
form_few e lt = few e (items_of e) lt

more : (e : Sexpr) (xs : List Sexpr) (h : Sexpr) (n : ℕ) → n + 2 ≡ length xs → slice_get xs 0 ≡ Some h → form_of e xs ≡ form_by e h n (sign_at h)
more e [] h n count is = absurd (none-some h is)
more e (x ∷ []) h n count is = absurd (omega (arith, count))
more e (x ∷ y ∷ xs) h n count is = let m : length xs ≡ n = omega (arith, count) in ap (λ z. form_by e z (length xs) (sign_at z)) (same_Some x h is) ∙ ap (λ k. form_by e h k (sign_at h)) m

pub form_more : (e h : Sexpr) (n : ℕ) → n + 2 ≡ length (items_of e) → slice_get (items_of e) 0 ≡ Some h → linear_form e ≡ form_by e h n (sign_at h)
form_more e h n count is = more e (items_of e) h n count is

-- ---- the size of a name

pub begins_none : (xs : List Sexpr) → length xs ≡ 0 → begins_size xs ≡ false
begins_none [] none = refl
begins_none (x ∷ xs) none = absurd (omega (arith, none))

pub begins_at : (xs : List Sexpr) (h : Sexpr) → slice_get xs 0 ≡ Some h → begins_size xs ≡ is_word (codes "bvsize") h
begins_at [] h is = absurd (none-some h is)
begins_at (x ∷ xs) h is = ap (is_word (codes "bvsize")) (same_Some x h is)

pub size_other : (size : List ℕ → Option LinearExpression) (e : Sexpr) (xs : List Sexpr) → ¬ (length xs ≡ 2) → size_of size e xs ≡ refused e reason.BadForm
size_other size e [] ne = refl
size_other size e (h ∷ []) ne = refl
size_other size e (h ∷ x ∷ []) ne = absurd (ne refl)
size_other size e (h ∷ x ∷ y ∷ xs) ne = refl

pub size_two : (size : List ℕ → Option LinearExpression) (e x : Sexpr) (xs : List Sexpr) → length xs ≡ 2 → slice_get xs 1 ≡ Some x → size_of size e xs ≡ size_named x (is_symbol_kind (kind_of x)) (size (text_of x))
size_two size e x [] two is = absurd (omega (arith, two))
size_two size e x (h ∷ []) two is = absurd (omega (arith, two))
size_two size e x (h ∷ y ∷ []) two is = ap (λ z. size_named z (is_symbol_kind (kind_of z)) (size (text_of z))) (same_Some y x is)
size_two size e x (h ∷ y ∷ z ∷ xs) two is = absurd (omega (arith, two))

read_as_size : (size : Option (List ℕ → Option LinearExpression)) (e : Sexpr) (other : Read LinearExpression) → (is_some size && begins_size (items_of e)) ≡ true → sized size e other ≡ size_of (size_by size) e (items_of e)
read_as_size None e other is = absurd cc
read_as_size (Some size) e other is = ap (λ b. if b then size_of size e (items_of e) else other) is

read_as_form : (size : Option (List ℕ → Option LinearExpression)) (e : Sexpr) (other : Read LinearExpression) → (is_some size && begins_size (items_of e)) ≡ false → sized size e other ≡ other
read_as_form None e other plain = refl
read_as_form (Some size) e other plain = ap (λ b. if b then size_of size e (items_of e) else other) plain

-- ---- the reading by the parts of an expression

module _ (widths : WidthNames) where
  abbrev pub pair : Sexpr → Sexpr × Read LinearExpression
  pair x = (x, linear_at widths x)

  linear_out : (e : Sexpr) → linear_at widths e ≡ linear_by widths e (kind_of e) (map pair (items_of e))
  linear_out e = go_out (Read LinearExpression) (λ e items. linear_by widths e (kind_of e) items) e

  atom : (e : Sexpr) (k : Kind) (items : Items) → is_list_kind k ≡ false → linear_by widths e k items ≡ linear_by widths e k []
  atom e kind.List items other = absurd cc
  atom e k items other = refl

  pub atom_read : (e : Sexpr) → is_list_kind (kind_of e) ≡ false → linear_at widths e ≡ linear_by widths e (kind_of e) []
  atom_read e other = linear_out e ∙ atom e (kind_of e) (map pair (items_of e)) other

  abbrev by_form : Sexpr → List Sexpr → Read LinearExpression
  by_form e xs = go_on (linear_form e) (λ s. operands e s (map pair (drop 1 xs)))

  listed : (e : Sexpr) (k : Kind) (items : List Sexpr) → is_list_kind k ≡ true → linear_by widths e k (map pair items) ≡ sized widths.size e (by_form e items)
  listed e kind.List [] is_list = refl
  listed e kind.List (x ∷ items) is_list = refl
  listed e k items is_list = absurd cc

  -- whether a list is read as the size of a name
  abbrev pub is_size : Sexpr → Bool
  is_size e = is_some widths.size && begins_size (items_of e)

  pub size_read : (e : Sexpr) → is_size e ≡ true → is_list_kind (kind_of e) ≡ true → linear_at widths e ≡ size_of (size_by widths.size) e (items_of e)
  size_read e is is_list = linear_out e ∙ listed e (kind_of e) (items_of e) is_list ∙ read_as_size widths.size e (by_form e (items_of e)) is

  -- a list is read by its form, and then from its first operand on
  pub list_read : (e : Sexpr) → is_size e ≡ false → is_list_kind (kind_of e) ≡ true → linear_at widths e ≡ go_on (linear_form e) (λ s. operands e s (map pair (drop 1 (items_of e))))
  list_read e plain is_list = linear_out e ∙ listed e (kind_of e) (items_of e) is_list ∙ read_as_form widths.size e (by_form e (items_of e)) plain

  pub first_read : (e x : Sexpr) (s : Sign) → is_size e ≡ false → is_list_kind (kind_of e) ≡ true → linear_form e ≡ Ok s → slice_get (items_of e) 1 ≡ Some x →
      linear_at widths e ≡ go_on (linear_at widths x) (λ l. from_first e s l (map pair (drop 2 (items_of e))))
  first_read e x s plain is_list form is =
      goes_on (linear_form e) s (λ s. operands e s (map pair (drop 1 (items_of e)))) (linear_at widths e) (list_read e plain is_list) form
      ∙ ap (λ xs. operands e s (map pair xs)) (drop_at (items_of e) 1 x is)

  pub next_read : (e x : Sexpr) (s : Sign) (l : LinearExpression) (k : ℕ) → slice_get (items_of e) k ≡ Some x →
      folded e s l (map pair (drop k (items_of e))) ≡ linear_at widths e →
      linear_at widths e ≡ go_on (linear_at widths x) (λ m. go_on (joined e s l m) (λ n. folded e s n (map pair (drop (k + 1) (items_of e)))))
  next_read e x s l k is so = sym so ∙ ap (λ xs. folded e s l (map pair xs)) (drop_at (items_of e) k x is)

  pub last_read : (e : Sexpr) (s : Sign) (l : LinearExpression) (k : ℕ) → length (items_of e) ≤ k → folded e s l (map pair (drop k (items_of e))) ≡ linear_at widths e → linear_at widths e ≡ Ok l
  last_read e s l k le so = sym so ∙ ap (λ xs. folded e s l (map pair xs)) (drop_all (items_of e) k le)

  longer : (e : Sexpr) (s : Sign) (l : LinearExpression) (xs : List Sexpr) → 2 < length xs → from_first e s l (map pair (drop 2 xs)) ≡ folded e s l (map pair (drop 2 xs))
  longer e s l [] lt = absurd (omega (arith, lt))
  longer e s l (x ∷ []) lt = absurd (omega (arith, lt))
  longer e s l (x ∷ y ∷ []) lt = absurd (omega (arith, lt))
  longer e s l (x ∷ y ∷ z ∷ xs) lt = refl

  -- more than one operand
  pub more_read : (e x : Sexpr) (s : Sign) (l : LinearExpression) → is_size e ≡ false → is_list_kind (kind_of e) ≡ true → linear_form e ≡ Ok s → slice_get (items_of e) 1 ≡ Some x → 2 < length (items_of e) → linear_at widths x ≡ Ok l →
      folded e s l (map pair (drop 2 (items_of e))) ≡ linear_at widths e
  more_read e x s l plain is_list form is lt read =
      sym (goes_on (linear_at widths x) l (λ l. from_first e s l (map pair (drop 2 (items_of e)))) (linear_at widths e) (first_read e x s plain is_list form is) read ∙ longer e s l (items_of e) lt)
