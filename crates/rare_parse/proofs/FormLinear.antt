-- What numbers, names and sizes have, and what sums and products keep, each linear expression has that a text spells.
use Rattle.std.proofs.Common.{◌≡◌, ℕ, Bool, true, false, List, [], ◌∷◌, drop, Option, Some, None, Ok, refl, subst}
use Rattle.std.specs.Prelude.{pos, negsuc, if◌then◌else◌}
use Rattle.rare_linear.specs.Linears.{LinearExpression, linear, number, scale}
use Rattle.rare_sexpr.specs.declared.tree.Kind.{Kind}
use Rattle.rare_sexpr.specs.declared.tree.Kind.TheVariants as kind
use Rattle.rare_sexpr.specs.declared.tree.Sexpr.{Sexpr, Atom, List', Row_of-Sexpr, end_of-Sexpr, more_of-Sexpr}
use Rattle.rare_sexpr.specs.Tree.{go_along, items_of, kind_of, text_of}
use Rattle.rare_scope.specs.declared.sign.Sign.{Sign}
use Rattle.rare_scope.specs.Reading.{Read, go_on, is_symbol_kind}
use Rattle.rare_scope.specs.LinearText.{WidthNames, size_by, Items, fitting, joined, folded, from_first, operands, numeral, width_named, size_named, size_of, sized, begins_size, linear_form, linear_by, linear_at}
use Rattle.rare_scope.specs.Numbers.{small_number}
use Rattle.rare_scope.proofs.InOrder.{went, same_Ok}

-- what numbers, names and sizes have, and sums, multiples and products that fit keep
pub record IsKept (Q : LinearExpression → Type 0) (w : WidthNames) : Type 0 where
  pub numbers : (text : List ℕ) (k : ℕ) → small_number text ≡ Some k → Q (number (pos k))
  pub names : (text : List ℕ) (k : ℕ) → w.number text ≡ Some k → Q (linear (pos 0) ((k, pos 1) ∷ []))
  pub sizes : (text : List ℕ) (l : LinearExpression) → size_by w.size text ≡ Some l → Q l
  pub joins : (e : Sexpr) (s : Sign) (l m r : LinearExpression) → joined e s l m ≡ Ok r → Q l → Q m → Q r
  pub negates : (e : Sexpr) (l r : LinearExpression) → fitting e (scale (negsuc 0) l) ≡ Ok r → Q l → Q r

module _ (Q : LinearExpression → Type 0) (w : WidthNames) (kept : IsKept Q w) where
  -- what it gives has it
  abbrev GivesKept : Read LinearExpression → Type 0
  GivesKept read = (l : LinearExpression) → read ≡ Ok l → Q l

  abbrev GiveKept : Items → Type 0
  GiveKept [] = Unit {0}
  GiveKept (x ∷ xs) = GivesKept x.1 × GiveKept xs

  -- ---- lists

  folded_kept : (e : Sexpr) (s : Sign) (l : LinearExpression) (xs : Items) → Q l → GiveKept xs → GivesKept (folded e s l xs)
  folded_kept e s l [] h all r is = subst Q (same_Ok l r is) h
  folded_kept e s l (x ∷ xs) h all r is =
      let first = went x.1 (λ m. go_on (joined e s l m) (λ k. folded e s k xs)) r is in
      let next = went (joined e s l first.0) (λ k. folded e s k xs) r first.2 in
      folded_kept e s next.0 xs (kept.joins e s l first.0 next.0 next.1 h (all.0 first.0 first.1)) all.1 r next.2

  from_first_kept : (e : Sexpr) (s : Sign) (l : LinearExpression) (xs : Items) → Q l → GiveKept xs → GivesKept (from_first e s l xs)
  from_first_kept e s l [] h all r is = kept.negates e l r is h
  from_first_kept e s l (x ∷ xs) h all r is = folded_kept e s l (x ∷ xs) h all r is

  operands_kept : (e : Sexpr) (s : Sign) (xs : Items) → GiveKept xs → GivesKept (operands e s xs)
  operands_kept e s [] all r is = absurd cc
  operands_kept e s (x ∷ xs) all r is =
      let first = went x.1 (λ l. from_first e s l xs) r is in
      from_first_kept e s first.0 xs (all.0 first.0 first.1) all.1 r first.2

  list_kept : (e : Sexpr) (items : Items) → GiveKept items → GivesKept (go_on (linear_form e) (λ s. operands e s (drop 1 items)))
  list_kept e [] all r is = let s = went (linear_form e) (λ s. operands e s []) r is in operands_kept e s.0 [] tt r s.2
  list_kept e (x ∷ xs) all r is = let s = went (linear_form e) (λ s. operands e s xs) r is in operands_kept e s.0 xs all.1 r s.2

  -- ---- atoms and sizes

  numeral_kept : (e : Sexpr) (o : Option ℕ) → ((k : ℕ) → o ≡ Some k → Q (number (pos k))) → GivesKept (numeral e o)
  numeral_kept e (Some k) h r is = subst Q (same_Ok (number (pos k)) r is) (h k refl)
  numeral_kept e None h r is = absurd cc

  width_kept : (e : Sexpr) (o : Option ℕ) → ((k : ℕ) → o ≡ Some k → Q (linear (pos 0) ((k, pos 1) ∷ []))) → GivesKept (width_named e o)
  width_kept e (Some k) h r is = subst Q (same_Ok (linear (pos 0) ((k, pos 1) ∷ [])) r is) (h k refl)
  width_kept e None h r is = absurd cc

  size_kept : (x : Sexpr) (b : Bool) (o : Option LinearExpression) → ((l : LinearExpression) → o ≡ Some l → Q l) → GivesKept (size_named x b o)
  size_kept x true (Some l) h r is = subst Q (same_Ok l r is) (h l refl)
  size_kept x true None h r is = absurd cc
  size_kept x false o h r is = absurd cc

  abbrev AreSizesKept : Option (List ℕ → Option LinearExpression) → Type 0
  AreSizesKept size = (text : List ℕ) (l : LinearExpression) → size_by size text ≡ Some l → Q l

  sizes_kept : (size : List ℕ → Option LinearExpression) (e : Sexpr) (xs : List Sexpr) → AreSizesKept (Some size) → GivesKept (size_of size e xs)
  sizes_kept size e [] h r is = absurd cc
  sizes_kept size e (a ∷ []) h r is = absurd cc
  sizes_kept size e (a ∷ x ∷ []) h r is = size_kept x (is_symbol_kind (kind_of x)) (size (text_of x)) (h (text_of x)) r is
  sizes_kept size e (a ∷ x ∷ y ∷ xs) h r is = absurd cc

  sized_if : (size : List ℕ → Option LinearExpression) (e : Sexpr) (other : Read LinearExpression) (b : Bool) → AreSizesKept (Some size) → GivesKept other →
      GivesKept (if b then size_of size e (items_of e) else other)
  sized_if size e other true h fine r is = sizes_kept size e (items_of e) h r is
  sized_if size e other false h fine r is = fine r is

  sized_kept : (size : Option (List ℕ → Option LinearExpression)) (e : Sexpr) (other : Read LinearExpression) → AreSizesKept size → GivesKept other →
      GivesKept (sized size e other)
  sized_kept None e other h fine r is = fine r is
  sized_kept (Some size) e other h fine r is = sized_if size e other (begins_size (items_of e)) h fine r is

  by_kind : (e : Sexpr) (k : Kind) (items : Items) → GiveKept items → GivesKept (linear_by w e k items)
  by_kind e kind.Numeral items all r is = numeral_kept e (small_number (text_of e)) (kept.numbers (text_of e)) r is
  by_kind e kind.Symbol items all r is = width_kept e (w.number (text_of e)) (kept.names (text_of e)) r is
  by_kind e kind.List items all r is =
      sized_kept w.size e (go_on (linear_form e) (λ s. operands e s (drop 1 items))) kept.sizes (list_kept e items all) r is
  by_kind e k items all r is = absurd cc

  -- ---- all expressions

  mutual
    pub linear_kept : (e : Sexpr) → GivesKept (linear_at w e)
    linear_kept (Atom place k text) r is = by_kind (Atom place k text) (kind_of (Atom place k text)) [] tt r is
    linear_kept (List' place shape row) r is =
        by_kind (List' place shape row) (kind_of (List' place shape row)) (go_along (Read LinearExpression) (λ e items. linear_by w e (kind_of e) items) row) (along_kept row) r is

    along_kept : {m : _} (row : Row_of-Sexpr m) → GiveKept (go_along (Read LinearExpression) (λ e items. linear_by w e (kind_of e) items) row)
    along_kept end_of-Sexpr = tt
    along_kept (more_of-Sexpr e rest) = (λ r is. linear_kept e r is, along_kept rest)
