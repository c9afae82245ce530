-- The names of what a linear expression reads as.
use Rattle.std.proofs.Common.{◌≡◌, ℕ, ◌<◌, Bool, true, false, List, [], ◌∷◌, Option, Some, None, IfSome, drop, Result, Ok, Err, IfOk, subst}
use Rattle.std.specs.Prelude.{ℤ, pos, negsuc, if◌then◌else◌}
use Rattle.rare_base.specs.declared.answers.Fault.{Fault}
use Rattle.rare_scope.specs.Answers.{Answers}
use Rattle.rare_scope.proofs.InOrder.{went, same_Ok}
use Rattle.rare_base.specs.declared.answers.Reason.TheVariants as reason
use Rattle.rare_linear.specs.Linears.{LinearExpression, NamesBelow, linear, number, add, scale}
use Rattle.rare_linear.specs.Entailment.{minus}
use Rattle.rare_linear.specs.EntailmentTest.{is_within}
use Rattle.rare_linear.proofs.Names.{NamesBelow-add, NamesBelow-scale}
use Rattle.rare_sexpr.specs.declared.tree.Kind.{Kind}
use Rattle.rare_sexpr.specs.declared.tree.Kind.TheVariants as kind
use Rattle.rare_sexpr.specs.declared.tree.Sexpr.{Sexpr, Atom, List', Row_of-Sexpr, end_of-Sexpr, more_of-Sexpr}
use Rattle.rare_sexpr.specs.Tree.{go_along, items_of, kind_of, text_of}
use Rattle.rare_sort.specs.SortRules.{number_in}
use Rattle.rare_scope.specs.declared.sign.Sign.{Sign}
use Rattle.rare_scope.specs.declared.sign.Sign.TheVariants as sign
use Rattle.rare_scope.specs.Reading.{Read, refused, go_on, is_symbol_kind}
use Rattle.rare_scope.specs.LinearText.{WidthNames, AreBelow, AllNamed, Items, fitting, joined, times_by, folded, from_first, operands, numeral, width_named, size_named, size_of, sized, begins_size, SizesBelow, linear_form, linear_by, linear_at}
use Rattle.rare_scope.specs.Numbers.{small_number}

pub fitting_is : (e : Sexpr) (l r : LinearExpression) → fitting e l ≡ Ok r → l ≡ r
fitting_is e l r is = go (is_within l) is
  where
    go : (b : Bool) → (if b then Ok l else refused e reason.TermLimit) ≡ Ok r → l ≡ r
    go true is = cc
    go false is = cc

pub multiple_named : (n : ℕ) (e : Sexpr) (k : ℤ) (l r : LinearExpression) → fitting e (scale k l) ≡ Ok r → NamesBelow n l.parts → NamesBelow n r.parts
multiple_named n e k l r is h = subst (λ (x : LinearExpression). NamesBelow n x.parts) (fitting_is e (scale k l) r is) (NamesBelow-scale n k l h)

product_named : (n : ℕ) (e : Sexpr) (l m r : LinearExpression) (j k : Option ℤ) → times_by e l m j k ≡ Ok r → NamesBelow n l.parts → NamesBelow n m.parts → NamesBelow n r.parts
product_named n e l m r (Some j) k is hl hm = multiple_named n e j m r is hm
product_named n e l m r None (Some k) is hl hm = multiple_named n e k l r is hl
product_named n e l m r None None is hl hm = absurd cc

pub joined_named : (n : ℕ) (e : Sexpr) (s : Sign) (l m r : LinearExpression) → joined e s l m ≡ Ok r → NamesBelow n l.parts → NamesBelow n m.parts → NamesBelow n r.parts
joined_named n e sign.Plus l m r is hl hm = subst (λ (x : LinearExpression). NamesBelow n x.parts) (fitting_is e (add l m) r is) (NamesBelow-add n l m hl hm)
joined_named n e sign.Minus l m r is hl hm =
    subst (λ (x : LinearExpression). NamesBelow n x.parts) (fitting_is e (minus l m) r is) (NamesBelow-add n l (scale (negsuc 0) m) hl (NamesBelow-scale n (negsuc 0) m hm))
joined_named n e sign.Times l m r is hl hm = product_named n e l m r (number_in l) (number_in m) is hl hm

module _ (w : WidthNames) (n : ℕ) (below : AreBelow n w) where
  -- what it gives has names below the bound
  abbrev IsNamed : Read LinearExpression → Type 0
  IsNamed read = (l : LinearExpression) → read ≡ Ok l → NamesBelow n l.parts

  abbrev AreNamed : Items → Type 0
  AreNamed [] = Unit {0}
  AreNamed (x ∷ xs) = IsNamed x.1 × AreNamed xs

  folded_named : (e : Sexpr) (s : Sign) (l : LinearExpression) (xs : Items) → NamesBelow n l.parts → AreNamed xs → IsNamed (folded e s l xs)
  folded_named e s l [] h all r is = subst (λ (x : LinearExpression). NamesBelow n x.parts) (same_Ok l r is) h
  folded_named e s l (x ∷ xs) h all r is =
      let first = went x.1 (λ m. go_on (joined e s l m) (λ k. folded e s k xs)) r is in
      let next = went (joined e s l first.0) (λ k. folded e s k xs) r first.2 in
      folded_named e s next.0 xs (joined_named n e s l first.0 next.0 next.1 h (all.0 first.0 first.1)) all.1 r next.2

  from_first_named : (e : Sexpr) (s : Sign) (l : LinearExpression) (xs : Items) → NamesBelow n l.parts → AreNamed xs → IsNamed (from_first e s l xs)
  from_first_named e s l [] h all r is = multiple_named n e (negsuc 0) l r is h
  from_first_named e s l (x ∷ xs) h all r is = folded_named e s l (x ∷ xs) h all r is

  operands_named : (e : Sexpr) (s : Sign) (xs : Items) → AreNamed xs → IsNamed (operands e s xs)
  operands_named e s [] all r is = absurd cc
  operands_named e s (x ∷ xs) all r is =
      let first = went x.1 (λ l. from_first e s l xs) r is in
      from_first_named e s first.0 xs (all.0 first.0 first.1) all.1 r first.2

  list_named : (e : Sexpr) (items : Items) → AreNamed items → IsNamed (go_on (linear_form e) (λ s. operands e s (drop 1 items)))
  list_named e [] all r is = let s = went (linear_form e) (λ s. operands e s []) r is in operands_named e s.0 [] tt r s.2
  list_named e (x ∷ xs) all r is = let s = went (linear_form e) (λ s. operands e s xs) r is in operands_named e s.0 xs all.1 r s.2

  numeral_named : (e : Sexpr) (o : Option ℕ) → IsNamed (numeral e o)
  numeral_named e (Some k) r is = subst (λ (x : LinearExpression). NamesBelow n x.parts) (same_Ok (number (pos k)) r is) tt
  numeral_named e None r is = absurd cc

  width_fine : (e : Sexpr) (o : Option ℕ) → IfSome o (λ k. k < n) → IsNamed (width_named e o)
  width_fine e (Some k) h r is = subst (λ (x : LinearExpression). NamesBelow n x.parts) (same_Ok (linear (pos 0) ((k, pos 1) ∷ [])) r is) (h, tt)
  width_fine e None h r is = absurd cc

  size_fine : (x : Sexpr) (b : Bool) (o : Option LinearExpression) → IfSome o (λ l. NamesBelow n l.parts) → IsNamed (size_named x b o)
  size_fine x true (Some l) h r is = subst (λ (x : LinearExpression). NamesBelow n x.parts) (same_Ok l r is) h
  size_fine x true None h r is = absurd cc
  size_fine x false o h r is = absurd cc

  sizes_fine : (size : List ℕ → Option LinearExpression) (e : Sexpr) (xs : List Sexpr) → SizesBelow n (Some size) → IsNamed (size_of size e xs)
  sizes_fine size e [] h r is = absurd cc
  sizes_fine size e (a ∷ []) h r is = absurd cc
  sizes_fine size e (a ∷ x ∷ []) h r is = size_fine x (is_symbol_kind (kind_of x)) (size (text_of x)) (h (text_of x)) r is
  sizes_fine size e (a ∷ x ∷ y ∷ xs) h r is = absurd cc

  sized_fine : (size : Option (List ℕ → Option LinearExpression)) (e : Sexpr) (other : Read LinearExpression) → SizesBelow n size → IsNamed other → IsNamed (sized size e other)
  sized_fine None e other h fine r is = fine r is
  sized_fine (Some size) e other h fine r is = go (begins_size (items_of e)) is
    where
      go : (b : Bool) → (if b then size_of size e (items_of e) else other) ≡ Ok r → NamesBelow n r.parts
      go true is = sizes_fine size e (items_of e) h r is
      go false is = fine r is

  by_kind : (e : Sexpr) (k : Kind) (items : Items) → AreNamed items → IsNamed (linear_by w e k items)
  by_kind e kind.Numeral items all r is = numeral_named e (small_number (text_of e)) r is
  by_kind e kind.Symbol items all r is = width_fine e (w.number (text_of e)) (below.numbers (text_of e)) r is
  by_kind e kind.List items all r is =
      sized_fine w.size e (go_on (linear_form e) (λ s. operands e s (drop 1 items))) below.sizes (list_named e items all) r is
  by_kind e k items all r is = absurd cc

  mutual
    pub linear_named : (e : Sexpr) → IsNamed (linear_at w e)
    linear_named (Atom place k text) r is = by_kind (Atom place k text) (kind_of (Atom place k text)) [] tt r is
    linear_named (List' place shape row) r is =
        by_kind (List' place shape row) (kind_of (List' place shape row)) (go_along (Read LinearExpression) (λ e items. linear_by w e (kind_of e) items) row) (along_named row) r is

    along_named : {m : _} (row : Row_of-Sexpr m) → AreNamed (go_along (Read LinearExpression) (λ e items. linear_by w e (kind_of e) items) row)
    along_named end_of-Sexpr = tt
    along_named (more_of-Sexpr e rest) = (λ r is. linear_named e r is, along_named rest)

named_by : (w : WidthNames) (e : Sexpr) (result : Result LinearExpression Fault) → Answers result (linear_at w e) → (n : ℕ) → AreBelow n w → IfOk result (λ l. NamesBelow n l.parts)
named_by w e (Ok l) is n below = linear_named w n below e l is
named_by w e (Err f) is n below = tt

pub read_named : (w : WidthNames) (e : Sexpr) (result : Result LinearExpression Fault) → Answers result (linear_at w e) → AllNamed w result
read_named w e result is n below = named_by w e result is n below
