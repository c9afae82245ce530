-- What the sorts of declarations are known to have.
use Rattle.std.proofs.Common.{◌≡◌, ℕ, Bool, true, false, ◌&&◌, List, [], ◌∷◌, ◌++◌, refl, sym, ap, ◌∙◌, subst, IsTrue, Option, Some, None}
use Rattle.std.proofs.lemmas.Option.{none-some, same_Some}
use Rattle.std.proofs.lemmas.Bool.{ltb-true}
use Rattle.rare_linear.specs.Linears.{Part, LinearExpression, NamesBelow}
use Rattle.rare_sort.specs.declared.declarations.Declarations.{Declarations}
use Rattle.rare_sort.specs.declared.sort.Sort.{Sort, Bool as BoolSort, Int, BitVec, Array', Named, Row_of-Sort, ind-Sort}
use Rattle.rare_sort.specs.declared.sort.Sort.TheOpen.{Sort-F}
use Rattle.rare_sort.specs.declared.sort.Sort.TheOpen as shape
use Rattle.rare_sort.specs.declared.sort.Sort.TheViews.{out-Sort, roll-Sort, out-roll-Sort, roll-out-Sort, Array}
use Rattle.rare_sort.specs.declared.sort.Sort.TheFolds.{fold-Sort, fold-roll-Sort, map-Sort}
use Rattle.rare_sort.specs.declared.sort.Sort.TheBlock.{hidden-the_row-Sort-0}
use denote.Hole.Carrier
use Rattle.rare_sort.specs.SortRules.{less_one, width, width_needs, boxed, boxed_needs, array_parts}
use Rattle.rare_sort.specs.DeclaredSorts.{widths, names_below, follows, all_follow, is_sort, is_sort_step}

pub both : (b c : Bool) → (b && c) ≡ true → (b ≡ true) × (c ≡ true)
both true c e = (refl, e)
both false c e = cc

pub and_both : (b c : Bool) → b ≡ true → c ≡ true → (b && c) ≡ true
and_both b c p q = rw (p, q) refl

pub names_of : (n : ℕ) (ps : List Part) → names_below n ps ≡ true → NamesBelow n ps
names_of n [] e = tt
names_of n (p ∷ ps) e = let x = both _ _ e in (ltb-true _ _ x.0, names_of n ps x.1)

-- ---- an array's sort by its parts

pub boxed-hidden : (s : Sort) → boxed (hidden-the_row-Sort-0 s) ≡ s
unfolding hidden-the_row-Sort-0 denote.Hole.Carrier.hidden
boxed-hidden s = refl

pub array_parts-Array : (a b : Sort) → array_parts (Array a b) ≡ Some (a, b)
unfolding hidden-the_row-Sort-0 denote.Hole.Carrier.hidden
array_parts-Array a b = refl

width_needs-Array : (a b : Sort) → width_needs (Array a b) ≡ width_needs a ++ width_needs b
unfolding hidden-the_row-Sort-0 denote.Hole.Carrier.hidden
width_needs-Array a b = refl

-- ---- the widths of a sort of the declarations are entailed to be at least 1

all_follow-append : (d : Declarations) (xs ys : List LinearExpression) → all_follow d xs ≡ true → all_follow d ys ≡ true → all_follow d (xs ++ ys) ≡ true
all_follow-append d [] ys p q = q
all_follow-append d (x ∷ xs) ys p q = let h = both _ _ p in and_both _ _ h.0 (all_follow-append d xs ys h.1 q)

module _ (d : Declarations) where
  abbrev Needed : Sort → Type 0
  Needed s = is_sort d s ≡ true → all_follow d (width_needs s) ≡ true

  abbrev Checked : Type 0
  Checked = (s : Sort) × Needed s

  pub is_sort-roll : (x : Sort-F Sort) → is_sort d (roll-Sort x) ≡ is_sort_step d (map-Sort Sort Bool (is_sort d) x)
  unfolding is_sort
  is_sort-roll x = fold-roll-Sort Bool (is_sort_step d) x

  at_node : (y : Sort-F Checked) → Needed (roll-Sort (map-Sort Checked Sort (λ s. s.0) y))
  unfolding roll-Sort Carrier.roll
  at_node shape.Bool e = refl
  at_node shape.Int e = refl
  at_node (shape.BitVec m) e = let x = both _ _ (sym (is_sort-roll (shape.BitVec m)) ∙ e) in and_both _ _ x.1 refl
  at_node (shape.Named k) e = refl
  at_node (shape.Array a b) e =
      let x = both _ _ (sym (is_sort-roll (shape.Array a.0 b.0)) ∙ e) in
      ap (all_follow d) (width_needs-Array a.0 b.0) ∙ all_follow-append d (width_needs a.0) (width_needs b.0) (a.1 x.0) (b.1 x.1)

  pub needs_follow : (s : Sort) → Needed s
  needs_follow = ind-Sort Needed (λ x y is. subst (λ z. Needed (roll-Sort z)) is (at_node y))

-- a width of a sort of these declarations
pub record IsWidth (d : Declarations) (m : LinearExpression) : Type 0 where
  pub named : NamesBelow (widths d) m.parts
  pub least : follows d (less_one m) ≡ true

word_checked : (d : Declarations) (n : LinearExpression) → is_sort d (BitVec n) ≡ is_sort_step d (shape.BitVec n)
unfolding roll-Sort Carrier.roll
word_checked d n = is_sort-roll d (shape.BitVec n)

-- the parts of an array's sort are sorts too
pub parts_checked : (d : Declarations) (a b : Sort) → is_sort d (Array a b) ≡ true → (is_sort d a ≡ true) × (is_sort d b ≡ true)
unfolding roll-Sort Carrier.roll
parts_checked d a b e = both _ _ (sym (is_sort-roll d (shape.Array a b)) ∙ e)

width_by : (d : Declarations) (s : Sort) (m : LinearExpression) → is_sort d s ≡ true → width s ≡ Some m → IsWidth d m
width_by d (BitVec n) m t e =
    let x = both _ _ (sym (word_checked d n) ∙ t) in
    let same : n ≡ m = same_Some n m e in
    subst (IsWidth d) same (record { named = names_of _ n.parts x.0; least = x.1 })
width_by d s m t e = absurd (none-some m e)

pub width_fine : (d : Declarations) (s : Sort) (m : LinearExpression) → IsTrue (is_sort d s) → width s ≡ Some m → IsWidth d m
width_fine d s m t e = width_by d s m t e

entries_by : (d : Declarations) (v : Sort-F Sort) (p : Sort × Sort) → is_sort d (roll-Sort v) ≡ true → array_parts (roll-Sort v) ≡ Some p → is_sort d p.1 ≡ true
unfolding roll-Sort Carrier.roll
entries_by d (shape.Array a b) p h e =
    let x = parts_checked d a b h in
    let q : (a, b) ≡ p = same_Some (a, b) p (sym (array_parts-Array a b) ∙ e) in
    subst (λ (z : Sort × Sort). is_sort d z.1 ≡ true) q x.1
entries_by d v p h e = absurd (none-some p e)

-- the entries of a sort that is an array's
pub entries_checked : (d : Declarations) (m : Sort) (p : Sort × Sort) → is_sort d m ≡ true → array_parts m ≡ Some p → is_sort d p.1 ≡ true
entries_checked d m p h e = entries_by d (out-Sort m) p (ap (is_sort d) (roll-out-Sort m) ∙ h) (ap array_parts (roll-out-Sort m) ∙ e)
