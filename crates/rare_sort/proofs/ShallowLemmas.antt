-- The sort that a rule gives nests no deeper than those of the arguments and of the symbol.
use Rattle.std.proofs.Common.{◌≡◌, ℕ, zero, suc, ◌+◌, ◌<◌, ◌≤◌, max, pos, Bool, true, false, List, [], ◌∷◌, length, slice_get, zip, All, refl, sym, ap, ◌∙◌, subst, arith, Option, Some, None, if◌then◌else◌, nat_eq}
use Rattle.std.specs.Prelude.{nat_le}
use Rattle.std.specs.Option.{option_map, option_and_then}
use Rattle.std.proofs.lemmas.Option.{none-some, same_Some}
use Rattle.rare_linear.specs.Linears.{LinearExpression, number, add}
use Rattle.rare_sort.specs.declared.declarations.Declarations.{Declarations}
use Rattle.rare_sort.specs.declared.head.Head.{Head}
use Rattle.rare_sort.specs.declared.family.Family.{Family}
use Rattle.rare_sort.specs.declared.family.Family.TheVariants as kind
use Rattle.rare_sort.specs.declared.family.Basic.{Basic}
use Rattle.rare_sort.specs.declared.family.Basic.TheVariants as basic
use Rattle.rare_sort.specs.declared.family.Outcome.{Outcome}
use Rattle.rare_sort.specs.declared.family.Outcome.TheVariants as outcome
use Rattle.rare_sort.specs.declared.sort.Sort.{Sort, Bool as BoolSort, Int, BitVec}
use Rattle.rare_sort.specs.declared.sort.Sort.TheOpen.{Sort-F}
use Rattle.rare_sort.specs.declared.sort.Sort.TheOpen as shape
use Rattle.rare_sort.specs.declared.sort.Sort.TheViews.{out-Sort, roll-Sort, roll-out-Sort}
use Rattle.rare_sort.specs.declared.sort.Sort.TheFolds.{fold-roll-Sort}
use Rattle.rare_sort.specs.declared.sort.Signature.{Signature}
use Rattle.rare_sort.specs.declared.ruling.Ruling.TheVariants.{Has}
use denote.Hole.Carrier
use Rattle.rare_sort.specs.Families.{family}
use Rattle.rare_sort.specs.SortRules.{SortRule, gives, basic_sort, outcome_sort, each_is, counts, width, array_parts, less_one, total, slice_needs, slice_width, product, sort_rule}
use Rattle.rare_sort.specs.DeclaredSorts.{MOST_NESTED_SORTS, sort_nesting, sort_nesting_step, IsDeclaredSort, AreDeclared}
use Rattle.rare_sort.specs.Rulings.{ruling}
use Rattle.rare_sort.proofs.Options.{if_some, map_some, then_some}
use Rattle.rare_sort.proofs.NeedsLemmas.{array_parts-Array}
use Rattle.rare_sort.proofs.RulingLemmas.{at_place}
use Rattle.rare_sort.proofs.SortOfLemmas.{if_rule, rule_met}

abbrev pub IsShallow : Sort → Type 0
IsShallow s = sort_nesting s ≤ MOST_NESTED_SORTS

word_shallow : (w : LinearExpression) → IsShallow (BitVec w)
unfolding roll-Sort Carrier.roll
word_shallow w = let e : sort_nesting (BitVec w) ≡ 1 = fold-roll-Sort ℕ sort_nesting_step (shape.BitVec w) in omega (arith, e)

pub basic_shallow : (b : Basic) → IsShallow (basic_sort b)
unfolding roll-Sort Carrier.roll
basic_shallow basic.Bool = let e : sort_nesting BoolSort ≡ 1 = fold-roll-Sort ℕ sort_nesting_step shape.Bool in omega (arith, e)
basic_shallow basic.Int = let e : sort_nesting Int ≡ 1 = fold-roll-Sort ℕ sort_nesting_step shape.Int in omega (arith, e)

outcome_shallow : (o : Outcome) (w : LinearExpression) → IsShallow (outcome_sort o w)
outcome_shallow outcome.SameWidth w = word_shallow w
outcome_shallow outcome.OneBit w = word_shallow (number (pos 1))
outcome_shallow outcome.Bool w = basic_shallow basic.Bool

entries_by : (v : Sort-F Sort) (p : Sort × Sort) → IsShallow (roll-Sort v) → array_parts (roll-Sort v) ≡ Some p → IsShallow p.1
unfolding roll-Sort Carrier.roll
entries_by (shape.Array a b) p h e =
    let n : sort_nesting (roll-Sort (shape.Array a b)) ≡ 1 + max (sort_nesting a) (sort_nesting b) = fold-roll-Sort ℕ sort_nesting_step (shape.Array a b) in
    let m : sort_nesting b ≤ max (sort_nesting a) (sort_nesting b) = omega arith in
    let q : (a, b) ≡ p = same_Some (a, b) p (sym (array_parts-Array a b) ∙ e) in
    subst (λ (z : Sort × Sort). IsShallow z.1) q (let s : IsShallow b = omega (arith, n, m, h) in s)
entries_by v p h e = absurd (none-some p e)

entries_shallow : (m : Sort) (p : Sort × Sort) → IsShallow m → array_parts m ≡ Some p → IsShallow p.1
entries_shallow m p h e = entries_by (out-Sort m) p (subst IsShallow (sym (roll-out-Sort m)) h) (ap array_parts (roll-out-Sort m) ∙ e)

module _ (d : Declarations) (decl : AreDeclared d) where
  same_shallow : (s : Sort) (es : List (Sort × Sort)) (ns : List LinearExpression) (r : SortRule) → IsShallow s → gives s es ns ≡ r → IsShallow r.sort
  same_shallow s es ns r h e = subst (λ (x : SortRule). IsShallow x.sort) e h

  pub rule_shallow : (f : Family) (ix : List LinearExpression) (ss : List Sort) (r : SortRule) → All IsShallow ss → sort_rule (slice_get d.symbols) 2 f ix ss ≡ Some r → IsShallow r.sort
  rule_shallow (kind.Fixed c a b) [] ss r h e =
      same_shallow (basic_sort b) (each_is (basic_sort a) ss) [] r (basic_shallow b) (if_some (counts c 2 (length ss)) (gives (basic_sort b) (each_is (basic_sort a) ss) []) r e).1
  rule_shallow kind.Alike [] (s ∷ ss) r h e =
      same_shallow BoolSort (each_is s ss) [] r (basic_shallow basic.Bool) (if_some (nat_le 2 (length (s ∷ ss))) (gives BoolSort (each_is s ss) []) r e).1
  rule_shallow kind.Choice [] (c ∷ s ∷ t ∷ []) r h e = same_shallow s ((c, BoolSort) ∷ (t, s) ∷ []) [] r (h 1 s (omega arith)) (same_Some _ r e)
  rule_shallow kind.Select [] (m ∷ k ∷ []) r h e =
      let q = map_some (λ p. gives p.1 ((k, p.0) ∷ []) []) (array_parts m) r e in
      same_shallow q.0.1 ((k, q.0.0) ∷ []) [] r (entries_shallow m q.0 (h 0 m (omega arith)) q.1) q.2
  rule_shallow kind.Store [] (m ∷ k ∷ v ∷ []) r h e =
      let q = map_some (λ p. gives m ((k, p.0) ∷ (v, p.1) ∷ []) []) (array_parts m) r e in
      same_shallow m ((k, q.0.0) ∷ (v, q.0.1) ∷ []) [] r (h 0 m (omega arith)) q.2
  rule_shallow (kind.BitVectors c o) [] (s ∷ ss) r h e =
      let q = if_rule (counts c 2 (length (s ∷ ss))) (option_map (λ w. gives (outcome_sort o w) (each_is s ss) []) (width s)) r e in
      let p = map_some (λ w. gives (outcome_sort o w) (each_is s ss) []) (width s) r q in
      same_shallow (outcome_sort o p.0) (each_is s ss) [] r (outcome_shallow o p.0) p.2
  rule_shallow kind.Concat [] ss r h e =
      let q = if_rule (nat_le 2 (length ss)) (option_map (λ w. gives (BitVec w) [] []) (total ss)) r e in
      let p = map_some (λ w. gives (BitVec w) [] []) (total ss) r q in same_shallow (BitVec p.0) [] [] r (word_shallow p.0) p.2
  rule_shallow kind.Extract (j ∷ i ∷ []) (s ∷ []) r h e =
      let p = map_some (λ m. gives (BitVec (slice_width j i)) [] (slice_needs j i m)) (width s) r e in
      same_shallow (BitVec (slice_width j i)) [] (slice_needs j i p.0) r (word_shallow (slice_width j i)) p.2
  rule_shallow kind.Extend (k ∷ []) (s ∷ []) r h e =
      let p = map_some (λ m. gives (BitVec (add m k)) [] (k ∷ [])) (width s) r e in same_shallow (BitVec (add p.0 k)) [] (k ∷ []) r (word_shallow (add p.0 k)) p.2
  rule_shallow kind.Rotate (k ∷ []) (s ∷ []) r h e =
      let p = map_some (λ m. gives s [] (k ∷ [])) (width s) r e in same_shallow s [] (k ∷ []) r (h 0 s (omega arith)) p.2
  rule_shallow kind.Repeat (k ∷ []) (s ∷ []) r h e =
      let p = map_some (λ w. gives (BitVec w) [] (less_one k ∷ [])) (option_and_then (λ m. product k m) (width s)) r e in
      same_shallow (BitVec p.0) [] (less_one k ∷ []) r (word_shallow p.0) p.2
  rule_shallow kind.Bits (w ∷ []) [] r h e = same_shallow (BitVec w) [] (less_one w ∷ []) r (word_shallow w) (same_Some _ r e)
  rule_shallow kind.Literal (v ∷ w ∷ []) [] r h e = same_shallow (BitVec w) [] (less_one w ∷ []) r (word_shallow w) (same_Some _ r e)
  rule_shallow (kind.Symbol k) [] ss r h e =
      let q = then_some (λ (g : Signature). if nat_eq (length ss) (length g.args) then (Some (gives g.gives (zip ss g.args) [])) else None) (slice_get d.symbols k) r e in
      let p = if_some (nat_eq (length ss) (length q.0.args)) (gives q.0.gives (zip ss q.0.args) []) r q.2 in
      same_shallow q.0.gives (zip ss q.0.args) [] r (at_place (λ (g : Signature). All (IsDeclaredSort d) g.args × IsDeclaredSort d g.gives) d.symbols decl.symbols k q.0 q.1).1.shallow p.1
  rule_shallow f ix ss r h e = cc

  pub has_shallow : (h : Head) (ix : List LinearExpression) (ss : List Sort) (s : Sort) → All IsShallow ss → ruling d h ix ss ≡ Has s → IsShallow s
  unfolding ruling
  has_shallow h ix ss s a e =
      let m = rule_met d (family h) ix ss s e in
      subst IsShallow m.sort (rule_shallow (family h) ix ss m.rule a m.found)
