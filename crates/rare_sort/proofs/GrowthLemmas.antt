-- Where declarations grow, what was ruled stays ruled.
use Rattle.std.proofs.Common.{◌≡◌, ℕ, zero, suc, ◌+◌, ◌<◌, ◌≤◌, pos, Bool, true, false, ◌&&◌, nat_lt, List, [], ◌∷◌, ◌++◌, length, map, slice_get, All, IsTrue, refl, sym, ap, ◌∙◌, subst, arith, Option, Some, None, if◌then◌else◌, nat_eq, zip}
use Rattle.std.specs.Option.{option_and_then}
use Rattle.std.proofs.lemmas.Bool.{ltb-true, lt-ltb}
use Rattle.rare_linear.specs.Linears.{Part, LinearExpression, NamesBelow}
use Rattle.rare_linear.specs.Entailment.{IsEntailed}
use Rattle.rare_linear.specs.EntailmentTest.{is_entailed}
use Rattle.rare_linear.specs.declared.constraint.Constraint.{Constraint}
use Rattle.rare_linear.proofs.EntailmentTestLemmas.{is_entailed-Decides}
use Rattle.rare_linear.proofs.LawLemmas.{entailed_more}
use Rattle.rare_sort.specs.declared.declarations.Declarations.{Declarations}
use Rattle.rare_sort.specs.declared.head.Head.{Head}
use Rattle.rare_sort.specs.declared.family.Family.{Family}
use Rattle.rare_sort.specs.declared.family.Family.TheVariants as kind
use Rattle.rare_sort.specs.declared.sort.Sort.{Sort, ind-Sort}
use Rattle.rare_sort.specs.declared.sort.Sort.TheOpen.{Sort-F}
use Rattle.rare_sort.specs.declared.sort.Sort.TheOpen as shape
use Rattle.rare_sort.specs.declared.sort.Sort.TheViews.{roll-Sort}
use Rattle.rare_sort.specs.declared.sort.Sort.TheFolds.{map-Sort}
use Rattle.rare_sort.specs.declared.sort.Signature.{Signature}
use Rattle.rare_sort.specs.declared.ruling.Ruling.TheVariants.{Has}
use Rattle.rare_sort.specs.Families.{family}
use Rattle.rare_sort.specs.SortRules.{SortRule, less_one, gives, width_needs, sort_rule}
use Rattle.rare_sort.specs.DeclaredSorts.{widths, names_below, follows, all_follow, is_sort, is_sort_step, AreNamed, AreSorts, IsSymbol, IsDeclaredSort, AreDeclared}
use Rattle.rare_sort.specs.Rulings.{ruling, ruling_of_family}
use Rattle.rare_sort.proofs.Options.{then_some}
use Rattle.rare_sort.proofs.NeedsLemmas.{both, and_both, is_sort-roll}
use Rattle.rare_sort.proofs.SortOfLemmas.{IsMet, rule_met, met_rules}

-- declarations with more
pub record Grows (d e : Declarations) : Type 0 where
  pub symbols : (k : ℕ) (g : Signature) → slice_get d.symbols k ≡ Some g → slice_get e.symbols k ≡ Some g
  pub count : length d.symbols ≤ length e.symbols
  pub widths : length d.lows ≤ length e.lows
  pub constraints : (more : List Constraint) × (e.constraints ≡ d.constraints ++ more)
  pub sorts : d.sorts ≤ e.sorts

module _ (d e : Declarations) (g : Grows d e) where
  pub names_grow : (ps : List Part) → NamesBelow (widths d) ps → NamesBelow (widths e) ps
  names_grow [] h = tt
  names_grow (p ∷ ps) h = ((let w = g.widths in let l = h.0 in omega arith), names_grow ps h.1)

  pub linears_grow : (ws : List LinearExpression) → AreNamed (widths d) ws → AreNamed (widths e) ws
  linears_grow ws h k x lt = names_grow _ (h k x lt)

  pub symbol_grows : (f : Family) → IsSymbol (length d.symbols) f → IsSymbol (length e.symbols) f
  symbol_grows (kind.Symbol k) h = let c = g.count in omega arith
  symbol_grows kind.OfRules h = h
  symbol_grows f h = tt

  below_grow : (ps : List Part) → names_below (widths d) ps ≡ true → names_below (widths e) ps ≡ true
  below_grow [] t = refl
  below_grow (p ∷ ps) t =
      let x = both (nat_lt p.0 (widths d)) (names_below (widths d) ps) t in
      let l : p.0 < widths d = ltb-true p.0 (widths d) x.0 in
      let m : p.0 < widths e = let w = g.widths in omega arith in
      and_both (nat_lt p.0 (widths e)) (names_below (widths e) ps) (lt-ltb p.0 (widths e) m) (below_grow ps x.1)

  pub follows_grow : (w : LinearExpression) → follows d w ≡ true → follows e w ≡ true
  unfolding follows
  follows_grow w t =
      let old = (is_entailed-Decides (λ k. pos 1) d.constraints w).0 t in
      (is_entailed-Decides (λ k. pos 1) e.constraints w).1
      (subst (λ cs. IsEntailed (λ k. pos 1) cs w) (sym g.constraints.1) (entailed_more (λ k. pos 1) d.constraints g.constraints.0 w old))

  all_grow : (ws : List LinearExpression) → all_follow d ws ≡ true → all_follow e ws ≡ true
  all_grow [] t = refl
  all_grow (w ∷ ws) t = let x = both _ _ t in and_both _ _ (follows_grow w x.0) (all_grow ws x.1)

  abbrev MoreSort : Sort → Type 0
  MoreSort s = is_sort d s ≡ true → is_sort e s ≡ true

  step_more : (y : Sort-F ((s : Sort) × MoreSort s)) → is_sort_step d (map-Sort ((s : Sort) × MoreSort s) Bool (λ s. is_sort d s.0) y) ≡ true →
      is_sort_step e (map-Sort ((s : Sort) × MoreSort s) Bool (λ s. is_sort e s.0) y) ≡ true
  step_more shape.Bool t = refl
  step_more shape.Int t = refl
  step_more (shape.BitVec m) t = let x = both _ _ t in and_both _ _ (below_grow m.parts x.0) (follows_grow (less_one m) x.1)
  step_more (shape.Array a b) t = let x = both _ _ t in and_both _ _ (a.1 x.0) (b.1 x.1)
  step_more (shape.Named k) t = let l : k < d.sorts = ltb-true k d.sorts t in let m : k < e.sorts = let w = g.sorts in omega arith in lt-ltb k e.sorts m

  map_twice : (f : Sort → Bool) (y : Sort-F ((s : Sort) × MoreSort s)) → map-Sort Sort Bool f (map-Sort ((s : Sort) × MoreSort s) Sort (λ s. s.0) y) ≡ map-Sort ((s : Sort) × MoreSort s) Bool (λ s. f s.0) y
  map_twice f shape.Bool = refl
  map_twice f shape.Int = refl
  map_twice f (shape.BitVec m) = refl
  map_twice f (shape.Array a b) = refl
  map_twice f (shape.Named k) = refl

  more_at : (y : Sort-F ((s : Sort) × MoreSort s)) → MoreSort (roll-Sort (map-Sort ((s : Sort) × MoreSort s) Sort (λ s. s.0) y))
  more_at y t =
      let x = map-Sort ((s : Sort) × MoreSort s) Sort (λ s. s.0) y in
      is_sort-roll e x ∙ ap (is_sort_step e) (map_twice (is_sort e) y) ∙ step_more y (sym (is_sort-roll d x ∙ ap (is_sort_step d) (map_twice (is_sort d) y)) ∙ t)

  pub sort_grows : (s : Sort) → MoreSort s
  sort_grows = ind-Sort MoreSort (λ x y is. subst (λ z. MoreSort (roll-Sort z)) is (more_at y))

  pub declared_sort_grows : (s : Sort) → IsDeclaredSort d s → IsDeclaredSort e s
  declared_sort_grows s h = record { declared = sort_grows s h.declared; shallow = h.shallow }

  rule_grows : (f : Family) (ix : List LinearExpression) (ss : List Sort) (r : SortRule) → sort_rule (slice_get d.symbols) 2 f ix ss ≡ Some r → sort_rule (slice_get e.symbols) 2 f ix ss ≡ Some r
  rule_grows (kind.Symbol k) [] ss r t =
      let f = λ (x : Signature). if nat_eq (length ss) (length x.args) then (Some (gives x.gives (zip ss x.args) [])) else None in
      let q = then_some f (slice_get d.symbols k) r t in
      ap (option_and_then f) (g.symbols k q.0 q.1) ∙ q.2
  rule_grows (kind.Symbol k) (i ∷ ix) ss r t = cc
  rule_grows f ix ss r t = t

  pub ruling_grows : (h : Head) (ix : List LinearExpression) (ss : List Sort) (s : Sort) → ruling d h ix ss ≡ Has s → ruling e h ix ss ≡ Has s
  unfolding ruling
  ruling_grows h ix ss s t =
      let m = rule_met d (family h) ix ss s t in
      met_rules e (family h) ix ss s (record {
        rule = m.rule;
        found = rule_grows (family h) ix ss m.rule m.found;
        sort = m.sort;
        one = m.one;
        needs = all_grow m.rule.needs m.needs;
        within = m.within;
        least = all_grow (width_needs m.rule.sort) m.least;
      })

  pub signatures_grow : (gs : List Signature) → All (λ x. All (IsDeclaredSort d) x.args × IsDeclaredSort d x.gives) gs → All (λ x. All (IsDeclaredSort e) x.args × IsDeclaredSort e x.gives) gs
  signatures_grow gs a k x lt = let h = a k x lt in ((λ j y le. declared_sort_grows _ (h.0 j y le)), declared_sort_grows _ h.1)

  pub constraints_grow : (cs : List Constraint) → All (λ c. NamesBelow (widths d) c.floor.parts) cs → All (λ c. NamesBelow (widths e) c.floor.parts) cs
  constraints_grow cs a k x lt = names_grow _ (a k x lt)
