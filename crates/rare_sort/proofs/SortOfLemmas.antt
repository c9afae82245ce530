-- What a ruling tells: the rule, that it is met, and that the sort is one of the declarations.
use Rattle.std.proofs.Common.{◌≡◌, ℕ, zero, suc, ◌+◌, ◌<◌, ◌≤◌, pos, Bool, true, false, ◌&&◌, nat_lt, List, [], ◌∷◌, ◌++◌, length, map, zip, slice_get, All, IsTrue, refl, sym, ap, ◌∙◌, subst, arith, Option, Some, None, if◌then◌else◌, nat_eq}
use Rattle.std.specs.Prelude.{nat_le, negsuc}
use Rattle.std.specs.Option.{option_map, option_and_then}
use Rattle.std.proofs.lemmas.Option.{none-some, same_Some}
use Rattle.std.proofs.lemmas.Bool.{lt-ltb}
use Rattle.rare_linear.specs.Linears.{Part, LinearExpression, NamesBelow, number, add, scale}
use Rattle.rare_linear.specs.Entailment.{minus, IsEntailed}
use Rattle.rare_linear.specs.EntailmentTest.{is_entailed}
use Rattle.rare_linear.proofs.Names.{NamesBelow-add, NamesBelow-scale}
use Rattle.rare_linear.proofs.EntailmentTestLemmas.{is_entailed-Decides}
use Rattle.rare_sort.specs.declared.declarations.Declarations.{Declarations}
use Rattle.rare_sort.specs.declared.head.Head.{Head}
use Rattle.rare_sort.specs.declared.family.Family.{Family}
use Rattle.rare_sort.specs.declared.family.Family.TheVariants as kind
use Rattle.rare_sort.specs.declared.family.Count.{Count}
use Rattle.rare_sort.specs.declared.family.Basic.{Basic}
use Rattle.rare_sort.specs.declared.family.Basic.TheVariants as basic
use Rattle.rare_sort.specs.declared.family.Outcome.{Outcome}
use Rattle.rare_sort.specs.declared.family.Outcome.TheVariants as outcome
use Rattle.rare_sort.specs.declared.sort.Sort.{Sort, Bool as BoolSort, Int, BitVec}
use Rattle.rare_sort.specs.declared.sort.Sort.TheOpen as shape
use Rattle.rare_sort.specs.declared.sort.Sort.TheViews.{roll-Sort, Array}
use Rattle.rare_sort.specs.declared.sort.Signature.{Signature}
use Rattle.rare_sort.specs.declared.ruling.Ruling.{Ruling}
use Rattle.rare_sort.specs.declared.ruling.Ruling.TheVariants.{Ill, Wide, Has}
use denote.Hole.Carrier
use Rattle.rare_sort.specs.Each.{Each}
use Rattle.rare_sort.specs.Sameness.{sort_eq}
use Rattle.rare_sort.specs.Families.{family}
use Rattle.rare_sort.specs.SortRules.{SortRule, gives, basic_sort, outcome_sort, each_is, counts, width, width_needs, boxed, array_parts, less_one, total_from, total, slice_needs, slice_width, product, is_number, sort_rule}
use Rattle.rare_sort.specs.Sorting.{IsOne}
use Rattle.rare_sort.specs.SortLaws.{Gives}
use Rattle.rare_sort.specs.DeclaredSorts.{widths, names_below, follows, all_follow, is_sort, is_sort_step, AreNamed, AreSorts, IsSymbol, AreDeclared, IsDeclaredSort}
use Rattle.rare_sort.specs.Rulings.{all_one, all_within, formed_widths, ruled_by, ruled, ruling_of_family, ruling}
use Rattle.rare_sort.proofs.Options.{if_some, map_some, then_some}
use Rattle.rare_sort.proofs.SamenessLemmas.{sort_eq-Decides}
use Rattle.rare_sort.proofs.NeedsLemmas.{both, and_both, names_of, is_sort-roll, parts_checked, width_fine, entries_checked}
use Rattle.rare_sort.proofs.RulingLemmas.{at_place}

pub if_rule : {X : Type 0} (b : Bool) (o : Option X) (r : X) → (if b then o else None) ≡ Some r → o ≡ Some r
if_rule true o r e = e
if_rule false o r e = cc

-- ---- a rule that is met

pub record IsMet (d : Declarations) (f : Family) (ix : List LinearExpression) (ss : List Sort) (s : Sort) : Type 0 where
  pub rule : SortRule
  pub found : sort_rule (slice_get d.symbols) 2 f ix ss ≡ Some rule
  pub sort : rule.sort ≡ s
  pub one : all_one rule.alike ≡ true
  pub needs : all_follow d rule.needs ≡ true
  pub within : all_within (formed_widths f ss rule.sort) ≡ true
  pub least : all_follow d (width_needs rule.sort) ≡ true

module _ (d : Declarations) (f : Family) (ix : List LinearExpression) (ss : List Sort) where
  -- what a ruling tells
  pub rule_met : (s : Sort) → ruling_of_family d f ix ss ≡ Has s → IsMet d f ix ss s
  rule_met s e = go (sort_rule (slice_get d.symbols) 2 f ix ss) refl e
    where
      by : (r : SortRule) → sort_rule (slice_get d.symbols) 2 f ix ss ≡ Some r → (a b c w : Bool) → all_one r.alike ≡ a → all_follow d r.needs ≡ b → all_within (formed_widths f ss r.sort) ≡ c → all_follow d (width_needs r.sort) ≡ w →
          (if a && b then (if c then (if w then (Has r.sort) else Ill) else Wide) else Ill) ≡ Has s → IsMet d f ix ss s
      by r is true true true true ea eb ec ew h = record { rule = r; found = is; sort = cc; one = ea; needs = eb; within = ec; least = ew }
      by r is true true true false ea eb ec ew h = cc
      by r is true true false w ea eb ec ew h = cc
      by r is true false c w ea eb ec ew h = cc
      by r is false b c w ea eb ec ew h = cc

      go : (o : Option SortRule) → sort_rule (slice_get d.symbols) 2 f ix ss ≡ o → ruled d f ss o ≡ Has s → IsMet d f ix ss s
      go None is h = cc
      go (Some r) is h = by r is (all_one r.alike) (all_follow d r.needs) (all_within (formed_widths f ss r.sort)) (all_follow d (width_needs r.sort)) refl refl refl refl h

-- and the other way
pub met_rules : (d : Declarations) (f : Family) (ix : List LinearExpression) (ss : List Sort) (s : Sort) → IsMet d f ix ss s → ruling_of_family d f ix ss ≡ Has s
met_rules d f ix ss s h =
    ap (ruled d f ss) h.found
    ∙ go (all_one h.rule.alike) (all_follow d h.rule.needs) (all_within (formed_widths f ss h.rule.sort)) (all_follow d (width_needs h.rule.sort)) h.one h.needs h.within h.least
    ∙ ap Has h.sort
  where
    go : (a b c w : Bool) → a ≡ true → b ≡ true → c ≡ true → w ≡ true → (if a && b then (if c then (if w then (Has h.rule.sort) else Ill) else Wide) else Ill) ≡ Has h.rule.sort
    go true true true true ea eb ec ew = refl
    go true true true false ea eb ec ew = cc
    go true true false w ea eb ec ew = cc
    go true false c w ea eb ec ew = cc
    go false b c w ea eb ec ew = cc

-- ---- to the laws of sorts

one_each : (es : List (Sort × Sort)) → all_one es ≡ true → Each IsOne es
one_each [] h = tt
one_each (e ∷ es) h = let x = both _ _ h in ((sort_eq-Decides e.0 e.1).0 x.0, one_each es x.1)

unfolded : (d : Declarations) (e : LinearExpression) → follows d e ≡ true → IsEntailed (λ k. pos 1) d.constraints e
unfolding follows
unfolded d e h = (is_entailed-Decides (λ k. pos 1) d.constraints e).0 h

follow_each : (d : Declarations) (es : List LinearExpression) → all_follow d es ≡ true → Each (IsEntailed (λ k. pos 1) d.constraints) es
follow_each d [] h = tt
follow_each d (e ∷ es) h = let x = both _ _ h in (unfolded d e x.0, follow_each d es x.1)

pub gives_of : (d : Declarations) (h : Head) (ix : List LinearExpression) (ss : List Sort) (s : Sort) → ruling d h ix ss ≡ Has s → Gives (slice_get d.symbols) (λ k. pos 1) d.constraints h ix ss s
unfolding ruling
gives_of d h ix ss s e =
    let m = rule_met d (family h) ix ss s e in record {
      rule = m.rule;
      found = m.found;
      sort = m.sort;
      same = one_each m.rule.alike m.one;
      needs = follow_each d m.rule.needs m.needs;
      widths = follow_each d (width_needs m.rule.sort) m.least;
    }

-- ---- the sort is one of the declarations

below_of : (n : ℕ) (ps : List Part) → NamesBelow n ps → names_below n ps ≡ true
below_of n [] h = refl
below_of n (p ∷ ps) h = and_both _ _ (lt-ltb _ _ h.0) (below_of n ps h.1)

module _ (d : Declarations) where
  abbrev Named : LinearExpression → Type 0
  Named w = NamesBelow (widths d) w.parts

  word_is_sort : (w : LinearExpression) → Named w → all_follow d (width_needs (BitVec w)) ≡ true → is_sort d (BitVec w) ≡ true
  unfolding roll-Sort Carrier.roll
  word_is_sort w named h = is_sort-roll d (shape.BitVec w) ∙ and_both _ _ (below_of (widths d) w.parts named) (both _ _ h).0

  pub basic_is_sort : (b : Basic) → is_sort d (basic_sort b) ≡ true
  unfolding roll-Sort Carrier.roll
  basic_is_sort basic.Bool = is_sort-roll d shape.Bool
  basic_is_sort basic.Int = is_sort-roll d shape.Int

  add_named : (a b : LinearExpression) → Named a → Named b → Named (add a b)
  add_named a b p q = NamesBelow-add (widths d) a b p q

  scale_named : (k : _) (a : LinearExpression) → Named a → Named (scale k a)
  scale_named k a p = NamesBelow-scale (widths d) k a p

  minus_named : (a b : LinearExpression) → Named a → Named b → Named (minus a b)
  minus_named a b p q = add_named a (scale (negsuc 0) b) p (scale_named (negsuc 0) b q)

  width_named : (s : Sort) (w : LinearExpression) → is_sort d s ≡ true → width s ≡ Some w → Named w
  width_named s w h e = (width_fine d s w h e).named

  array_named : (m : Sort) (p : Sort × Sort) → is_sort d m ≡ true → array_parts m ≡ Some p → is_sort d p.1 ≡ true
  array_named m p h e = entries_checked d m p h e

  -- a sort that a rule gives, where each of its widths is at least 1
  abbrev IsFine : SortRule → Type 0
  IsFine r = all_follow d (width_needs r.sort) ≡ true → is_sort d r.sort ≡ true

  found_fine : (o : Option SortRule) (r : SortRule) → o ≡ Some r → ((q : SortRule) → o ≡ Some q → IsFine q) → IsFine r
  found_fine o r e h = h r e

  total_named : (z : LinearExpression) (ss : List Sort) (w : LinearExpression) → Named z → AreSorts d ss → total_from z ss ≡ Some w → Named w
  total_named z [] w hz fine e = subst Named (same_Some z w e) hz
  total_named z (s ∷ ss) w hz fine e =
      let q = then_some (λ m. total_from (add z m) ss) (width s) w e in
      total_named (add z q.0) ss w (add_named z q.0 hz (width_named s q.0 (fine 0 s (omega arith)) q.1)) (λ k x lt. fine (suc k) x (omega arith)) q.2

  product_named : (k m w : LinearExpression) → Named k → Named m → product k m ≡ Some w → Named w
  product_named k m w hk hm e = go (is_number k) (is_number m) e
    where
      go : (a b : Bool) → (if a then (Some (scale k.constant m)) else (if b then (Some (scale m.constant k)) else None)) ≡ Some w → Named w
      go true b h = subst Named (same_Some _ w h) (scale_named k.constant m hm)
      go false true h = subst Named (same_Some _ w h) (scale_named m.constant k hk)
      go false false h = cc

  module _ (decl : AreDeclared d) where
    plain_fine : (s : Sort) (es : List (Sort × Sort)) (ns : List LinearExpression) (r : SortRule) → is_sort d s ≡ true → gives s es ns ≡ r → IsFine r
    plain_fine s es ns r h e w = subst (λ (x : SortRule). is_sort d x.sort ≡ true) e h

    formed_fine : (w : LinearExpression) (es : List (Sort × Sort)) (ns : List LinearExpression) (r : SortRule) → Named w → gives (BitVec w) es ns ≡ r → IsFine r
    formed_fine w es ns r named e h = subst (λ (x : SortRule). is_sort d x.sort ≡ true) e (word_is_sort w named (subst (λ (x : SortRule). all_follow d (width_needs x.sort) ≡ true) (sym e) h))

    outcome_fine : (o : Outcome) (w : LinearExpression) (es : List (Sort × Sort)) (r : SortRule) → Named w → gives (outcome_sort o w) es [] ≡ r → IsFine r
    outcome_fine outcome.SameWidth w es r named e = formed_fine w es [] r named e
    outcome_fine outcome.OneBit w es r named e = formed_fine (number (pos 1)) es [] r tt e
    outcome_fine outcome.Bool w es r named e = plain_fine BoolSort es [] r (basic_is_sort basic.Bool) e

    pub rule_fine : (f : Family) (ix : List LinearExpression) (ss : List Sort) (r : SortRule) → AreSorts d ss → AreNamed (widths d) ix → IsSymbol (length d.symbols) f →
        sort_rule (slice_get d.symbols) 2 f ix ss ≡ Some r → IsFine r
    rule_fine (kind.Fixed c a b) [] ss r fine names symbol e =
        plain_fine (basic_sort b) (each_is (basic_sort a) ss) [] r (basic_is_sort b) (if_some (counts c 2 (length ss)) (gives (basic_sort b) (each_is (basic_sort a) ss) []) r e).1
    rule_fine kind.Alike [] (s ∷ ss) r fine names symbol e =
        plain_fine BoolSort (each_is s ss) [] r (basic_is_sort basic.Bool) (if_some (nat_le 2 (length (s ∷ ss))) (gives BoolSort (each_is s ss) []) r e).1
    rule_fine kind.Choice [] (c ∷ s ∷ t ∷ []) r fine names symbol e = plain_fine s ((c, BoolSort) ∷ (t, s) ∷ []) [] r (fine 1 s (omega arith)) (same_Some _ r e)
    rule_fine kind.Select [] (m ∷ k ∷ []) r fine names symbol e =
        let q = map_some (λ p. gives p.1 ((k, p.0) ∷ []) []) (array_parts m) r e in
        plain_fine q.0.1 ((k, q.0.0) ∷ []) [] r (array_named m q.0 (fine 0 m (omega arith)) q.1) q.2
    rule_fine kind.Store [] (m ∷ k ∷ v ∷ []) r fine names symbol e =
        let q = map_some (λ p. gives m ((k, p.0) ∷ (v, p.1) ∷ []) []) (array_parts m) r e in
        plain_fine m ((k, q.0.0) ∷ (v, q.0.1) ∷ []) [] r (fine 0 m (omega arith)) q.2
    rule_fine (kind.BitVectors c o) [] (s ∷ ss) r fine names symbol e =
        let q = if_rule (counts c 2 (length (s ∷ ss))) (option_map (λ w. gives (outcome_sort o w) (each_is s ss) []) (width s)) r e in
        let p = map_some (λ w. gives (outcome_sort o w) (each_is s ss) []) (width s) r q in
        outcome_fine o p.0 (each_is s ss) r (width_named s p.0 (fine 0 s (omega arith)) p.1) p.2
    rule_fine kind.Concat [] ss r fine names symbol e =
        let q = if_rule (nat_le 2 (length ss)) (option_map (λ w. gives (BitVec w) [] []) (total ss)) r e in
        let p = map_some (λ w. gives (BitVec w) [] []) (total ss) r q in
        formed_fine p.0 [] [] r (total_named (number (pos 0)) ss p.0 tt fine p.1) p.2
    rule_fine kind.Extract (j ∷ i ∷ []) (s ∷ []) r fine names symbol e =
        let p = map_some (λ m. gives (BitVec (slice_width j i)) [] (slice_needs j i m)) (width s) r e in
        formed_fine (slice_width j i) [] (slice_needs j i p.0) r (add_named (minus j i) (number (pos 1)) (minus_named j i (names 0 j (omega arith)) (names 1 i (omega arith))) tt) p.2
    rule_fine kind.Extend (k ∷ []) (s ∷ []) r fine names symbol e =
        let p = map_some (λ m. gives (BitVec (add m k)) [] (k ∷ [])) (width s) r e in
        formed_fine (add p.0 k) [] (k ∷ []) r (add_named p.0 k (width_named s p.0 (fine 0 s (omega arith)) p.1) (names 0 k (omega arith))) p.2
    rule_fine kind.Rotate (k ∷ []) (s ∷ []) r fine names symbol e =
        let p = map_some (λ m. gives s [] (k ∷ [])) (width s) r e in plain_fine s [] (k ∷ []) r (fine 0 s (omega arith)) p.2
    rule_fine kind.Repeat (k ∷ []) (s ∷ []) r fine names symbol e =
        let p = map_some (λ w. gives (BitVec w) [] (less_one k ∷ [])) (option_and_then (λ m. product k m) (width s)) r e in
        let q = then_some (λ m. product k m) (width s) p.0 p.1 in
        formed_fine p.0 [] (less_one k ∷ []) r (product_named k q.0 p.0 (names 0 k (omega arith)) (width_named s q.0 (fine 0 s (omega arith)) q.1) q.2) p.2
    rule_fine kind.Bits (w ∷ []) [] r fine names symbol e = formed_fine w [] (less_one w ∷ []) r (names 0 w (omega arith)) (same_Some _ r e)
    rule_fine kind.Literal (v ∷ w ∷ []) [] r fine names symbol e = formed_fine w [] (less_one w ∷ []) r (names 1 w (omega arith)) (same_Some _ r e)
    rule_fine (kind.Symbol k) [] ss r fine names symbol e =
        let q = then_some (λ (g : Signature). if nat_eq (length ss) (length g.args) then (Some (gives g.gives (zip ss g.args) [])) else None) (slice_get d.symbols k) r e in
        let p = if_some (nat_eq (length ss) (length q.0.args)) (gives q.0.gives (zip ss q.0.args) []) r q.2 in
        plain_fine q.0.gives (zip ss q.0.args) [] r (at_place (λ (g : Signature). All (IsDeclaredSort d) g.args × IsDeclaredSort d g.gives) d.symbols decl.symbols k q.0 q.1).1.declared p.1
    rule_fine f ix ss r fine names symbol e = cc

    pub has_fine : (h : Head) (ix : List LinearExpression) (ss : List Sort) (s : Sort) → AreSorts d ss → AreNamed (widths d) ix → IsSymbol (length d.symbols) (family h) → ruling d h ix ss ≡ Has s → is_sort d s ≡ true
    unfolding ruling
    has_fine h ix ss s fine names symbol e =
        let m = rule_met d (family h) ix ss s e in
        subst (λ x. is_sort d x ≡ true) m.sort (rule_fine (family h) ix ss m.rule fine names symbol m.found m.least)
