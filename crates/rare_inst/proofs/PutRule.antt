-- The rule of sorts after names were replaced: the sort, and what it asks for, are those that the replacement gives.
use Rattle.std.proofs.Common.{◌≡◌, ℕ, suc, List, [], ◌∷◌, map, length, Bool as Test, true, false, refl, sym, ap, ◌∙◌, subst}
use Rattle.std.specs.Prelude.{ℤ, pos, ◌*ℤ◌, nat_le, Option, Some, None, if◌then◌else◌}
use Rattle.std.specs.Option.{option_map, option_and_then}
use Rattle.std.proofs.Math.IntN.{*ℤ_comm, +ℤ_idr}
use Rattle.rare_linear.specs.Linears.{Part, LinearExpression, linear, number, add, scale, substitute}
use Rattle.rare_linear.specs.Entailment.{minus}
use Rattle.rare_linear.proofs.LinearLemmas.{value-scale}
use Rattle.rare_sort.specs.SortRules.{basic_sort, boxed, width, array_parts, less_one, SortRule, gives, each_is, counts, outcome_sort, total_from, total, product, slice_width, slice_needs, sort_rule, no_names, is_number}
use Rattle.rare_sort.specs.declared.family.Family.{Family}
use Rattle.rare_sort.specs.declared.family.Family.TheVariants as kind
use Rattle.rare_sort.specs.declared.family.Count.{Count}
use Rattle.rare_sort.specs.declared.family.Basic.{Basic}
use Rattle.rare_sort.specs.declared.family.Basic.TheVariants as basic
use Rattle.rare_sort.specs.declared.family.Outcome.{Outcome}
use Rattle.rare_sort.specs.declared.family.Outcome.TheVariants as outcome
use Rattle.rare_sort.specs.declared.sort.Signature.{Signature}
use Rattle.rare_sort.specs.declared.sort.Sort.{Sort, Bool, Int, BitVec, Array', Named, Row_of-Sort, end_of-Sort, more_of-Sort}
use Rattle.rare_sort.proofs.Options.{if_some, map_some, then_some}
use Rattle.rare_inst.specs.Substituting.{put_sort, put_boxed}
use Rattle.rare_inst.proofs.NormalLemmas.{IsNormalForm, normal-number, normal-scale, same_form, put-add, put-scale, put-minus}

pub if_is : {X : Type 0} (b : Test) (x : X) → b ≡ true → (if b then (Some x) else None) ≡ Some x
if_is b x e = rw e refl

pub counted : (ss : List Sort) (f : Sort → Sort) → length (map f ss) ≡ length ss
counted [] f = refl
counted (s ∷ ss) f = ap suc (counted ss f)

module _ (a : ℕ → LinearExpression) (names : ℕ → Sort) where
  abbrev pub put_both : Sort × Sort → Sort × Sort
  put_both e = (put_sort a names e.0, put_sort a names e.1)

  abbrev pub put_rule : SortRule → SortRule
  put_rule r = gives (put_sort a names r.sort) (map put_both r.alike) (map (substitute a) r.needs)

  pub put-basic : (b : Basic) → put_sort a names (basic_sort b) ≡ basic_sort b
  put-basic basic.Bool = refl
  put-basic basic.Int = refl

  put-boxed : {n : _} (k : Row_of-Sort n) → boxed (put_boxed a names k) ≡ put_sort a names (boxed k)
  put-boxed end_of-Sort = refl
  put-boxed (more_of-Sort s rest) = refl

  pub put-width : (s : Sort) (w : LinearExpression) → width s ≡ Some w → width (put_sort a names s) ≡ Some (substitute a w)
  put-width Bool w e = cc
  put-width Int w e = cc
  put-width (BitVec v) w e = let same : v ≡ w = cc in ap (λ z. Some (substitute a z)) same
  put-width (Array' p k q m) w e = cc
  put-width (Named k) w e = cc

  put-parts : (s : Sort) (p : Sort × Sort) → array_parts s ≡ Some p → array_parts (put_sort a names s) ≡ Some (put_both p)
  put-parts Bool p e = cc
  put-parts Int p e = cc
  put-parts (BitVec v) p e = cc
  put-parts (Array' x k y m) p e =
      let same : (boxed k, boxed m) ≡ p = cc in
      (λ i. Some (put-boxed k i, put-boxed m i)) ∙ ap (λ z. Some (put_both z)) same
  put-parts (Named k) p e = cc

  pub put-each : (s : Sort) (ss : List Sort) → each_is (put_sort a names s) (map (put_sort a names) ss) ≡ map put_both (each_is s ss)
  put-each s [] = refl
  put-each s (t ∷ ts) = ap (λ z. put_both (t, s) ∷ z) (put-each s ts)

  put-basic_each : (b : Basic) (ss : List Sort) → each_is (basic_sort b) (map (put_sort a names) ss) ≡ map put_both (each_is (basic_sort b) ss)
  put-basic_each b ss = ap (λ z. each_is z (map (put_sort a names) ss)) (sym (put-basic b)) ∙ put-each (basic_sort b) ss

  module _ (normal : (k : ℕ) → IsNormalForm (a k)) where
    pub put-less_one : (e : LinearExpression) → substitute a (less_one e) ≡ less_one (substitute a e)
    put-less_one e = put-minus a normal e (number (pos 1))

    put-slice_width : (j i : LinearExpression) → substitute a (slice_width j i) ≡ slice_width (substitute a j) (substitute a i)
    put-slice_width j i = put-add a normal (minus j i) (number (pos 1)) ∙ ap (λ z. add z (number (pos 1))) (put-minus a normal j i)

    put-slice_needs : (j i m : LinearExpression) → map (substitute a) (slice_needs j i m) ≡ slice_needs (substitute a j) (substitute a i) (substitute a m)
    put-slice_needs j i m =
        let low = put-minus a normal j i in
        let high : substitute a (minus (less_one m) j) ≡ minus (less_one (substitute a m)) (substitute a j) = put-minus a normal (less_one m) j ∙ ap (λ z. minus z (substitute a j)) (put-less_one m) in
        λ x. substitute a i ∷ low x ∷ high x ∷ []

    put-outcome : (o : Outcome) (w : LinearExpression) → put_sort a names (outcome_sort o w) ≡ outcome_sort o (substitute a w)
    put-outcome outcome.SameWidth w = refl
    put-outcome outcome.OneBit w = refl
    put-outcome outcome.Bool w = refl

    put-total_from : (ss : List Sort) (sum w : LinearExpression) → total_from sum ss ≡ Some w → total_from (substitute a sum) (map (put_sort a names) ss) ≡ Some (substitute a w)
    put-total_from [] sum w e = let same : sum ≡ w = cc in ap (λ z. Some (substitute a z)) same
    put-total_from (s ∷ ss) sum w e =
        let q = then_some (λ v. total_from (add sum v) ss) (width s) w e in
        let rest = put-total_from ss (add sum q.0) w q.2 in
        rw (put-width s q.0 q.1) (subst (λ z. total_from z (map (put_sort a names) ss) ≡ Some (substitute a w)) (put-add a normal sum q.0) rest)

    pub put-total : (ss : List Sort) (w : LinearExpression) → total ss ≡ Some w → total (map (put_sort a names) ss) ≡ Some (substitute a w)
    put-total ss w e = put-total_from ss (number (pos 0)) w e

    put-number : (k : LinearExpression) → is_number k ≡ true → substitute a k ≡ number k.constant
    put-number k e = go k.parts e
      where
        go : (ps : List Part) → no_names ps ≡ true → substitute a (linear k.constant ps) ≡ number k.constant
        go [] e = refl
        go (p ∷ ps) e = cc

    number_is : (k : LinearExpression) → is_number k ≡ true → k ≡ number k.constant
    number_is k e = go k.parts e
      where
        go : (ps : List Part) → no_names ps ≡ true → linear k.constant ps ≡ number k.constant
        go [] e = refl
        go (p ∷ ps) e = cc

    swap_numbers : (c d : ℤ) → scale c (number d) ≡ scale d (number c)
    swap_numbers c d =
        same_form _ _ (normal-scale c (number d) (normal-number d)) (normal-scale d (number c) (normal-number c))
        (λ at. value-scale at c (number d) ∙ ap (λ z. c *ℤ z) (+ℤ_idr d) ∙ *ℤ_comm c d ∙ sym (value-scale at d (number c) ∙ ap (λ z. d *ℤ z) (+ℤ_idr c)))

    put-product : (k m p : LinearExpression) → product k m ≡ Some p → product (substitute a k) (substitute a m) ≡ Some (substitute a p)
    put-product k m p e = by (is_number k) (is_number m) refl refl e
      where
        K : LinearExpression
        K = substitute a k

        later : (b : Test) → is_number K ≡ b → is_number m ≡ true → (if b then (Some (scale K.constant (substitute a m))) else (if is_number (substitute a m) then (Some (scale (substitute a m).constant K)) else None)) ≡ Some (scale m.constant K)
        later true kb mb = ap (λ z. Some z) (ap (λ z. scale K.constant z) (put-number m mb) ∙ swap_numbers K.constant m.constant ∙ ap (λ z. scale m.constant z) (sym (number_is K kb)))
        later false kb mb = rw (put-number m mb) refl

        by : (b c : Test) → is_number k ≡ b → is_number m ≡ c → (if b then (Some (scale k.constant m)) else (if c then (Some (scale m.constant k)) else None)) ≡ Some p → product K (substitute a m) ≡ Some (substitute a p)
        by true c kb mb e =
            let same : scale k.constant m ≡ p = cc in
            rw (put-number k kb) (ap (λ z. Some z) (sym (put-scale a normal k.constant m)) ∙ ap (λ z. Some (substitute a z)) same)
        by false true kb mb e =
            let same : scale m.constant k ≡ p = cc in
            later (is_number K) refl mb ∙ ap (λ z. Some z) (sym (put-scale a normal m.constant k)) ∙ ap (λ z. Some (substitute a z)) same
        by false false kb mb e = cc

    module _ (symbols : ℕ → Option Signature) (least : ℕ) where
      abbrev Put : Family → List LinearExpression → List Sort → Type 0
      Put f ix ss = (r : SortRule) → sort_rule (λ k. None) least f ix ss ≡ Some r → sort_rule symbols least f (map (substitute a) ix) (map (put_sort a names) ss) ≡ Some (put_rule r)

      -- what is chosen by a test on the number of arguments
      chosen : (b c : Test) (x r : SortRule) (y : SortRule) → b ≡ c → y ≡ put_rule x → (if b then (Some x) else None) ≡ Some r → (if c then (Some y) else None) ≡ Some (put_rule r)
      chosen b c x r y same is e =
          let q = if_some b x r e in
          if_is c y (sym same ∙ q.0) ∙ ap (λ z. Some z) (is ∙ ap put_rule q.1)

      put_fixed : (c : Count) (s t : Basic) (ix : List LinearExpression) (ss : List Sort) → Put (kind.Fixed c s t) ix ss
      put_fixed c s t [] ss r e =
          chosen _ _ (gives (basic_sort t) (each_is (basic_sort s) ss) []) r (gives (basic_sort t) (each_is (basic_sort s) (map (put_sort a names) ss)) []) (ap (counts c least) (sym (counted ss (put_sort a names))))
          (λ i. gives (sym (put-basic t) i) (put-basic_each s ss i) []) e
      put_fixed c s t (x ∷ ix) ss r e = cc

      put_alike : (ix : List LinearExpression) (ss : List Sort) → Put kind.Alike ix ss
      put_alike [] (s ∷ ss) r e =
          chosen _ _ (gives Bool (each_is s ss) []) r (gives Bool (each_is (put_sort a names s) (map (put_sort a names) ss)) []) (ap (nat_le least) (sym (counted (s ∷ ss) (put_sort a names))))
          (λ i. gives Bool (put-each s ss i) []) e
      put_alike [] [] r e = cc
      put_alike (x ∷ ix) ss r e = cc

      put_choice : (ix : List LinearExpression) (ss : List Sort) → Put kind.Choice ix ss
      put_choice [] (c ∷ s ∷ t ∷ []) r e = let same : gives s ((c, Bool) ∷ (t, s) ∷ []) [] ≡ r = cc in ap (λ z. Some (put_rule z)) same
      put_choice ix ss r e = cc

      -- what a part of a sort is mapped to
      mapped : {X : Type 0} (f g : X → SortRule) (o p : Option X) (move : X → X) (r : SortRule) →
          ((x : X) → o ≡ Some x → p ≡ Some (move x)) → ((x : X) → g (move x) ≡ put_rule (f x)) → option_map f o ≡ Some r → option_map g p ≡ Some (put_rule r)
      mapped f g o p move r found is e =
          let q = map_some f o r e in
          ap (option_map g) (found q.0 q.1) ∙ ap (λ z. Some z) (is q.0 ∙ ap put_rule q.2)

      put_select : (ix : List LinearExpression) (ss : List Sort) → Put kind.Select ix ss
      put_select [] (m ∷ k ∷ []) r e = mapped (λ p. gives p.1 ((k, p.0) ∷ []) []) _ (array_parts m) _ put_both r (put-parts m) (λ p. refl) e
      put_select ix ss r e = cc

      put_store : (ix : List LinearExpression) (ss : List Sort) → Put kind.Store ix ss
      put_store [] (m ∷ k ∷ v ∷ []) r e = mapped (λ p. gives m ((k, p.0) ∷ (v, p.1) ∷ []) []) _ (array_parts m) _ put_both r (put-parts m) (λ p. refl) e
      put_store ix ss r e = cc

      put_bit_vectors : (c : Count) (o : Outcome) (ix : List LinearExpression) (ss : List Sort) → Put (kind.BitVectors c o) ix ss
      put_bit_vectors c o [] (s ∷ ss) r e = go (counts c least (length (s ∷ ss))) refl e
        where
          go : (b : Test) → counts c least (length (s ∷ ss)) ≡ b → (if b then (option_map (λ w. gives (outcome_sort o w) (each_is s ss) []) (width s)) else None) ≡ Some r →
              sort_rule symbols least (kind.BitVectors c o) [] (map (put_sort a names) (s ∷ ss)) ≡ Some (put_rule r)
          go true h e =
              rw (ap (counts c least) (counted (s ∷ ss) (put_sort a names)) ∙ h)
              (mapped (λ w. gives (outcome_sort o w) (each_is s ss) []) (λ w. gives (outcome_sort o w) (each_is (put_sort a names s) (map (put_sort a names) ss)) []) (width s) (width (put_sort a names s)) (substitute a) r (put-width s) (λ w. λ i. gives (sym (put-outcome o w) i) (put-each s ss i) []) e)
          go false h e = cc
      put_bit_vectors c o ix ss r e = cc

      put_concat : (ix : List LinearExpression) (ss : List Sort) → Put kind.Concat ix ss
      put_concat [] ss r e = go (nat_le least (length ss)) refl e
        where
          go : (b : Test) → nat_le least (length ss) ≡ b → (if b then (option_map (λ w. gives (BitVec w) [] []) (total ss)) else None) ≡ Some r →
              sort_rule symbols least kind.Concat [] (map (put_sort a names) ss) ≡ Some (put_rule r)
          go true h e =
              rw (ap (nat_le least) (counted ss (put_sort a names)) ∙ h)
              (mapped (λ w. gives (BitVec w) [] []) (λ w. gives (BitVec w) [] []) (total ss) (total (map (put_sort a names) ss)) (substitute a) r (put-total ss) (λ w. refl) e)
          go false h e = cc
      put_concat (x ∷ ix) ss r e = cc

      put_extract : (ix : List LinearExpression) (ss : List Sort) → Put kind.Extract ix ss
      put_extract (j ∷ i ∷ []) (s ∷ []) r e =
          mapped (λ m. gives (BitVec (slice_width j i)) [] (slice_needs j i m)) _ (width s) _ (substitute a) r (put-width s)
          (λ m. λ x. gives (BitVec (sym (put-slice_width j i) x)) [] (sym (put-slice_needs j i m) x)) e
      put_extract ix ss r e = cc

      put_extend : (ix : List LinearExpression) (ss : List Sort) → Put kind.Extend ix ss
      put_extend (k ∷ []) (s ∷ []) r e =
          mapped (λ m. gives (BitVec (add m k)) [] (k ∷ [])) _ (width s) _ (substitute a) r (put-width s)
          (λ m. λ x. gives (BitVec (sym (put-add a normal m k) x)) [] (substitute a k ∷ [])) e
      put_extend ix ss r e = cc

      put_rotate : (ix : List LinearExpression) (ss : List Sort) → Put kind.Rotate ix ss
      put_rotate (k ∷ []) (s ∷ []) r e = mapped (λ m. gives s [] (k ∷ [])) _ (width s) _ (substitute a) r (put-width s) (λ m. refl) e
      put_rotate ix ss r e = cc

      put_repeat : (ix : List LinearExpression) (ss : List Sort) → Put kind.Repeat ix ss
      put_repeat (k ∷ []) (s ∷ []) r e =
          mapped (λ w. gives (BitVec w) [] (less_one k ∷ [])) _ (option_and_then (λ m. product k m) (width s)) _ (substitute a) r
          (λ w h.
          let q = then_some (λ m. product k m) (width s) w h in
          ap (option_and_then (λ m. product (substitute a k) m)) (put-width s q.0 q.1) ∙ put-product k q.0 w q.2)
          (λ w. λ x. gives (BitVec (substitute a w)) [] (sym (put-less_one k) x ∷ [])) e
      put_repeat ix ss r e = cc

      put_bits : (ix : List LinearExpression) (ss : List Sort) → Put kind.Bits ix ss
      put_bits (w ∷ []) [] r e =
          let same : gives (BitVec w) [] (less_one w ∷ []) ≡ r = cc in
          (λ x. Some (gives (BitVec (substitute a w)) [] (sym (put-less_one w) x ∷ []))) ∙ ap (λ z. Some (put_rule z)) same
      put_bits ix ss r e = cc

      put_literal : (ix : List LinearExpression) (ss : List Sort) → Put kind.Literal ix ss
      put_literal (v ∷ w ∷ []) [] r e =
          let same : gives (BitVec w) [] (less_one w ∷ []) ≡ r = cc in
          (λ x. Some (gives (BitVec (substitute a w)) [] (sym (put-less_one w) x ∷ []))) ∙ ap (λ z. Some (put_rule z)) same
      put_literal ix ss r e = cc

      put_symbol : (k : ℕ) (ix : List LinearExpression) (ss : List Sort) → Put (kind.Symbol k) ix ss
      put_symbol k [] ss r e = cc
      put_symbol k (x ∷ ix) ss r e = cc

      put_of_rules : (ix : List LinearExpression) (ss : List Sort) → Put kind.OfRules ix ss
      put_of_rules ix ss r e = cc

      pub put-rule : (f : Family) (ix : List LinearExpression) (ss : List Sort) → Put f ix ss
      put-rule (kind.Fixed c s t) = put_fixed c s t
      put-rule kind.Alike = put_alike
      put-rule kind.Choice = put_choice
      put-rule kind.Select = put_select
      put-rule kind.Store = put_store
      put-rule (kind.BitVectors c o) = put_bit_vectors c o
      put-rule kind.Concat = put_concat
      put-rule kind.Extract = put_extract
      put-rule kind.Extend = put_extend
      put-rule kind.Rotate = put_rotate
      put-rule kind.Repeat = put_repeat
      put-rule kind.Bits = put_bits
      put-rule kind.Literal = put_literal
      put-rule (kind.Symbol k) = put_symbol k
      put-rule kind.OfRules = put_of_rules
