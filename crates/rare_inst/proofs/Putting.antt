-- Expressions with what stands for their names, as the code forms them.
use Rattle.std.proofs.Common.{◌≡◌, ℕ, ◌+◌, ◌<◌, Bool, true, false, ◌&&◌, List, [], ◌∷◌, ◌++◌, length, map, drop, append_assoc, get_or, slice_get, Option, Some, None, refl, sym, ap, ◌∙◌, subst, if◌then◌else◌}
use Rattle.std.proofs.lemmas.List.{drop_more, get_or_default}
use Rattle.std.proofs.lemmas.List.Elements.{All-push}
use Rattle.std.proofs.lemmas.Option.{get_or_from_slice_get, same_Some}
use Rattle.std.specs.List.{list_all}
use Rattle.std.specs.Option.{option_map}
use Rattle.std.specs.Prelude.{pos}
use Rattle.rare_linear.specs.Linears.{Part, LinearExpression, NamesBelow, number, add, scale, substitute, substitute_from, value_at}
use Rattle.rare_linear.specs.EntailmentTest.{is_within}
use Rattle.rare_linear.specs.PartialSums.{SumsFit, PartialSumsFit}
use Rattle.rare_linear.proofs.EntailmentTestLemmas.{is_within-Decides}
use Rattle.rare_sort.specs.DeclaredSorts.{AreNamed}
use Rattle.rare_inst.specs.Substituting.{Substitution, sums_within, is_put_within}
use Rattle.rare_inst.specs.declared.substitution.Numbers.{Numbers}
use Rattle.rare_inst.specs.inner.Standing.{formed_at, all_formed, put_within, put_all_within, StandsFor}

both : (b c : Bool) → (b && c) ≡ true → (b ≡ true) × (c ≡ true)
both true c e = (refl, e)
both false c e = cc

-- an item that is lent from a list is the one at its place
pub item_is : {X : Type 0} (xs : List X) (i : ℕ) (x d : X) → i < length xs → x ≡ get_or xs i x → get_or xs i d ≡ x
item_is xs i x d lt e = get_or_default xs i d x lt ∙ sym e

module _ (a : Substitution) (n : Numbers) (stands : StandsFor a n) where
  abbrev values : ℕ → LinearExpression
  values k = value_at n.values k

  record AreKnown (sum : LinearExpression) (ps : List Part) : Type 0 where
    same : substitute_from a.number sum ps ≡ substitute_from values sum ps
    fits : SumsFit values sum ps → sums_within a sum ps ≡ true
    within : sums_within a sum ps ≡ true → SumsFit values sum ps

  known : (sum : LinearExpression) (ps : List Part) → NamesBelow (length n.values) ps → all_formed n.formed ps ≡ true → AreKnown sum ps
  known sum [] below formed = record { same = refl; fits = λ h. (is_within-Decides sum).1 h; within = λ e. (is_within-Decides sum).0 e }
  known sum (p ∷ ps) below formed =
      let f = both (formed_at n.formed p.0) (all_formed n.formed ps) formed in
      let is : a.number p.0 ≡ values p.0 = stands.number p.0 below.0 f.0 in
      let is_formed : a.is_formed p.0 ≡ true = stands.formed p.0 below.0 ∙ f.0 in
      let at : LinearExpression → LinearExpression = λ v. add sum (scale p.1 v) in
      let rest = known (at (values p.0)) ps below.1 f.1 in
      record {
        same = ap (λ v. substitute_from a.number (at v) ps) is ∙ rest.same;
        fits = λ h. rw (is, is_formed, (is_within-Decides sum).1 h.0) (rest.fits h.1);
        within = λ e.
            let x = both (is_within sum) (a.is_formed p.0 && sums_within a (at (a.number p.0)) ps) e in
            let y = both (a.is_formed p.0) (sums_within a (at (a.number p.0)) ps) x.1 in
            ((is_within-Decides sum).0 x.0, rest.within (ap (λ v. sums_within a (at v) ps) (sym is) ∙ y.1));
      }

  unknown : (sum : LinearExpression) (ps : List Part) → NamesBelow (length n.values) ps → all_formed n.formed ps ≡ false → sums_within a sum ps ≡ false
  unknown sum [] below formed = cc
  unknown sum (p ∷ ps) below formed =
      go (is_within sum) (formed_at n.formed p.0) (all_formed n.formed ps) (stands.formed p.0 below.0) formed
      (λ e. unknown (add sum (scale p.1 (a.number p.0))) ps below.1 e)
    where
      rest : Bool
      rest = sums_within a (add sum (scale p.1 (a.number p.0))) ps

      go : (w f r : Bool) → a.is_formed p.0 ≡ f → (f && r) ≡ false → (r ≡ false → rest ≡ false) → (w && (a.is_formed p.0 && rest)) ≡ false
      go false f r is e h = refl
      go true false r is e h = ap (λ b. b && rest) is
      go true true r is e h = rw is (h e)

  by_test : (e : LinearExpression) (b : Bool) → is_put_within a e ≡ b → put_within a e ≡ (if b then (Some (substitute a.number e)) else None)
  by_test e b h = ap (λ t. if t then (Some (substitute a.number e)) else None) h

  module _ (e : LinearExpression) (below : NamesBelow (length n.values) e.parts) where
    pub put_unformed : all_formed n.formed e.parts ≡ false → None ≡ put_within a e
    put_unformed h = sym (by_test e false (unknown (number e.constant) e.parts below h))

    module _ (h : all_formed n.formed e.parts ≡ true) where
      pub put_is : (s : LinearExpression) → s ≡ substitute values e → PartialSumsFit values e → Some s ≡ put_within a e
      put_is s is fits =
          let k = known (number e.constant) e.parts below h in
          ap Some (is ∙ sym k.same) ∙ sym (by_test e true (k.fits fits))

      pub put_not : ¬ PartialSumsFit values e → None ≡ put_within a e
      put_not beyond = sym (by_test e false (not_true (is_put_within a e) (λ t. beyond ((known (number e.constant) e.parts below h).within t))))
        where
          not_true : (b : Bool) → (b ≡ true → ⊥) → b ≡ false
          not_true true h = absurd (h refl)
          not_true false h = refl

-- a name at the front of what is left
module _ (formed : List Bool) (values : List LinearExpression) (ps : List Part) (i : ℕ) (b : Bool) (lt : i < length ps)
    (there : slice_get formed (get_or ps i (0, pos 0)).0 ≡ Some b) where
  rest : drop i ps ≡ get_or ps i (0, pos 0) ∷ drop (i + 1) ps
  rest = drop_more ps i (0, pos 0) lt

  here : formed_at formed (get_or ps i (0, pos 0)).0 ≡ b
  here = get_or_from_slice_get formed (get_or ps i (0, pos 0)).0 b true there

  pub name_below : NamesBelow (length values) (drop i ps) → ((get_or ps i (0, pos 0)).0 < length values) × NamesBelow (length values) (drop (i + 1) ps)
  name_below h = subst (NamesBelow (length values)) rest h

  pub one_unformed : b ≡ false → false ≡ all_formed formed (drop i ps)
  one_unformed e = sym (ap (all_formed formed) rest ∙ ap (λ t. t && all_formed formed (drop (i + 1) ps)) (here ∙ e))

  pub one_formed : b ≡ true → all_formed formed (drop i ps) ≡ all_formed formed (drop (i + 1) ps)
  one_formed e = ap (all_formed formed) rest ∙ ap (λ t. t && all_formed formed (drop (i + 1) ps)) (here ∙ e)

-- ---- lists of expressions

module _ (a : Substitution) where
  some_put : (e s : LinearExpression) → Some s ≡ put_within a e → (is_put_within a e ≡ true) × (substitute a.number e ≡ s)
  some_put e s h = go (is_put_within a e) h
    where
      go : (b : Bool) → Some s ≡ (if b then (Some (substitute a.number e)) else None) → (b ≡ true) × (substitute a.number e ≡ s)
      go true h = (refl, sym (same_Some s (substitute a.number e) h))
      go false h = cc

  front_put : (e s : LinearExpression) (es : List LinearExpression) → Some s ≡ put_within a e → put_all_within a (e ∷ es) ≡ option_map (λ rest. s ∷ rest) (put_all_within a es)
  front_put e s es h =
      let p = some_put e s h in
      ap (λ b. if b && list_all (is_put_within a) es then (Some (substitute a.number e ∷ map (substitute a.number) es)) else None) p.0
      ∙ ap (λ x. if list_all (is_put_within a) es then (Some (x ∷ map (substitute a.number) es)) else None) p.1
      ∙ go (list_all (is_put_within a) es)
    where
      go : (b : Bool) → (if b then (Some (s ∷ map (substitute a.number) es)) else None) ≡ option_map (λ rest. s ∷ rest) (if b then (Some (map (substitute a.number) es)) else None)
      go true = refl
      go false = refl

  -- one more stands before those left
  pub put_more : (all more es : List LinearExpression) (i : ℕ) (e s : LinearExpression) (whole : Option (List LinearExpression)) → i < length es → e ≡ get_or es i e → Some s ≡ put_within a e → more ≡ all ++ s ∷ [] →
      whole ≡ option_map (λ rest. all ++ rest) (put_all_within a (drop i es)) → whole ≡ option_map (λ rest. more ++ rest) (put_all_within a (drop (i + 1) es))
  put_more all more es i e s whole lt is put next so =
      let left = put_all_within a (drop (i + 1) es) in
      so
      ∙ ap (λ xs. option_map (λ rest. all ++ rest) (put_all_within a xs)) (drop_more es i e lt)
      ∙ ap (λ x. option_map (λ rest. all ++ rest) (put_all_within a (x ∷ drop (i + 1) es))) (sym is)
      ∙ ap (option_map (λ rest. all ++ rest)) (front_put e s (drop (i + 1) es) put)
      ∙ over left
      ∙ ap (λ m. option_map (λ rest. m ++ rest) left) (sym next)
    where
      over : (o : Option (List LinearExpression)) → option_map (λ rest. all ++ rest) (option_map (λ rest. s ∷ rest) o) ≡ option_map (λ rest. (all ++ s ∷ []) ++ rest) o
      over None = refl
      over (Some rest) = ap Some (sym (append_assoc all (s ∷ []) rest))

-- one more is named
pub named_more : (n : ℕ) (all : List LinearExpression) (s : LinearExpression) → AreNamed n all → NamesBelow n s.parts → AreNamed n (all ++ s ∷ [])
named_more n all s h g = All-push (λ (e : LinearExpression). NamesBelow n e.parts) all s h g
