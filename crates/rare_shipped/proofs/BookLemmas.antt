-- Books of rules, put together, and that each of their rules holds.
use Rattle.std.proofs.Common.{◌≡◌, ℕ, List, [], ◌∷◌, ◌++◌, map, take, drop, length, append_assoc, refl, ap, ◌∙◌, sym, subst}
use Rattle.rare_sort.specs.Each.{Each}
use Rattle.rare_meaning.specs.Interpretations.{FunctionClass, AnyFunctions, Counts}
use Rattle.rare_rule.specs.Books.{BookRule}
use Rattle.rare_rule.specs.Holds.{Holds}
use Rattle.rare_rule.specs.TypedRule.{TypedRule}
use Rattle.rare_law_parts.specs.RuleTables.{DoesHold, EachHolds}
use Rattle.rare_shipped.specs.ShippedBook.{HoldIn, shipped_rule, shipped_rules}

-- the one item of the first part is the first of all
first_of : {X : Type 0} (xs ys : List X) (x : X) → take 1 xs ≡ ys ++ x ∷ [] → xs ≡ x ∷ drop 1 xs
first_of [] [] x h = absurd cc
first_of [] (y ∷ ys) x h = absurd cc
first_of (z ∷ zs) [] x h = cc
first_of (z ∷ zs) (y ∷ []) x h = absurd cc
first_of (z ∷ zs) (y ∷ w ∷ ys) x h = absurd cc

-- a turn: the first rule is added, and then the rest
pub added : (old : List BookRule) (ts us : List TypedRule) (t : TypedRule) → take 1 ts ≡ us ++ t ∷ [] →
    (old ++ shipped_rule t ∷ []) ++ shipped_rules (drop 1 ts) ≡ old ++ shipped_rules ts
added old ts us t h = append_assoc old (shipped_rule t ∷ []) (shipped_rules (drop 1 ts)) ∙ ap (λ x. old ++ shipped_rules x) (sym (first_of ts us t h))

-- five parts
five : (a b c d e : List BookRule) → (((([] ++ a) ++ b) ++ c) ++ d) ++ e ≡ a ++ (b ++ (c ++ (d ++ e)))
five a b c d e =
    append_assoc ((a ++ b) ++ c) d e ∙ append_assoc (a ++ b) c (d ++ e) ∙ append_assoc a b (c ++ (d ++ e))

each_append : (Q : BookRule → Type 0) (xs ys : List BookRule) → Each Q xs → Each Q ys → Each Q (xs ++ ys)
each_append Q [] ys h k = k
each_append Q (x ∷ xs) ys h k = (h.0, each_append Q xs ys h.1 k)

hold_for : (c : FunctionClass) (t : TypedRule) → DoesHold t → Holds c t.rule t.constraints
hold_for c t h = record { same = λ e names counts d m. h.same e names tt d m }

hold_in : (c : FunctionClass) (ts : List TypedRule) → EachHolds ts → HoldIn c (shipped_rules ts)
hold_in c [] h = tt
hold_in c (t ∷ ts) h = (hold_for c t h.0, hold_in c ts h.1)

-- the five lists, whatever they are
module _ (a b c d e : List TypedRule) where
  abbrev pub parts : List BookRule
  parts = shipped_rules a ++ (shipped_rules b ++ (shipped_rules c ++ (shipped_rules d ++ shipped_rules e)))

  pub parts_hold : (f : FunctionClass) → EachHolds a → EachHolds b → EachHolds c → EachHolds d → EachHolds e → HoldIn f parts
  parts_hold f ha hb hc hd he =
      let Q = λ (r : BookRule). Holds f r.typed.rule r.typed.constraints in
      each_append Q (shipped_rules a) _ (hold_in f a ha)
      (each_append Q (shipped_rules b) _ (hold_in f b hb)
      (each_append Q (shipped_rules c) _ (hold_in f c hc)
      (each_append Q (shipped_rules d) (shipped_rules e) (hold_in f d hd) (hold_in f e he))))

  -- they are added one after another
  pub parts_added : (x0 x1 x2 x3 x4 x5 : List BookRule) (a1 b1 c1 d1 e1 : List TypedRule) →
      x0 ≡ [] → x1 ≡ x0 ++ shipped_rules a1 → a1 ≡ a → x2 ≡ x1 ++ shipped_rules b1 → b1 ≡ b → x3 ≡ x2 ++ shipped_rules c1 → c1 ≡ c →
      x4 ≡ x3 ++ shipped_rules d1 → d1 ≡ d → x5 ≡ x4 ++ shipped_rules e1 → e1 ≡ e → x5 ≡ parts
  parts_added x0 x1 x2 x3 x4 x5 a1 b1 c1 d1 e1 h0 h1 ha h2 hb h3 hc h4 hd h5 he =
      let y1 = h1 ∙ (λ i. h0 i ++ shipped_rules (ha i)) in
      let y2 = h2 ∙ (λ i. y1 i ++ shipped_rules (hb i)) in
      let y3 = h3 ∙ (λ i. y2 i ++ shipped_rules (hc i)) in
      let y4 = h4 ∙ (λ i. y3 i ++ shipped_rules (hd i)) in
      h5 ∙ (λ i. y4 i ++ shipped_rules (he i)) ∙ five (shipped_rules a) (shipped_rules b) (shipped_rules c) (shipped_rules d) (shipped_rules e)
