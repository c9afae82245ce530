-- Expressions where they are within i128, and totals of widths.
use Rattle.std.proofs.Common.{◌≡◌, Bool, true, false, ◌&&◌, List, [], ◌∷◌, ◌++◌, map, Option, Some, None, refl, sym, ap, ◌∙◌, if◌then◌else◌}
use Rattle.std.specs.Prelude.{is_some, pos, unwrap_or}
use Rattle.std.specs.List.{list_all}
use Rattle.std.specs.Option.{option_and_then}
use Rattle.std.proofs.lemmas.Option.{none-some}
use Rattle.rare_linear.specs.Linears.{LinearExpression, number, add}
use Rattle.rare_linear.specs.EntailmentTest.{is_within}
use Rattle.rare_linear.specs.PartialSums.{IsWithin}
use Rattle.rare_linear.proofs.EntailmentTestLemmas.{is_within-Decides}
use Rattle.rare_sort.specs.Rulings.{all_within, sums_from, widths_of, listed_width}
use Rattle.rare_sort.specs.SortOf.{sort_of}
use Rattle.rare_sort.specs.SortRules.{width, total, total_from}
use Rattle.rare_sort.specs.declared.sort.Signature.{Signature}
use Rattle.rare_sort.specs.declared.tree.Tree.{Tree}
use Rattle.rare_sort.specs.inner.Within.{within, within_by}
use Rattle.rare_inst.specs.Arguments.{OfList}
use Rattle.rare_inst.specs.inner.Standing.{number_within, plus_width, plus_widths, term_widths}

pub given_within : (e x : LinearExpression) → x ≡ e → IsWithin e → Some x ≡ within e
given_within e x is h = ap Some is ∙ sym (rw ((is_within-Decides e).1 h) refl)

not_true : (b : Bool) → (b ≡ true → ⊥) → b ≡ false
not_true true h = absurd (h refl)
not_true false h = refl

pub none_within : (e : LinearExpression) → ¬ IsWithin e → None ≡ within e
none_within e h = sym (rw (not_true (is_within e) (λ t. h ((is_within-Decides e).0 t))) refl)

-- ---- totals

both : (b c : Bool) → (b && c) ≡ true → (b ≡ true) × (c ≡ true)
both true c e = (refl, e)
both false c e = cc

module _ (symbols : List Signature) where
  abbrev sums : LinearExpression → List Tree → Bool
  sums sum ts = all_within (sums_from sum (widths_of (map (sort_of symbols) ts)))

  no_sum : (ws : List (Option LinearExpression)) → plus_widths None ws ≡ None
  no_sum [] = refl
  no_sum (w ∷ ws) = no_sum ws

  abbrev are_words : List Tree → Bool
  are_words ts = list_all (λ t. is_some (width (sort_of symbols t))) ts

  -- one step: what is left is formed alike
  one_formed : (sum : LinearExpression) (ts : List Tree) → ((x : LinearExpression) → is_some (plus_widths (Some x) (term_widths symbols ts)) ≡ sums x ts) →
      (o : Option LinearExpression) → is_some (plus_widths (plus_width (Some sum) o) (term_widths symbols ts)) ≡ all_within (sums_from sum (listed_width o ++ widths_of (map (sort_of symbols) ts)))
  one_formed sum ts rest None = rest sum
  one_formed sum ts rest (Some w) = wide (is_within (add sum w))
    where
      wide : (b : Bool) → is_some (plus_widths (within_by b (add sum w)) (term_widths symbols ts)) ≡ (b && sums (add sum w) ts)
      wide true = rest (add sum w)
      wide false = ap is_some (no_sum (term_widths symbols ts))

  -- the sum is there exactly where each partial sum is within i128
  formed : (sum : LinearExpression) (ts : List Tree) → is_some (plus_widths (Some sum) (term_widths symbols ts)) ≡ sums sum ts
  formed sum [] = refl
  formed sum (t ∷ ts) = one_formed sum ts (λ x. formed x ts) (width (sort_of symbols t))

  one_summed : (sum n : LinearExpression) (ts : List Tree) → ((x : LinearExpression) → plus_widths (Some x) (term_widths symbols ts) ≡ Some n → total_from x (map (sort_of symbols) ts) ≡ Some n) →
      (o : Option LinearExpression) → is_some o ≡ true → plus_widths (plus_width (Some sum) o) (term_widths symbols ts) ≡ Some n →
      option_and_then (λ w. total_from (add sum w) (map (sort_of symbols) ts)) o ≡ Some n
  one_summed sum n ts rest None some e = cc
  one_summed sum n ts rest (Some w) some e = wide (is_within (add sum w)) e
    where
      wide : (b : Bool) → plus_widths (within_by b (add sum w)) (term_widths symbols ts) ≡ Some n → total_from (add sum w) (map (sort_of symbols) ts) ≡ Some n
      wide true h = rest (add sum w) h
      wide false h = absurd (let never : None ≡ Some n = sym (no_sum (term_widths symbols ts)) ∙ h in none-some n never)

  -- of bit vectors it is their total
  summed : (sum n : LinearExpression) (ts : List Tree) → are_words ts ≡ true → plus_widths (Some sum) (term_widths symbols ts) ≡ Some n → total_from sum (map (sort_of symbols) ts) ≡ Some n
  summed sum n [] words e = e
  summed sum n (t ∷ ts) words e =
      let w = both (is_some (width (sort_of symbols t))) (are_words ts) words in
      one_summed sum n ts (λ x h. summed x n ts w.1 h) (width (sort_of symbols t)) w.0 e

  one_none : (sum : LinearExpression) (ts : List Tree) → ((x : LinearExpression) → are_words ts ≡ false → total_from x (map (sort_of symbols) ts) ≡ None) →
      (o : Option LinearExpression) → (is_some o && are_words ts) ≡ false → option_and_then (λ w. total_from (add sum w) (map (sort_of symbols) ts)) o ≡ None
  one_none sum ts rest None h = refl
  one_none sum ts rest (Some w) h = rest (add sum w) h

  -- of others there is no total
  no_total : (sum : LinearExpression) (ts : List Tree) → are_words ts ≡ false → total_from sum (map (sort_of symbols) ts) ≡ None
  no_total sum [] h = cc
  no_total sum (t ∷ ts) h = one_none sum ts (λ x g. no_total x ts g) (width (sort_of symbols t)) h

  abbrev zero : LinearExpression
  zero = number (pos 0)

  module _ (ts : List Tree) (o : Option LinearExpression) (is : o ≡ plus_widths (Some zero) (term_widths symbols ts)) where
    test : is_some o ≡ sums zero ts
    test = ap is_some is ∙ formed zero ts

    found : (b : Bool) → sums zero ts ≡ b → number_within symbols (OfList ts) ≡ (if b then (Some (unwrap_or (total (map (sort_of symbols) ts)) zero)) else None)
    found b e = ap (λ c. if c then (Some (unwrap_or (total (map (sort_of symbols) ts)) zero)) else None) e

    pub total_is : are_words ts ≡ true → o ≡ number_within symbols (OfList ts)
    total_is words = go o refl
      where
        go : (p : Option LinearExpression) → o ≡ p → p ≡ number_within symbols (OfList ts)
        go None e = sym (found false (sym test ∙ ap is_some e))
        go (Some n) e =
            sym (found true (sym test ∙ ap is_some e) ∙ ap (λ x. Some (unwrap_or x zero)) (summed zero n ts words (sym is ∙ e)))

    pub none_is : o ≡ None → None ≡ number_within symbols (OfList ts)
    none_is e = sym (found false (sym test ∙ ap is_some e))

    pub mixed_is : are_words ts ≡ false → (n : LinearExpression) → o ≡ Some n → Some zero ≡ number_within symbols (OfList ts)
    mixed_is words n e = sym (found true (sym test ∙ ap is_some e) ∙ ap (λ x. Some (unwrap_or x zero)) (no_total zero ts words))
