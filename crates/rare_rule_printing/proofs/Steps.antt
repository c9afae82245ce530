-- Texts of several parts, written one after the other.
use Rattle.std.proofs.Common.{◌≡◌, ℕ, List, [], ◌∷◌, ◌++◌, map, Result, Ok, Err, OnOk, OnErr, refl, sym, ap, ◌∙◌, subst, append_assoc}
use Rattle.std.specs.Prelude.{codes, flat_map}
use Rattle.std.proofs.lemmas.Grind.{flat_map-append}
use Rattle.rare_sexpr.specs.Written.{IsCut}
use Rattle.rare_scope.proofs.Cutting.{in_any, on_err}
use Rattle.rare_term_printing.specs.OperatorTexts.{list_text}
use Rattle.rare_rule_printing.specs.inner.RulePieces.{all_spaced}

-- ---- cut texts

-- a text by another name that is cut, at an answer of want of memory
pub err_cut : {A E : Type 0} (r : Result A E) (old a b new : List ℕ) → a ≡ b → IsCut old a new → OnErr r (IsCut old b new)
err_cut r old a b new same h = in_any r (IsCut old b new) (subst (λ (t : List ℕ). IsCut old t new) same h)

-- nothing of the last part was written
pub err_last : {A E : Type 0} (r : Result A E) (old a b new mid : List ℕ) → a ≡ b → OnErr r (new ≡ mid) → (new ≡ mid → IsCut old a new) → OnErr r (IsCut old b new)
err_last r old a b new mid same h f = on_err r (new ≡ mid) (IsCut old b new) h (λ is. subst (λ (t : List ℕ). IsCut old t new) same (f is))

-- a text that is written whole, and what comes behind it
pub after : (old a rest mid new : List ℕ) → mid ≡ old ++ a → new ≡ mid ++ rest → new ≡ old ++ (a ++ rest)
after old a rest mid new first h = h ∙ ap (λ t. t ++ rest) first ∙ append_assoc old a rest

-- the last part was written too
pub ok_last : {A E : Type 0} (r : Result A E) (old a b c new mid : List ℕ) → a ≡ b → OnOk r (new ≡ mid ++ c) → (new ≡ mid ++ c → new ≡ old ++ a) → OnOk r (new ≡ old ++ b)
ok_last (Ok x) old a b c new mid same h f = f h ∙ ap (λ t. old ++ t) same
ok_last (Err e) old a b c new mid same h f = tt

-- ---- lists of texts

pub spaced_map : {X : Type 0} (f : X → List ℕ) (xs : List X) → all_spaced (map f xs) ≡ flat_map (λ x. codes " " ++ f x) xs
spaced_map f [] = refl
spaced_map f (x ∷ xs) = ap (λ t. (codes " " ++ f x) ++ t) (spaced_map f xs)

-- a list in two parts
pub list_parts : (w : List ℕ) (xs ys : List (List ℕ)) → ((codes "(" ++ w) ++ all_spaced xs) ++ (all_spaced ys ++ codes ")") ≡ list_text (w ∷ (xs ++ ys))
list_parts w xs ys =
    ap (λ t. 40 ∷ t) (append_assoc w (all_spaced xs) (all_spaced ys ++ codes ")")
    ∙ ap (λ t. w ++ t) (sym (append_assoc (all_spaced xs) (all_spaced ys) (codes ")")) ∙ ap (λ t. t ++ codes ")") (sym (flat_map-append (λ u. codes " " ++ u) xs ys))))
