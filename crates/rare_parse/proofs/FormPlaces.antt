-- Tests that all parameters pass, and the kinds of parameters at their places.
use Rattle.std.proofs.Common.{◌≡◌, ℕ, zero, suc, ◌+◌, Bool, true, List, [], ◌∷◌, ◌++◌, length, slice_get, Some, refl, sym, ap, ◌∙◌, append_assoc, length-append}
use Rattle.std.specs.Option.{option_map}
use Rattle.std.proofs.lemmas.Option.{none-some, same_Some}
use Rattle.rare_sort.proofs.NeedsLemmas.{both, and_both}
use Rattle.rare_sort.proofs.Options.{map_some}
use Rattle.rare_rule.specs.Params.{kind_at}
use Rattle.rare_rule.specs.ParamForms.{all_params}
use Rattle.rare_rule.specs.declared.param.Param.{Param}
use Rattle.rare_rule.specs.declared.param.ParamKind.{ParamKind}

-- ---- tests of all parameters

pub all-append : (test : Param → Bool) (ps qs : List Param) → all_params test ps ≡ true → all_params test qs ≡ true → all_params test (ps ++ qs) ≡ true
all-append test [] qs g h = h
all-append test (p ∷ ps) qs g h = let x = both _ _ g in and_both _ _ x.0 (all-append test ps qs x.1 h)

pub all_weaker : (test other : Param → Bool) (ps : List Param) → ((p : Param) → test p ≡ true → other p ≡ true) → all_params test ps ≡ true → all_params other ps ≡ true
all_weaker test other [] weaker h = refl
all_weaker test other (p ∷ ps) weaker h = let x = both _ _ h in and_both _ _ (weaker p x.0) (all_weaker test other ps weaker x.1)

test_at : (test : Param → Bool) (ps : List Param) (k : ℕ) (p : Param) → all_params test ps ≡ true → slice_get ps k ≡ Some p → test p ≡ true
test_at test [] k p h is = absurd (none-some p is)
test_at test (q ∷ ps) zero p h is = ap test (sym (same_Some q p is)) ∙ (both _ _ h).0
test_at test (q ∷ ps) (suc k) p h is = test_at test ps k p (both _ _ h).1 is

-- what the kinds of all pass, a kind found passes
pub kind_passes : (test : ParamKind → Bool) (ps : List Param) (k : ℕ) (d : ParamKind) → all_params (λ p. test p.kind) ps ≡ true → kind_at ps k ≡ Some d → test d ≡ true
kind_passes test ps k d h is =
    let p = map_some (λ p. p.kind) (slice_get ps k) d is in
    ap test (sym p.2) ∙ test_at (λ p. test p.kind) ps k p.0 h p.1

-- ---- kinds at places

get_first : (ps qs : List Param) (k : ℕ) (p : Param) → slice_get ps k ≡ Some p → slice_get (ps ++ qs) k ≡ Some p
get_first [] qs k p is = absurd (none-some p is)
get_first (q ∷ ps) qs zero p is = is
get_first (q ∷ ps) qs (suc k) p is = get_first ps qs k p is

pub kind_first : (ps qs : List Param) (k : ℕ) (d : ParamKind) → kind_at ps k ≡ Some d → kind_at (ps ++ qs) k ≡ Some d
kind_first ps qs k d is =
    let p = map_some (λ p. p.kind) (slice_get ps k) d is in
    ap (option_map (λ p. p.kind)) (get_first ps qs k p.0 p.1) ∙ ap Some p.2

get_seam : (ps qs : List Param) (p : Param) → slice_get (ps ++ p ∷ qs) (length ps) ≡ Some p
get_seam [] qs p = refl
get_seam (q ∷ ps) qs p = get_seam ps qs p

-- the parameter behind two lists
pub kind_behind : (ps qs rs : List Param) (p : Param) → kind_at (ps ++ (qs ++ p ∷ rs)) (length ps + length qs) ≡ Some p.kind
kind_behind ps qs rs p =
    ap (λ xs. kind_at xs (length ps + length qs)) (sym (append_assoc ps qs (p ∷ rs)))
    ∙ ap (kind_at ((ps ++ qs) ++ p ∷ rs)) (sym (length-append ps qs))
    ∙ ap (option_map (λ p. p.kind)) (get_seam (ps ++ qs) rs p)
