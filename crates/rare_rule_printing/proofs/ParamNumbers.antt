-- Numbers in a rule are those of its parameters.
use Rattle.std.proofs.Common.{◌≡◌, ℕ, zero, suc, ◌<◌, Bool, true, false, ◌&&◌, List, [], ◌∷◌, length, get_or, IsTrue, Option, None, refl, arith}
use Rattle.rare_linear.specs.Linears.{Part, LinearExpression, NamesBelow}
use Rattle.rare_linear.specs.declared.constraint.Constraint.{Constraint}
use Rattle.rare_rule.specs.Params.{kind_at, is_number_kind, is_sort_kind, is_term_kind}
use Rattle.rare_rule.specs.ParamForms.{are_numbers, all_are_numbers, are_bounds, all_params}
use Rattle.rare_rule.specs.declared.param.Param.{Param}
use Rattle.rare_rule.specs.declared.param.ParamKind.{ParamKind}

pub both : (a b : Bool) → IsTrue (a && b) → IsTrue a × IsTrue b
both true b h = (refl, h)
both false b h = absurd cc

-- a test that no missing parameter meets
below : (test : Option ParamKind → Bool) → test None ≡ false → (ps : List Param) (k : ℕ) → IsTrue (test (kind_at ps k)) → k < length ps
below test none [] k h = absurd cc
below test none (p ∷ ps) zero h = omega arith
below test none (p ∷ ps) (suc k) h = let lt = below test none ps k h in omega (arith, lt)

pub sort_below : (ps : List Param) (k : ℕ) → IsTrue (is_sort_kind (kind_at ps k)) → k < length ps
sort_below ps k h = below is_sort_kind refl ps k h

pub term_below : (ps : List Param) (k : ℕ) → IsTrue (is_term_kind (kind_at ps k)) → k < length ps
term_below ps k h = below is_term_kind refl ps k h

pub names_below : (ps : List Param) (parts : List Part) → IsTrue (are_numbers ps parts) → NamesBelow (length ps) parts
names_below ps [] h = tt
names_below ps (n ∷ ns) h =
    let now = both (is_number_kind (kind_at ps n.0)) (are_numbers ps ns) h in
    (below is_number_kind refl ps n.0 now.0, names_below ps ns now.1)

-- ---- each of several

pub index_over : (ps : List Param) (ix : List LinearExpression) (k : ℕ) (d : LinearExpression) → IsTrue (all_are_numbers ps ix) → k < length ix → IsTrue (are_numbers ps (get_or ix k d).parts)
index_over ps [] k d h lt = absurd (omega (arith, lt))
index_over ps (e ∷ ix) zero d h lt = (both _ _ h).0
index_over ps (e ∷ ix) (suc k) d h lt = index_over ps ix k d (both _ _ h).1 (omega arith)

pub bound_over : (ps : List Param) (cs : List Constraint) (k : ℕ) (d : Constraint) → IsTrue (are_bounds ps cs) → k < length cs → IsTrue (are_numbers ps (get_or cs k d).floor.parts)
bound_over ps [] k d h lt = absurd (omega (arith, lt))
bound_over ps (c ∷ cs) zero d h lt = (both _ _ h).0
bound_over ps (c ∷ cs) (suc k) d h lt = bound_over ps cs k d (both _ _ h).1 (omega arith)

pub param_meets : (test : Param → Bool) (ps : List Param) (k : ℕ) (d : Param) → IsTrue (all_params test ps) → k < length ps → IsTrue (test (get_or ps k d))
param_meets test [] k d h lt = absurd (omega (arith, lt))
param_meets test (p ∷ ps) zero d h lt = (both _ _ h).0
param_meets test (p ∷ ps) (suc k) d h lt = param_meets test ps k d (both _ _ h).1 (omega arith)
