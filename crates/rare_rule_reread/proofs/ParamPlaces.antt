-- The places of the parameters that are read: those that are declared, and the fresh ones behind them.
use Rattle.std.proofs.Common.{◌≡◌, ℕ, ◌+◌, true, false, List, [], ◌∷◌, ◌++◌, length, bytes_eq, slice_get, Option, Some, None, refl, sym, ap, ◌∙◌, arith, append_assoc, length-append}
use Rattle.std.proofs.lemmas.List.Folds.{list_any-append}
use Rattle.rare_scope.specs.Reserved.{is_among}
use Rattle.rare_scope.proofs.ScopeLemmas.{either}
use Rattle.rare_rule.specs.ParamForms.{NO_NAMES}
use Rattle.rare_rule.specs.declared.param.Param.{Param}
use Rattle.rare_rule.specs.declared.param.ParamKind.{ParamKind}
use Rattle.rare_parse.specs.ParamText.{brought}
use Rattle.rare_rule_reread.proofs.Growing.{AllTaken}

-- ---- places

pub seam : (ps qs : List Param) (p : Param) → slice_get (ps ++ p ∷ qs) (length ps) ≡ Some p
seam [] qs p = refl
seam (q ∷ ps) qs p = seam ps qs p

pub together : (ds es fs : List Param) (x : Param) (ys zs : List Param) → ((ds ++ x ∷ []) ++ es) ++ ((fs ++ ys) ++ zs) ≡ (ds ++ x ∷ es) ++ (fs ++ (ys ++ zs))
together ds es fs x ys zs = ap (λ rs. rs ++ ((fs ++ ys) ++ zs)) (append_assoc ds (x ∷ []) es) ∙ ap (λ rs. (ds ++ x ∷ es) ++ rs) (append_assoc fs ys zs)

-- a declared parameter stands behind those before it
pub declared_place : (all ds rest last : List Param) (d : Param) → all ≡ ((ds ++ d ∷ []) ++ rest) ++ last → slice_get all (length ds) ≡ Some d
declared_place all ds rest last d same =
    ap (λ ps. slice_get ps (length ds)) (same ∙ append_assoc (ds ++ d ∷ []) rest last ∙ append_assoc ds (d ∷ []) (rest ++ last)) ∙ seam ds (rest ++ last) d

-- a fresh one stands behind all that are declared, and the fresh ones before it
pub fresh_place : (all declared fs more : List Param) (f : Param) (first : ℕ) → all ≡ declared ++ ((fs ++ f ∷ []) ++ more) → length declared ≡ first → slice_get all (first + length fs) ≡ Some f
fresh_place all declared fs more f first same count =
    let n = length-append declared fs in
    let here : first + length fs ≡ length (declared ++ fs) = omega (arith, n, count) in
    ap (λ ps. slice_get ps (first + length fs)) (same ∙ ap (λ rs. declared ++ rs) (append_assoc fs (f ∷ []) more) ∙ sym (append_assoc declared fs (f ∷ more)))
    ∙ ap (slice_get ((declared ++ fs) ++ f ∷ more)) here ∙ seam (declared ++ fs) more f

pub taken_append : (ps fs gs : List Param) → AllTaken ps fs → AllTaken ps gs → AllTaken ps (fs ++ gs)
taken_append ps [] gs g h = h
taken_append ps (f ∷ fs) gs g h = (g.0, taken_append ps fs gs g.1 h)

pub or_second : (text : List ℕ) (ns : List (List ℕ)) → is_among (NO_NAMES ++ ns) text ≡ false → is_among ns text ≡ false
or_second text ns none = (either (is_among NO_NAMES text) (is_among ns text) (sym (list_any-append (bytes_eq text) NO_NAMES ns) ∙ none)).1

abbrev pub AllDeclared : List Param → Type 0
AllDeclared [] = Unit {0}
AllDeclared (p ∷ ps) = (p.fresh ≡ false) × AllDeclared ps

abbrev pub AllFresh : List Param → Type 0
AllFresh [] = Unit {0}
AllFresh (p ∷ ps) = (p.fresh ≡ true) × AllFresh ps

pub brought_fresh : (text : List ℕ) (o : Option ParamKind) (more : List Param) → AllFresh more → AllFresh (brought text o ++ more)
brought_fresh text None more fresh = fresh
brought_fresh text (Some b) more fresh = (refl, fresh)
