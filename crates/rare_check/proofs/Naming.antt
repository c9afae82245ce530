-- The equations under ids.
use Rattle.std.proofs.Common.{◌≡◌, ℕ, suc, ◌+◌, ◌<◌, Bool, true, false, List, [], ◌∷◌, ◌++◌, length, map, take, drop, All, slice_get, Option, Some, None, position, nat_lt, bytes_eq, refl, ap, sym, ◌∙◌, arith, subst, if◌then◌else◌}
use Rattle.std.proofs.Math.ListN.{get_or-append}
use Rattle.std.proofs.lemmas.Bool.Decides.{same_from_decides, Decides-ltb}
use Rattle.std.proofs.lemmas.Bool.{lt-ltb}
use Rattle.std.proofs.lemmas.List.{map-append}
use Rattle.std.proofs.lemmas.Option.{none-some, same_Some, slice_get-get_or, slice_get-map}
use Rattle.std.specs.Option.{option_map}
use Rattle.std.specs.List.{position_or_len}
use Rattle.rare_sort.specs.Ids.{tree_at}
use Rattle.rare_sort.specs.Sorting.{all_of}
use Rattle.rare_sexpr.specs.declared.tree.Sexpr.{Sexpr}
use Rattle.rare_sexpr.specs.Tree.{text_of}
use Rattle.rare_proof.specs.Steps.{Equation, equation, equations_at}
use Rattle.rare_check.specs.Verdicts.{ids_of, equation_named, equations_named}
use Rattle.rare_check.specs.inner.Judging.{place_named, places_named, equation_at, named_equations}
use Rattle.rare_check.proofs.Listing.{split_at, take_one, all_push, all_fail}

-- ---- places under ids

lt_suc : (n m : ℕ) → nat_lt (1 + n) (suc m) ≡ nat_lt n m
lt_suc n m =
    let outer = Decides-ltb (1 + n) (suc m) in
    let inner = Decides-ltb n m in
    same_from_decides _ _ (λ e. let h = outer.0 e in omega arith, λ h. outer.1 (omega (arith, h))) inner

pub position-cons : {A : Type 0} (p : A → Bool) (x : A) (xs : List A) → position p (x ∷ xs) ≡ (if p x then Some 0 else option_map (λ n. suc n) (position p xs))
position-cons p x xs = by (p x) refl
  where
    deep : (n : ℕ) (b : Bool) → (if b then Some (1 + n) else None) ≡ option_map (λ m. suc m) (if b then Some n else None)
    deep n true = ap Some (omega arith)
    deep n false = refl

    by : (b : Bool) → p x ≡ b → position p (x ∷ xs) ≡ (if p x then Some 0 else option_map (λ n. suc n) (position p xs))
    by true e = rw e (ap (λ b. if b then Some 0 else None) (lt-ltb 0 (suc (length xs)) (omega arith)))
    by false e = rw e (ap (λ b. if b then Some (1 + position_or_len p xs) else None) (lt_suc (position_or_len p xs) (length xs)) ∙ deep (position_or_len p xs) (nat_lt (position_or_len p xs) (length xs)))

abbrev pub at_place : List ℕ → Option ℕ → Option ℕ
at_place ks None = None
at_place ks (Some k) = slice_get ks k

module _ (id : List ℕ) where
  pub place_at : (ids : List (List ℕ)) (ks : List ℕ) → length ids ≡ length ks → place_named ids ks id ≡ at_place ks (position (bytes_eq id) ids)
  place_at [] [] n = refl
  place_at [] (k ∷ ks) n = refl
  place_at (i ∷ ids) [] n = absurd (omega (arith, n))
  place_at (i ∷ ids) (k ∷ ks) n = by (bytes_eq id i) refl (place_at ids ks (omega (arith, n))) ∙ ap (at_place (k ∷ ks)) (sym (position-cons (bytes_eq id) i ids))
    where
      shift : (o : Option ℕ) → at_place ks o ≡ at_place (k ∷ ks) (option_map (λ n. suc n) o)
      shift None = refl
      shift (Some j) = refl

      by : (b : Bool) → bytes_eq id i ≡ b → place_named ids ks id ≡ at_place ks (position (bytes_eq id) ids) →
          (if bytes_eq id i then Some k else place_named ids ks id) ≡ at_place (k ∷ ks) (if bytes_eq id i then Some 0 else option_map (λ n. suc n) (position (bytes_eq id) ids))
      by true e ih = rw e refl
      by false e ih = rw e (ih ∙ shift (position (bytes_eq id) ids))

  pub place_within : (n : ℕ) (ids : List (List ℕ)) (ks : List ℕ) (k : ℕ) → All (λ j. j < n) ks → place_named ids ks id ≡ Some k → k < n
  place_within n [] ks k h e = absurd (none-some k e)
  place_within n (i ∷ ids) [] k h e = absurd (none-some k e)
  place_within n (i ∷ ids) (j ∷ ks) k h e = by (bytes_eq id i) e (place_within n ids ks k (λ m d lt. h (suc m) d (omega arith)))
    where
      by : (b : Bool) → (if b then Some j else place_named ids ks id) ≡ Some k → (place_named ids ks id ≡ Some k → k < n) → k < n
      by true e ih = subst (λ (m : ℕ). m < n) (same_Some j k e) (h 0 j (omega arith))
      by false e ih = ih e

  -- the equation under an id is that at its place
  pub named_at : (es : List Equation) (ids : List (List ℕ)) (ks : List ℕ) → equation_named (named_equations es ids ks) id ≡ option_map (equation_at es) (place_named ids ks id)
  named_at es [] ks = refl
  named_at es (i ∷ ids) [] = refl
  named_at es (i ∷ ids) (k ∷ ks) = by (bytes_eq id i) (named_at es ids ks)
    where
      by : (b : Bool) → equation_named (named_equations es ids ks) id ≡ option_map (equation_at es) (place_named ids ks id) →
          (if b then Some (equation_at es k) else equation_named (named_equations es ids ks) id) ≡ option_map (equation_at es) (if b then Some k else place_named ids ks id)
      by true ih = refl
      by false ih = ih

pub equation_there : (es : List Equation) (k : ℕ) → k < length es → slice_get es k ≡ Some (equation_at es k)
equation_there es k lt = slice_get-get_or es k (equation (tree_at [] 0) (tree_at [] 0)) lt

-- ---- the equations of premises

module _ (es : List Equation) (ids : List (List ℕ)) (ks : List ℕ) (within : All (λ k. k < length es) ks) where
  -- what is at the places is what is under the ids
  pub wanted_some : (ws : List (List ℕ)) (ps : List ℕ) → places_named ids ks ws ≡ Some ps → equations_at es ps ≡ equations_named (named_equations es ids ks) ws
  wanted_some [] ps e = ap (equations_at es) (sym (same_Some [] ps e))
  wanted_some (w ∷ ws) ps e = by (place_named ids ks w) refl (places_named ids ks ws) refl e (wanted_some ws)
    where
      by : (o : Option ℕ) → place_named ids ks w ≡ o → (os : Option (List ℕ)) → places_named ids ks ws ≡ os → all_of (o ∷ map (place_named ids ks) ws) ≡ Some ps →
          ((qs : List ℕ) → places_named ids ks ws ≡ Some qs → equations_at es qs ≡ equations_named (named_equations es ids ks) ws) → equations_at es ps ≡ equations_named (named_equations es ids ks) (w ∷ ws)
      by None n os m e ih = absurd (none-some ps e)
      by (Some k) n None m e ih = absurd (none-some ps (sym (ap (option_map (λ xs. k ∷ xs)) m) ∙ e))
      by (Some k) n (Some qs) m e ih =
          let same : k ∷ qs ≡ ps = same_Some (k ∷ qs) ps (sym (ap (option_map (λ xs. k ∷ xs)) m) ∙ e) in
          let at : slice_get es k ≡ Some (equation_at es k) = equation_there es k (place_within w (length es) ids ks k within n) in
          let named : equation_named (named_equations es ids ks) w ≡ Some (equation_at es k) = named_at w es ids ks ∙ ap (option_map (equation_at es)) n in
          ap (equations_at es) (sym same)
          ∙ ap (λ o. all_of (o ∷ map (slice_get es) qs)) at
          ∙ ap (option_map (λ xs. equation_at es k ∷ xs)) (ih qs m)
          ∙ ap (λ o. all_of (o ∷ map (equation_named (named_equations es ids ks)) ws)) (sym named)

  pub wanted_none : (ws : List (List ℕ)) → places_named ids ks ws ≡ None → equations_named (named_equations es ids ks) ws ≡ None
  wanted_none [] e = absurd (none-some [] (sym e))
  wanted_none (w ∷ ws) e = by (place_named ids ks w) refl (places_named ids ks ws) refl e (wanted_none ws)
    where
      by : (o : Option ℕ) → place_named ids ks w ≡ o → (os : Option (List ℕ)) → places_named ids ks ws ≡ os → all_of (o ∷ map (place_named ids ks) ws) ≡ None →
          (places_named ids ks ws ≡ None → equations_named (named_equations es ids ks) ws ≡ None) → equations_named (named_equations es ids ks) (w ∷ ws) ≡ None
      by None n os m e ih = ap (λ o. all_of (o ∷ map (equation_named (named_equations es ids ks)) ws)) (named_at w es ids ks ∙ ap (option_map (equation_at es)) n)
      by (Some k) n None m e ih =
          ap (λ o. all_of (o ∷ map (equation_named (named_equations es ids ks)) ws)) (named_at w es ids ks ∙ ap (option_map (equation_at es)) n)
          ∙ ap (option_map (λ xs. equation_at es k ∷ xs)) (ih m)
      by (Some k) n (Some qs) m e ih = absurd (none-some (k ∷ qs) (sym (sym (ap (option_map (λ xs. k ∷ xs)) m) ∙ e)))

-- ---- one equation more

pub named_ids : (es : List Equation) (ids : List (List ℕ)) (ks : List ℕ) → length ids ≡ length ks → ids_of (named_equations es ids ks) ≡ ids
named_ids es [] ks n = refl
named_ids es (i ∷ ids) [] n = absurd (omega (arith, n))
named_ids es (i ∷ ids) (k ∷ ks) n = ap (λ is. i ∷ is) (named_ids es ids ks (omega (arith, n)))

pub named_push : (es : List Equation) (ids : List (List ℕ)) (ks : List ℕ) (id : List ℕ) (k : ℕ) → length ids ≡ length ks →
    named_equations es (ids ++ id ∷ []) (ks ++ k ∷ []) ≡ named_equations es ids ks ++ record { id = id; concluded = equation_at es k } ∷ []
named_push es [] [] id k n = refl
named_push es [] (j ∷ ks) id k n = absurd (omega (arith, n))
named_push es (i ∷ ids) [] id k n = absurd (omega (arith, n))
named_push es (i ∷ ids) (j ∷ ks) id k n = ap (λ ns. record { id = i; concluded = equation_at es j } ∷ ns) (named_push es ids ks id k (omega (arith, n)))

-- with more equations behind, those at the places stay
pub named_kept : (es more : List Equation) (ids : List (List ℕ)) (ks : List ℕ) → All (λ k. k < length es) ks → named_equations (es ++ more) ids ks ≡ named_equations es ids ks
named_kept es more [] ks h = refl
named_kept es more (i ∷ ids) [] h = refl
named_kept es more (i ∷ ids) (k ∷ ks) h =
    let at : equation_at (es ++ more) k ≡ equation_at es k = get_or-append es more (equation (tree_at [] 0) (tree_at [] 0)) k (h 0 k (omega arith)) in
    let rest = named_kept es more ids ks (λ m d lt. h (suc m) d (omega arith)) in
    λ j. record { id = i; concluded = at j } ∷ rest j

-- ---- the first place that passes, item by item

abbrev pub behind_place : ℕ → Option ℕ → Option ℕ
behind_place k o = option_map (λ n. k + n) o

module _ {A : Type 0} (p : A → Bool) (xs : List A) where
  pub position_more : (k : ℕ) (x : A) (rest : List A) → xs ≡ x ∷ rest → p x ≡ false → behind_place k (position p xs) ≡ behind_place (k + 1) (position p rest)
  position_more k x rest is out = ap (λ ys. behind_place k (position p ys)) is ∙ ap (behind_place k) (position-cons p x rest) ∙ ap (λ b. behind_place k (if b then Some 0 else option_map (λ n. suc n) (position p rest))) out ∙ by (position p rest)
    where
      by : (o : Option ℕ) → behind_place k (option_map (λ n. suc n) o) ≡ behind_place (k + 1) o
      by None = refl
      by (Some n) = ap Some (omega arith)

  pub position_here : (k : ℕ) (x : A) (rest : List A) → xs ≡ x ∷ rest → p x ≡ true → behind_place k (position p xs) ≡ Some k
  position_here k x rest is here =
      ap (λ ys. behind_place k (position p ys)) is ∙ ap (behind_place k) (position-cons p x rest) ∙ ap (λ b. behind_place k (if b then Some 0 else option_map (λ n. suc n) (position p rest))) here ∙ ap Some (omega arith)

-- ---- places under the texts of a list, one by one

module _ (ids : List (List ℕ)) (ks : List ℕ) (xs : List Sexpr) (k : ℕ) (x : Sexpr) (text : List ℕ) (at : slice_get xs k ≡ Some x) (is : text ≡ text_of x) where
  text_there : slice_get (map text_of xs) k ≡ Some text
  text_there = slice_get-map text_of xs k ∙ ap (option_map text_of) at ∙ ap Some (sym is)

  pub places_more : (ps new : List ℕ) (p : ℕ) → places_named ids ks (take k (map text_of xs)) ≡ Some ps → place_named ids ks text ≡ Some p → new ≡ ps ++ p ∷ [] →
      places_named ids ks (take (k + 1) (map text_of xs)) ≡ Some new
  places_more ps new p so found same =
      ap (places_named ids ks) (take_one (map text_of xs) k text text_there)
      ∙ ap all_of (map-append (place_named ids ks) (take k (map text_of xs)) (text ∷ []) ∙ ap (λ o. map (place_named ids ks) (take k (map text_of xs)) ++ o ∷ []) found)
      ∙ all_push (map (place_named ids ks) (take k (map text_of xs))) p ps so ∙ ap Some (sym same)

  pub places_stop : place_named ids ks text ≡ None → places_named ids ks (map text_of xs) ≡ None
  places_stop none =
      ap (places_named ids ks) (split_at (map text_of xs) k text text_there)
      ∙ ap all_of (map-append (place_named ids ks) (take k (map text_of xs)) (text ∷ drop (suc k) (map text_of xs)) ∙ ap (λ o. map (place_named ids ks) (take k (map text_of xs)) ++ o ∷ map (place_named ids ks) (drop (suc k) (map text_of xs))) none)
      ∙ all_fail (map (place_named ids ks) (take k (map text_of xs))) (map (place_named ids ks) (drop (suc k) (map text_of xs)))
