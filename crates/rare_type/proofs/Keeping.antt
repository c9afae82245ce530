-- What is kept of what a rule asks for.
use Rattle.std.proofs.Common.{◌≡◌, ℕ, ◌+◌, ◌<◌, ℤ, Bool, true, false, not, ◌||◌, List, [], ◌∷◌, ◌++◌, length, get_or, drop, drop-cons, add-one, IsTrue, ◌↔◌, Decides, refl, sym, ap, ◌∙◌, append_assoc, if◌then◌else◌}
use Rattle.std.specs.List.{list_any}
use Rattle.rare_linear.specs.Linears.{LinearExpression}
use Rattle.rare_linear.specs.EntailmentTest.{is_entailed}
use Rattle.rare_linear.specs.declared.constraint.Constraint.{Constraint}
use Rattle.rare_sort.specs.Sameness.{linear_eq}
use Rattle.rare_sort.proofs.SamenessLemmas.{linear_eq-Decides}
use Rattle.rare_rule.specs.RuleSorting.{at_least_zero, constraints_after}
use Rattle.rare_type.specs.FirstCase.{floors}

-- ---- sameness

pub same_test : {P : Type 0} (b c : Bool) → (IsTrue b ↔ P) → Decides c P → b ≡ c
same_test true true h d = refl
same_test false false h d = refl
same_test true false h d = sym (d.1 (h.0 refl))
same_test false true h d = h.1 (d.0 refl)

pub one_test : (a b : LinearExpression) (t : Bool) → (IsTrue t ↔ (a ≡ b)) → t ≡ linear_eq a b
one_test a b t h = same_test t (linear_eq a b) h (linear_eq-Decides a b)

-- ---- what stood before, in any order

any_append : (p : LinearExpression → Bool) (xs ys : List LinearExpression) → list_any p (xs ++ ys) ≡ (list_any p xs || list_any p ys)
any_append p [] ys = refl
any_append p (x ∷ xs) ys = ap (λ b. p x || b) (any_append p xs ys) ∙ either (p x) (list_any p xs) (list_any p ys)
  where
    either : (a b c : Bool) → (a || (b || c)) ≡ ((a || b) || c)
    either true b c = refl
    either false b c = refl

abbrev SameList : List LinearExpression → List LinearExpression → Type 0
SameList xs ys = (p : LinearExpression → Bool) → list_any p xs ≡ list_any p ys

same_after : (lows : ℕ → ℤ) (xs ys es : List LinearExpression) → SameList xs ys → constraints_after lows xs es ≡ constraints_after lows ys es
same_after lows xs ys [] h = refl
same_after lows xs ys (e ∷ es) h =
    ap (λ b. if is_entailed lows [] e || b then (constraints_after lows xs es) else (at_least_zero e ∷ constraints_after lows (e ∷ xs) es)) (h (linear_eq e))
    ∙ (λ i. if is_entailed lows [] e || list_any (linear_eq e) ys then (same_after lows xs ys es h i)
    else (at_least_zero e ∷ same_after lows (e ∷ xs) (e ∷ ys) es (λ p. ap (λ b. p e || b) (h p)) i))

floors_append : (xs ys : List Constraint) → floors (xs ++ ys) ≡ floors xs ++ floors ys
floors_append [] ys = refl
floors_append (x ∷ xs) ys = ap (λ zs. x.floor ∷ zs) (floors_append xs ys)

last_first : (e : LinearExpression) (kept : List Constraint) → SameList (e ∷ floors kept) (floors (kept ++ at_least_zero e ∷ []))
last_first e kept p = swap (p e) (list_any p (floors kept)) ∙ sym (any_append p (floors kept) (e ∷ [])) ∙ ap (list_any p) (sym (floors_append kept (at_least_zero e ∷ [])))
  where
    swap : (a b : Bool) → (a || b) ≡ (b || (a || false))
    swap true true = refl
    swap true false = refl
    swap false true = refl
    swap false false = refl

module _ (lows : ℕ → ℤ) (kept : List Constraint) (e : LinearExpression) (es : List LinearExpression) where
  abbrev Known : Bool
  Known = is_entailed lows [] e || list_any (linear_eq e) (floors kept)

  pub known_step : not Known ≡ false → constraints_after lows (floors kept) (e ∷ es) ≡ constraints_after lows (floors kept) es
  known_step h = go Known h
    where
      go : (b : Bool) → not b ≡ false →
          (if b then (constraints_after lows (floors kept) es) else (at_least_zero e ∷ constraints_after lows (e ∷ floors kept) es)) ≡ constraints_after lows (floors kept) es
      go true t = refl
      go false t = cc

  pub new_step : not Known ≡ true →
      kept ++ constraints_after lows (floors kept) (e ∷ es) ≡ (kept ++ at_least_zero e ∷ []) ++ constraints_after lows (floors (kept ++ at_least_zero e ∷ [])) es
  new_step h =
      ap (λ cs. kept ++ cs) (go Known h ∙ ap (λ cs. at_least_zero e ∷ cs) (same_after lows (e ∷ floors kept) (floors (kept ++ at_least_zero e ∷ [])) es (last_first e kept)))
      ∙ sym (append_assoc kept (at_least_zero e ∷ []) (constraints_after lows (floors (kept ++ at_least_zero e ∷ [])) es))
    where
      go : (b : Bool) → not b ≡ true →
          (if b then (constraints_after lows (floors kept) es) else (at_least_zero e ∷ constraints_after lows (e ∷ floors kept) es)) ≡ at_least_zero e ∷ constraints_after lows (e ∷ floors kept) es
      go false t = refl
      go true t = cc

-- ---- lists, item by item

pub dropped_at : {A : Type 0} (xs : List A) (i : ℕ) (d : A) → i < length xs → drop i xs ≡ get_or xs i d ∷ drop (i + 1) xs
dropped_at xs i d h = drop-cons xs i d h ∙ ap (λ n. get_or xs i d ∷ drop n xs) (sym (add-one i))

pub dropped : {A : Type 0} (xs : List A) (i : ℕ) (e : A) → e ≡ get_or xs i e → i < length xs → drop i xs ≡ e ∷ drop (i + 1) xs
dropped xs i e is h = dropped_at xs i e h ∙ ap (λ x. x ∷ drop (i + 1) xs) (sym is)
