-- The end of a step by the number of its items.
use Rattle.std.proofs.Common.{◌≡◌, ℕ, ◌+◌, ◌<◌, ◌≤◌, Bool, true, false, List, [], ◌∷◌, drop, length, codes, slice_get, Some, Ok, refl, ap, sym, ◌∙◌, arith, if◌then◌else◌}
use Rattle.std.proofs.lemmas.List.{length-drop}
use Rattle.rare_base.specs.declared.answers.Reason.TheVariants as reason
use Rattle.rare_sexpr.specs.declared.tree.Sexpr.{Sexpr}
use Rattle.rare_sort.specs.declared.declarations.Declarations.{Declarations}
use Rattle.rare_scope.specs.Names.{Names}
use Rattle.rare_scope.specs.Reading.{Read, refused, go_on, is_keyword_word}
use Rattle.rare_scope.proofs.Listing.{drop_at, drop_all}
use Rattle.rare_rule.specs.Books.{BookRule}
use Rattle.rare_proof_text.specs.ArgumentText.{NamedRule, instance_at}
use Rattle.rare_proof_text.specs.ProofText.{StepEnd, step_end, args_by, ids_at, instance_end, premises_by, unless_more}

pub no_more : {A : Type 0} (y : A) (xs : List Sexpr) (k : ℕ) → length xs ≤ k → unless_more y (drop k xs) ≡ Ok y
no_more y xs k le = ap (unless_more y) (drop_all xs k le)

pub one_more : {A : Type 0} (y : A) (xs : List Sexpr) (k : ℕ) (x : Sexpr) → slice_get xs k ≡ Some x → unless_more y (drop k xs) ≡ refused x reason.BadForm
one_more y xs k x at = ap (unless_more y) (drop_at xs k x at)

two_more : (xs : List Sexpr) (k : ℕ) (a b : Sexpr) → slice_get xs k ≡ Some a → slice_get xs (k + 1) ≡ Some b → drop k xs ≡ a ∷ b ∷ drop (k + 2) xs
two_more xs k a b f g =
    let next : k + 1 + 1 ≡ k + 2 = omega arith in
    drop_at xs k a f ∙ ap (λ ys. a ∷ ys) (drop_at xs (k + 1) b g ∙ ap (λ j. b ∷ drop j xs) next)

few_left : (xs : List Sexpr) (k : ℕ) → length xs < k + 2 → length (drop k xs) < 2
few_left xs k lt = omega (arith, length-drop k xs, lt)

-- ---- premises

few_premises : (ys : List Sexpr) → length ys < 2 → premises_by ys ≡ Ok []
few_premises [] lt = refl
few_premises (y ∷ []) lt = refl
few_premises (y ∷ z ∷ ys) lt = absurd (omega (arith, lt))

pub no_premises : (xs : List Sexpr) → length xs < 7 → premises_by (drop 5 xs) ≡ Ok []
no_premises xs lt = few_premises (drop 5 xs) (few_left xs 5 lt)

module _ (xs : List Sexpr) (k ids : Sexpr) (f : slice_get xs 5 ≡ Some k) (g : slice_get xs 6 ≡ Some ids) where
  abbrev premises_if : Bool → Read (List (List ℕ))
  premises_if b = if b then go_on (ids_at ids) (λ is. unless_more is (drop 7 xs)) else refused k reason.BadForm

  pub premises_read : is_keyword_word (codes "premises") k ≡ true → premises_by (drop 5 xs) ≡ go_on (ids_at ids) (λ is. unless_more is (drop 7 xs))
  premises_read is = ap premises_by (two_more xs 5 k ids f g) ∙ ap premises_if is

  pub other_premises : is_keyword_word (codes "premises") k ≡ false → premises_by (drop 5 xs) ≡ refused k reason.BadForm
  other_premises is = ap premises_by (two_more xs 5 k ids f g) ∙ ap premises_if is

-- ---- arguments

module _ (d : Declarations) (names : Names) (book : List BookRule) (e : Sexpr) (xs : List Sexpr) where
  few_items : (ys : List Sexpr) → length ys < 2 → args_by d names book e ys ≡ refused e reason.BadForm
  few_items [] lt = refl
  few_items (y ∷ []) lt = refl
  few_items (y ∷ z ∷ ys) lt = absurd (omega (arith, lt))

  pub no_args : (j : ℕ) → length xs < j + 2 → args_by d names book e (drop j xs) ≡ refused e reason.BadForm
  no_args j lt = few_items (drop j xs) (few_left xs j lt)

  module _ (j : ℕ) (k a : Sexpr) (f : slice_get xs j ≡ Some k) (g : slice_get xs (j + 1) ≡ Some a) where
    abbrev args_if : Bool → Read NamedRule
    args_if b = if b then go_on (instance_at d names book a) (λ r. unless_more r (drop (j + 2) xs)) else refused k reason.BadForm

    pub args_read : is_keyword_word (codes "args") k ≡ true → args_by d names book e (drop j xs) ≡ go_on (instance_at d names book a) (λ r. unless_more r (drop (j + 2) xs))
    args_read is = ap (args_by d names book e) (two_more xs j k a f g) ∙ ap args_if is

    pub other_args : is_keyword_word (codes "args") k ≡ false → args_by d names book e (drop j xs) ≡ refused k reason.BadForm
    other_args is = ap (args_by d names book e) (two_more xs j k a f g) ∙ ap args_if is

  -- ---- both

  few_ends : (ys : List Sexpr) → length ys < 2 → instance_end d names book e ys ≡ refused e reason.BadForm
  few_ends [] lt = refl
  few_ends (y ∷ []) lt = refl
  few_ends (y ∷ z ∷ ys) lt = absurd (omega (arith, lt))

  pub no_end : length xs < 7 → instance_end d names book e (drop 5 xs) ≡ refused e reason.BadForm
  no_end lt = few_ends (drop 5 xs) (few_left xs 5 lt)

  module _ (k ids : Sexpr) (f : slice_get xs 5 ≡ Some k) (g : slice_get xs 6 ≡ Some ids) where
    abbrev end_if : Bool → Read StepEnd
    end_if b =
        if b then go_on (ids_at ids) (λ is. go_on (args_by d names book e (drop 7 xs)) (λ r. Ok (step_end r is)))
        else go_on (args_by d names book e (k ∷ ids ∷ drop 7 xs)) (λ r. Ok (step_end r []))

    pub premises_first : is_keyword_word (codes "premises") k ≡ true →
        instance_end d names book e (drop 5 xs) ≡ go_on (ids_at ids) (λ is. go_on (args_by d names book e (drop 7 xs)) (λ r. Ok (step_end r is)))
    premises_first is = ap (instance_end d names book e) (two_more xs 5 k ids f g) ∙ ap end_if is

    pub args_first : is_keyword_word (codes "premises") k ≡ false → instance_end d names book e (drop 5 xs) ≡ go_on (args_by d names book e (drop 5 xs)) (λ r. Ok (step_end r []))
    args_first is =
        ap (instance_end d names book e) (two_more xs 5 k ids f g) ∙ ap end_if is
        ∙ ap (λ ys. go_on (args_by d names book e ys) (λ r. Ok (step_end r []))) (sym (two_more xs 5 k ids f g))
