-- Commands by the number of their items.
use Rattle.std.proofs.Common.{◌≡◌, ℕ, ◌<◌, ◌≤◌, nat_eq, Bool, true, false, ◌||◌, ◌⊎◌, inl, inr, List, [], ◌∷◌, drop, length, slice_get, Option, Some, None, Ok, Err, refl, ap, sym, ◌∙◌, arith, if◌then◌else◌}
use Rattle.std.proofs.lemmas.Bool.{eqb-true}
use Rattle.std.proofs.lemmas.Option.{none-some, same_Some}
use Rattle.rare_base.specs.declared.answers.Reason.TheVariants as reason
use Rattle.rare_sexpr.specs.declared.tree.Sexpr.{Sexpr}
use Rattle.rare_sexpr.specs.Tree.{items_of, kind_of, text_of}
use Rattle.rare_sort.specs.declared.declarations.Declarations.{Declarations}
use Rattle.rare_sort.specs.declared.tree.Tree.{Tree}
use Rattle.rare_scope.specs.Entries.{entry}
use Rattle.rare_scope.specs.Names.{Names}
use Rattle.rare_scope.specs.Reading.{Read, refused, go_on, is_symbol_kind, symbol_at}
use Rattle.rare_rule.specs.Books.{BookRule}
use Rattle.rare_proof.specs.Steps.{equation}
use Rattle.rare_proof_text.specs.ProofText.{definition_command, conclusion_command, step_command, end_by, sides_at, rule_behind, proof_words, proof_command_or, proof_command_of, proof_command}
use Rattle.rare_proof_text.specs.ProofCommands.{ProofCommand, Step}
use Rattle.rare_proof_text.specs.declared.words.ProofWord.{ProofWord}
use Rattle.rare_proof_text.specs.declared.words.ProofWord.TheVariants as word
use Rattle.rare_proof_text.specs.declared.words.RuleWord.{RuleWord}
use Rattle.rare_proof_text.specs.inner.Parts.{Start, start, start_by, behind_word, first_items, is_step_count, with_end}

module _ {A : Type 0} where
  pub two_items : (xs : List A) (a b : A) → length xs ≡ 2 → slice_get xs 0 ≡ Some a → slice_get xs 1 ≡ Some b → xs ≡ a ∷ b ∷ []
  two_items [] a b n f g = absurd (omega (arith, n))
  two_items (x ∷ []) a b n f g = absurd (omega (arith, n))
  two_items (x ∷ y ∷ []) a b n f g = let p = same_Some x a f in let q = same_Some y b g in λ i. p i ∷ q i ∷ []
  two_items (x ∷ y ∷ z ∷ more) a b n f g = absurd (omega (arith, n))

  pub three_items : (xs : List A) (a b c : A) → length xs ≡ 3 → slice_get xs 0 ≡ Some a → slice_get xs 1 ≡ Some b → slice_get xs 2 ≡ Some c → xs ≡ a ∷ b ∷ c ∷ []
  three_items [] a b c n f g h = absurd (omega (arith, n))
  three_items (x ∷ xs) a b c n f g h = let p = same_Some x a f in let rest = two_items xs b c (omega (arith, n)) g h in λ i. p i ∷ rest i

  four_items : (xs : List A) (a b c d : A) → length xs ≡ 4 → slice_get xs 0 ≡ Some a → slice_get xs 1 ≡ Some b → slice_get xs 2 ≡ Some c → slice_get xs 3 ≡ Some d → xs ≡ a ∷ b ∷ c ∷ d ∷ []
  four_items [] a b c d n f g h k = absurd (omega (arith, n))
  four_items (x ∷ xs) a b c d n f g h k = let p = same_Some x a f in let rest = three_items xs b c d (omega (arith, n)) g h k in λ i. p i ∷ rest i

untrue : false ≡ true → ⊥
untrue e = cc

counted : (n : ℕ) → is_step_count n ≡ true → (n ≡ 5) ⊎ ((n ≡ 7) ⊎ (n ≡ 9))
counted n e = by (nat_eq n 5) refl (nat_eq n 7) refl (nat_eq n 9) refl e
  where
    by : (a : Bool) → nat_eq n 5 ≡ a → (b : Bool) → nat_eq n 7 ≡ b → (c : Bool) → nat_eq n 9 ≡ c → (a || (b || c)) ≡ true → (n ≡ 5) ⊎ ((n ≡ 7) ⊎ (n ≡ 9))
    by true p b q c r e = inl (eqb-true n 5 p)
    by false p true q c r e = inr (inl (eqb-true n 7 q))
    by false p false q true r e = inr (inr (eqb-true n 9 r))
    by false p false q false r e = absurd (untrue e)

at_most_nine : (n : ℕ) → 9 < n → (n ≡ 5) ⊎ ((n ≡ 7) ⊎ (n ≡ 9)) → ⊥
at_most_nine n lt (inl e) = omega (arith, lt, e)
at_most_nine n lt (inr (inl e)) = omega (arith, lt, e)
at_most_nine n lt (inr (inr e)) = omega (arith, lt, e)

module _ (d : Declarations) (names : Names) (book : List BookRule) (e : Sexpr) where
  pub definition_items : (xs : List Sexpr) (n l s t : Sexpr) → length xs ≡ 5 → slice_get xs 1 ≡ Some n → slice_get xs 2 ≡ Some l → slice_get xs 3 ≡ Some s → slice_get xs 4 ≡ Some t →
      behind_word d names book e word.DefineFun xs ≡ definition_command d names n l s t
  definition_items [] n l s t len f g h k = absurd (omega (arith, len))
  definition_items (x ∷ xs) n l s t len f g h k = ap (λ ys. behind_word d names book e word.DefineFun (x ∷ ys)) (four_items xs n l s t (omega (arith, len)) f g h k)

  pub conclusion_items : (xs : List Sexpr) (n i : Sexpr) → length xs ≡ 3 → slice_get xs 1 ≡ Some n → slice_get xs 2 ≡ Some i → behind_word d names book e word.Conclude xs ≡ conclusion_command n i
  conclusion_items [] n i len f g = absurd (omega (arith, len))
  conclusion_items (x ∷ xs) n i len f g = ap (λ ys. behind_word d names book e word.Conclude (x ∷ ys)) (two_items xs n i (omega (arith, len)) f g)

  pub no_definition : (xs : List Sexpr) → ¬ (length xs ≡ 5) → behind_word d names book e word.DefineFun xs ≡ refused e reason.BadForm
  no_definition [] n = refl
  no_definition (a ∷ []) n = refl
  no_definition (a ∷ b ∷ []) n = refl
  no_definition (a ∷ b ∷ c ∷ []) n = refl
  no_definition (a ∷ b ∷ c ∷ p ∷ []) n = refl
  no_definition (a ∷ b ∷ c ∷ p ∷ q ∷ []) n = absurd (n refl)
  no_definition (a ∷ b ∷ c ∷ p ∷ q ∷ r ∷ more) n = refl

  pub no_conclusion : (xs : List Sexpr) → ¬ (length xs ≡ 3) → behind_word d names book e word.Conclude xs ≡ refused e reason.BadForm
  no_conclusion [] n = refl
  no_conclusion (a ∷ []) n = refl
  no_conclusion (a ∷ b ∷ []) n = refl
  no_conclusion (a ∷ b ∷ c ∷ []) n = absurd (n refl)
  no_conclusion (a ∷ b ∷ c ∷ p ∷ more) n = refl

  -- ---- steps

  pub other_count : (xs : List Sexpr) → is_step_count (length xs) ≡ false → behind_word d names book e word.Step xs ≡ refused e reason.BadForm
  other_count [] n = refl
  other_count (a ∷ []) n = refl
  other_count (a ∷ b ∷ []) n = refl
  other_count (a ∷ b ∷ c ∷ []) n = refl
  other_count (a ∷ b ∷ c ∷ p ∷ []) n = refl
  other_count (a ∷ b ∷ c ∷ p ∷ q ∷ []) n = absurd (untrue (sym n))
  other_count (a ∷ b ∷ c ∷ p ∷ q ∷ r ∷ []) n = refl
  other_count (a ∷ b ∷ c ∷ p ∷ q ∷ r ∷ s ∷ []) n = absurd (untrue (sym n))
  other_count (a ∷ b ∷ c ∷ p ∷ q ∷ r ∷ s ∷ t ∷ []) n = refl
  other_count (a ∷ b ∷ c ∷ p ∷ q ∷ r ∷ s ∷ t ∷ u ∷ []) n = absurd (untrue (sym n))
  other_count (a ∷ b ∷ c ∷ p ∷ q ∷ r ∷ s ∷ t ∷ u ∷ v ∷ more) n = refl

  -- the end behind what stands first
  abbrev pub with_rest : List Sexpr → Start → Read ProofCommand
  with_rest xs s = go_on (end_by d names book e (drop 5 xs) s.word) (λ x. Ok (with_end s x))

  step_parts : (h i c k r : Sexpr) (more : List Sexpr) → step_command d names book e i c k r more ≡ go_on (start_by d names e i c k r) (with_rest (h ∷ i ∷ c ∷ k ∷ r ∷ more))
  step_parts h i c k r more = by (symbol_at i) (sides_at d names e c) (rule_behind k r)
    where
      by : (a : Read (List ℕ)) (b : Read (Tree × Tree)) (q : Read RuleWord) →
          go_on a (λ id. go_on b (λ sides. go_on q (λ word. go_on (end_by d names book e more word) (λ x.
          Ok (Step (record { id = id; concluded = equation sides.0 sides.1; rule = x.rule; premises = x.premises }))))))
          ≡ go_on (go_on a (λ id. go_on b (λ sides. go_on q (λ word. Ok (start id sides word))))) (with_rest (h ∷ i ∷ c ∷ k ∷ r ∷ more))
      by (Err f) b q = refl
      by (Ok id) (Err f) q = refl
      by (Ok id) (Ok sides) (Err f) = refl
      by (Ok id) (Ok sides) (Ok word) = refl

  pub step_counted : (xs : List Sexpr) → is_step_count (length xs) ≡ true → behind_word d names book e word.Step xs ≡ go_on (first_items d names e xs) (with_rest xs)
  step_counted [] n = absurd (untrue n)
  step_counted (a ∷ []) n = absurd (untrue n)
  step_counted (a ∷ b ∷ []) n = absurd (untrue n)
  step_counted (a ∷ b ∷ c ∷ []) n = absurd (untrue n)
  step_counted (a ∷ b ∷ c ∷ p ∷ []) n = absurd (untrue n)
  step_counted (a ∷ b ∷ c ∷ p ∷ q ∷ []) n = step_parts a b c p q []
  step_counted (a ∷ b ∷ c ∷ p ∷ q ∷ r ∷ []) n = absurd (untrue n)
  step_counted (a ∷ b ∷ c ∷ p ∷ q ∷ r ∷ s ∷ []) n = step_parts a b c p q (r ∷ s ∷ [])
  step_counted (a ∷ b ∷ c ∷ p ∷ q ∷ r ∷ s ∷ t ∷ []) n = absurd (untrue n)
  step_counted (a ∷ b ∷ c ∷ p ∷ q ∷ r ∷ s ∷ t ∷ u ∷ []) n = step_parts a b c p q (r ∷ s ∷ t ∷ u ∷ [])
  step_counted (a ∷ b ∷ c ∷ p ∷ q ∷ r ∷ s ∷ t ∷ u ∷ v ∷ more) n =
      absurd (at_most_nine (length (a ∷ b ∷ c ∷ p ∷ q ∷ r ∷ s ∷ t ∷ u ∷ v ∷ more)) (omega arith) (counted (length (a ∷ b ∷ c ∷ p ∷ q ∷ r ∷ s ∷ t ∷ u ∷ v ∷ more)) n))

  pub first_are : (xs : List Sexpr) (i c k r : Sexpr) → 5 ≤ length xs → slice_get xs 1 ≡ Some i → slice_get xs 2 ≡ Some c → slice_get xs 3 ≡ Some k → slice_get xs 4 ≡ Some r →
      first_items d names e xs ≡ start_by d names e i c k r
  first_are [] i c k r five f g h j = absurd (omega (arith, five))
  first_are (x ∷ []) i c k r five f g h j = absurd (omega (arith, five))
  first_are (x ∷ y ∷ []) i c k r five f g h j = absurd (omega (arith, five))
  first_are (x ∷ y ∷ z ∷ []) i c k r five f g h j = absurd (omega (arith, five))
  first_are (x ∷ y ∷ z ∷ u ∷ []) i c k r five f g h j = absurd (omega (arith, five))
  first_are (x ∷ y ∷ z ∷ u ∷ v ∷ more) i c k r five f g h j =
      let a = same_Some y i f in let b = same_Some z c g in let m = same_Some u k h in let n = same_Some v r j in λ t. start_by d names e (a t) (b t) (m t) (n t)

  -- ---- whole commands

  at_first : (xs : List Sexpr) (h : Sexpr) → slice_get xs 0 ≡ Some h → (more : List Sexpr) × (xs ≡ h ∷ more)
  at_first [] h f = absurd (none-some h f)
  at_first (x ∷ xs) h f = (xs, ap (λ y. y ∷ xs) (same_Some x h f))

  abbrev by_head : Sexpr → List Sexpr → Bool → Option ProofWord → Read ProofCommand
  by_head h items symbol w = if symbol then proof_command_or d names book e items w else refused e reason.BadForm

  pub empty_command : length (items_of e) ≡ 0 → proof_command d names book e ≡ refused e reason.BadForm
  unfolding proof_command
  empty_command n = by (items_of e) n
    where
      by : (xs : List Sexpr) → length xs ≡ 0 → proof_command_of d names book e xs ≡ refused e reason.BadForm
      by [] n = refl
      by (x ∷ xs) n = absurd (omega (arith, n))

  headed : (h : Sexpr) → slice_get (items_of e) 0 ≡ Some h → (w : Option ProofWord) → entry proof_words (text_of h) ≡ w → (b : Bool) → is_symbol_kind (kind_of h) ≡ b →
      (more : List Sexpr) × (items_of e ≡ h ∷ more) × (proof_command d names book e ≡ by_head h more b w)
  unfolding proof_command
  headed h f w is b symbol =
      let first = at_first (items_of e) h f in
      (first.0, first.1, ap (proof_command_of d names book e) first.1 ∙ (λ i. by_head h first.0 (symbol i) (is i)))

  pub no_symbol : (h : Sexpr) → slice_get (items_of e) 0 ≡ Some h → is_symbol_kind (kind_of h) ≡ false → proof_command d names book e ≡ refused e reason.BadForm
  no_symbol h f symbol = (headed h f (entry proof_words (text_of h)) refl false symbol).2

  pub no_word : (h : Sexpr) → slice_get (items_of e) 0 ≡ Some h → is_symbol_kind (kind_of h) ≡ true → entry proof_words (text_of h) ≡ None → proof_command d names book e ≡ refused e reason.UnknownCommand
  no_word h f symbol is = (headed h f None is true symbol).2

  pub one_word : (h : Sexpr) (w : ProofWord) → slice_get (items_of e) 0 ≡ Some h → is_symbol_kind (kind_of h) ≡ true → entry proof_words (text_of h) ≡ Some w → proof_command d names book e ≡ behind_word d names book e w (items_of e)
  one_word h w f symbol is = let r = headed h f (Some w) is true symbol in r.2 ∙ ap (behind_word d names book e w) (sym r.1)
