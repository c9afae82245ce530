-- What the numbers of arguments stand for, and what a rule in form says of their number.
use Rattle.std.proofs.Common.{◌≡◌, ℕ, zero, suc, ◌<◌, Bool as Test, true, false, ◌&&◌, List, [], ◌∷◌, length, map, get_or, slice_get, All, Some, None, refl, sym, ap, ◌∙◌, subst, arith, if◌then◌else◌}
use Rattle.std.proofs.lemmas.Bool.{lt-ltb}
use Rattle.std.proofs.lemmas.List.Elements.{All-nil, All-cons}
use Rattle.std.proofs.lemmas.Option.{none-some}
use Rattle.std.specs.Prelude.{pos, is_some, unwrap_or}
use Rattle.rare_linear.specs.Linears.{Part, NamesBelow, number, value_at}
use Rattle.rare_linear.specs.declared.constraint.Constraint.{Constraint}
use Rattle.rare_sort.specs.DeclaredSorts.{names_below}
use Rattle.rare_sort.specs.declared.sort.Signature.{Signature}
use Rattle.rare_sort.specs.declared.sort.Sort.{Sort}
use Rattle.rare_sort.specs.declared.sort.Sort.TheOpen as shape
use Rattle.rare_sort.specs.declared.sort.Sort.TheOpen.{Sort-F}
use Rattle.rare_sort.specs.declared.sort.Sort.TheFolds.{fold-roll-Sort}
use Rattle.rare_sort.specs.declared.sort.Sort.TheViews.{Array}
use Rattle.rare_sort.specs.declared.sort.Sort.TheBlock.{hidden-the_row-Sort-0}
use Rattle.rare_sort.specs.declared.sort.Sort.{ind-Sort, map-Sort, roll-Sort}
use denote.Hole.Carrier
use Rattle.rare_rule.specs.ParamForms.{are_bounds, are_numbers, all_params, has_sort_over, is_sort_over}
use Rattle.rare_rule.specs.Rules.{IsInForm}
use Rattle.rare_rule.specs.RuleSorting.{Types}
use Rattle.rare_rule.specs.declared.param.Param.{Param}
use Rattle.rare_rule.specs.declared.param.ParamKind.{ParamKind}
use Rattle.rare_rule.specs.declared.param.ParamKind.TheVariants as kind
use Rattle.rare_rule.specs.declared.rule.Rule.{Rule}
use Rattle.rare_type.proofs.Numbers.{over_numbers}
use Rattle.rare_inst.specs.Answers.{is_named_step, is_named_sort}
use Rattle.rare_inst.specs.Arguments.{Argument}
use Rattle.rare_inst.specs.Substituting.{Substitution, number_given, is_formed_given}
use Rattle.rare_inst.specs.declared.substitution.Numbers.{Numbers}
use Rattle.rare_inst.specs.inner.Sites.{HasNamedSort}
use Rattle.rare_inst.specs.inner.Standing.{AreNumbersOf, StandsFor, formed_at, number_within}
use Rattle.rare_inst.proofs.PuttingSorts.{named-BitVec, named-Array}
use Rattle.rare_inst.proofs.RuleTreeLemmas.{both, names_below_params}

-- ---- numbers

pub length_map : {X Y : Type 0} (f : X → Y) (xs : List X) → length (map f xs) ≡ length xs
length_map f [] = refl
length_map f (x ∷ xs) = ap suc (length_map f xs)

at_map : {X Y : Type 0} (f : X → Y) (xs : List X) (k : ℕ) (x : X) (d : Y) → slice_get xs k ≡ Some x → get_or (map f xs) k d ≡ f x
at_map f [] k x d e = absurd (none-some x e)
at_map f (y ∷ xs) zero x d e = let same : y ≡ x = cc in ap f same
at_map f (y ∷ xs) (suc k) x d e = at_map f xs k x d e

there : {X : Type 0} (xs : List X) (k : ℕ) → k < length xs → (x : X) × (slice_get xs k ≡ Some x)
there [] k lt = absurd (omega arith)
there (x ∷ xs) zero lt = (x, refl)
there (x ∷ xs) (suc k) lt = there xs k (omega arith)

module _ (symbols : List Signature) (xs : List Argument) (n : Numbers) (are : AreNumbersOf symbols xs n) where
  pub count_is : length n.values ≡ length xs
  count_is = ap length are.values ∙ length_map _ xs

  formed_is : (x : Argument) → is_some (number_within symbols x) ≡ is_formed_given symbols (Some x)
  formed_is x = go (is_formed_given symbols (Some x))
    where
      go : (b : Test) → is_some (if b then (Some (number_given symbols (Some x))) else None) ≡ b
      go true = refl
      go false = refl

  value_is : (x : Argument) → is_formed_given symbols (Some x) ≡ true → unwrap_or (number_within symbols x) (number (pos 0)) ≡ number_given symbols (Some x)
  value_is x e = ap (λ b. unwrap_or (if b then (Some (number_given symbols (Some x))) else None) (number (pos 0))) e

  pub stands : (a : Substitution) → ((k : ℕ) → a.number k ≡ number_given symbols (slice_get xs k)) → ((k : ℕ) → a.is_formed k ≡ is_formed_given symbols (slice_get xs k)) → StandsFor a n
  stands a numbers formed = record {
    formed = λ k lt.
        let x = there xs k (omega (arith, lt, count_is)) in
        formed k ∙ ap (is_formed_given symbols) x.1 ∙ sym (formed_is x.0) ∙ sym (ap (λ fs. formed_at fs k) are.formed ∙ at_map _ xs k x.0 true x.1);
    number = λ k lt e.
        let x = there xs k (omega (arith, lt, count_is)) in
        let is = sym (formed_is x.0) ∙ sym (ap (λ fs. formed_at fs k) are.formed ∙ at_map _ xs k x.0 true x.1) ∙ e in
        numbers k ∙ ap (number_given symbols) x.1 ∙ sym (value_is x.0 is) ∙ sym (ap (λ vs. value_at vs k) are.values ∙ at_map _ xs k x.0 (number (pos 0)) x.1);
  }

-- ---- what a rule in form says

module _ (ps : List Param) where
  pub constraints_named : (cs : List Constraint) → are_bounds ps cs ≡ true → All (λ c. NamesBelow (length ps) c.floor.parts) cs
  constraints_named [] h = All-nil (λ (c : Constraint). NamesBelow (length ps) c.floor.parts)
  constraints_named (c ∷ cs) h =
      let b = both (are_numbers ps c.floor.parts) (are_bounds ps cs) h in
      All-cons (λ (c : Constraint). NamesBelow (length ps) c.floor.parts) c cs (names_below_params ps c.floor.parts b.0) (constraints_named cs b.1)

  over-Array : (k e : Sort) → is_sort_over ps (Array k e) ≡ (is_sort_over ps k && is_sort_over ps e)
  unfolding hidden-the_row-Sort-0 denote.Hole.Carrier.hidden
  over-Array k e = refl

  abbrev Claim : Sort → Type 0
  Claim s = is_sort_over ps s ≡ true → is_named_sort (length ps) s ≡ true

  abbrev Held : Type 0
  Held = (s : Sort) × Claim s

  -- an expression over names of a list is over names below its length
  test_below : (n : ℕ) (qs : List Part) → NamesBelow n qs → names_below n qs ≡ true
  test_below n [] h = refl
  test_below n (q ∷ qs) h = rw (lt-ltb q.0 n h.0) (test_below n qs h.1)

  at_node : (y : Sort-F Held) → Claim (roll-Sort (map-Sort Held Sort (λ s. s.0) y))
  unfolding roll-Sort Carrier.roll
  at_node shape.Bool e = fold-roll-Sort Test (is_named_step (length ps)) shape.Bool
  at_node shape.Int e = fold-roll-Sort Test (is_named_step (length ps)) shape.Int
  at_node (shape.BitVec m) e = named-BitVec (length ps) m ∙ test_below (length ps) m.parts (names_below_params ps m.parts e)
  at_node (shape.Named k) e = fold-roll-Sort Test (is_named_step (length ps)) (shape.Named k)
  at_node (shape.Array a b) e =
      let x = both (is_sort_over ps a.0) (is_sort_over ps b.0) (sym (over-Array a.0 b.0) ∙ e) in
      named-Array (length ps) a.0 b.0 ∙ rw (a.1 x.0, b.1 x.1) refl

  pub sort_named : (s : Sort) → Claim s
  sort_named = ind-Sort Claim (λ x y is. subst (λ z. Claim (roll-Sort z)) is (at_node y))

  kind_named : (c : ParamKind) → has_sort_over ps c ≡ true → HasNamedSort (length ps) c
  kind_named (kind.Term s) h = sort_named s h
  kind_named (kind.List s) h = sort_named s h
  kind_named kind.SortName h = tt
  kind_named kind.Width h = tt
  kind_named kind.Index h = tt
  kind_named kind.WideList h = tt

  kinds_named : (qs : List Param) → all_params (λ p. has_sort_over ps p.kind) qs ≡ true → All (λ p. HasNamedSort (length ps) p.kind) qs
  kinds_named [] h = All-nil (λ (p : Param). HasNamedSort (length ps) p.kind)
  kinds_named (q ∷ qs) h =
      let b = both (has_sort_over ps q.kind) (all_params (λ p. has_sort_over ps p.kind) qs) h in
      All-cons (λ (p : Param). HasNamedSort (length ps) p.kind) q qs (kind_named q.kind b.0) (kinds_named qs b.1)

pub sorts_named : (r : Rule) → IsInForm r → All (λ p. HasNamedSort (length r.params) p.kind) r.params
sorts_named r form = kinds_named r.params r.params form.sorts

pub floors_named : (r : Rule) (cs : List Constraint) → IsInForm r → Types r cs → All (λ c. NamesBelow (length r.params) c.floor.parts) cs
floors_named r cs form types = constraints_named r.params cs (over_numbers r cs form types)
