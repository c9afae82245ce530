-- The first condition of a command that fails, by what was judged before.
use Rattle.std.proofs.Common.{◌≡◌, ℕ, zero, suc, ◌<◌, Bool, true, false, List, [], ◌∷◌, length, map, All, get_or, slice_get, Option, Some, None, Ok, Err, position, bytes_eq, refl, ap, sym, ◌∙◌, arith, subst, if◌then◌else◌}
use Rattle.std.specs.Option.{option_map}
use Rattle.std.proofs.lemmas.List.{length-map}
use Rattle.std.proofs.lemmas.List.Elements.{All-nil, All-cons}
use Rattle.std.proofs.lemmas.List.Quantifiers.{position-Some}
use Rattle.std.proofs.lemmas.Option.{none-some, same_Some, slice_get-get_or}
use Rattle.rare_sort.specs.Ids.{tree_at}
use Rattle.rare_sort.specs.declared.tree.Tree.{Tree}
use Rattle.rare_scope.specs.Reserved.{is_among}
use Rattle.rare_text.specs.Stated.{HaveIds, stated_rewrite}
use Rattle.rare_text.specs.declared.problem.Rewrite.{Rewrite}
use Rattle.rare_sort.specs.Sorting.{all_of}
use Rattle.rare_term.specs.State.{State}
use Rattle.rare_rule.specs.Books.{BookRule}
use Rattle.rare_proof.specs.Proofs.{concluded_by, stated_rule, stated_step, stated_steps}
use Rattle.rare_proof_text.specs.ArgumentText.{NamedRule}
use Rattle.rare_proof.specs.Sided.{equation_of, AreSides}
use Rattle.rare_proof.specs.Steps.{Equation, equation, equations_at, step_fault}
use Rattle.rare_proof.specs.declared.fault.StepFault.{StepFault}
use Rattle.rare_proof.specs.declared.fault.StepFault.TheVariants.{IdUsed, NoSuchStep, NoSuchRewrite}
use Rattle.rare_proof.specs.declared.step.Step.{Step}
use Rattle.rare_proof.proofs.Premises.{concluded_at}
use Rattle.rare_proof_text.specs.ProofCommands.{NamedStep}
use Rattle.rare_check.specs.Verdicts.{NamedEquation, ids_of, equation_named, equations_named, named_rule_fault, named_step_fault, rewrite_place, equation_of_rewrite, equation_fault, conclusion_fault}
use Rattle.rare_check.specs.declared.judged.Judged.{Judged}
use Rattle.rare_check.specs.inner.Judging.{IsJudged, earlier_of, equation_at, place_named, places_named}
use Rattle.rare_check.proofs.Naming.{named_at, named_ids, wanted_some, wanted_none, place_within, equation_there}
use Rattle.rare_check.proofs.Listing.{there}

pub concluded_length : (ts : List Tree) (steps : List Step) → length (concluded_by ts steps) ≡ length steps
concluded_length ts steps = length-map (stated_steps ts steps) (λ x. x.concluded) ∙ length-map steps (stated_step ts)

-- the places under ids are below a number that bounds all
pub places_below : (n : ℕ) (ids : List (List ℕ)) (ks : List ℕ) → All (λ k. k < n) ks → (ws : List (List ℕ)) (ps : List ℕ) → places_named ids ks ws ≡ Some ps → All (λ k. k < n) ps
places_below n ids ks within [] ps e = subst (λ (qs : List ℕ). All (λ k. k < n) qs) (same_Some [] ps e) (All-nil (λ k. k < n))
places_below n ids ks within (w ∷ ws) ps e = by (place_named ids ks w) refl (places_named ids ks ws) refl e (places_below n ids ks within ws)
  where
    by : (o : Option ℕ) → place_named ids ks w ≡ o → (os : Option (List ℕ)) → places_named ids ks ws ≡ os → all_of (o ∷ map (place_named ids ks) ws) ≡ Some ps →
        ((qs : List ℕ) → places_named ids ks ws ≡ Some qs → All (λ k. k < n) qs) → All (λ k. k < n) ps
    by None at os m e ih = absurd (none-some ps e)
    by (Some k) at None m e ih = absurd (none-some ps (sym (ap (option_map (λ xs. k ∷ xs)) m) ∙ e))
    by (Some k) at (Some qs) m e ih =
        let same : k ∷ qs ≡ ps = same_Some (k ∷ qs) ps (sym (ap (option_map (λ xs. k ∷ xs)) m) ∙ e) in
        subst (λ (xs : List ℕ). All (λ k. k < n) xs) same (All-cons (λ k. k < n) k qs (place_within w n ids ks k within at) (ih qs m))

-- the equations at places that are there
all_there : (es : List Equation) (ps : List ℕ) → All (λ k. k < length es) ps → (xs : List Equation) × (equations_at es ps ≡ Some xs)
all_there es [] h = ([], refl)
all_there es (k ∷ ps) h =
    let rest = all_there es ps (λ m d lt. h (suc m) d (omega arith)) in
    (equation_at es k ∷ rest.0, ap (λ o. all_of (o ∷ map (slice_get es) ps)) (equation_there es k (h 0 k (omega arith))) ∙ ap (option_map (λ xs. equation_at es k ∷ xs)) rest.1)

module _ (s : State) (book : List BookRule) (j : Judged) (h : IsJudged s book j) where
  pub places_within : All (λ k. k < length (concluded_by s.trees j.proof)) j.places
  places_within = λ k d lt. let b = h.within k d lt in let n = concluded_length s.trees j.proof in omega (arith, n, b)

  among : (id : List ℕ) → is_among (ids_of (earlier_of s.trees j)) id ≡ is_among j.ids id
  among id = ap (λ is. is_among is id) (named_ids (concluded_by s.trees j.proof) j.ids j.places h.matched)

  abbrev by_use : NamedStep → Bool → Option StepFault
  by_use x b = if b then Some IdUsed else named_rule_fault s.declared book x.rule x.concluded (equations_named (earlier_of s.trees j) x.premises)

  abbrev fault_of_step : NamedStep → Option StepFault
  fault_of_step x = named_step_fault s.declared book (earlier_of s.trees j) x

  pub id_used : (x : NamedStep) → is_among j.ids x.id ≡ true → fault_of_step x ≡ Some IdUsed
  id_used x e = ap (by_use x) (among x.id ∙ e)

  none_there : (r : NamedRule) (e : Equation) → named_rule_fault s.declared book r e None ≡ Some NoSuchStep
  none_there (Ok r) e = refl
  none_there (Err fault) e = refl

  pub no_such_step : (x : NamedStep) → is_among j.ids x.id ≡ false → places_named j.ids j.places x.premises ≡ None → fault_of_step x ≡ Some NoSuchStep
  no_such_step x e none =
      ap (by_use x) (among x.id ∙ e)
      ∙ ap (named_rule_fault s.declared book x.rule x.concluded) (wanted_none (concluded_by s.trees j.proof) j.ids j.places places_within x.premises none)
      ∙ none_there x.rule x.concluded

  -- a step with a new id and no rule
  pub no_rule : (x : NamedStep) (fault : StepFault) (ps : List ℕ) → is_among j.ids x.id ≡ false → places_named j.ids j.places x.premises ≡ Some ps → All (λ k. k < length j.proof) ps →
      x.rule ≡ Err fault → fault_of_step x ≡ Some fault
  no_rule x fault ps e some lt rule =
      ap (by_use x) (among x.id ∙ e)
      ∙ (λ i. named_rule_fault s.declared book (rule i) x.concluded (sym (wanted_some (concluded_by s.trees j.proof) j.ids j.places places_within x.premises ps some) i))
      ∙ ap (named_rule_fault s.declared book (Err fault) x.concluded) (all_there (concluded_by s.trees j.proof) ps (λ k d b. let n = concluded_length s.trees j.proof in let h = lt k d b in omega (arith, h, n))).1

  -- a step with a new id is judged as the step at the places of its premises
  pub by_places : (x : NamedStep) (t : Step) → is_among j.ids x.id ≡ false → places_named j.ids j.places x.premises ≡ Some t.premises →
      x.rule ≡ Ok (stated_rule s.trees t.by) → x.concluded ≡ equation (tree_at s.trees t.left.0) (tree_at s.trees t.right.0) →
      fault_of_step x ≡ step_fault s.declared book (concluded_by s.trees j.proof) (stated_step s.trees t)
  by_places x t e some rule concluded =
      ap (by_use x) (among x.id ∙ e)
      ∙ ap (named_rule_fault s.declared book x.rule x.concluded) (sym (wanted_some (concluded_by s.trees j.proof) j.ids j.places places_within x.premises t.premises some))
      ∙ (λ i. named_rule_fault s.declared book (rule i) (concluded i) (equations_at (concluded_by s.trees j.proof) t.premises))

  pub named_none : (id : List ℕ) → place_named j.ids j.places id ≡ None → equation_named (earlier_of s.trees j) id ≡ None
  named_none id e = named_at id (concluded_by s.trees j.proof) j.ids j.places ∙ ap (option_map (equation_at (concluded_by s.trees j.proof))) e

  pub named_some : (id : List ℕ) (k : ℕ) (t : Step) → place_named j.ids j.places id ≡ Some k → slice_get j.proof k ≡ Some t →
      equation_named (earlier_of s.trees j) id ≡ Some (equation_of s.trees (record { left = t.left; right = t.right }))
  named_some id k t e at =
      let es = concluded_by s.trees j.proof in
      let found = concluded_at s.trees j.proof k t at in
      named_at id es j.ids j.places ∙ ap (option_map (equation_at es)) e ∙ ap Some ((there es k (equation (tree_at [] 0) (tree_at [] 0)) (equation_of s.trees (record { left = t.left; right = t.right })) found).1)

  pub place_is_step : (id : List ℕ) (k : ℕ) → place_named j.ids j.places id ≡ Some k → k < length j.proof
  place_is_step id k e = place_within id (length j.proof) j.ids j.places k h.within e

-- ---- conclusions

pub names_stated : (ts : List Tree) (rs : List Rewrite) → map (λ r. r.name) (map (stated_rewrite ts) rs) ≡ map (λ r. r.name) rs
names_stated ts [] = refl
names_stated ts (r ∷ rs) = ap (λ ns. r.name ∷ ns) (names_stated ts rs)

pub place_is : (ts : List Tree) (rs : List Rewrite) (name : List ℕ) → rewrite_place (map (stated_rewrite ts) rs) name ≡ position (bytes_eq name) (map (λ r. r.name) rs)
place_is ts rs name = ap (position (bytes_eq name)) (names_stated ts rs)

equation_is : (ts : List Tree) (rs : List Rewrite) (k : ℕ) (r : Rewrite) → slice_get rs k ≡ Some r →
    equation_of_rewrite (map (stated_rewrite ts) rs) (Some k) ≡ Some (equation_of ts (record { left = r.left; right = r.right }))
equation_is ts [] k r e = absurd (none-some r e)
equation_is ts (x ∷ rs) zero r e = let same = same_Some x r e in λ i. Some (equation (tree_at ts (same i).left.0) (tree_at ts (same i).right.0))
equation_is ts (x ∷ rs) (suc k) r e = equation_is ts rs k r e

-- what fails for a rewrite at a place, and for none
pub fault_at : (ts : List Tree) (rs : List Rewrite) (earlier : List NamedEquation) (name id : List ℕ) (k : ℕ) (r : Rewrite) → position (bytes_eq name) (map (λ r. r.name) rs) ≡ Some k → slice_get rs k ≡ Some r →
    conclusion_fault (map (stated_rewrite ts) rs) earlier name id ≡ equation_fault (Some (equation_of ts (record { left = r.left; right = r.right }))) (equation_named earlier id)
fault_at ts rs earlier name id k r place at =
    ap (λ s. equation_fault s (equation_named earlier id)) (ap (equation_of_rewrite (map (stated_rewrite ts) rs)) (place_is ts rs name ∙ place) ∙ equation_is ts rs k r at)

pub fault_nowhere : (ts : List Tree) (rs : List Rewrite) (earlier : List NamedEquation) (name id : List ℕ) → position (bytes_eq name) (map (λ r. r.name) rs) ≡ None →
    conclusion_fault (map (stated_rewrite ts) rs) earlier name id ≡ Some NoSuchRewrite
fault_nowhere ts rs earlier name id place =
    ap (λ p. equation_fault (equation_of_rewrite (map (stated_rewrite ts) rs) p) (equation_named earlier id)) (place_is ts rs name ∙ place)

pub ids_of_rewrite : (n : ℕ) (rs : List Rewrite) (k : ℕ) (r : Rewrite) → HaveIds n rs → slice_get rs k ≡ Some r → AreSides n (record { left = r.left; right = r.right })
ids_of_rewrite n [] k r h e = absurd (none-some r e)
ids_of_rewrite n (x ∷ rs) zero r h e = let b = subst (λ (y : Rewrite). (y.left.0 < n) × (y.right.0 < n)) (same_Some x r e) (h 0 x (omega arith)) in record { left = b.0; right = b.1 }
ids_of_rewrite n (x ∷ rs) (suc k) r h e = ids_of_rewrite n rs k r (λ m d lt. h (suc m) d (omega arith)) e

-- the rewrite at the place that was found
pub rewrite_there : (rs : List Rewrite) (name : List ℕ) (k : ℕ) (r : Rewrite) → position (bytes_eq name) (map (λ r. r.name) rs) ≡ Some k → r ≡ get_or rs k r → slice_get rs k ≡ Some r
rewrite_there rs name k r at is =
    let found = position-Some (bytes_eq name) (map (λ (x : Rewrite). x.name) rs) k [] at in
    let n : length (map (λ r. r.name) rs) ≡ length rs = length-map rs (λ (x : Rewrite). x.name) in
    slice_get-get_or rs k r (omega (arith, n, found.0)) ∙ ap Some (sym is)
