-- Arguments, steps and proofs as terms grow.
use Rattle.std.proofs.Common.{◌≡◌, IsTrue, ℕ, suc, ◌+◌, ◌<◌, ◌≤◌, List, [], ◌∷◌, ◌++◌, length, get_or, All, refl, sym, ap, ◌∙◌, subst, arith, length-append, append_assoc}
use Rattle.std.proofs.lemmas.List.{append-nil}
use Rattle.std.proofs.Math.ListN.{get_or-append}
use Rattle.rare_linear.specs.Linears.{NamesBelow}
use Rattle.rare_sort.specs.DeclaredSorts.{widths}
use Rattle.rare_sort.specs.Ids.{tree_at, trees_at, AreIds, Extends}
use Rattle.rare_sort.specs.Trees.{node}
use Rattle.rare_sort.specs.declared.declarations.Declarations.{Declarations}
use Rattle.rare_sort.specs.declared.head.Head.TheVariants.{True}
use Rattle.rare_sort.specs.declared.tree.TermId.{TermId}
use Rattle.rare_sort.specs.declared.tree.Tree.{Tree}
use Rattle.rare_term.specs.State.{State, Grows}
use Rattle.rare_inst.specs.Answers.{AreGiven, IsGiven, is_named_sort}
use Rattle.rare_inst.specs.Arguments.{OfTerm, OfList, argument_of, arguments_of}
use Rattle.rare_inst.specs.declared.arg.Arg.{Arg}
use Rattle.rare_inst.specs.declared.arg.Arg.TheVariants as given
use Rattle.rare_rule.specs.Books.{BookRule}
use Rattle.rare_proof.specs.declared.sides.Sides.{Sides}
use Rattle.rare_proof.specs.declared.step.Step.{Step}
use Rattle.rare_proof.specs.declared.step.StepRule.{StepRule}
use Rattle.rare_proof.specs.declared.step.StepRule.TheVariants as by
use Rattle.rare_proof.specs.Proofs.{IsProof, IsProofOver, IsRuleOf, IsStepOf, conclusions, concluded_by, stated_rule, stated_step, stated_steps}
use Rattle.rare_proof.specs.Sided.{AreSides, AllAreSides, equation_of, equations_of}
use Rattle.rare_proof.specs.Steps.{Rewrite, StatedStep, equation}

-- ---- states

pub grows_on : (a b c : State) → Grows a b → Grows b c → Grows a c
grows_on a b c g h = record {
  trees = (g.trees.0 ++ h.trees.0, h.trees.1 ∙ ap (λ ts. ts ++ h.trees.0) g.trees.1 ∙ append_assoc a.trees g.trees.0 h.trees.0);
  declared = h.declared ∙ g.declared;
}

pub grows_not : (s : State) → Grows s s
grows_not s = record { trees = ([], sym (append-nil s.trees)); declared = refl }

module _ (old new : State) (g : Grows old new) where
  pub tree_kept : (i : ℕ) → i < length old.trees → tree_at new.trees i ≡ tree_at old.trees i
  tree_kept i lt = ap (λ ts. tree_at ts i) g.trees.1 ∙ get_or-append old.trees g.trees.0 (node True [] []) i lt

  trees_kept : (ids : List TermId) → AreIds (length old.trees) ids → trees_at new.trees ids ≡ trees_at old.trees ids
  trees_kept [] a = refl
  trees_kept (id ∷ ids) a =
      ap (λ t. t ∷ trees_at new.trees ids) (tree_kept id.0 (a 0 id (omega arith)))
      ∙ ap (λ ts. tree_at old.trees id.0 ∷ ts) (trees_kept ids (λ k d lt. a (suc k) d (omega arith)))

  pub longer : length old.trees ≤ length new.trees
  longer = omega (arith, ap length g.trees.1, length-append old.trees g.trees.0)

  -- ---- arguments

  argument_kept : (x : Arg) → IsGiven old x → argument_of new.trees x ≡ argument_of old.trees x
  argument_kept (given.Sort s) h = refl
  argument_kept (given.Linear e) h = refl
  argument_kept (given.Term id) h = ap OfTerm (tree_kept id.0 h)
  argument_kept (given.List ids) h = ap OfList (trees_kept ids h)

  pub arguments_kept : (xs : List Arg) → AreGiven old xs → arguments_of new.trees xs ≡ arguments_of old.trees xs
  arguments_kept [] h = refl
  arguments_kept (x ∷ xs) h =
      ap (λ y. y ∷ arguments_of new.trees xs) (argument_kept x (h 0 x (omega arith)))
      ∙ ap (λ ys. argument_of old.trees x ∷ ys) (arguments_kept xs (λ k d lt. h (suc k) d (omega arith)))

  one_given : (x : Arg) → IsGiven old x → IsGiven new x
  one_given (given.Sort s) h = subst (λ (d : Declarations). IsTrue (is_named_sort (widths d) s)) (sym g.declared) h
  one_given (given.Linear e) h = subst (λ (d : Declarations). NamesBelow (widths d) e.parts) (sym g.declared) h
  one_given (given.Term id) h = omega (arith, h, longer)
  one_given (given.List ids) h = λ k d lt. let a = h k d lt in omega (arith, a, longer)

  pub are_given : (xs : List Arg) → AreGiven old xs → AreGiven new xs
  are_given xs h k d lt = one_given (get_or xs k d) (h k d lt)

  -- ---- sides

  pub sides_are : (s : Sides) → AreSides (length old.trees) s → AreSides (length new.trees) s
  sides_are s h = record { left = omega (arith, h.left, longer); right = omega (arith, h.right, longer) }

  pub all_sides_are : (ss : List Sides) → AllAreSides (length old.trees) ss → AllAreSides (length new.trees) ss
  all_sides_are ss h k d lt = sides_are (get_or ss k d) (h k d lt)

  pub equation_kept : (s : Sides) → AreSides (length old.trees) s → equation_of new.trees s ≡ equation_of old.trees s
  equation_kept s h = let left = tree_kept s.left.0 h.left in let right = tree_kept s.right.0 h.right in λ i. equation (left i) (right i)

  pub equations_kept : (ss : List Sides) → AllAreSides (length old.trees) ss → equations_of new.trees ss ≡ equations_of old.trees ss
  equations_kept [] h = refl
  equations_kept (s ∷ ss) h =
      let first = equation_kept s (h 0 s (omega arith)) in
      let rest = equations_kept ss (λ k d lt. h (suc k) d (omega arith)) in
      λ i. first i ∷ rest i

  -- ---- steps

  pub rule_kept : (r : StepRule) → IsRuleOf old r → stated_rule new.trees r ≡ stated_rule old.trees r
  rule_kept by.Refl h = refl
  rule_kept by.Cong h = refl
  rule_kept by.Trans h = refl
  rule_kept by.Evaluate h = refl
  rule_kept (by.Rewrite k args) h = ap (Rewrite k) (arguments_kept args h)

  rule_is : (r : StepRule) → IsRuleOf old r → IsRuleOf new r
  rule_is by.Refl h = tt
  rule_is by.Cong h = tt
  rule_is by.Trans h = tt
  rule_is by.Evaluate h = tt
  rule_is (by.Rewrite k args) h = are_given args h

  pub step_is : (s : Step) → IsStepOf old s → IsStepOf new s
  step_is s h = record { left = omega (arith, h.left, longer); right = omega (arith, h.right, longer); by = rule_is s.by h.by }

  pub steps_are : (ss : List Step) → All (IsStepOf old) ss → All (IsStepOf new) ss
  steps_are ss h k d lt = step_is (get_or ss k d) (h k d lt)

  pub step_kept : (s : Step) → IsStepOf old s → stated_step new.trees s ≡ stated_step old.trees s
  step_kept s h =
      let left = tree_kept s.left.0 h.left in
      let right = tree_kept s.right.0 h.right in
      let rule = rule_kept s.by h.by in
      λ i. record { concluded = equation (left i) (right i); rule = rule i; premises = s.premises }

  pub steps_kept : (ss : List Step) → All (IsStepOf old) ss → stated_steps new.trees ss ≡ stated_steps old.trees ss
  steps_kept [] h = refl
  steps_kept (s ∷ ss) h =
      let first = step_kept s (h 0 s (omega arith)) in
      let rest = steps_kept ss (λ k d lt. h (suc k) d (omega arith)) in
      λ i. first i ∷ rest i

  pub concluded_kept : (ss : List Step) → All (IsStepOf old) ss → concluded_by new.trees ss ≡ concluded_by old.trees ss
  concluded_kept ss h = ap conclusions (steps_kept ss h)

  -- a proof stays one
  pub proof_kept : (book : List BookRule) (ss : List Step) → IsProofOver old book ss → IsProofOver new book ss
  proof_kept book ss h = record {
    are = steps_are ss h.are;
    proof =
        let kept = steps_kept ss h.are in
        let declared = g.declared in
        let P : Declarations → Type 0 = λ d. IsProof d book (stated_steps new.trees ss) in
        let Q : List StatedStep → Type 0 = λ xs. IsProof old.declared book xs in
        subst P (sym declared) (subst Q (sym kept) h.proof);
  }
