-- Arguments and terms of lists, one item after the other.
use Rattle.std.proofs.Common.{◌≡◌, ℕ, ◌+◌, ◌≤◌, List, [], ◌∷◌, ◌++◌, drop, length, slice_get, Some, Ok, ap, sym, ◌∙◌, subst}
use Rattle.std.proofs.lemmas.List.{map-append}
use Rattle.rare_base.specs.declared.answers.Fault.{Fault}
use Rattle.rare_sexpr.specs.declared.tree.Sexpr.{Sexpr}
use Rattle.rare_sort.specs.Ids.{tree_at, trees_at, AreIds}
use Rattle.rare_sort.specs.declared.declarations.Declarations.{Declarations}
use Rattle.rare_sort.specs.declared.tree.TermId.{TermId}
use Rattle.rare_sort.specs.declared.tree.Tree.{Tree}
use Rattle.rare_term.specs.State.{State, Grows}
use Rattle.rare_scope.specs.Answers.{Fails}
use Rattle.rare_scope.specs.Names.{Held, Names, names_of, AreMeant}
use Rattle.rare_scope.specs.Reading.{Read, go_on}
use Rattle.rare_scope.proofs.InOrder.{fails_on, goes_on}
use Rattle.rare_scope.proofs.Listing.{drop_at, drop_all}
use Rattle.rare_term_text.specs.TermText.{term_at}
use Rattle.rare_term_text.proofs.Naming.{trees_kept, trees_push}
use Rattle.rare_rule.specs.declared.param.Param.{Param}
use Rattle.rare_inst.specs.Answers.{AreGiven}
use Rattle.rare_inst.specs.Arguments.{Argument, argument_of, arguments_of}
use Rattle.rare_inst.specs.declared.arg.Arg.{Arg}
use Rattle.rare_proof.proofs.Growing.{arguments_kept}
use Rattle.rare_proof_text.specs.ArgumentText.{argument_at, arguments_from, terms_from}
use Rattle.rare_proof_text.proofs.Growing.{read_kept}

module _ (d : Declarations) (names : Names) where
  next_term : (ts : List Tree) (xs : List Sexpr) (k : ℕ) (x : Sexpr) → slice_get xs k ≡ Some x →
      terms_from d names ts (drop k xs) ≡ go_on (term_at d names x) (λ t. terms_from d names (ts ++ t ∷ []) (drop (k + 1) xs))
  next_term ts xs k x at = ap (terms_from d names ts) (drop_at xs k x at)

  pub last_term : (ts : List Tree) (xs : List Sexpr) (k : ℕ) → length xs ≤ k → terms_from d names ts (drop k xs) ≡ Ok ts
  last_term ts xs k le = ap (terms_from d names ts) (drop_all xs k le)

  next_argument : (before : List Argument) (ps : List Param) (xs : List Sexpr) (k j : ℕ) (p : Param) (x : Sexpr) → slice_get ps k ≡ Some p → slice_get xs j ≡ Some x →
      arguments_from d names before (drop k ps) (drop j xs) ≡ go_on (argument_at d names p.kind x) (λ a. arguments_from d names (before ++ a ∷ []) (drop (k + 1) ps) (drop (j + 1) xs))
  next_argument before ps xs k j p x param item = λ i. arguments_from d names before (drop_at ps k p param i) (drop_at xs j x item i)

  pub last_argument : (before : List Argument) (ps : List Param) (xs : List Sexpr) (k : ℕ) → length ps ≤ k → arguments_from d names before (drop k ps) xs ≡ Ok before
  last_argument before ps xs k le = ap (λ qs. arguments_from d names before qs xs) (drop_all ps k le)

module _ (old now : State) (held : Held) (g : Grows old now) (are : AreMeant old held) where
  abbrev names : Names
  names = names_of old.trees held

  -- a turn of the loop over terms
  pub term_turn : (next : State) (xs : List Sexpr) (x : Sexpr) (ids : List TermId) (id : TermId) (whole : Read (List Tree)) (k : ℕ) → Grows now next → AreIds (length now.trees) ids →
      slice_get xs k ≡ Some x → term_at now.declared (names_of now.trees held) x ≡ Ok (tree_at next.trees id.0) →
      terms_from old.declared names (trees_at now.trees ids) (drop k xs) ≡ whole → terms_from old.declared names (trees_at next.trees (ids ++ id ∷ [])) (drop (k + 1) xs) ≡ whole
  term_turn next xs x ids id whole k more a at read so =
      let ts = trees_at now.trees ids in
      ap (λ us. terms_from old.declared names us (drop (k + 1) xs))
      (trees_push next.trees ids id ∙ ap (λ us. us ++ tree_at next.trees id.0 ∷ []) (trees_kept now.trees next.trees ids more.trees a))
      ∙ sym (goes_on (term_at old.declared names x) (tree_at next.trees id.0) (λ t. terms_from old.declared names (ts ++ t ∷ []) (drop (k + 1) xs)) whole
      (sym so ∙ next_term old.declared names ts xs k x at) (sym (read_kept (λ d n. term_at d n x) old now held g are) ∙ read))

  -- a term has a fault
  pub term_stops : (f : Fault) (xs : List Sexpr) (x : Sexpr) (ts : List Tree) (whole : Read (List Tree)) (k : ℕ) → slice_get xs k ≡ Some x →
      Fails f (term_at now.declared (names_of now.trees held) x) → terms_from old.declared names ts (drop k xs) ≡ whole → Fails f whole
  term_stops f xs x ts whole k at bad so =
      fails_on f (term_at old.declared names x) (λ t. terms_from old.declared names (ts ++ t ∷ []) (drop (k + 1) xs)) whole (sym so ∙ next_term old.declared names ts xs k x at)
      (subst (λ (r : Read Tree). Fails f r) (read_kept (λ d n. term_at d n x) old now held g are) bad)

  -- a turn of the loop over arguments
  pub argument_turn : (next : State) (ps : List Param) (xs : List Sexpr) (p : Param) (x : Sexpr) (args : List Arg) (arg : Arg) (whole : Read (List Argument)) (k j : ℕ) → Grows now next → AreGiven now args →
      slice_get ps k ≡ Some p → slice_get xs j ≡ Some x → argument_at now.declared (names_of now.trees held) p.kind x ≡ Ok (argument_of next.trees arg) →
      arguments_from old.declared names (arguments_of now.trees args) (drop k ps) (drop j xs) ≡ whole →
      arguments_from old.declared names (arguments_of next.trees (args ++ arg ∷ [])) (drop (k + 1) ps) (drop (j + 1) xs) ≡ whole
  argument_turn next ps xs p x args arg whole k j more given param item read so =
      let before = arguments_of now.trees args in
      ap (λ bs. arguments_from old.declared names bs (drop (k + 1) ps) (drop (j + 1) xs))
      (map-append (argument_of next.trees) args (arg ∷ []) ∙ ap (λ bs. bs ++ argument_of next.trees arg ∷ []) (arguments_kept now next more args given))
      ∙ sym (goes_on (argument_at old.declared names p.kind x) (argument_of next.trees arg) (λ a. arguments_from old.declared names (before ++ a ∷ []) (drop (k + 1) ps) (drop (j + 1) xs)) whole
      (sym so ∙ next_argument old.declared names before ps xs k j p x param item) (sym (read_kept (λ d n. argument_at d n p.kind x) old now held g are) ∙ read))

  -- an argument has a fault
  pub argument_stops : (f : Fault) (ps : List Param) (xs : List Sexpr) (p : Param) (x : Sexpr) (before : List Argument) (whole : Read (List Argument)) (k j : ℕ) → slice_get ps k ≡ Some p → slice_get xs j ≡ Some x →
      Fails f (argument_at now.declared (names_of now.trees held) p.kind x) → arguments_from old.declared names before (drop k ps) (drop j xs) ≡ whole → Fails f whole
  argument_stops f ps xs p x before whole k j param item bad so =
      fails_on f (argument_at old.declared names p.kind x) (λ a. arguments_from old.declared names (before ++ a ∷ []) (drop (k + 1) ps) (drop (j + 1) xs)) whole
      (sym so ∙ next_argument old.declared names before ps xs k j p x param item) (subst (λ (r : Read Argument). Fails f r) (read_kept (λ d n. argument_at d n p.kind x) old now held g are) bad)
