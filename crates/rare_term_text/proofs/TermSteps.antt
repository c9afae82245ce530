-- The steps of a reading of a term.
use Rattle.std.proofs.Common.{◌≡◌, ℕ, ◌+◌, ◌-◌, ◌<◌, ◌≤◌, List, [], ◌∷◌, ◌++◌, drop, length, codes, slice_get, Some, refl, ap, sym, ◌∙◌, subst, arith, Bool, true, false, Ok, if◌then◌else◌}
use Rattle.std.proofs.lemmas.Option.{none-some, same_Some}
use Rattle.std.proofs.lemmas.List.{length-map, length-drop}
use Rattle.rare_base.specs.declared.answers.Reason.TheVariants as reason
use Rattle.rare_base.specs.declared.answers.Fault.{Fault}
use Rattle.rare_sexpr.specs.declared.tree.Sexpr.{Sexpr}
use Rattle.rare_sexpr.specs.Tree.{items_of, kind_of}
use Rattle.rare_sexpr.proofs.Trees.{go_out}
use Rattle.rare_sort.specs.Ids.{tree_at, trees_at, AreIds}
use Rattle.rare_sort.specs.declared.declarations.Declarations.{Declarations}
use Rattle.rare_sort.specs.declared.tree.TermId.{TermId}
use Rattle.rare_sort.specs.declared.tree.Tree.{Tree}
use Rattle.rare_term.specs.State.{State, Grows}
use Rattle.rare_scope.specs.Answers.{Fails}
use Rattle.rare_scope.specs.LinearText.{widths_of}
use Rattle.rare_scope.specs.declared.meaning.Meaning.TheVariants as meaning
use Rattle.rare_scope.specs.Names.{Held, Names, Meant, a_term, names_of, AreMeant}
use Rattle.rare_scope.specs.Reading.{Read, refused, go_on, is_list_kind, is_word}
use Rattle.rare_scope.proofs.InOrder.{fails_on, goes_on}
use Rattle.rare_scope.proofs.Listing.{drop_at, drop_all}
use Rattle.rare_operators.specs.declared.head.IndexedHead.{IndexedHead}
use Rattle.rare_operators.specs.AtomText.{atom_at}
use Rattle.rare_operators.specs.HeadText.{head_at}
use Rattle.rare_operators.specs.LiteralText.{decimal_literal, linear_literal}
use Rattle.rare_term_text.specs.TermText.{Roles, roles, roles_at, term_at, term_by, list_term, arguments_from, application_of, binding_of, bindings_of, bindings_from, bound_name, let_of, begins_literal}
use Rattle.rare_term_text.specs.inner.Parts.{all_names, parts, with_roles}
use Rattle.rare_term_text.proofs.Naming.{names_kept, names_more, names_over, over_assoc, trees_kept, trees_push}

module _ (d : Declarations) where
  roles_out : (e : Sexpr) → roles_at d e ≡ roles d e (parts d e)
  roles_out e = go_out Roles (roles d) e

  -- an atom, and a list
  pub atom_read : (names : Names) (e : Sexpr) → is_list_kind (kind_of e) ≡ false → term_at d names e ≡ atom_at d names e
  atom_read names e is = ap (λ r. r.term names) (roles_out e) ∙ ap (λ b. term_by d names e b (parts d e)) is

  pub list_read : (names : Names) (e : Sexpr) → is_list_kind (kind_of e) ≡ true → term_at d names e ≡ list_term d names e (parts d e)
  list_read names e is = ap (λ r. r.term names) (roles_out e) ∙ ap (λ b. term_by d names e b (parts d e)) is

  pub empty_read : (names : Names) (e : Sexpr) → is_list_kind (kind_of e) ≡ true → length (items_of e) ≡ 0 → term_at d names e ≡ refused e reason.BadForm
  empty_read names e is none = list_read names e is ∙ go (items_of e) none
    where
      go : (xs : List Sexpr) → length xs ≡ 0 → list_term d names e (with_roles d xs) ≡ refused e reason.BadForm
      go [] n = refl
      go (x ∷ xs) n = absurd (omega (arith, n))

  -- a list by its first item
  by_head : Names → Sexpr → Sexpr → List Sexpr → Bool → Bool → Bool → Read Tree
  by_head names e h xs is_let is_indexed is_literal =
      if is_let then let_of names e (with_roles d xs)
      else if is_indexed then decimal_literal d e (items_of e)
      else if is_literal then linear_literal d (widths_of names) e (items_of e)
      else application_of d names e h (with_roles d (drop 1 xs))

  head_read : (names : Names) (e h : Sexpr) → is_list_kind (kind_of e) ≡ true → slice_get (items_of e) 0 ≡ Some h →
      term_at d names e ≡ by_head names e h (items_of e) (is_word (codes "let") h) (is_word (codes "_") h) (begins_literal names h)
  unfolding by_head
  head_read names e h is at = list_read names e is ∙ go (items_of e) at
    where
      go : (xs : List Sexpr) → slice_get xs 0 ≡ Some h → list_term d names e (with_roles d xs) ≡ by_head names e h xs (is_word (codes "let") h) (is_word (codes "_") h) (begins_literal names h)
      go [] at = absurd (none-some h at)
      go (x ∷ xs) at = ap (λ y. by_head names e y (x ∷ xs) (is_word (codes "let") y) (is_word (codes "_") y) (begins_literal names y)) (same_Some x h at)

  pub let_read : (names : Names) (e h : Sexpr) → is_list_kind (kind_of e) ≡ true → slice_get (items_of e) 0 ≡ Some h → is_word (codes "let") h ≡ true → term_at d names e ≡ let_of names e (parts d e)
  unfolding by_head
  let_read names e h is at one = head_read names e h is at ∙ ap (λ b. by_head names e h (items_of e) b (is_word (codes "_") h) (begins_literal names h)) one

  pub indexed_read : (names : Names) (e h : Sexpr) → is_list_kind (kind_of e) ≡ true → slice_get (items_of e) 0 ≡ Some h → is_word (codes "let") h ≡ false → is_word (codes "_") h ≡ true →
      term_at d names e ≡ decimal_literal d e (items_of e)
  unfolding by_head
  indexed_read names e h is at one two =
      head_read names e h is at ∙ ap (λ b. by_head names e h (items_of e) b (is_word (codes "_") h) (begins_literal names h)) one
      ∙ ap (λ b. by_head names e h (items_of e) false b (begins_literal names h)) two

  pub literal_read : (names : Names) (e h : Sexpr) → is_list_kind (kind_of e) ≡ true → slice_get (items_of e) 0 ≡ Some h → is_word (codes "let") h ≡ false → is_word (codes "_") h ≡ false →
      begins_literal names h ≡ true → term_at d names e ≡ linear_literal d (widths_of names) e (items_of e)
  unfolding by_head
  literal_read names e h is at one two three =
      head_read names e h is at ∙ ap (λ b. by_head names e h (items_of e) b (is_word (codes "_") h) (begins_literal names h)) one
      ∙ ap (λ b. by_head names e h (items_of e) false b (begins_literal names h)) two ∙ ap (λ b. by_head names e h (items_of e) false false b) three

  pub application_read : (names : Names) (e h : Sexpr) → is_list_kind (kind_of e) ≡ true → slice_get (items_of e) 0 ≡ Some h → is_word (codes "let") h ≡ false → is_word (codes "_") h ≡ false →
      begins_literal names h ≡ false → term_at d names e ≡ application_of d names e h (with_roles d (drop 1 (items_of e)))
  unfolding by_head
  application_read names e h is at one two three =
      head_read names e h is at ∙ ap (λ b. by_head names e h (items_of e) b (is_word (codes "_") h) (begins_literal names h)) one
      ∙ ap (λ b. by_head names e h (items_of e) false b (begins_literal names h)) two ∙ ap (λ b. by_head names e h (items_of e) false false b) three

  -- ---- arguments

  -- the head of a list with so many arguments
  pub operator_read : (names : Names) (e h : Sexpr) (n : ℕ) → n ≡ length (items_of e) →
      application_of d names e h (with_roles d (drop 1 (items_of e))) ≡ go_on (head_at d names e h (n - 1)) (λ o. arguments_from d names e o [] (with_roles d (drop 1 (items_of e))))
  operator_read names e h n count =
      let xs = drop 1 (items_of e) in
      ap (λ m. go_on (head_at d names e h m) (λ o. arguments_from d names e o [] (with_roles d xs)))
      (length-map xs (λ x. (x, roles_at d x)) ∙ length-drop 1 (items_of e) ∙ ap (λ m. m - 1) (sym count))

  pub next_read : (names : Names) (e x : Sexpr) (o : IndexedHead) (ts : List Tree) (whole : Read Tree) (k : ℕ) → slice_get (items_of e) k ≡ Some x →
      arguments_from d names e o ts (with_roles d (drop k (items_of e))) ≡ whole →
      whole ≡ go_on (term_at d names x) (λ t. arguments_from d names e o (ts ++ t ∷ []) (with_roles d (drop (k + 1) (items_of e))))
  next_read names e x o ts whole k at so = sym so ∙ ap (λ xs. arguments_from d names e o ts (with_roles d xs)) (drop_at (items_of e) k x at)

  pub last_read : (names : Names) (e : Sexpr) (o : IndexedHead) (ts : List Tree) (whole : Read Tree) (k : ℕ) → length (items_of e) ≤ k →
      arguments_from d names e o ts (with_roles d (drop k (items_of e))) ≡ whole → whole ≡ arguments_from d names e o ts []
  last_read names e o ts whole k le so = sym so ∙ ap (λ xs. arguments_from d names e o ts (with_roles d xs)) (drop_all (items_of e) k le)

  -- ---- `let`

  -- (N t)
  pub binding_read : (names bound : Names) (e n x : Sexpr) → length (items_of e) ≡ 2 → slice_get (items_of e) 0 ≡ Some n → slice_get (items_of e) 1 ≡ Some x →
      (roles_at d e).binding names bound ≡ go_on (bound_name bound n) (λ name. go_on (term_at d names x) (λ t. Ok (name, a_term t)))
  binding_read names bound e n x two first second = ap (λ r. r.binding names bound) (roles_out e) ∙ go (items_of e) two first second
    where
      go : (xs : List Sexpr) → length xs ≡ 2 → slice_get xs 0 ≡ Some n → slice_get xs 1 ≡ Some x → binding_of names bound e (with_roles d xs) ≡ go_on (bound_name bound n) (λ name. go_on (term_at d names x) (λ t. Ok (name, a_term t)))
      go [] two first second = absurd (none-some n first)
      go (a ∷ []) two first second = absurd (none-some x second)
      go (a ∷ b ∷ []) two first second =
          ap (λ m. go_on (bound_name bound m) (λ name. go_on (term_at d names b) (λ t. Ok (name, a_term t)))) (same_Some a n first)
          ∙ ap (λ y. go_on (bound_name bound n) (λ name. go_on (term_at d names y) (λ t. Ok (name, a_term t)))) (same_Some b x second)
      go (a ∷ b ∷ c ∷ xs) two first second = absurd (omega (arith, two))

  pub name_fails : (names bound : Names) (e n : Sexpr) (f : Fault) → length (items_of e) ≡ 2 → slice_get (items_of e) 0 ≡ Some n → Fails f (bound_name bound n) → Fails f ((roles_at d e).binding names bound)
  name_fails names bound e n f two first bad = subst (λ (r : Read (List ℕ × Meant)). Fails f r) (sym (ap (λ r. r.binding names bound) (roles_out e))) (go (items_of e) two first)
    where
      go : (xs : List Sexpr) → length xs ≡ 2 → slice_get xs 0 ≡ Some n → Fails f (binding_of names bound e (with_roles d xs))
      go [] two first = absurd (none-some n first)
      go (a ∷ []) two first = absurd (omega (arith, two))
      go (a ∷ b ∷ []) two first =
          fails_on f (bound_name bound n) (λ name. go_on (term_at d names b) (λ t. Ok (name, a_term t))) (binding_of names bound e (with_roles d (a ∷ b ∷ [])))
          (ap (λ m. go_on (bound_name bound m) (λ name. go_on (term_at d names b) (λ t. Ok (name, a_term t)))) (same_Some a n first)) bad
      go (a ∷ b ∷ c ∷ xs) two first = absurd (omega (arith, two))

  pub named_read : (names bound : Names) (e n x : Sexpr) (name : List ℕ) → length (items_of e) ≡ 2 → slice_get (items_of e) 0 ≡ Some n → slice_get (items_of e) 1 ≡ Some x → bound_name bound n ≡ Ok name →
      (roles_at d e).binding names bound ≡ go_on (term_at d names x) (λ t. Ok (name, a_term t))
  named_read names bound e n x name two first second is =
      goes_on (bound_name bound n) name (λ name. go_on (term_at d names x) (λ t. Ok (name, a_term t))) ((roles_at d e).binding names bound) (binding_read names bound e n x two first second) is

  pub binding_bad : (names bound : Names) (e : Sexpr) → (length (items_of e) ≡ 2 → ⊥) → (roles_at d e).binding names bound ≡ refused e reason.BadForm
  binding_bad names bound e not_two = ap (λ r. r.binding names bound) (roles_out e) ∙ go (items_of e) not_two
    where
      go : (xs : List Sexpr) → (length xs ≡ 2 → ⊥) → binding_of names bound e (with_roles d xs) ≡ refused e reason.BadForm
      go [] other = refl
      go (a ∷ []) other = refl
      go (a ∷ b ∷ []) other = absurd (other refl)
      go (a ∷ b ∷ c ∷ xs) other = refl

  -- (let (..) t)
  pub body_read : (names : Names) (e b x : Sexpr) → length (items_of e) ≡ 3 → slice_get (items_of e) 1 ≡ Some b → slice_get (items_of e) 2 ≡ Some x →
      let_of names e (parts d e) ≡ go_on ((roles_at d b).bindings names) (λ bound. term_at d (names ++ bound) x)
  body_read names e b x three second third = go (items_of e) three second third
    where
      go : (xs : List Sexpr) → length xs ≡ 3 → slice_get xs 1 ≡ Some b → slice_get xs 2 ≡ Some x → let_of names e (with_roles d xs) ≡ go_on ((roles_at d b).bindings names) (λ bound. term_at d (names ++ bound) x)
      go [] three second third = absurd (none-some b second)
      go (p ∷ []) three second third = absurd (none-some b second)
      go (p ∷ q ∷ []) three second third = absurd (none-some x third)
      go (p ∷ q ∷ r ∷ []) three second third =
          ap (λ y. go_on ((roles_at d y).bindings names) (λ bound. term_at d (names ++ bound) r)) (same_Some q b second)
          ∙ ap (λ y. go_on ((roles_at d b).bindings names) (λ bound. term_at d (names ++ bound) y)) (same_Some r x third)
      go (p ∷ q ∷ r ∷ s ∷ xs) three second third = absurd (omega (arith, three))

  -- its bindings have a fault
  pub let_stops : (names : Names) (e b : Sexpr) (f : Fault) → length (items_of e) ≡ 3 → slice_get (items_of e) 1 ≡ Some b → Fails f ((roles_at d b).bindings names) → Fails f (let_of names e (parts d e))
  let_stops names e b f three second bad = go (items_of e) three second
    where
      go : (xs : List Sexpr) → length xs ≡ 3 → slice_get xs 1 ≡ Some b → Fails f (let_of names e (with_roles d xs))
      go [] three second = absurd (none-some b second)
      go (p ∷ []) three second = absurd (none-some b second)
      go (p ∷ q ∷ []) three second = absurd (omega (arith, three))
      go (p ∷ q ∷ r ∷ []) three second =
          fails_on f ((roles_at d b).bindings names) (λ bound. term_at d (names ++ bound) r) (let_of names e (with_roles d (p ∷ q ∷ r ∷ [])))
          (ap (λ y. go_on ((roles_at d y).bindings names) (λ bound. term_at d (names ++ bound) r)) (same_Some q b second)) bad
      go (p ∷ q ∷ r ∷ s ∷ xs) three second = absurd (omega (arith, three))

  pub bound_read : (names bound : Names) (e b x : Sexpr) → length (items_of e) ≡ 3 → slice_get (items_of e) 1 ≡ Some b → slice_get (items_of e) 2 ≡ Some x → (roles_at d b).bindings names ≡ Ok bound →
      let_of names e (parts d e) ≡ term_at d (names ++ bound) x
  bound_read names bound e b x three second third is =
      goes_on ((roles_at d b).bindings names) bound (λ bound. term_at d (names ++ bound) x) (let_of names e (parts d e)) (body_read names e b x three second third) is

  pub bindings_more : (names bound : Names) (e x : Sexpr) (whole : Read Names) (k : ℕ) → slice_get (items_of e) k ≡ Some x → bindings_from names bound (with_roles d (drop k (items_of e))) ≡ whole →
      whole ≡ go_on ((roles_at d x).binding names bound) (λ b. bindings_from names (bound ++ b ∷ []) (with_roles d (drop (k + 1) (items_of e))))
  bindings_more names bound e x whole k at so = sym so ∙ ap (λ xs. bindings_from names bound (with_roles d xs)) (drop_at (items_of e) k x at)

  pub bindings_end : (names bound : Names) (e : Sexpr) (whole : Read Names) (k : ℕ) → length (items_of e) ≤ k → bindings_from names bound (with_roles d (drop k (items_of e))) ≡ whole → whole ≡ Ok bound
  bindings_end names bound e whole k le so = sym so ∙ ap (λ xs. bindings_from names bound (with_roles d xs)) (drop_all (items_of e) k le)

  pub bindings_begin : (names : Names) (e : Sexpr) → 0 < length (items_of e) → bindings_from names [] (with_roles d (items_of e)) ≡ (roles_at d e).bindings names
  bindings_begin names e some = go (items_of e) some ∙ ap (λ r. r.bindings names) (sym (roles_out e))
    where
      go : (xs : List Sexpr) → 0 < length xs → bindings_from names [] (with_roles d xs) ≡ bindings_of names e (with_roles d xs)
      go [] lt = absurd (omega (arith, lt))
      go (x ∷ xs) lt = refl

  pub bindings_empty : (names : Names) (e : Sexpr) → length (items_of e) ≡ 0 → (roles_at d e).bindings names ≡ refused e reason.BadForm
  bindings_empty names e none = ap (λ r. r.bindings names) (roles_out e) ∙ go (items_of e) none
    where
      go : (xs : List Sexpr) → length xs ≡ 0 → bindings_of names e (with_roles d xs) ≡ refused e reason.BadForm
      go [] n = refl
      go (x ∷ xs) n = absurd (omega (arith, n))

module _ (old now : State) (held : Held) (g : Grows old now) (are : AreMeant old held) where
  -- what is read over the names reads so at the start
  pub same_read : (x : Sexpr) → term_at old.declared (names_of old.trees held) x ≡ term_at now.declared (names_of now.trees held) x
  same_read x = ap (λ (d : Declarations). term_at d (names_of old.trees held) x) (sym g.declared) ∙ ap (λ (n : Names). term_at now.declared n x) (sym (names_kept old now held g are))

  same_binding : (x : Sexpr) (bound : Names) → (roles_at old.declared x).binding (names_of old.trees held) bound ≡ (roles_at now.declared x).binding (names_of now.trees held) bound
  same_binding x bound = ap (λ (d : Declarations). (roles_at d x).binding (names_of old.trees held) bound) (sym g.declared) ∙ ap (λ (n : Names). (roles_at now.declared x).binding n bound) (sym (names_kept old now held g are))

  -- a turn of the loop over arguments
  pub turn : (next : State) (e x : Sexpr) (o : IndexedHead) (ids : List TermId) (id : TermId) (whole : Read Tree) (k : ℕ) → Grows now next → AreIds (length now.trees) ids → slice_get (items_of e) k ≡ Some x →
      term_at now.declared (names_of now.trees held) x ≡ Ok (tree_at next.trees id.0) →
      arguments_from old.declared (names_of old.trees held) e o (trees_at now.trees ids) (with_roles old.declared (drop k (items_of e))) ≡ whole →
      arguments_from old.declared (names_of old.trees held) e o (trees_at next.trees (ids ++ id ∷ [])) (with_roles old.declared (drop (k + 1) (items_of e))) ≡ whole
  turn next e x o ids id whole k more a at read so =
      let N = names_of old.trees held in
      let rest = with_roles old.declared (drop (k + 1) (items_of e)) in
      let ts = trees_at now.trees ids in
      ap (λ us. arguments_from old.declared N e o us rest) (trees_push next.trees ids id ∙ ap (λ us. us ++ tree_at next.trees id.0 ∷ []) (trees_kept now.trees next.trees ids more.trees a))
      ∙ sym (goes_on (term_at old.declared N x) (tree_at next.trees id.0) (λ t. arguments_from old.declared N e o (ts ++ t ∷ []) rest) whole
      (next_read old.declared N e x o ts whole k at so) (same_read x ∙ read))

  -- an argument has a fault
  pub stops : (f : Fault) (e x : Sexpr) (o : IndexedHead) (ts : List Tree) (whole : Read Tree) (k : ℕ) → slice_get (items_of e) k ≡ Some x → Fails f (term_at now.declared (names_of now.trees held) x) →
      arguments_from old.declared (names_of old.trees held) e o ts (with_roles old.declared (drop k (items_of e))) ≡ whole → Fails f whole
  stops f e x o ts whole k at bad so =
      let N = names_of old.trees held in
      fails_on f (term_at old.declared N x) (λ t. arguments_from old.declared N e o (ts ++ t ∷ []) (with_roles old.declared (drop (k + 1) (items_of e)))) whole (next_read old.declared N e x o ts whole k at so)
      (subst (λ (r : Read Tree). Fails f r) (sym (same_read x)) bad)

  -- a turn of the loop over bindings
  pub binds : (next : State) (e x : Sexpr) (bound : Held) (name : List ℕ) (id : TermId) (whole : Read Names) (k : ℕ) → Grows now next → AreMeant now bound → slice_get (items_of e) k ≡ Some x →
      (roles_at now.declared x).binding (names_of now.trees held) (names_of now.trees bound) ≡ Ok (name, a_term (tree_at next.trees id.0)) →
      bindings_from (names_of old.trees held) (names_of now.trees bound) (with_roles old.declared (drop k (items_of e))) ≡ whole →
      bindings_from (names_of old.trees held) (names_of next.trees (bound ++ (name, meaning.Term id) ∷ [])) (with_roles old.declared (drop (k + 1) (items_of e))) ≡ whole
  binds next e x bound name id whole k more a at read so =
      let N = names_of old.trees held in
      let B = names_of now.trees bound in
      let rest = with_roles old.declared (drop (k + 1) (items_of e)) in
      ap (λ (b : Names). bindings_from N b rest) (names_more now next bound name id more a)
      ∙ sym (goes_on ((roles_at old.declared x).binding N B) (name, a_term (tree_at next.trees id.0)) (λ b. bindings_from N (B ++ b ∷ []) rest) whole
      (bindings_more old.declared N B e x whole k at so) (same_binding x B ∙ read))

  -- a binding has a fault
  pub binding_stops : (f : Fault) (e x : Sexpr) (B : Names) (whole : Read Names) (k : ℕ) → slice_get (items_of e) k ≡ Some x → Fails f ((roles_at now.declared x).binding (names_of now.trees held) B) →
      bindings_from (names_of old.trees held) B (with_roles old.declared (drop k (items_of e))) ≡ whole → Fails f whole
  binding_stops f e x B whole k at bad so =
      let N = names_of old.trees held in
      fails_on f ((roles_at old.declared x).binding N B) (λ b. bindings_from N (B ++ b ∷ []) (with_roles old.declared (drop (k + 1) (items_of e)))) whole (bindings_more old.declared N B e x whole k at so)
      (subst (λ (r : Read (List ℕ × Meant)). Fails f r) (sym (same_binding x B)) bad)

  -- the last term of a `let`, over the names bound
  pub body_same : (x : Sexpr) (more : Held) → term_at now.declared (names_of now.trees (held ++ more)) x ≡ term_at old.declared (names_of old.trees held ++ names_of now.trees more) x
  body_same x more =
      ap (λ (n : Names). term_at now.declared n x) (names_over old now held more g are) ∙ ap (λ (d : Declarations). term_at d (names_of old.trees held ++ names_of now.trees more) x) g.declared

-- the last term of a `let` behind its bindings
pub let_body : (old now : State) (scope bound more after : Held) (x : Sexpr) → Grows old now → AreMeant old (scope ++ bound) → after ≡ bound ++ more →
    term_at now.declared (all_names now scope after) x ≡ term_at old.declared (all_names old scope bound ++ names_of now.trees more) x
let_body old now scope bound more after x g are same =
    ap (λ (held : Held). term_at now.declared (names_of now.trees (scope ++ held)) x) same
    ∙ ap (λ (n : Names). term_at now.declared n x) (over_assoc now.trees scope bound more) ∙ body_same old now (scope ++ bound) g are x more
