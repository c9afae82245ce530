-- What admitted arguments are: each obeys the rule of its kind, and the constraints follow.
use Rattle.std.proofs.Common.{◌≡◌, ℕ, zero, suc, ◌+◌, pos, List, [], ◌∷◌, map, refl, sym, ap, ◌∙◌, subst, arith, Option, Some, None, slice_get}
use Rattle.std.specs.Prelude.{Bool as Test, true, false, ◌||◌, not, is_some, unwrap_or, if◌then◌else◌}
use Rattle.std.specs.List.{list_all}
use Rattle.std.specs.Option.{option_and_then}
use Rattle.rare_linear.specs.Linears.{LinearExpression, number, add, substitute}
use Rattle.rare_linear.specs.Entailment.{IsEntailed}
use Rattle.rare_linear.specs.declared.constraint.Constraint.{Constraint}
use Rattle.rare_linear.proofs.EntailmentTestLemmas.{is_entailed-Decides}
use Rattle.rare_sort.specs.DeclaredSorts.{follows, all_follow}
use Rattle.rare_sort.specs.Each.{Each, EachPair}
use Rattle.rare_sort.specs.Sameness.{sort_eq}
use Rattle.rare_sort.specs.SortOf.{sort_of, IsTermOf}
use Rattle.rare_sort.specs.SortRules.{less_one, total, total_from, width, width_needs}
use Rattle.rare_sort.specs.declared.declarations.Declarations.{Declarations}
use Rattle.rare_sort.specs.declared.sort.Sort.{Sort, BitVec}
use Rattle.rare_sort.specs.declared.tree.Tree.{Tree}
use Rattle.rare_sort.proofs.NeedsLemmas.{both}
use Rattle.rare_sort.proofs.Options.{map_some}
use Rattle.rare_sort.proofs.SamenessLemmas.{sort_eq-Decides}
use Rattle.rare_rule.specs.Nodes.{Node, nodes_of}
use Rattle.rare_rule.specs.Params.{kind_at}
use Rattle.rare_rule.specs.TypedRule.{TypedRule}
use Rattle.rare_rule.specs.declared.param.Param.{Param}
use Rattle.rare_rule.specs.declared.param.ParamKind.{ParamKind}
use Rattle.rare_rule.specs.declared.param.ParamKind.TheVariants as kind
use Rattle.rare_inst.specs.Admission.{has_put_sort, is_bit_vector, is_value_argument, fits_literals, obeys_kind, obeys, is_met, first_that_fails, first_fault, IsAdmitted}
use Rattle.rare_inst.specs.Arguments.{Argument, OfSort, OfLinear, OfTerm, OfList}
use Rattle.rare_inst.specs.InstanceLaws.{IsArgument, IsProblemTerm, HasNormalWidth}
use Rattle.rare_inst.specs.Substituting.{TreeGroup, Substitution, one_tree, put_sort, is_put_within, is_sort_within, list_width, number_given, sort_given, element_sort, group_given, substitution}
use Rattle.rare_inst.proofs.Filling.{word, word_of}
use Rattle.rare_inst.proofs.NormalLemmas.{IsNormalForm, normal-number, normal-add}

-- ---- lists

plus_none : (n : ℕ) → n + 0 ≡ n
plus_none n = omega arith

next : (j k : ℕ) → j + 1 + k ≡ j + suc k
next j k = omega arith

given_at : {X : Type 0} (P : X → Type 0) (xs : List X) → Each P xs → (k : ℕ) (x : X) → slice_get xs k ≡ Some x → P x
given_at P [] h k x e = cc
given_at P (y ∷ ys) h zero x e = let same : y ≡ x = cc in subst P same h.0
given_at P (y ∷ ys) h (suc k) x e = given_at P ys h.1 k x e

all_true : {X : Type 0} (test : X → Test) (xs : List X) → list_all test xs ≡ true → Each (λ x. test x ≡ true) xs
all_true test [] e = tt
all_true test (x ∷ xs) e = let q = both (test x) (list_all test xs) e in (q.0, all_true test xs q.1)

module _ {X : Type 0} (test : ℕ → X → Test) where
  passed : (b : Test) (o : Option ℕ) (j : ℕ) → (if b then o else (Some j)) ≡ None → (b ≡ true) × (o ≡ None)
  passed true o j e = (refl, e)
  passed false o j e = cc

  -- where none is the first that fails, each passes
  passes : (j : ℕ) (xs : List X) → first_that_fails test j xs ≡ None → (k : ℕ) (x : X) → slice_get xs k ≡ Some x → test (j + k) x ≡ true
  passes j [] e k x q = cc
  passes j (y ∷ ys) e zero x q =
      let same : y ≡ x = cc in
      let here = (passed (test j y) (first_that_fails test (j + 1) ys) j e).0 in
      ap (λ n. test n x) (plus_none j) ∙ ap (test j) (sym same) ∙ here
  passes j (y ∷ ys) e (suc k) x q =
      ap (λ n. test n x) (sym (next j k)) ∙ passes (j + 1) ys (passed (test j y) (first_that_fails test (j + 1) ys) j e).1 k x q

no_fault : (o p : Option ℕ) → first_fault o p ≡ None → (o ≡ None) × (p ≡ None)
no_fault None None e = (refl, refl)
no_fault None (Some k) e = cc
no_fault (Some k) p e = cc

each_passes : {X : Type 0} (test : ℕ → X → Test) (P : X → Type 0) → ((k : ℕ) (x : X) → test k x ≡ true → P x) → (j : ℕ) (xs : List X) → first_that_fails test j xs ≡ None → Each P xs
each_passes test P f j [] e = tt
each_passes test P f j (x ∷ xs) e =
    let q = passed test (test j x) (first_that_fails test (j + 1) xs) j e in
    (f j x q.0, each_passes test P f (j + 1) xs q.1)

-- ---- totals

total_some : (S : Sort) (w : LinearExpression) → width S ≡ Some w → (x : LinearExpression) (ts : List Tree) → (n : LinearExpression) × (total_from x (map (λ t. S) ts) ≡ Some n)
total_some S w e x [] = (x, refl)
total_some S w e x (t ∷ ts) =
    let rest = total_some S w e (add x w) ts in
    (rest.0, ap (option_and_then (λ v. total_from (add x v) (map (λ t. S) ts))) e ∙ rest.1)

words_some : (x : LinearExpression) (ws : List LinearExpression) → (n : LinearExpression) × (total_from x (map word ws) ≡ Some n)
words_some x [] = (x, refl)
words_some x (w ∷ ws) = words_some (add x w) ws

unwrapped : (o : Option LinearExpression) (d n : LinearExpression) → o ≡ Some n → o ≡ Some (unwrap_or o d)
unwrapped (Some m) d n e = refl
unwrapped None d n e = cc

module _ (d : Declarations) where
  abbrev pub Entails : LinearExpression → Type 0
  Entails e = IsEntailed (λ k. pos 1) d.constraints e

  abbrev pub Term : Tree → Sort → Type 0
  Term t s = IsTermOf d t s

  abbrev sort : Tree → Sort
  sort t = sort_of d.symbols t

  pub entails : (e : LinearExpression) → follows d e ≡ true → Entails e
  unfolding follows
  entails e h = (is_entailed-Decides (λ k. pos 1) d.constraints e).0 h

  entails_each : (es : List LinearExpression) → all_follow d es ≡ true → Each Entails es
  entails_each [] h = tt
  entails_each (e ∷ es) h = let q = both (follows d e) (all_follow d es) h in (entails e q.0, entails_each es q.1)

  -- ---- each kind of argument

  -- terms of one sort, and the total of their widths, which is 0 where they are no bit vectors
  pub record IsTermList (s : Sort) (n : LinearExpression) (g : TreeGroup) : Type 0 where
    pub element : g.element ≡ s
    pub each : Each (λ t. Term t s) g.trees
    pub total : (w : LinearExpression) → width s ≡ Some w → total (map (λ t. s) g.trees) ≡ Some n
    pub none : width s ≡ None → n ≡ number (pos 0)

  -- bit vectors of these widths
  abbrev pub AreWords : List Tree → List LinearExpression → Type 0
  AreWords ts ws = EachPair (λ t w. Term t (BitVec w) × IsNormalForm w) ts ws

  pub record IsWordList (n : LinearExpression) (ts : List Tree) : Type 0 where
    pub widths : List LinearExpression
    pub are : AreWords ts widths
    pub total : total (map word widths) ≡ Some n

  -- what stands for a name of this kind
  abbrev pub Suits : (Sort → Sort) → ParamKind → LinearExpression → Sort → TreeGroup → Type 0
  Suits put kind.SortName n s g = Each Entails (width_needs s)
  Suits put kind.Width n s g = Entails (less_one n)
  Suits put kind.Index n s g = Entails n
  Suits put (kind.Term r) n s g = (t : Tree) × (g ≡ one_tree t) × Term t (put r)
  Suits put (kind.List r) n s g = IsTermList (put r) n g
  Suits put kind.WideList n s g = IsWordList n g.trees

  term_at : (s : Sort) (t : Tree) → sort_eq (sort t) s ≡ true → IsProblemTerm d t → (sort t ≡ s) × Term t s
  term_at s t e h = let same = (sort_eq-Decides (sort t) s).0 e in (same, subst (Term t) same h)

  record AreOf (s : Sort) (ts : List Tree) : Type 0 where
    sorts : map sort ts ≡ map (λ t. s) ts
    each : Each (λ t. Term t s) ts

  are_of : (s : Sort) (ts : List Tree) → Each (λ t. sort_eq (sort t) s ≡ true) ts → Each (λ t. IsProblemTerm d t × HasNormalWidth (sort t)) ts → AreOf s ts
  are_of s [] e h = record { sorts = refl; each = tt }
  are_of s (t ∷ ts) e h =
      let here = term_at s t e.0 h.0.0 in
      let rest = are_of s ts e.1 h.1 in
      record { sorts = λ i. here.0 i ∷ rest.sorts i; each = (here.1, rest.each) }

  no_total : (s : Sort) → width s ≡ None → (ts : List Tree) → unwrap_or (total (map (λ t. s) ts)) (number (pos 0)) ≡ number (pos 0)
  no_total s e [] = refl
  no_total s e (t ∷ ts) = ap (λ o. unwrap_or (option_and_then (λ v. total_from (add (number (pos 0)) v) (map (λ t. s) ts)) o) (number (pos 0))) e

  listed : (s : Sort) (ts : List Tree) → AreOf s ts → IsTermList s (list_width d.symbols ts) (record { element = s; trees = ts })
  listed s ts h = record {
    element = refl;
    each = h.each;
    total = λ w e.
        let n = total_some s w e (number (pos 0)) ts in
        unwrapped (total (map (λ t. s) ts)) (number (pos 0)) n.0 n.1 ∙ ap (λ ss. Some (unwrap_or (total ss) (number (pos 0)))) (sym h.sorts);
    none = λ e. ap (λ ss. unwrap_or (total ss) (number (pos 0))) h.sorts ∙ no_total s e ts;
  }

  record HaveWidths (ts : List Tree) : Type 0 where
    widths : List LinearExpression
    are : AreWords ts widths
    sorts : map sort ts ≡ map word widths

  width_of : (o : Option LinearExpression) → is_some o ≡ true → (w : LinearExpression) × (o ≡ Some w)
  width_of (Some w) e = (w, refl)
  width_of None e = cc

  have_widths : (ts : List Tree) → Each (λ t. is_some (width (sort t)) ≡ true) ts → Each (λ t. IsProblemTerm d t × HasNormalWidth (sort t)) ts → HaveWidths ts
  have_widths [] e h = record { widths = []; are = tt; sorts = refl }
  have_widths (t ∷ ts) e h =
      let w = width_of (width (sort t)) e.0 in
      let same : sort t ≡ BitVec w.0 = word_of (sort t) w.0 w.1 in
      let rest = have_widths ts e.1 h.1 in
      record {
        widths = w.0 ∷ rest.widths;
        are = ((subst (Term t) same h.0.0, record { parts = h.0.1.normal w.0 w.1 }), rest.are);
        sorts = λ i. same i ∷ rest.sorts i;
      }

  wide : (ts : List Tree) → HaveWidths ts → IsWordList (list_width d.symbols ts) ts
  wide ts h =
      let n = words_some (number (pos 0)) h.widths in
      record {
        widths = h.widths;
        are = h.are;
        total = unwrapped (total (map word h.widths)) (number (pos 0)) n.0 n.1 ∙ ap (λ ss. Some (unwrap_or (total ss) (number (pos 0)))) (sym h.sorts);
      }

  -- ---- the arguments of a rule

  module _ (left : List Node) (a : Substitution) where
    abbrev put : Sort → Sort
    put s = put_sort a.number a.sort s

    abbrev SuitsGiven : ParamKind → Option Argument → Type 0
    SuitsGiven c o = Suits put c (number_given d.symbols o) (sort_given o) (group_given (put (element_sort (Some c))) o)

    suits_given : (k : ℕ) (c : ParamKind) (x : Argument) → obeys_kind d left a k c x ≡ true → IsArgument d x → SuitsGiven c (Some x)
    suits_given k kind.SortName (OfSort s) e h = entails_each (width_needs s) e
    suits_given k kind.Width (OfLinear n) e h = entails (less_one n) (both (follows d (less_one n)) (fits_literals a k left) e).0
    suits_given k kind.Index (OfLinear n) e h = entails n (both (follows d n) (fits_literals a k left) e).0
    suits_given k (kind.Term s) (OfTerm t) e h = (t, refl, (term_at (put s) t (both (is_sort_within a s) (has_put_sort d left a s t) e).1 h).1)
    suits_given k (kind.List s) (OfList ts) e h =
        listed (put s) ts (are_of (put s) ts (all_true (has_put_sort d left a s) ts (both (is_sort_within a s) (list_all (has_put_sort d left a s) ts) e).1) h)
    suits_given k kind.WideList (OfList ts) e h = wide ts (have_widths ts (all_true (is_bit_vector d left a) ts e) h)
    suits_given k c x e h = cc

    suits_obeying : (k : ℕ) (p : Param) (o : Option Argument) → obeys d left a k p o ≡ true → ((x : Argument) → o ≡ Some x → IsArgument d x) → SuitsGiven p.kind o
    suits_obeying k p (Some x) e h = suits_given k p.kind x (both (obeys_kind d left a k p.kind x) (not p.constant || is_value_argument x) e).0 (h x refl)
    suits_obeying k p None e h = cc

  -- ---- normal forms

  normal_total : (ts : List Tree) → Each (λ t. IsProblemTerm d t × HasNormalWidth (sort t)) ts → (x : LinearExpression) → IsNormalForm x → IsNormalForm (unwrap_or (total_from x (map sort ts)) (number (pos 0)))
  normal_total [] h x n = n
  normal_total (t ∷ ts) h x n = by (width (sort t)) refl (λ w e. normal_total ts h.1 (add x w) (normal-add x w n (record { parts = h.0.1.normal w e })))
    where
      by : (o : Option LinearExpression) → width (sort t) ≡ o →
          ((w : LinearExpression) → width (sort t) ≡ Some w → IsNormalForm (unwrap_or (total_from (add x w) (map sort ts)) (number (pos 0)))) →
          IsNormalForm (unwrap_or (option_and_then (λ v. total_from (add x v) (map sort ts)) o) (number (pos 0)))
      by (Some w) e rest = rest w e
      by None e rest = normal-number (pos 0)

  normal_given : (o : Option Argument) → ((x : Argument) → o ≡ Some x → IsArgument d x) → IsNormalForm (number_given d.symbols o)
  normal_given (Some (OfLinear e)) h = record { parts = h (OfLinear e) refl }
  normal_given (Some (OfList ts)) h = normal_total ts (h (OfList ts) refl) (number (pos 0)) (normal-number (pos 0))
  normal_given (Some (OfSort s)) h = normal-number (pos 0)
  normal_given (Some (OfTerm t)) h = normal-number (pos 0)
  normal_given None h = normal-number (pos 0)

  terms_in : (ts : List Tree) → Each (λ t. IsProblemTerm d t × HasNormalWidth (sort t)) ts → Each (IsProblemTerm d) ts
  terms_in [] h = tt
  terms_in (t ∷ ts) h = (h.0.0, terms_in ts h.1)

  terms_given : (s : Sort) (o : Option Argument) → ((x : Argument) → o ≡ Some x → IsArgument d x) → Each (IsProblemTerm d) (group_given s o).trees
  terms_given s (Some (OfLinear e)) h = tt
  terms_given s (Some (OfList ts)) h = terms_in ts (h (OfList ts) refl)
  terms_given s (Some (OfSort r)) h = tt
  terms_given s (Some (OfTerm t)) h = (h (OfTerm t) refl, tt)
  terms_given s None h = tt

-- ---- what is known of a rule at its arguments

module _ (d : Declarations) (t : TypedRule) (args : List Argument) (arguments : Each (IsArgument d) args) where
  abbrev pub put_for : Substitution
  put_for = substitution d.symbols t.rule.params args

  at : (k : ℕ) (x : Argument) → slice_get args k ≡ Some x → IsArgument d x
  at k x e = given_at (IsArgument d) args arguments k x e

  pub normal_numbers : (k : ℕ) → IsNormalForm (put_for.number k)
  normal_numbers k = normal_given d (slice_get args k) (at k)

  pub group_terms : (k : ℕ) → Each (IsProblemTerm d) (put_for.group k).trees
  group_terms k = terms_given d (put_sort put_for.number put_for.sort (element_sort (kind_at t.rule.params k))) (slice_get args k) (at k)

  module _ (admitted : IsAdmitted d t args) where
    abbrev is_obeyed : ℕ → Param → Test
    is_obeyed k p = obeys d (nodes_of t.rule.left) put_for k p (slice_get args k)

    abbrev is_met_at : ℕ → Constraint → Test
    is_met_at k c = is_met d (nodes_of t.rule.left) put_for c

    found : (first_that_fails is_obeyed 0 t.rule.params ≡ None) × (first_that_fails is_met_at 0 t.constraints ≡ None)
    found = no_fault (first_that_fails is_obeyed 0 t.rule.params) (first_that_fails is_met_at 0 t.constraints) admitted

    none_plus : (k : ℕ) → 0 + k ≡ k
    none_plus k = omega arith

    pub suits : (k : ℕ) (c : ParamKind) → kind_at t.rule.params k ≡ Some c → Suits d (put_sort put_for.number put_for.sort) c (put_for.number k) (put_for.sort k) (put_for.group k)
    suits k c e =
        let p = map_some (λ p. p.kind) (slice_get t.rule.params k) c e in
        let obeyed = subst (λ n. is_obeyed n p.0 ≡ true) (none_plus k) (passes is_obeyed 0 t.rule.params found.0 k p.0 p.1) in
        let q = suits_obeying d (nodes_of t.rule.left) put_for k p.0 (slice_get args k) obeyed (at k) in
        let s = subst (λ z. SuitsGiven d (nodes_of t.rule.left) put_for z (slice_get args k)) p.2 q in
        subst (λ z. Suits d (put_sort put_for.number put_for.sort) c (put_for.number k) (put_for.sort k) (group_given (put_sort put_for.number put_for.sort (element_sort z)) (slice_get args k))) (sym e) s

    -- each constraint follows, with what stands for its names
    pub constraints_follow : Each (λ c. Entails d (substitute put_for.number c.floor)) t.constraints
    constraints_follow =
        each_passes is_met_at (λ c. Entails d (substitute put_for.number c.floor))
        (λ k c e. entails d (substitute put_for.number c.floor) (both (is_put_within put_for c.floor) (follows d (substitute put_for.number c.floor)) e).1) 0 t.constraints found.1

    within_obeying : (k : ℕ) (c : ParamKind) (r : Sort) (x : Argument) → c ≡ kind.List r → obeys_kind d (nodes_of t.rule.left) put_for k c x ≡ true → is_sort_within put_for r ≡ true
    within_obeying k c r (OfList ts) is e =
        (both (is_sort_within put_for r) (list_all (has_put_sort d (nodes_of t.rule.left) put_for r) ts)
        (subst (λ z. obeys_kind d (nodes_of t.rule.left) put_for k z (OfList ts) ≡ true) is e)).0
    within_obeying k c r (OfSort s) is e = absurd (let h = subst (λ z. obeys_kind d (nodes_of t.rule.left) put_for k z (OfSort s) ≡ true) is e in let never : ⊥ = cc in never)
    within_obeying k c r (OfLinear n) is e = absurd (let h = subst (λ z. obeys_kind d (nodes_of t.rule.left) put_for k z (OfLinear n) ≡ true) is e in let never : ⊥ = cc in never)
    within_obeying k c r (OfTerm u) is e = absurd (let h = subst (λ z. obeys_kind d (nodes_of t.rule.left) put_for k z (OfTerm u) ≡ true) is e in let never : ⊥ = cc in never)

    within_given : (k : ℕ) (p : Param) (r : Sort) (o : Option Argument) → p.kind ≡ kind.List r → obeys d (nodes_of t.rule.left) put_for k p o ≡ true → is_sort_within put_for r ≡ true
    within_given k p r (Some x) is e =
        within_obeying k p.kind r x is (both (obeys_kind d (nodes_of t.rule.left) put_for k p.kind x) (not p.constant || is_value_argument x) e).0
    within_given k p r None is e = cc

    -- the sort of the elements of a list stays within i128
    pub lists_within : (k : ℕ) (r : Sort) → kind_at t.rule.params k ≡ Some (kind.List r) → is_sort_within put_for r ≡ true
    lists_within k r e =
        let p = map_some (λ p. p.kind) (slice_get t.rule.params k) (kind.List r) e in
        within_given k p.0 r (slice_get args k) p.2 (subst (λ n. is_obeyed n p.0 ≡ true) (none_plus k) (passes is_obeyed 0 t.rule.params found.0 k p.0 p.1))
