-- What `make` answers.
use Rattle.std.proofs.Common.{◌≡◌, ℕ, zero, suc, ◌+◌, ◌-◌, ◌%◌, ◌^◌, ◌<◌, ◌≤◌, ℤ, pos, negsuc, Bool, true, false, not, ◌||◌, ◌&&◌, List, [], ◌∷◌, ◌++◌, length, length-append, map, get_or, All, IsTrue, refl, ap, sym, ◌∙◌, subst, arith, Option, Some, None, Result, Ok, Err, OnOk, OnErr, sum, nat_lt, if◌then◌else◌, ◌⊎◌, inl, inr}
use Rattle.std.specs.Int.{int_rem_euclid}
use Rattle.std.proofs.lemmas.Bool.{lt-ltb, ltb-false}
use Rattle.std.proofs.lemmas.Nat.{pow_pos}
use Rattle.std.proofs.Math.Nat.{mod-mod, mod-eq_of_lt}
use Rattle.rare_linear.specs.Linears.{LinearExpression}
use Rattle.rare_sort.specs.DeclaredSorts.{widths, is_sort, sort_nesting, AreNamed, AreSorts, IsDeclaredSort, IsSymbol, MOST_NESTED_SORTS}
use Rattle.rare_sort.specs.Families.{family}
use Rattle.rare_sort.specs.Ids.{tree_at, trees_at, sort_at, sorts_at, AreIds}
use Rattle.rare_sort.specs.Rulings.{ruling, ruling_of_family}
use Rattle.rare_sort.specs.SortOf.{sort_of}
use Rattle.rare_sort.specs.SortRules.{number_in}
use Rattle.rare_sort.specs.Trees.{node, nesting, size, greatest}
use Rattle.rare_sort.specs.declared.declarations.Declarations.{Declarations}
use Rattle.rare_sort.specs.declared.family.Family.TheVariants as kind
use Rattle.rare_sort.specs.declared.head.Head.{Head}
use Rattle.rare_sort.specs.declared.head.Head.TheVariants as head
use Rattle.rare_sort.specs.declared.ruling.Ruling.{Ruling}
use Rattle.rare_sort.specs.declared.ruling.Ruling.TheVariants.{Ill, Wide, Has}
use Rattle.rare_sort.specs.declared.sort.Sort.{Sort, Bool as BoolSort}
use Rattle.rare_sort.specs.declared.tree.TermId.{TermId}
use Rattle.rare_sort.specs.declared.tree.Tree.{Tree}
use Rattle.rare_sort.proofs.SortOfLemmas.{has_fine}
use Rattle.rare_sort.proofs.ShallowLemmas.{has_shallow}
use Rattle.rare_term.specs.Limits.{MOST_ARGS, MOST_NESTED, MOST_NODES}
use Rattle.rare_term.specs.Literals.{application, given_bits, given_literal, natural_of, operator, reduced, reduced_value}
use Rattle.rare_term.specs.Refusals.{has_large_number, is_ill, is_wide, refusal, refusal_by}
use Rattle.rare_term.specs.declared.literals.Operator.{Operator}
use Rattle.rare_term.specs.declared.node.Node.{Node}
use Rattle.rare_term.specs.declared.terms.TermError.{TermError}
use Rattle.rare_term.specs.declared.terms.TermError.TheVariants.{TooManyArgs, IllSorted, TooDeep, TooLarge}
use Rattle.rare_term.specs.inner.Nodes.{IsAt, IsNode, IsSmall, node_at, nestings, sizes, tree_of, trees_of}
use Rattle.rare_term.specs.inner.Kept.{IsKept}
use Rattle.rare_term.specs.inner.TreeLaws.{nesting_node, size_node}
use Rattle.rare_term.specs.inner.Keeping.{grown_last, length_trees, length_trees_at, nesting_is, size_is}
use Rattle.rare_term.specs.inner.KeptLaws.{sort_is}
use Rattle.rare_term.proofs.Growing.{kept_push}

-- ids are places of the nodes
pub place_of : (ns : List Node) (n : ℕ) → n < length (trees_of ns) → n < length ns
place_of ns n lt = let e = length_trees ns in omega arith

pub ids_of : (ns : List Node) (ids : List TermId) → AreIds (length (trees_of ns)) ids → AreIds (length ns) ids
ids_of ns ids a k d lt = place_of ns (get_or ids k d).0 (a k d lt)

-- ---- operators with literals reduced

number_cases : (P : Option ℤ → Type 0) (w : LinearExpression) → ((n : ℤ) → number_in w ≡ Some n → P (Some n)) → (number_in w ≡ None → P None) → P (number_in w)
number_cases P w some none = go (number_in w) refl
  where
    go : (o : Option ℤ) → number_in w ≡ o → P o
    go (Some n) e = some n e
    go None e = none e

-- what is kept is either as it was handed in, or a literal whose value is reduced
reduced_cases : (P : Head → List LinearExpression → Operator → Type 0) → ((h : Head) (ix : List LinearExpression) → reduced h ix ≡ operator h ix → P h ix (operator h ix)) →
    ((v : ℕ) (w : LinearExpression) (n : ℤ) → number_in w ≡ Some n → P (head.Bits v) (w ∷ []) (operator (head.Bits (v % 2 ^ natural_of n)) (w ∷ []))) →
    ((v w : LinearExpression) (m n : ℤ) → number_in w ≡ Some n → P head.Literal (v ∷ w ∷ []) (operator (head.Bits (reduced_value m n)) (w ∷ []))) →
    (h : Head) (ix : List LinearExpression) → P h ix (reduced h ix)
unfolding reduced
reduced_cases P a b c (head.Bits v) (w ∷ []) =
    number_cases (λ o. P (head.Bits v) (w ∷ []) (given_bits v w o)) w (λ n e. b v w n e) (λ e. a (head.Bits v) (w ∷ []) (ap (given_bits v w) e))
reduced_cases P a b c head.Literal (v ∷ w ∷ []) =
    number_cases (λ o. P head.Literal (v ∷ w ∷ []) (given_literal v w o (number_in w))) v
    (λ m e. number_cases (λ o. P head.Literal (v ∷ w ∷ []) (given_literal v w (Some m) o)) w (λ n f. c v w m n f) (λ f. a head.Literal (v ∷ w ∷ []) (ap (λ o. given_literal v w o (number_in w)) e ∙ ap (given_literal v w (Some m)) f)))
    (λ e. a head.Literal (v ∷ w ∷ []) (ap (λ o. given_literal v w o (number_in w)) e))
reduced_cases P a b c h ix = a h ix refl

literal_ruled : (d : Declarations) (u : ℕ) (v w : LinearExpression) (ss : List Sort) → ruling d (head.Bits u) (w ∷ []) ss ≡ ruling d head.Literal (v ∷ w ∷ []) ss
unfolding ruling
literal_ruled d u v w [] = refl
literal_ruled d u v w (s ∷ ss) = refl

bits_ruled : (d : Declarations) (u v : ℕ) (ix : List LinearExpression) (ss : List Sort) → ruling d (head.Bits u) ix ss ≡ ruling d (head.Bits v) ix ss
unfolding ruling
bits_ruled d u v ix ss = refl

pub ruling_reduced : (d : Declarations) (ss : List Sort) (h : Head) (ix : List LinearExpression) → ruling d (reduced h ix).head (reduced h ix).indices ss ≡ ruling d h ix ss
ruling_reduced d ss =
    reduced_cases (λ h ix k. ruling d k.head k.indices ss ≡ ruling d h ix ss) (λ h ix e. refl) (λ v w n e. bits_ruled d (v % 2 ^ natural_of n) v (w ∷ []) ss) (λ v w m n e. literal_ruled d (reduced_value m n) v w ss)

pub large_reduced : (h : Head) (ix : List LinearExpression) → has_large_number h ix ≡ false → has_large_number (reduced h ix).head (reduced h ix).indices ≡ false
large_reduced = reduced_cases (λ h ix k. has_large_number h ix ≡ false → has_large_number k.head k.indices ≡ false) (λ h ix e l. l) (λ v w n e l. refl) (λ v w m n e l. refl)

pub symbol_reduced : (n : ℕ) (h : Head) (ix : List LinearExpression) → IsSymbol n (family h) → IsSymbol n (family (reduced h ix).head)
symbol_reduced n = reduced_cases (λ h ix k. IsSymbol n (family h) → IsSymbol n (family k.head)) (λ h ix e s. s) (λ v w m e s. tt) (λ v w m k e s. tt)

pub names_reduced : (n : ℕ) (h : Head) (ix : List LinearExpression) → AreNamed n ix → AreNamed n (reduced h ix).indices
names_reduced n = reduced_cases (λ h ix k. AreNamed n ix → AreNamed n k.indices) (λ h ix e a. a) (λ v w m e a. a) (λ v w m k e a i d lt. a (suc i) d (omega arith))

below_power : (v n : ℤ) → reduced_value v n < 2 ^ natural_of n
below_power (pos a) n = let p : 0 < 2 ^ natural_of n = pow_pos (natural_of n) in omega arith
below_power (negsuc a) n = let p : 0 < 2 ^ natural_of n = pow_pos (natural_of n) in omega arith

bits_again : (u : ℕ) (w : LinearExpression) (n : ℤ) → number_in w ≡ Some n → u % 2 ^ natural_of n ≡ u → reduced (head.Bits u) (w ∷ []) ≡ operator (head.Bits u) (w ∷ [])
unfolding reduced
bits_again u w n e f = ap (given_bits u w) e ∙ ap (λ x. operator (head.Bits x) (w ∷ [])) f

-- what is reduced stays as it is
pub reduced_again : (h : Head) (ix : List LinearExpression) → reduced (reduced h ix).head (reduced h ix).indices ≡ operator (reduced h ix).head (reduced h ix).indices
reduced_again =
    reduced_cases (λ h ix k. reduced k.head k.indices ≡ operator k.head k.indices) (λ h ix e. e)
    (λ v w n e. bits_again (v % 2 ^ natural_of n) w n e (mod-mod v (2 ^ natural_of n)))
    (λ v w m n e. bits_again (reduced_value m n) w n e (mod-eq_of_lt (below_power m n)))

-- ---- refusals

-- the sorts of the arguments
pub sorts_are : (ns : List Node) (ss : List Sort) (d : Declarations) → IsKept ns ss d → (ids : List TermId) → AreIds (length ns) ids →
    map (sort_of d.symbols) (trees_at (trees_of ns) ids) ≡ sorts_at ss ids
sorts_are ns ss d kept [] a = refl
sorts_are ns ss d kept (id ∷ ids) a =
    ap (λ s. s ∷ map (sort_of d.symbols) (trees_at (trees_of ns) ids)) (sort_is ns ss d kept id.0 (a 0 id (omega arith)))
    ∙ ap (λ xs. sort_at ss id.0 ∷ xs) (sorts_are ns ss d kept ids (λ k x lt. a (suc k) x (omega arith)))

-- the refusal, by what the nodes tell
refusal_is : (ns : List Node) (ss : List Sort) (d : Declarations) → IsKept ns ss d → (h : Head) (ix : List LinearExpression) (ids : List TermId) → AreIds (length ns) ids →
    refusal d h ix (trees_at (trees_of ns) ids) ≡ refusal_by (ruling d h ix (sorts_at ss ids)) (has_large_number h ix) (length ids) (1 + greatest (nestings ns ids)) (1 + sum (sizes ns ids))
unfolding refusal
refusal_is ns ss d kept h ix ids a =
    rw (sorts_are ns ss d kept ids a, nesting_is ns kept.nodes h ix ids a, size_is ns kept.nodes h ix ids a, length_trees_at (trees_of ns) ids) refl

-- the same, by what the program measured
pub refusal_told : (ns : List Node) (ss : List Sort) (d : Declarations) → IsKept ns ss d → (h : Head) (ix : List LinearExpression) (ids : List TermId) → AreIds (length ns) ids →
    (m n : ℕ) → m ≡ greatest (nestings ns ids) → n ≡ sum (sizes ns ids) →
    refusal d h ix (trees_at (trees_of ns) ids) ≡ refusal_by (ruling d h ix (sorts_at ss ids)) (has_large_number h ix) (length ids) (1 + m) (1 + n)
refusal_told ns ss d kept h ix ids a m n em en = rw (em, en) (refusal_is ns ss d kept h ix ids a)

pub too_many : (d : Declarations) (h : Head) (ix : List LinearExpression) (ts : List Tree) → MOST_ARGS < length ts → refusal d h ix ts ≡ Some TooManyArgs
unfolding refusal
too_many d h ix ts more = rw (lt-ltb MOST_ARGS (length ts) more) refl

pub record IsWithin (args deep large : ℕ) (number : Bool) : Type 0 where
  pub few : args ≤ MOST_ARGS
  pub shallow : deep ≤ MOST_NESTED
  pub small : large ≤ MOST_NODES
  pub numbers : number ≡ false

within_by : (ill wide number a b c : Bool) (args deep large : ℕ) → nat_lt MOST_ARGS args ≡ a → nat_lt MOST_NESTED deep ≡ b → nat_lt MOST_NODES large ≡ c →
    ◌≡◌ {A = Option TermError} (if a then Some TooManyArgs else if ill then Some IllSorted else if b then Some TooDeep else if (c || (wide || number)) then Some TooLarge else None) None →
    IsWithin args deep large number
within_by ill wide number true b c args deep large ea eb ec e = cc
within_by true wide number false b c args deep large ea eb ec e = cc
within_by false wide number false true c args deep large ea eb ec e = cc
within_by false wide number false false true args deep large ea eb ec e = cc
within_by false true number false false false args deep large ea eb ec e = cc
within_by false false true false false false args deep large ea eb ec e = cc
within_by false false false false false false args deep large ea eb ec e =
    record { few = ltb-false MOST_ARGS args ea; shallow = ltb-false MOST_NESTED deep eb; small = ltb-false MOST_NODES large ec; numbers = refl }

accepted_within : (r : Ruling) (number : Bool) (args deep large : ℕ) → refusal_by r number args deep large ≡ None → IsWithin args deep large number
accepted_within r number args deep large e = within_by (is_ill r) (is_wide r) number _ _ _ args deep large refl refl refl e

-- ---- a term that was found, and one that is added

-- the term of a node that was found
pub found_term : (ns : List Node) → ((i : ℕ) → i < length ns → IsNode (trees_of ns) i (node_at ns i)) → (k : ℕ) (h : Head) (ix : List LinearExpression) (ids : List TermId) (q : Operator) →
    q ≡ reduced h ix → (k < length ns) × IsAt ns k q.head q.indices ids → (k < length (trees_of ns)) × (tree_at (trees_of ns) k ≡ application h ix (trees_at (trees_of ns) ids))
found_term ns kept k h ix ids q eq found =
    let m = node_at ns k in
    let is = found.1 in (
      (let e = length_trees ns in let l = found.0 in omega arith),
      (kept k found.0).tree ∙ ap (λ g. node g m.indices (trees_at (trees_of ns) m.args)) is.head ∙ ap (λ jx. node q.head jx (trees_at (trees_of ns) m.args)) is.indices
          ∙ ap (λ xs. node q.head q.indices (trees_at (trees_of ns) xs)) is.args ∙ ap (λ r. node r.head r.indices (trees_at (trees_of ns) ids)) eq,
    )

sorts_checked : (d : Declarations) (ss : List Sort) (ids : List TermId) → AreSorts d ss → AreIds (length ss) ids → AreSorts d (sorts_at ss ids)
sorts_checked d ss [] fine a k x lt = absurd (omega arith)
sorts_checked d ss (id ∷ ids) fine a zero x lt = fine id.0 BoolSort (a 0 id (omega arith))
sorts_checked d ss (id ∷ ids) fine a (suc k) x lt = sorts_checked d ss ids fine (λ j y le. a (suc j) y (omega arith)) k x (omega arith)

sorts_shallow : (ss : List Sort) (ids : List TermId) → All (λ s. sort_nesting s ≤ MOST_NESTED_SORTS) ss → AreIds (length ss) ids → All (λ s. sort_nesting s ≤ MOST_NESTED_SORTS) (sorts_at ss ids)
sorts_shallow ss [] h a k x lt = absurd (omega arith)
sorts_shallow ss (id ∷ ids) h a zero x lt = h id.0 BoolSort (a 0 id (omega arith))
sorts_shallow ss (id ∷ ids) h a (suc k) x lt = sorts_shallow ss ids h (λ j y le. a (suc j) y (omega arith)) k x (omega arith)

-- a fresh term keeps all
pub pushed : (ns : List Node) (ss : List Sort) (d : Declarations) → IsKept ns ss d → (h : Head) (ix : List LinearExpression) (ids : List TermId) → AreIds (length ns) ids →
    IsSymbol (length d.symbols) (family h) → AreNamed (widths d) ix → (q : Operator) (m l : ℕ) (s : Sort) → q ≡ reduced h ix →
    m ≡ 1 + greatest (nestings ns ids) → l ≡ 1 + sum (sizes ns ids) → refusal d h ix (trees_at (trees_of ns) ids) ≡ None → ruling d h ix (sorts_at ss ids) ≡ Has s →
    ((k : ℕ) → k < length ns → IsAt ns k q.head q.indices ids → ⊥) → (n : Node) → n ≡ record { head = q.head; indices = q.indices; args = ids; nesting = m; size = l } → IsKept (ns ++ n ∷ []) (ss ++ s ∷ []) d
pushed ns ss d keep h ix ids a symbol names q m l s eq em el none has fresh n en =
    let k = reduced h ix in
    let n' : Node = record { head = k.head; indices = k.indices; args = ids; nesting = m; size = l } in
    let same : n ≡ n' = en ∙ ap (λ r. record { head = r.head; indices = r.indices; args = ids; nesting = m; size = l }) eq in
    let within : IsWithin (length ids) m l (has_large_number h ix) = rw (em, el) (accepted_within _ _ _ _ _ (sym (refusal_is ns ss d keep h ix ids a) ∙ none)) in
    let placed : AreIds (length ss) ids = λ j x lt. let b = a j x lt in let c = keep.count in omega arith in
    subst (λ x. IsKept (ns ++ x ∷ []) (ss ++ s ∷ []) d) (sym same)
    (kept_push ns ss d n' s keep (record {
      below = a;
      deep = em;
      large = el;
      accepted = record {
        small = (within.shallow, within.small);
        few = within.few;
        numbers = large_reduced h ix within.numbers;
        literals = reduced_again h ix;
        symbol = symbol_reduced (length d.symbols) h ix symbol;
        names = names_reduced (widths d) h ix names;
      };
      ruled = ruling_reduced d (sorts_at ss ids) h ix ∙ has;
      none = subst (λ r. (i : ℕ) → i < length ns → IsAt ns i r.head r.indices ids → ⊥) eq fresh;
      sort = record {
        declared = has_fine d keep.declared h ix (sorts_at ss ids) s (sorts_checked d ss ids keep.sorts placed) names symbol has;
        shallow = has_shallow d keep.declared h ix (sorts_at ss ids) s (sorts_shallow ss ids keep.shallow placed) has;
      };
    }))

-- the fresh term is the last
pub last_term : (ns : List Node) (h : Head) (ix : List LinearExpression) (ids : List TermId) (q : Operator) (m l : ℕ) (n : Node) (new : List Node) (i : ℕ) →
    ((j : ℕ) → j < length ns → IsNode (trees_of ns) j (node_at ns j)) → q ≡ reduced h ix → n ≡ record { head = q.head; indices = q.indices; args = ids; nesting = m; size = l } → new ≡ ns ++ n ∷ [] → i ≡ length ns →
    (i < length (trees_of new)) × (tree_at (trees_of new) i ≡ application h ix (trees_at (trees_of ns) ids))
last_term ns h ix ids q m l n new i keep eq en enew ei =
    let t = grown_last ns keep n in
    rw (enew, ei) (
      (let e = length_trees (ns ++ n ∷ []) in let f = length-append ns (n ∷ []) in omega arith),
      t ∙ ap (tree_of (trees_of ns)) en ∙ ap (λ r. node r.head r.indices (trees_at (trees_of ns) ids)) eq,
    )

-- whatever adding the node answers
pub kept_either : (ns new : List Node) (ss news : List Sort) (d : Declarations) (n : Node) (s : Sort) (r : Result TermId TermError) → IsKept ns ss d → IsKept (ns ++ n ∷ []) (ss ++ s ∷ []) d →
    OnOk r (new ≡ ns ++ n ∷ []) → OnOk r (news ≡ ss ++ s ∷ []) → OnErr r ((new ≡ ns) × (news ≡ ss)) → IsKept new news d
kept_either ns new ss news d n s (Ok id) old more en es err = rw (en, es) more
kept_either ns new ss news d n s (Err e) old more en es err = rw (err.0, err.1) old

pub found_told : (ns xs : List Node) → ((i : ℕ) → i < length ns → IsNode (trees_of ns) i (node_at ns i)) → (k : ℕ) (h : Head) (ix jx : List LinearExpression) (ids : List TermId) (q : Operator) →
    xs ≡ ns → jx ≡ q.indices → q ≡ reduced h ix → (k < length xs) × IsAt xs k q.head jx ids → (k < length (trees_of ns)) × (tree_at (trees_of ns) k ≡ application h ix (trees_at (trees_of ns) ids))
found_told ns xs kept_nodes k h ix jx ids q ex ej eq found =
    let lt : k < length ns = subst (λ ys. k < length ys) ex found.0 in
    let is : IsAt ns k q.head q.indices ids = subst (λ ys. IsAt ys k q.head q.indices ids) ex (subst (λ jy. IsAt xs k q.head jy ids) ej found.1) in
    found_term ns kept_nodes k h ix ids q eq (lt, is)

pub added_told : (ns xs : List Node) (h : Head) (ix jx : List LinearExpression) (ids : List TermId) → xs ≡ ns → jx ≡ ix →
    ((k : ℕ) → k < length xs → IsAt xs k h jx ids → ⊥) → (k : ℕ) → k < length ns → IsAt ns k h ix ids → ⊥
added_told ns xs h ix jx ids ex ej none =
    subst (λ jy. (k : ℕ) → k < length ns → IsAt ns k h jy ids → ⊥) ej (subst (λ ys. (k : ℕ) → k < length ys → IsAt ys k h jx ids → ⊥) ex none)

same_get : (ns : List Node) (k : ℕ) (a b : Node) → k < length ns → get_or ns k a ≡ get_or ns k b
same_get [] k a b lt = absurd (omega arith)
same_get (n ∷ ns) zero a b lt = refl
same_get (n ∷ ns) (suc k) a b lt = same_get ns k a b (omega arith)

pub all_small : (ns : List Node) (ss : List Sort) (d : Declarations) → IsKept ns ss d → All IsSmall ns
all_small ns ss d kept k x lt = subst IsSmall (same_get ns k _ x lt) (kept.accepted k lt).small
