-- Texts as they are put together.
use Rattle.std.proofs.Common.{◌≡◌, ℕ, zero, suc, ◌+◌, ◌<◌, ◌≤◌, Bool, true, false, List, [], ◌∷◌, ◌++◌, map, length, take, get_or, nat_eq, Option, Some, None, Result, Ok, Err, OnOk, OnErr, refl, sym, ap, ◌∙◌, subst, arith, append_assoc, if◌then◌else◌, drop, drop-cons, slice_get}
use Rattle.std.specs.Prelude.{codes, flat_map}
use Rattle.std.specs.Fmt.{decimal}
use Rattle.std.proofs.lemmas.Bool.{eqb-true}
use Rattle.std.proofs.lemmas.Bool.Decides.{nat_tests}
use Rattle.std.proofs.lemmas.Option.{get_or_from_slice_get}
use Rattle.rare_linear.specs.Linears.{Part, LinearExpression, NamesBelow}
use Rattle.rare_sexpr.specs.Written.{IsCut}
use Rattle.rare_sort.specs.Ids.{tree_at, trees_at, AreIds, IsOneToOne}
use Rattle.rare_sort.specs.Sameness.{tree_eq}
use Rattle.rare_sort.specs.Trees.{node, head_of, indices_of, args_of, nesting}
use Rattle.rare_sort.specs.declared.head.Head.{Head}
use Rattle.rare_sort.specs.declared.head.Head.TheVariants as head
use Rattle.rare_sort.specs.declared.tree.TermId.{TermId}
use Rattle.rare_sort.specs.declared.tree.Tree.{Tree, ind-Tree, roll-Tree, Tree-F}
use Rattle.rare_sort.specs.declared.tree.Tree.TheFolds.{fold-Tree, fold-roll-Tree}
use Rattle.rare_sort.proofs.SamenessLemmas.{is_decided}
use Rattle.rare_term.specs.inner.TreeLaws.{node_of, nesting_falls}
use Rattle.rare_scope.specs.Names.{Held}
use Rattle.rare_scope.proofs.Cutting.{cut_front, cut_behind, cut_here, cut_item, through, in_any}
use Rattle.std.proofs.lemmas.List.{append-nil}
use Rattle.rare_scope.proofs.Listing.{drop_all}
use Rattle.rare_sort.specs.DeclaredSorts.{AreNamed}
use Rattle.rare_term_printing.specs.OperatorTexts.{index_texts, operator_text, word_text, operator_word, indexed_word}
use Rattle.rare_term_printing.specs.TermPrinting.{Shown, applied_text, number_from, named_or, argument_text, term_text_step, term_text}
use Rattle.rare_term_printing.specs.inner.Writing.{spaced_index, indices_end, spaced_part, id_from}

-- ---- lists of indices

spaced_all : (held : Held) (ix : List LinearExpression) → flat_map (spaced_index held) ix ≡ flat_map (λ t. codes " " ++ t) (index_texts held ix)
spaced_all held [] = refl
spaced_all held (e ∷ ix) = ap (λ t. spaced_index held e ++ t) (spaced_all held ix)

ends : (held : Held) (ix : List LinearExpression) → indices_end held ix ≡ flat_map (λ t. codes " " ++ t) (index_texts held ix) ++ codes ")"
ends held ix = ap (λ t. t ++ codes ")") (spaced_all held ix)

pub given_text : (held : Held) (v : ℕ) (ix : List LinearExpression) → (codes "(_ bv" ++ decimal v) ++ indices_end held ix ≡ operator_text held (head.Bits v) ix
given_text held v ix =
    ap (λ t. 40 ∷ 95 ∷ 32 ∷ 98 ∷ 118 ∷ (decimal v ++ t)) (ends held ix)
    ∙ ap (λ t. 40 ∷ 95 ∷ 32 ∷ 98 ∷ 118 ∷ t) (sym (append_assoc (decimal v) (flat_map (λ t. codes " " ++ t) (index_texts held ix)) (codes ")")))

pub literal_text : (held : Held) (ix : List LinearExpression) → codes "(bv" ++ indices_end held ix ≡ operator_text held head.Literal ix
literal_text held ix = ap (λ t. 40 ∷ 98 ∷ 118 ∷ t) (ends held ix)

pub indexed_text : (held : Held) (h : Head) (ix : List LinearExpression) → ¬ (length ix ≡ 0) → (codes "(_ " ++ indexed_word h) ++ indices_end held ix ≡ word_text h (index_texts held ix)
indexed_text held h [] some = absurd (some refl)
indexed_text held h (e ∷ ix) some =
    ap (λ t. 40 ∷ 95 ∷ 32 ∷ (indexed_word h ++ t)) (ends held (e ∷ ix))
    ∙ ap (λ t. 40 ∷ 95 ∷ 32 ∷ t) (sym (append_assoc (indexed_word h) (flat_map (λ t. codes " " ++ t) (index_texts held (e ∷ ix))) (codes ")")))

pub bare_text : (held : Held) (h : Head) (ix : List LinearExpression) → length ix ≡ 0 → operator_word h ≡ word_text h (index_texts held ix)
bare_text held h [] none = refl
bare_text held h (e ∷ ix) none = absurd (omega (arith, none))

-- ---- terms

module _ (held : Held) (shared : List Tree) where
  abbrev shown : Tree → Shown
  shown = fold-Tree Shown (term_text_step held shared)

  abbrev IsItself : Tree → Type 0
  IsItself t = (shown t).0 ≡ t

  abbrev Same : Type 0
  Same = (t : Tree) × IsItself t

  all_same : (ts : List Same) → map (λ p. p.0) (map shown (map (λ t. t.0) ts)) ≡ map (λ t. t.0) ts
  all_same [] = refl
  all_same (t ∷ ts) = λ i. t.1 i ∷ all_same ts i

  shown_node : (n : Tree-F Tree) → shown (roll-Tree n) ≡ term_text_step held shared (record { head = n.head; indices = n.indices; args = map shown n.args })
  shown_node n = fold-roll-Tree Shown (term_text_step held shared) n

  at_node : (n : Tree-F Tree) → map (λ p. p.0) (map shown n.args) ≡ n.args → IsItself (roll-Tree n)
  at_node n same = ap (λ p. p.0) (shown_node n) ∙ ap (node n.head n.indices) same

  itself : (t : Tree) → IsItself t
  itself = ind-Tree IsItself (λ x y is. at_node x (subst (λ z. map (λ p. p.0) (map shown z.args) ≡ z.args) is (all_same y.args)))

  abbrev pub part : Tree → List ℕ
  part t = argument_text shared (t, term_text held shared t)

  parts : (ts : List Tree) → map (argument_text shared) (map shown ts) ≡ map part ts
  parts [] = refl
  parts (t ∷ ts) = λ i. argument_text shared (itself t i, term_text held shared t) ∷ parts ts i

  -- the text of a term by those of its parts
  pub text_of_node : (h : Head) (ix : List LinearExpression) (ts : List Tree) → term_text held shared (node h ix ts) ≡ applied_text (operator_text held h ix) (map part ts)
  text_of_node h ix ts = ap (λ p. p.1) (shown_node (record { head = h; indices = ix; args = ts })) ∙ ap (applied_text (operator_text held h ix)) (parts ts)

  pub text_of_tree : (t : Tree) → term_text held shared t ≡ applied_text (operator_text held (head_of t) (indices_of t)) (map part (args_of t))
  text_of_tree t = ap (term_text held shared) (sym (node_of t)) ∙ text_of_node (head_of t) (indices_of t) (args_of t)

  alone : (o : List ℕ) (ts : List Tree) → length ts ≡ 0 → o ≡ applied_text o (map part ts)
  alone o [] none = refl
  alone o (t ∷ ts) none = absurd (omega (arith, none))

  pub text_alone : (t : Tree) → length (args_of t) ≡ 0 → operator_text held (head_of t) (indices_of t) ≡ term_text held shared t
  text_alone t none = alone (operator_text held (head_of t) (indices_of t)) (args_of t) none ∙ sym (text_of_tree t)

  spaced : (ts : List Tree) → flat_map (spaced_part held shared) ts ≡ flat_map (λ u. codes " " ++ u) (map part ts)
  spaced [] = refl
  spaced (t ∷ ts) = ap (λ x. spaced_part held shared t ++ x) (spaced ts)

  applied : (o : List ℕ) (ts : List Tree) → ¬ (length ts ≡ 0) → (codes "(" ++ o) ++ (flat_map (spaced_part held shared) ts ++ codes ")") ≡ applied_text o (map part ts)
  applied o [] some = absurd (some refl)
  applied o (t ∷ ts) some = ap (λ x. 40 ∷ (o ++ (x ++ codes ")"))) (spaced (t ∷ ts))

  pub text_applied : (t : Tree) → ¬ (length (args_of t) ≡ 0) →
      (codes "(" ++ operator_text held (head_of t) (indices_of t)) ++ (flat_map (spaced_part held shared) (args_of t) ++ codes ")") ≡ term_text held shared t
  text_applied t some = applied (operator_text held (head_of t) (indices_of t)) (args_of t) some ∙ sym (text_of_tree t)

  pub part_named : (t : Tree) (k : ℕ) → number_from 1 shared t ≡ Some k → codes " @" ++ decimal k ≡ spaced_part held shared t
  part_named t k is = ap (λ o. codes " " ++ named_or o (term_text held shared t)) (sym is)

  pub part_written : (t : Tree) → number_from 1 shared t ≡ None → codes " " ++ term_text held shared t ≡ spaced_part held shared t
  part_written t is = ap (λ o. codes " " ++ named_or o (term_text held shared t)) (sym is)

-- ---- numbers of ids

same_tree : (ts : List Tree) (a b : TermId) → IsOneToOne ts → a.0 < length ts → b.0 < length ts → tree_eq (tree_at ts a.0) (tree_at ts b.0) ≡ nat_eq a.0 b.0
same_tree ts a b one la lb = go (tree_eq (tree_at ts a.0) (tree_at ts b.0)) (nat_eq a.0 b.0) refl refl
  where
    go : (s t : Bool) → tree_eq (tree_at ts a.0) (tree_at ts b.0) ≡ s → nat_eq a.0 b.0 ≡ t → s ≡ t
    go true true is same = refl
    go false false is same = refl
    go true false is same = let e : a.0 ≡ b.0 = one a.0 b.0 la lb ((is_decided.trees (tree_at ts a.0) (tree_at ts b.0)).0 is) in absurd (grind (arith, nat_tests))
    go false true is same =
        let e : tree_eq (tree_at ts a.0) (tree_at ts b.0) ≡ true = (is_decided.trees (tree_at ts a.0) (tree_at ts b.0)).1 (ap (tree_at ts) (eqb-true a.0 b.0 same)) in absurd cc

pub number_by_id : (ts : List Tree) (k : ℕ) (ids : List TermId) (id : TermId) → IsOneToOne ts → AreIds (length ts) ids → id.0 < length ts → number_from k (trees_at ts ids) (tree_at ts id.0) ≡ id_from k ids id
number_by_id ts k [] id one all lt = refl
number_by_id ts k (s ∷ ids) id one all lt =
    ap (λ b. if b then Some k else number_from (k + 1) (trees_at ts ids) (tree_at ts id.0)) (same_tree ts s id one (all 0 s (omega arith)) lt)
    ∙ ap (λ o. if nat_eq s.0 id.0 then Some k else o) (number_by_id ts (k + 1) ids id one (λ j d l. all (suc j) d (omega arith)) lt)

-- from a place on
first_of : (n k : ℕ) (ids : List TermId) (d id : TermId) → k < length ids → id_from n (drop k ids) id ≡ (if nat_eq (get_or ids k d).0 id.0 then Some n else id_from (n + 1) (drop (k + 1) ids) id)
first_of n k ids d id lt =
    let e : k + 1 ≡ suc k = omega arith in
    ap (λ xs. id_from n xs id) (drop-cons ids k d lt) ∙ ap (λ j. if nat_eq (get_or ids k d).0 id.0 then Some n else id_from (n + 1) (drop j ids) id) (sym e)

pub id_found : (k : ℕ) (ids : List TermId) (d id : TermId) (w : Option ℕ) → k < length ids → (get_or ids k d).0 ≡ id.0 → id_from (k + 1) (drop k ids) id ≡ w → Some (k + 1) ≡ w
id_found k ids d id w lt same is =
    let yes : nat_eq (get_or ids k d).0 id.0 ≡ true = grind (arith, nat_tests) in
    sym (first_of (k + 1) k ids d id lt ∙ ap (λ b. if b then Some (k + 1) else id_from (k + 1 + 1) (drop (k + 1) ids) id) yes) ∙ is

pub id_passed : (k : ℕ) (ids : List TermId) (d id : TermId) (w : Option ℕ) → k < length ids → ¬ ((get_or ids k d).0 ≡ id.0) → id_from (k + 1) (drop k ids) id ≡ w → id_from (k + 1 + 1) (drop (k + 1) ids) id ≡ w
id_passed k ids d id w lt other is =
    let no : nat_eq (get_or ids k d).0 id.0 ≡ false = grind (arith, nat_tests) in
    sym (first_of (k + 1) k ids d id lt ∙ ap (λ b. if b then Some (k + 1) else id_from (k + 1 + 1) (drop (k + 1) ids) id) no) ∙ is

pub id_absent : (k : ℕ) (ids : List TermId) (id : TermId) (w : Option ℕ) → length ids ≤ k → id_from (k + 1) (drop k ids) id ≡ w → None ≡ w
id_absent k ids id w le is = ap (λ xs. id_from (k + 1) xs id) (sym (drop_all ids k le)) ∙ is

pub below_more : (n m : ℕ) (ps : List Part) → n ≤ m → NamesBelow n ps → NamesBelow m ps
below_more n m [] le h = tt
below_more n m (p ∷ ps) le h = (omega (arith, h.0), below_more n m ps le h.1)

pub index_named : (n m : ℕ) (ix : List LinearExpression) (k : ℕ) (e : LinearExpression) → n ≤ m → AreNamed n ix → k < length ix → slice_get ix k ≡ Some e → NamesBelow m e.parts
index_named n m ix k e le all lt is = subst (λ (x : LinearExpression). NamesBelow m x.parts) (get_or_from_slice_get ix k e e is) (below_more n m (get_or ix k e).parts le (all k e lt))

-- ---- loops

flat_more : {X : Type 0} (f : X → List ℕ) (xs : List X) (k : ℕ) (d : X) → k < length xs → flat_map f (take (suc k) xs) ≡ flat_map f (take k xs) ++ f (get_or xs k d)
flat_more f [] k d lt = absurd (omega (arith, lt))
flat_more f (x ∷ xs) zero d lt = append-nil (f x)
flat_more f (x ∷ xs) (suc k) d lt = ap (λ t. f x ++ t) (flat_more f xs k d (omega arith)) ∙ sym (append_assoc (f x) (flat_map f (take k xs)) (f (get_or xs k d)))

-- one item more was written
pub item_more : {X : Type 0} (f : X → List ℕ) (xs : List X) (k : ℕ) (x : X) (old mid new : List ℕ) → k < length xs → get_or xs k x ≡ x → mid ≡ old ++ flat_map f (take k xs) → new ≡ mid ++ f x → new ≡ old ++ flat_map f (take (k + 1) xs)
item_more f xs k x old mid new lt same before is =
    let e : k + 1 ≡ suc k = omega arith in
    is ∙ ap (λ t. t ++ f x) before ∙ append_assoc old (flat_map f (take k xs)) (f x) ∙ ap (λ y. old ++ (flat_map f (take k xs) ++ f y)) (sym same)
    ∙ ap (λ t. old ++ t) (sym (flat_more f xs k x lt)) ∙ ap (λ n. old ++ flat_map f (take n xs)) (sym e)

-- the text of an item is cut, behind those before it and before what comes behind all
pub item_cut : {X : Type 0} (f : X → List ℕ) (xs : List X) (k : ℕ) (x : X) (old mid more new : List ℕ) → k < length xs → get_or xs k x ≡ x → mid ≡ old ++ flat_map f (take k xs) → IsCut mid (f x) new → IsCut old (flat_map f xs ++ more) new
item_cut {X = X} f xs k x old mid more new lt same before cut =
    cut_front old (flat_map f xs) more new (cut_item f xs k x old mid new lt before (subst (λ (y : X). IsCut mid (f y) new) (sym same) cut))

-- all items were written, and nothing of what comes behind
pub all_written : {X : Type 0} (f : X → List ℕ) (xs : List X) (k : ℕ) (old mid more new : List ℕ) → length xs ≤ k → mid ≡ old ++ flat_map f (take k xs) → new ≡ mid → IsCut old (flat_map f xs ++ more) new
all_written f xs k old mid more new le before is = cut_here old (flat_map f xs) more new (is ∙ through f old mid xs k le before)

pub all_ended : {X : Type 0} (f : X → List ℕ) (xs : List X) (k : ℕ) (old mid more new : List ℕ) → length xs ≤ k → mid ≡ old ++ flat_map f (take k xs) → new ≡ mid ++ more → new ≡ old ++ (flat_map f xs ++ more)
all_ended f xs k old mid more new le before is = is ∙ ap (λ t. t ++ more) (through f old mid xs k le before) ∙ append_assoc old (flat_map f xs) more

-- ---- the same text by another name

pub ok_text : {A E : Type 0} (r : Result A E) (old a b new : List ℕ) → a ≡ b → OnOk r (new ≡ old ++ a) → OnOk r (new ≡ old ++ b)
ok_text r old a b new same h = subst (λ (t : List ℕ). OnOk r (new ≡ old ++ t)) same h

pub err_text : {A E : Type 0} (r : Result A E) (old a b new : List ℕ) → a ≡ b → OnErr r (IsCut old a new) → OnErr r (IsCut old b new)
err_text r old a b new same h = subst (λ (t : List ℕ). OnErr r (IsCut old t new)) same h

-- two texts, the first of which is written
pub ok_both : {A E : Type 0} (r : Result A E) (old a b text mid new : List ℕ) → a ++ b ≡ text → mid ≡ old ++ a → OnOk r (new ≡ mid ++ b) → OnOk r (new ≡ old ++ text)
ok_both (Ok x) old a b text mid new same first h = h ∙ ap (λ t. t ++ b) first ∙ append_assoc old a b ∙ ap (λ t. old ++ t) same
ok_both (Err e) old a b text mid new same first h = tt

pub err_both : {A E : Type 0} (r : Result A E) (old a b text mid new : List ℕ) → a ++ b ≡ text → mid ≡ old ++ a → OnErr r (IsCut mid b new) → OnErr r (IsCut old text new)
err_both (Ok x) old a b text mid new same first h = tt
err_both (Err e) old a b text mid new same first h = subst (λ (t : List ℕ). IsCut old t new) same (cut_behind old a b mid new first h)

pub err_first : {A E : Type 0} (r : Result A E) (old a b text new : List ℕ) → a ++ b ≡ text → IsCut old a new → OnErr r (IsCut old text new)
err_first r old a b text new same h = in_any r (IsCut old text new) (subst (λ (t : List ℕ). IsCut old t new) same (cut_front old a b new h))

pub on_ok : {A E : Type 0} (r : Result A E) (P Q : Type 0) → OnOk r P → (P → Q) → OnOk r Q
on_ok (Ok x) P Q h f = f h
on_ok (Err e) P Q h f = tt

-- ---- arguments

pub at_place : (ts : List Tree) (k : ℕ) (a : Tree) → a ≡ tree_at ts k → k < length ts → get_or ts k a ≡ a
at_place [] k a is lt = absurd (omega (arith, lt))
at_place (t ∷ ts) zero a is lt = sym is
at_place (t ∷ ts) (suc k) a is lt = at_place ts k a is (omega arith)

pub deeper : (t a : Tree) (k : ℕ) → a ≡ tree_at (args_of t) k → k < length (args_of t) → nesting a < nesting t
deeper t a k e lt = let h = nesting_falls t k lt in let q = ap nesting e in omega (arith, h, q)
