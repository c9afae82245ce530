-- Each node of a term that a rule's text spells is one of a rule in form.
use Rattle.std.proofs.Common.{◌≡◌, ℕ, zero, suc, ◌≤◌, Bool, true, false, List, [], ◌∷◌, ◌++◌, map, length, take, drop, nat_eq, nat_lt, Option, Some, None, Ok, refl, ap, ◌∙◌, subst, arith}
use Rattle.std.specs.Prelude.{flat_map, if◌then◌else◌, codes}
use Rattle.std.proofs.lemmas.Bool.{eq-eqb, ltb-false}
use Rattle.rare_base.specs.declared.answers.Reason.TheVariants as reason
use Rattle.rare_linear.specs.Linears.{LinearExpression}
use Rattle.rare_sort.specs.Each.{Each}
use Rattle.rare_sort.specs.Trees.{node}
use Rattle.rare_sort.specs.declared.head.Head.{Head}
use Rattle.rare_sort.specs.declared.tree.Tree.{Tree}
use Rattle.rare_sort.proofs.NeedsLemmas.{both, and_both}
use Rattle.rare_sort.proofs.SortingLemmas.{Each-append}
use Rattle.rare_sexpr.specs.declared.tree.Kind.{Kind}
use Rattle.rare_sexpr.specs.declared.tree.Kind.TheVariants as kind
use Rattle.rare_sexpr.specs.declared.tree.Sexpr.{Sexpr, Atom, List', Row_of-Sexpr, end_of-Sexpr, more_of-Sexpr}
use Rattle.rare_sexpr.specs.Tree.{go_along, kind_of, text_of, items_of}
use Rattle.rare_scope.specs.Reading.{Read, refused, go_on, is_word}
use Rattle.rare_scope.proofs.InOrder.{went, same_Ok}
use Rattle.rare_operators.specs.declared.head.IndexedHead.{IndexedHead}
use Rattle.rare_operators.specs.declared.words.IndexedWord.{IndexedWord}
use Rattle.rare_operators.specs.HeadText.{word_head, indices_at, indexed_head, indexed_word_at}
use Rattle.rare_operators.specs.OperatorWords.{operator_of_word}
use Rattle.rare_rule.specs.NodeForms.{all_nodes}
use Rattle.rare_rule.specs.Nodes.{Node, walk}
use Rattle.rare_rule.specs.declared.param.Param.{Param}
use Rattle.rare_rule.proofs.Walks.{walk-node}
use Rattle.rare_parse.specs.RuleNames.{rule_widths}
use Rattle.rare_parse.specs.RuleTermText.{Items, is_large, application_at, arguments_from, with_indices, indexed_application, word_application, application_by, decimal_literal, linear_literal, list_term, term_by, rule_term_at}
use Rattle.rare_parse.proofs.FormHeads.{is_fine_node, is_indexed_use, IsOperator, IsHead, word_fine, indexed_plain, indices_read, with_indices_fine, indexed_fine}
use Rattle.rare_parse.proofs.FormLiterals.{IsFineTree, GivesTree, decimal_fine, linear_fine, atom_fine}
use Rattle.rare_parse.proofs.FormSorts.{AreAmong}

-- ---- nodes of an application

pub nodes-append : (test : Node → Bool) (ns ms : List Node) → all_nodes test ns ≡ true → all_nodes test ms ≡ true → all_nodes test (ns ++ ms) ≡ true
nodes-append test [] ms g h = h
nodes-append test (n ∷ ns) ms g h = let x = both _ _ g in and_both _ _ x.0 (nodes-append test ns ms x.1 h)

module _ (ps : List Param) where
  arguments_nodes : (parent : Option Head) (ts : List Tree) → Each (IsFineTree ps) ts → all_nodes (is_fine_node ps) (flat_map (λ w. w.nodes parent) (map walk ts)) ≡ true
  arguments_nodes parent [] fine = refl
  arguments_nodes parent (t ∷ ts) fine =
      nodes-append (is_fine_node ps) ((walk t).nodes parent) (flat_map (λ w. w.nodes parent) (map walk ts)) (fine.0 parent) (arguments_nodes parent ts fine.1)

  node_fine : (h : Head) (ix : List LinearExpression) (ts : List Tree) → IsOperator ps h ix → Each (IsFineTree ps) ts → IsFineTree ps (node h ix ts)
  node_fine h ix ts operator fine =
      λ parent. ap (λ w. all_nodes (is_fine_node ps) (w.nodes parent)) (walk-node h ix ts)
      ∙ nodes-append (is_fine_node ps) (flat_map (λ w. w.nodes (Some h)) (map walk ts))
      (record { head = h; indices = ix; parent = parent; args = map (λ w. w.root) (map walk ts) } ∷ [])
      (arguments_nodes (Some h) ts fine) (and_both _ _ (operator parent (map (λ w. w.root) (map walk ts))) refl)

  -- ---- applications

  abbrev GiveTrees : Items → Type 0
  GiveTrees xs = Each (λ x. GivesTree ps x.1) xs

  drop_trees : (n : ℕ) (xs : Items) → GiveTrees xs → GiveTrees (drop n xs)
  drop_trees zero xs fine = fine
  drop_trees (suc n) [] fine = tt
  drop_trees (suc n) (x ∷ xs) fine = drop_trees n xs fine.1

  application_fine : (e : Sexpr) (o : IndexedHead) (ts : List Tree) → IsHead ps o → Each (IsFineTree ps) ts → GivesTree ps (application_at e o ts)
  application_fine e o ts operator fine t is = go (is_large o.head o.indices ts) is
    where
      go : (b : Bool) → (if b then refused e reason.TermLimit else Ok (node o.head o.indices ts)) ≡ Ok t → IsFineTree ps t
      go true is = absurd cc
      go false is = subst (IsFineTree ps) (same_Ok (node o.head o.indices ts) t is) (node_fine o.head o.indices ts operator fine)

  arguments_fine : (e : Sexpr) (o : IndexedHead) (ts : List Tree) (xs : Items) → IsHead ps o → Each (IsFineTree ps) ts → GiveTrees xs → GivesTree ps (arguments_from e o ts xs)
  arguments_fine e o ts [] operator fine all t is = application_fine e o ts operator fine t is
  arguments_fine e o ts (x ∷ xs) operator fine all t is =
      let a = went x.1 (λ a. arguments_from e o (ts ++ a ∷ []) xs) t is in
      arguments_fine e o (ts ++ a.0 ∷ []) xs operator (Each-append (IsFineTree ps) ts (a.0 ∷ []) fine (all.0 a.0 a.1, tt)) all.1 t a.2

  first_count : (n : ℕ) (xs : Items) → n ≤ length xs → length (map (λ (x : Sexpr × Read Tree). x.0) (take n xs)) ≡ n
  first_count zero xs le = refl
  first_count (suc n) [] le = absurd (omega (arith, le))
  first_count (suc n) (x ∷ xs) le = ap (λ k. suc k) (first_count n xs (omega (arith, le)))

  head_fine : (e : Sexpr) (read : Read IndexedHead) (xs : Items) → ((o : IndexedHead) → read ≡ Ok o → IsHead ps o) → GiveTrees xs →
      GivesTree ps (go_on read (λ o. arguments_from e o [] xs))
  head_fine e read xs operator all t is =
      let o = went read (λ o. arguments_from e o [] xs) t is in
      arguments_fine e o.0 [] xs (operator o.0 o.1) tt all t o.2

  module _ (among : AreAmong ps ps) where
    abbrev first_items : ℕ → Items → List Sexpr
    first_items n xs = map (λ x. x.0) (take n xs)

    behind_indices : (e : Sexpr) (w : IndexedWord) (xs : Items) → is_indexed_use w ≡ true → w.indices ≤ length xs → GiveTrees xs →
        GivesTree ps (go_on (indices_at (rule_widths ps) (first_items w.indices xs)) (λ ix. arguments_from e (with_indices w.head ix) [] (drop w.indices xs)))
    behind_indices e w xs good enough all t is =
        let ix = went (indices_at (rule_widths ps) (first_items w.indices xs)) (λ ix. arguments_from e (with_indices w.head ix) [] (drop w.indices xs)) t is in
        let count : nat_eq (length (first_items w.indices xs)) w.indices ≡ true = eq-eqb (length (first_items w.indices xs)) w.indices (first_count w.indices xs enough) in
        let operator = with_indices_fine ps among w (first_items w.indices xs) ix.0 good count (indices_read ps among (first_items w.indices xs) ix.0 ix.1) in
        arguments_fine e (with_indices w.head ix.0) [] (drop w.indices xs) operator tt (drop_trees w.indices xs all) t ix.2

    indexed_term : (e : Sexpr) (w : IndexedWord) (xs : Items) → is_indexed_use w ≡ true → GiveTrees xs → GivesTree ps (indexed_application ps e w xs)
    indexed_term e w xs good all t is = go (nat_lt (length xs) w.indices) refl is
      where
        go : (b : Bool) → nat_lt (length xs) w.indices ≡ b →
            (if b then refused e reason.BadForm else go_on (indices_at (rule_widths ps) (first_items w.indices xs)) (λ ix. arguments_from e (with_indices w.head ix) [] (drop w.indices xs))) ≡ Ok t →
            IsFineTree ps t
        go true few is = absurd cc
        go false enough is = behind_indices e w xs good (ltb-false (length xs) w.indices enough) all t is

    word_term : (e h : Sexpr) (xs : Items) (w : Option IndexedWord) → ((u : IndexedWord) → w ≡ Some u → is_indexed_use u ≡ true) → GiveTrees xs → GivesTree ps (word_application ps e h xs w)
    word_term e h xs (Some w) good all t is = indexed_term e w xs (good w refl) all t is
    word_term e h xs None good all t is =
        head_fine e (word_head e h (length xs) (operator_of_word (text_of h))) xs (λ o read. word_fine ps e h (length xs) o read) all t is

    by_head : (e h : Sexpr) (xs : Items) (k : Kind) → GiveTrees xs → GivesTree ps (application_by ps e h xs k)
    by_head e h xs kind.Symbol all t is = word_term e h xs (indexed_word_at h) (λ u read. indexed_plain h u read) all t is
    by_head e h xs kind.List all t is = head_fine e (indexed_head (rule_widths ps) h (items_of h)) xs (λ o read. indexed_fine ps among h (items_of h) o read) all t is
    by_head e h xs k all t is = absurd cc

    -- ---- terms

    list_fine : (e : Sexpr) (items : Items) → GiveTrees items → GivesTree ps (list_term ps e items)
    list_fine e [] all t is = absurd cc
    list_fine e (h ∷ xs) all t is = go (is_word (codes "_") h.0) (is_word (codes "bv") h.0) is
      where
        go : (a b : Bool) → (if a then decimal_literal e (items_of e) else if b then linear_literal ps e (items_of e) else application_by ps e h.0 xs (kind_of h.0)) ≡ Ok t → IsFineTree ps t
        go true b is = decimal_fine ps e (items_of e) t is
        go false true is = linear_fine ps among e (items_of e) t is
        go false false is = by_head e h.0 xs (kind_of h.0) all.1 t is

    by_kind : (e : Sexpr) (k : Kind) (items : Items) → GiveTrees items → GivesTree ps (term_by ps e k items)
    by_kind e kind.List items all t is = list_fine e items all t is
    by_kind e kind.Symbol items all t is = atom_fine ps e kind.Symbol t is
    by_kind e kind.Numeral items all t is = atom_fine ps e kind.Numeral t is
    by_kind e kind.Binary items all t is = atom_fine ps e kind.Binary t is
    by_kind e kind.Hex items all t is = atom_fine ps e kind.Hex t is
    by_kind e k items all t is = absurd cc

    mutual
      pub term_fine : (e : Sexpr) → GivesTree ps (rule_term_at ps e)
      term_fine (Atom place k text) t is = by_kind (Atom place k text) (kind_of (Atom place k text)) [] tt t is
      term_fine (List' place shape row) t is =
          by_kind (List' place shape row) (kind_of (List' place shape row)) (go_along (Read Tree) (λ e items. term_by ps e (kind_of e) items) row) (along_fine row) t is

      along_fine : {m : _} (row : Row_of-Sexpr m) → GiveTrees (go_along (Read Tree) (λ e items. term_by ps e (kind_of e) items) row)
      along_fine end_of-Sexpr = tt
      along_fine (more_of-Sexpr e rest) = (λ t is. term_fine e t is, along_fine rest)
