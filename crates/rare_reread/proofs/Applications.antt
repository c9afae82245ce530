-- The text of a term is read as the term.
use Rattle.std.proofs.Common.{◌≡◌, ℕ, suc, ◌+◌, ◌<◌, ◌≤◌, Bool, true, false, List, [], ◌∷◌, ◌++◌, map, length, Option, Some, None, All, Ok, refl, sym, ap, ◌∙◌, subst, arith, append_assoc, if◌then◌else◌}
use Rattle.std.specs.Prelude.{codes, flat_map}
use Rattle.std.specs.Fmt.{decimal}
use Rattle.std.proofs.lemmas.List.{append-nil, length-map}
use Rattle.std.proofs.lemmas.Option.{none-some, same_Some}
use Rattle.rare_linear.specs.Linears.{LinearExpression}
use Rattle.rare_sexpr.specs.declared.tree.Sexpr.{Sexpr}
use Rattle.rare_sexpr.specs.Tree.{kind_of, items_of}
use Rattle.rare_sort.specs.Ids.{tree_at}
use Rattle.rare_sort.specs.Sameness.{tree_eq}
use Rattle.rare_sort.specs.Trees.{node, nesting, greatest}
use Rattle.rare_sort.specs.declared.head.Head.{Head}
use Rattle.rare_sort.specs.declared.tree.Tree.{Tree, Tree-F, ind-Tree, roll-Tree, out-Tree}
use Rattle.rare_sort.specs.declared.tree.Tree.TheViews.{out-roll-Tree}
use Rattle.rare_sort.proofs.SamenessLemmas.{is_decided}
use Rattle.rare_term.specs.Lawful.{IsKeptTerm, IsLawful, Stands}
use Rattle.rare_term.specs.State.{State}
use Rattle.rare_term.specs.inner.TreeLaws.{nesting_node}
use Rattle.rare_scope.specs.Names.{Held, a_term, found, names_of}
use Rattle.rare_scope.specs.Reading.{go_on, is_word}
use Rattle.rare_operators.specs.declared.head.IndexedHead.{IndexedHead}
use Rattle.rare_operators.specs.Applications.{application_at}
use Rattle.rare_operators.specs.HeadText.{head_at}
use Rattle.rare_term_text.specs.TermText.{arguments_from, begins_literal, term_at}
use Rattle.rare_term_printing.specs.OperatorTexts.{operator_text}
use Rattle.rare_term_printing.specs.TermPrinting.{applied_text, number_from, named_or, term_text}
use Rattle.rare_term_printing.proofs.Texts.{part, text_of_node}
use Rattle.rare_reread.specs.ReadsAs.{ReadsAs, RunsAs, IsListOf}
use Rattle.rare_reread.specs.Terms.{IsWritable, NamesAll}
use Rattle.rare_reread.proofs.Atoms.{list_kind, list_items}
use Rattle.rare_reread.proofs.Heads.{IsHead, if_no}
use Rattle.rare_reread.proofs.Joining.{Begins, nothing_runs, more_runs, list_reads}
use Rattle.rare_reread.proofs.Leaves.{Is, Fits, pair, applies, list_by}
use Rattle.rare_reread.proofs.Linears.{so_reads, so_runs}
use Rattle.rare_reread.proofs.Literals.{name_reads}
use Rattle.rare_reread.proofs.Operators.{FitsAll, leaf_reads, head_reads}

-- ---- numbers of shared terms

-- a term with a number is the one at its place
pub record IsAtNumber (j k : ℕ) (shared : List Tree) (t : Tree) : Type 0 where
  pub place : ℕ
  pub within : place < length shared
  pub number : k ≡ j + place
  pub tree : tree_at shared place ≡ t

at_number : (j k : ℕ) (shared : List Tree) (t : Tree) → number_from j shared t ≡ Some k → IsAtNumber j k shared t
at_number j k [] t is = absurd (none-some k is)
at_number j k (s ∷ ss) t is = go (tree_eq s t) refl is (λ e. at_number (j + 1) k ss t e)
  where
    go : (b : Bool) → tree_eq s t ≡ b → (if b then Some j else number_from (j + 1) ss t) ≡ Some k → (number_from (j + 1) ss t ≡ Some k → IsAtNumber (j + 1) k ss t) → IsAtNumber j k (s ∷ ss) t
    go true same e later = record { place = 0; within = omega arith; number = let q = same_Some j k e in omega arith; tree = (is_decided.trees s t).0 same }
    go false same e later = let q = later e in record { place = suc q.place; within = let lt = q.within in omega arith; number = let n = q.number in omega arith; tree = q.tree }

module _ (held : Held) (s : State) (shared : List Tree) (n : NamesAll held s shared) where
  abbrev pub IsTree : Tree → Sexpr → Type 0
  IsTree = Is held n.readable s.declared s.trees

  abbrev pub Reads : Tree → Type 0
  Reads t = ReadsAs (nesting t + 5) (term_text held shared t) (IsTree t)

  -- ---- parts

  part_by : (t : Tree) (o : Option ℕ) → number_from 1 shared t ≡ o → Reads t → ReadsAs (nesting t + 5) (named_or o (term_text held shared t)) (IsTree t)
  part_by t None is reads = reads
  part_by t (Some k) is reads =
      let a = at_number 1 k shared t is in
      let few = n.few in
      let within = a.within in
      let number = a.number in
      let known : found (names_of s.trees held) (codes "@" ++ decimal k) ≡ Some (a_term t) =
      subst (λ (j : ℕ). found (names_of s.trees held) (codes "@" ++ decimal j) ≡ Some (a_term t)) (omega arith)
      (subst (λ (u : Tree). found (names_of s.trees held) (codes "@" ++ decimal (a.place + 1)) ≡ Some (a_term u)) a.tree (n.known a.place a.within)) in
      name_reads held n.readable s.declared s.trees (nesting t + 5) k t (omega arith) known

  part_reads : (t : Tree) → Reads t → ReadsAs (nesting t + 5) (part held shared t) (IsTree t)
  part_reads t reads = part_by t (number_from 1 shared t) refl reads

  abbrev pub AllRead : List Tree → Type 0
  AllRead [] = Unit {0}
  AllRead (t ∷ ts) = Reads t × AllRead ts

  abbrev Each : List Tree → List Sexpr → Type 0
  Each [] [] = Unit {0}
  Each [] (x ∷ xs) = ⊥
  Each (t ∷ ts) [] = ⊥
  Each (t ∷ ts) (x ∷ xs) = IsTree t x × Each ts xs

  none_each : (xs : List Sexpr) → xs ≡ [] → Each [] xs
  none_each xs is = subst (Each []) (sym is) tt

  more_each : (t : Tree) (ts : List Tree) (xs : List Sexpr) → Begins (IsTree t) (Each ts) xs → Each (t ∷ ts) xs
  more_each t ts xs b = subst (Each (t ∷ ts)) (sym b.both) (b.is, b.are)

  parts_run : (m : ℕ) (us : List Tree) → greatest (map nesting us) + 5 ≤ m → AllRead us → RunsAs m (flat_map (λ u. codes " " ++ u) (map (part held shared) us)) (Each us)
  parts_run m [] le all = so_runs m m [] [] (λ es. es ≡ []) (Each []) (omega arith) refl none_each (nothing_runs m)
  parts_run m (u ∷ us) le all =
      let more = flat_map (λ u. codes " " ++ u) (map (part held shared) us) in
      let whole : List ℕ = 32 ∷ (part held shared u ++ flat_map (λ u. codes " " ++ u) (map (part held shared) us)) in
      so_runs m m whole whole (Begins (IsTree u) (Each us)) (Each (u ∷ us)) (omega arith) refl (more_each u us)
      (more_runs m (part held shared u) (flat_map (λ u. codes " " ++ u) (map (part held shared) us)) (IsTree u) (Each us)
      (so_reads (nesting u + 5) m (part held shared u) (part held shared u) (IsTree u) (IsTree u) (omega arith) refl (λ e g. g) (part_reads u all.0)) (parts_run m us (omega arith) all.1))

  -- ---- applications

  arguments_read : (e : Sexpr) (o : IndexedHead) (done us : List Tree) (xs : List Sexpr) → Each us xs →
      arguments_from s.declared (names_of s.trees held) e o done (map (pair held n.readable s.declared s.trees) xs) ≡ application_at s.declared e o.head o.indices (done ++ us)
  arguments_read e o done [] [] g = ap (application_at s.declared e o.head o.indices) (sym (append-nil done))
  arguments_read e o done [] (x ∷ xs) g = absurd g
  arguments_read e o done (u ∷ us) [] g = absurd g
  arguments_read e o done (u ∷ us) (x ∷ xs) g =
      ap (λ q. go_on q (λ t. arguments_from s.declared (names_of s.trees held) e o (done ++ t ∷ []) (map (pair held n.readable s.declared s.trees) xs))) g.0
      ∙ arguments_read e o (done ++ u ∷ []) us xs g.1 ∙ ap (application_at s.declared e o.head o.indices) (append_assoc done (u ∷ []) us)

  as_many : (us : List Tree) (xs : List Sexpr) → Each us xs → length xs ≡ length us
  as_many [] [] g = refl
  as_many [] (x ∷ xs) g = absurd g
  as_many (u ∷ us) [] g = absurd g
  as_many (u ∷ us) (x ∷ xs) g = ap suc (as_many us xs g.1)

  applied_is : (h : Head) (ix : List LinearExpression) (us : List Tree) (e : Sexpr) → Fits held n.readable s.declared s.trees h ix us → IsListOf (IsHead held n.readable s.declared s.trees (length us) h ix) (Each us) e → IsTree (node h ix us) e
  applied_is h ix us e f i =
      let o : IndexedHead = record { head = h; indices = ix } in
      let names = names_of s.trees held in
      let count : length (map (pair held n.readable s.declared s.trees) i.items) ≡ length us = length-map i.items (pair held n.readable s.declared s.trees) ∙ as_many us i.items i.are in
      list_by held n.readable s.declared s.trees e i.first i.items (ap kind_of i.list ∙ list_kind i.place (i.first ∷ i.items)) (ap items_of i.list ∙ list_items i.place (i.first ∷ i.items))
      ∙ if_no (is_word (codes "let") i.first) _ _ i.is.no_let ∙ if_no (is_word (codes "_") i.first) _ _ i.is.no_index ∙ if_no (begins_literal (names_of s.trees held) i.first) _ _ i.is.no_literal
      ∙ ap (λ k. go_on (head_at s.declared (names_of s.trees held) e i.first k) (λ o. arguments_from s.declared (names_of s.trees held) e o [] (map (pair held n.readable s.declared s.trees) i.items))) count
      ∙ ap (λ q. go_on q (λ o. arguments_from s.declared (names_of s.trees held) e o [] (map (pair held n.readable s.declared s.trees) i.items))) (i.is.reads e)
      ∙ arguments_read e (record { head = h; indices = ix }) [] us i.items i.are ∙ applies held n.readable s.declared s.trees e h ix us f

  by_parts : (h : Head) (ix : List LinearExpression) (us : List Tree) → FitsAll s.declared h ix us → AllRead us → Reads (node h ix us)
  by_parts h ix [] f all =
      so_reads 5 (nesting (node h ix []) + 5) (operator_text held h ix) (term_text held shared (node h ix [])) (IsTree (node h ix [])) (IsTree (node h ix [])) (omega arith) (sym (text_of_node held shared h ix [])) (λ e g. g)
      (leaf_reads held n.readable s.declared s.trees n.symbols n.widths h ix f)
  by_parts h ix (u ∷ us) f all =
      let m = greatest (map nesting (u ∷ us)) + 5 in
      let o = operator_text held h ix in
      let more = flat_map (λ u. codes " " ++ u) (map (part held shared) (u ∷ us)) in
      let nest = nesting_node h ix (u ∷ us) in
      so_reads (suc (greatest (map nesting (u ∷ us)) + 5)) (nesting (node h ix (u ∷ us)) + 5) (applied_text (operator_text held h ix) (map (part held shared) (u ∷ us))) (term_text held shared (node h ix (u ∷ us)))
      (IsListOf (IsHead held n.readable s.declared s.trees (length (u ∷ us)) h ix) (Each (u ∷ us))) (IsTree (node h ix (u ∷ us))) (omega (arith, nest)) (sym (text_of_node held shared h ix (u ∷ us)))
      (λ e i. applied_is h ix (u ∷ us) e (record { allowed = f.allowed; literals = f.literals }) i)
      (list_reads (greatest (map nesting (u ∷ us)) + 5) (operator_text held h ix) (flat_map (λ u. codes " " ++ u) (map (part held shared) (u ∷ us))) (IsHead held n.readable s.declared s.trees (length (u ∷ us)) h ix) (Each (u ∷ us))
      (so_reads 5 (greatest (map nesting (u ∷ us)) + 5) (operator_text held h ix) (operator_text held h ix) (IsHead held n.readable s.declared s.trees (length (u ∷ us)) h ix) (IsHead held n.readable s.declared s.trees (length (u ∷ us)) h ix) (omega arith) refl (λ e g. g)
      (head_reads held n.readable s.declared s.trees n.symbols n.widths h ix u us f))
      (parts_run (greatest (map nesting (u ∷ us)) + 5) (u ∷ us) (omega arith) all))

  -- ---- all terms

  module _ (lawful : IsLawful s) (writable : (i : ℕ) → i < length s.trees → IsWritable s (tree_at s.trees i)) where
    abbrev ReadsBack : Tree → Type 0
    ReadsBack t = Stands s.trees t → Reads t

    abbrev Back : Type 0
    Back = (t : Tree) × ReadsBack t

    abbrev AllBack : List Tree → Type 0
    AllBack ts = All (Stands s.trees) ts → AllRead ts

    all_back : (ts : List Back) → AllBack (map (λ t. t.0) ts)
    all_back [] stands = tt
    all_back (t ∷ ts) stands = (t.1 (stands 0 t.0 (omega arith)), all_back ts (λ i d lt. stands (suc i) d (omega arith)))

    -- what is known of an application that is kept
    record IsKnown (x : Tree-F Tree) : Type 0 where
      all : FitsAll s.declared x.head x.indices x.args
      args : All (Stands s.trees) x.args

    known_of : (t : Tree) → IsKeptTerm s t → IsWritable s t → IsKnown (out-Tree t)
    known_of t k w = record {
      all = record { allowed = w.allowed; literals = k.literals; symbol = k.symbol; numbers = k.numbers; named = k.names; given = w.given; value = w.value; kept = w.indices };
      args = k.args;
    }

    at_node : (x : Tree-F Tree) → AllBack x.args → ReadsBack (roll-Tree x)
    at_node x back stands =
        let kept : IsKeptTerm s (roll-Tree x) = subst (IsKeptTerm s) stands.2 (lawful.terms stands.0 stands.1) in
        let writes : IsWritable s (roll-Tree x) = subst (IsWritable s) stands.2 (writable stands.0 stands.1) in
        let known : IsKnown x = subst IsKnown (out-roll-Tree x) (known_of (roll-Tree x) kept writes) in
        by_parts x.head x.indices x.args known.all (back known.args)

    term_reads_back : (t : Tree) → ReadsBack t
    term_reads_back = ind-Tree ReadsBack (λ x y is. at_node x (subst (λ z. AllBack z.args) is (all_back y.args)))

pub term_reads : (held : Held) (s : State) (shared : List Tree) (t : Tree) → IsLawful s → ((i : ℕ) → i < length s.trees → IsWritable s (tree_at s.trees i)) → NamesAll held s shared →
    Stands s.trees t → ReadsAs (nesting t + 5) (term_text held shared t) (λ e. term_at s.declared (names_of s.trees held) e ≡ Ok t)
term_reads held s shared t lawful writable names stands = term_reads_back held s shared names lawful writable t stands
