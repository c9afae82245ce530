-- What a keeper keeps true of its nodes gives the standing laws.
use Rattle.std.proofs.Common.{◌≡◌, ℕ, zero, suc, ◌+◌, ◌<◌, ◌≤◌, false, List, [], ◌∷◌, length, get_or, slice_get, All, pos, IsTrue, refl, ap, sym, ◌∙◌, subst, arith}
use Rattle.rare_linear.specs.Linears.{LinearExpression}
use Rattle.rare_sort.specs.Each.{EachPair}
use Rattle.rare_sort.specs.DeclaredSorts.{widths, IsDeclaredSort, AreNamed, IsSymbol}
use Rattle.rare_sort.specs.Families.{family}
use Rattle.rare_sort.specs.Ids.{tree_at, trees_at, sort_at, sorts_at, AreIds}
use Rattle.rare_sort.specs.SortOf.{sort_of, IsTermOf}
use Rattle.rare_sort.specs.Trees.{args_of, head_of, indices_of, nesting, size, node}
use Rattle.rare_sort.specs.declared.declarations.Declarations.{Declarations}
use Rattle.rare_sort.specs.declared.sort.Sort.{Sort, Bool}
use Rattle.rare_sort.specs.declared.tree.TermId.{TermId}
use Rattle.rare_sort.specs.declared.tree.Tree.{Tree}
use Rattle.rare_sort.proofs.SortLawLemmas.{node_law}
use Rattle.rare_sort.proofs.SortOfLaw.{have_their_sort}
use Rattle.rare_sort.proofs.SortOfLemmas.{gives_of}
use Rattle.rare_term.specs.Lawful.{IsKeptTerm, IsLawful, Stands}
use Rattle.rare_term.specs.Limits.{MOST_ARGS, MOST_NESTED, MOST_NODES}
use Rattle.rare_term.specs.Literals.{operator, reduced}
use Rattle.rare_term.specs.Refusals.{has_large_number}
use Rattle.rare_term.specs.declared.node.Node.{Node}
use Rattle.rare_term.specs.inner.Nodes.{node_at, state_of, tree_of, trees_of}
use Rattle.rare_term.specs.inner.Kept.{IsKept}
use Rattle.rare_term.specs.inner.Keeping.{args_are, count_args, head_is, indices_are, length_trees}

stand_all : (ts : List Tree) (ids : List TermId) → AreIds (length ts) ids → All (Stands ts) (trees_at ts ids)
stand_all ts [] a k x lt = absurd (omega arith)
stand_all ts (id ∷ ids) a zero x lt = (id.0, a 0 id (omega arith), refl)
stand_all ts (id ∷ ids) a (suc k) x lt = stand_all ts ids (λ j d le. a (suc j) d (omega arith)) k x (omega arith)

module _ (ns : List Node) (ss : List Sort) (d : Declarations) (kept : IsKept ns ss d) where
  abbrev ts : List Tree
  ts = trees_of ns

  abbrev IsItsTerm : ℕ → Type 0
  IsItsTerm i = IsTermOf d (tree_at ts i) (sort_at ss i)

  are_terms : (ids : List TermId) → ((k : ℕ) (x : TermId) → k < length ids → IsItsTerm (get_or ids k x).0) → EachPair (IsTermOf d) (trees_at ts ids) (sorts_at ss ids)
  are_terms [] h = tt
  are_terms (id ∷ ids) h = (h 0 id (omega arith), are_terms ids (λ k x lt. h (suc k) x (omega arith)))

  its_term : (i : ℕ) → i < length ns → ((j : ℕ) → j < i → IsItsTerm j) → IsItsTerm i
  its_term i lt before =
      let m = node_at ns i in
      let here = kept.nodes i lt in
      let gives = gives_of d m.head m.indices (sorts_at ss m.args) (sort_at ss i) (kept.ruled i lt) in
      subst (λ t. IsTermOf d t (sort_at ss i)) (sym here.tree)
      (node_law.made (slice_get d.symbols) (λ k. pos 1) d.constraints m.head m.indices (trees_at ts m.args) (sorts_at ss m.args) (sort_at ss i)
      (are_terms m.args (λ k x le. before (get_or m.args k x).0 (here.below k x le))) gives)

  terms_below : (n i : ℕ) → i < n → i < length ns → IsItsTerm i
  terms_below zero i less lt = absurd (omega arith)
  terms_below (suc n) i less lt = its_term i lt (λ j h. terms_below n j (omega arith) (omega arith))

  pub term_at : (i : ℕ) → i < length ns → IsItsTerm i
  term_at i lt = terms_below (suc i) i (omega arith) lt

  pub sort_is : (i : ℕ) → i < length ns → sort_of d.symbols (tree_at ts i) ≡ sort_at ss i
  sort_is i lt = have_their_sort d (tree_at ts i) (sort_at ss i) (term_at i lt)

  kept_term : (i : ℕ) → i < length ns → IsKeptTerm (state_of ns d) (tree_at ts i)
  kept_term i lt =
      let m = node_at ns i in
      let here = kept.nodes i lt in
      let a = kept.accepted i lt in
      let h = head_is ns kept.nodes i lt in
      let x = indices_are ns kept.nodes i lt in
      let placed : i < length ss = let c = kept.count in omega arith in
      let below : AreIds (length ts) m.args = λ k y le. let b = here.below k y le in let e = length_trees ns in omega arith in
      record {
        sorted = subst (IsTermOf d (tree_at ts i)) (sym (sort_is i lt)) (term_at i lt);
        sort = subst (IsDeclaredSort d) (sym (sort_is i lt)) (record { declared = kept.sorts i Bool placed; shallow = kept.shallow i Bool placed });
        few = let c = count_args ns kept.nodes i lt in let f = a.few in omega arith;
        shallow = let e = here.deep in let s = a.small.0 in omega arith;
        small = let e = here.large in let s = a.small.1 in omega arith;
        numbers = ap (λ k. has_large_number k (indices_of (tree_at ts i))) h ∙ ap (has_large_number m.head) x ∙ a.numbers;
        literals =
            ap (λ k. reduced k (indices_of (tree_at ts i))) h ∙ ap (reduced m.head) x ∙ a.literals ∙ ap (operator m.head) (sym x)
            ∙ ap (λ k. operator k (indices_of (tree_at ts i))) (sym h);
        symbol = subst (λ k. IsSymbol (length d.symbols) (family k)) (sym h) a.symbol;
        names = subst (AreNamed (widths d)) (sym x) a.names;
        args = subst (All (Stands ts)) (sym (args_are ns kept.nodes i lt)) (stand_all ts m.args below);
      }

  pub lawful_of : IsLawful (state_of ns d)
  lawful_of = record {
    one_to_one = kept.one;
    terms = λ i lt. kept_term i (let e = length_trees ns in omega arith);
    declared = kept.declared;
  }
