-- A problem that is being read stays one of its terms as these grow.
use Rattle.std.proofs.Common.{◌≡◌, ℕ, ◌+◌, ◌<◌, ◌≤◌, List, [], ◌∷◌, ◌++◌, map, length, refl, sym, ap, ◌∙◌, arith, append_assoc, length-append}
use Rattle.std.proofs.Math.ListN.{get_or-append}
use Rattle.std.proofs.lemmas.List.{append-nil}
use Rattle.std.proofs.lemmas.List.Elements.{All-head, All-tail}
use Rattle.rare_sort.specs.DeclaredSorts.{widths}
use Rattle.rare_sort.specs.Ids.{Extends, tree_at}
use Rattle.rare_sort.specs.SortOf.{sort_of}
use Rattle.rare_sort.specs.declared.sort.Signature.{Signature}
use Rattle.rare_sort.specs.declared.tree.Tree.{Tree}
use Rattle.rare_term.specs.Lawful.{IsLawful}
use Rattle.rare_term.specs.State.{State, one_constraint, one_sort, one_symbol, one_width, under, Grows}
use Rattle.rare_linear.specs.declared.constraint.Constraint.{Constraint}
use Rattle.rare_scope.specs.Names.{Held, a_term, names_of, meant, IsMeant, AreMeant}
use Rattle.rare_scope.specs.declared.meaning.Meaning.{Meaning}
use Rattle.rare_scope.specs.declared.meaning.Meaning.TheVariants as meaning
use Rattle.rare_text.specs.declared.problem.Rewrite.{Rewrite}
use Rattle.rare_text.specs.Stated.{stated_rewrite, HaveIds, HaveOneSort}
use Rattle.rare_text.proofs.SortsKept.{sort_kept}

-- ---- trees

pub tree_kept : (old new : List Tree) (k : ℕ) → Extends old new → k < length old → tree_at new k ≡ tree_at old k
tree_kept old new k g lt = ap (λ ts. tree_at ts k) g.1 ∙ get_or-append old g.0 _ k lt

pub longer : (old new : List Tree) → Extends old new → length old ≤ length new
longer old new g = let n : length new ≡ length old + length g.0 = ap length g.1 ∙ length-append old g.0 in omega (arith, n)

pub extends_on : (a b c : List Tree) → Extends a b → Extends b c → Extends a c
extends_on a b c x y = (x.0 ++ y.0, y.1 ∙ ap (λ us. us ++ y.0) x.1 ∙ append_assoc a x.0 y.0)

pub extends_same : (a : List Tree) → Extends a a
extends_same a = ([], sym (append-nil a))

-- ---- terms with more

-- more is declared, old ids keep their trees, and these their sorts
pub record IsMore (s t : State) : Type 0 where
  pub sorts : s.declared.sorts ≤ t.declared.sorts
  pub symbols : length s.declared.symbols ≤ length t.declared.symbols
  pub widths : widths s.declared ≤ widths t.declared
  pub trees : Extends s.trees t.trees
  pub sorted : (i : ℕ) → i < length s.trees → sort_of t.declared.symbols (tree_at t.trees i) ≡ sort_of s.declared.symbols (tree_at s.trees i)

pub more_terms : (s t : State) → Grows s t → IsMore s t
more_terms s t g = record {
  sorts = omega (arith, ap (λ d. d.sorts) g.declared);
  symbols = omega (arith, ap (λ d. length d.symbols) g.declared);
  widths = omega (arith, ap (λ d. widths d) g.declared);
  trees = g.trees;
  sorted = λ i lt. ap (λ d. sort_of d.symbols (tree_at t.trees i)) g.declared ∙ ap (sort_of s.declared.symbols) (tree_kept s.trees t.trees i g.trees lt);
}

module _ (s : State) where
  pub more_sorts : IsMore s (under one_sort s)
  more_sorts = record { sorts = omega arith; symbols = omega arith; widths = omega arith; trees = extends_same s.trees; sorted = λ i lt. refl }

  pub more_widths : IsMore s (under one_width s)
  more_widths = record {
    sorts = omega arith;
    symbols = omega arith;
    widths = omega (arith, length-append s.declared.lows (1 ∷ []));
    trees = extends_same s.trees;
    sorted = λ i lt. refl;
  }

  pub more_constraints : (c : Constraint) → IsMore s (under (one_constraint c) s)
  more_constraints c = record { sorts = omega arith; symbols = omega arith; widths = omega arith; trees = extends_same s.trees; sorted = λ i lt. refl }

  pub more_symbols : IsLawful s → (x : Signature) → IsMore s (under (one_symbol x) s)
  more_symbols l x = record {
    sorts = omega arith;
    symbols = omega (arith, length-append s.declared.symbols (x ∷ []));
    widths = omega arith;
    trees = extends_same s.trees;
    sorted = λ i lt. sort_kept s.declared.symbols (x ∷ []) s.declared.constraints (tree_at s.trees i) (sort_of s.declared.symbols (tree_at s.trees i)) (l.terms i lt).sorted;
  }

-- ---- what is over the terms

module _ (s t : State) (more : IsMore s t) where
  is_meant : (m : Meaning) → IsMeant s m → IsMeant t m
  is_meant (meaning.Sort k) h = omega (arith, h, more.sorts)
  is_meant (meaning.Width k) h = omega (arith, h, more.widths)
  is_meant (meaning.Symbol k) h = omega (arith, h, more.symbols)
  is_meant (meaning.Term id) h = omega (arith, h, longer s.trees t.trees more.trees)

  pub names_meant : (held : Held) → AreMeant s held → AreMeant t held
  names_meant held h k d lt = is_meant _ (h k d lt)

  same_meaning : (m : Meaning) → IsMeant s m → meant t.trees m ≡ meant s.trees m
  same_meaning (meaning.Sort k) h = refl
  same_meaning (meaning.Width k) h = refl
  same_meaning (meaning.Symbol k) h = refl
  same_meaning (meaning.Term id) h = ap a_term (tree_kept s.trees t.trees id.0 more.trees h)

  pub same_names : (held : Held) → AreMeant s held → names_of t.trees held ≡ names_of s.trees held
  same_names [] h = refl
  same_names (n ∷ ns) h =
      let first = same_meaning n.1 (All-head (λ x. IsMeant s x.1) n ns h) in
      let rest = same_names ns (All-tail (λ x. IsMeant s x.1) n ns h) in
      λ i. (n.0, first i) ∷ rest i

  pub same_ids : (rs : List Rewrite) → HaveIds (length s.trees) rs → HaveIds (length t.trees) rs
  same_ids rs h k d lt = let b = h k d lt in let le = longer s.trees t.trees more.trees in (omega (arith, le, b.0), omega (arith, le, b.1))

  pub same_rewrites : (rs : List Rewrite) → HaveIds (length s.trees) rs → map (stated_rewrite t.trees) rs ≡ map (stated_rewrite s.trees) rs
  same_rewrites [] h = refl
  same_rewrites (r ∷ rs) h =
      let ids = All-head (λ x. (x.left.0 < length s.trees) × (x.right.0 < length s.trees)) r rs h in
      let rest = same_rewrites rs (All-tail (λ x. (x.left.0 < length s.trees) × (x.right.0 < length s.trees)) r rs h) in
      let left = tree_kept s.trees t.trees r.left.0 more.trees ids.0 in
      let right = tree_kept s.trees t.trees r.right.0 more.trees ids.1 in
      λ i. record { name = r.name; left = left i; right = right i } ∷ rest i

  pub same_sorts : (rs : List Rewrite) → HaveIds (length s.trees) rs → HaveOneSort s rs → HaveOneSort t rs
  same_sorts rs ids h k d lt = let b = ids k d lt in more.sorted _ b.0 ∙ h k d lt ∙ sym (more.sorted _ b.1)
