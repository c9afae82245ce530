-- What a keeper keeps as it grows.
use Rattle.std.proofs.Common.{◌≡◌, ℕ, zero, suc, ◌+◌, ◌<◌, ◌≤◌, List, [], ◌∷◌, ◌++◌, length, map, get_or, slice_get, All, IsTrue, refl, ap, sym, ◌∙◌, subst, arith, length-append, below_more, sum, Some, Result, Ok, Err, OnOk, OnErr}
use Rattle.std.proofs.Math.Seq.{get_or-append_seam}
use Rattle.std.proofs.Math.ListN.{get_or-append}
use Rattle.std.proofs.lemmas.List.Elements.{All-push}
use Rattle.std.proofs.lemmas.Option.{none-some}
use Rattle.rare_linear.specs.Linears.{LinearExpression, NamesBelow}
use Rattle.rare_linear.specs.declared.constraint.Constraint.{Constraint}
use Rattle.rare_sort.specs.DeclaredSorts.{widths, is_sort, sort_nesting, MOST_NESTED_SORTS, AreDeclared, IsDeclaredSort}
use Rattle.rare_sort.specs.Ids.{tree_at, sort_at, sorts_at, AreIds}
use Rattle.rare_sort.specs.Rulings.{ruling}
use Rattle.rare_sort.specs.Trees.{greatest}
use Rattle.rare_sort.specs.declared.declarations.Declarations.{Declarations}
use Rattle.rare_sort.specs.declared.ruling.Ruling.TheVariants.{Has}
use Rattle.rare_sort.specs.declared.sort.Signature.{Signature}
use Rattle.rare_sort.specs.declared.sort.Sort.{Sort, Bool}
use Rattle.rare_sort.specs.declared.tree.TermId.{TermId}
use Rattle.rare_sort.proofs.GrowthLemmas.{Grows, constraints_grow, linears_grow, ruling_grows, signatures_grow, sort_grows, symbol_grows, declared_sort_grows}
use Rattle.rare_term.specs.State.{one_constraint, one_sort, one_symbol, one_width}
use Rattle.rare_term.specs.declared.node.Node.{Node}
use Rattle.rare_term.specs.inner.Nodes.{IsAt, node_at, nestings, sizes, tree_of, trees_of}
use Rattle.rare_term.specs.inner.Kept.{IsAccepted, IsKept}
use Rattle.rare_term.specs.inner.Keeping.{fresh_tree, nesting_is, push_nodes, push_one, size_is}

-- what a fresh node has to be
pub record IsFresh (ns : List Node) (ss : List Sort) (d : Declarations) (n : Node) (s : Sort) : Type 0 where
  pub below : AreIds (length ns) n.args
  pub deep : n.nesting ≡ 1 + greatest (nestings ns n.args)
  pub large : n.size ≡ 1 + sum (sizes ns n.args)
  pub accepted : IsAccepted d n
  pub ruled : ruling d n.head n.indices (sorts_at ss n.args) ≡ Has s
  pub none : (k : ℕ) → k < length ns → IsAt ns k n.head n.indices n.args → ⊥
  pub sort : IsDeclaredSort d s

sorts_grown : (ss : List Sort) (s : Sort) (ids : List TermId) → AreIds (length ss) ids → sorts_at (ss ++ s ∷ []) ids ≡ sorts_at ss ids
sorts_grown ss s [] h = refl
sorts_grown ss s (id ∷ ids) h =
    ap (λ x. x ∷ sorts_at (ss ++ s ∷ []) ids) (get_or-append ss (s ∷ []) _ id.0 (h 0 id (omega arith)))
    ∙ ap (λ xs. sort_at ss id.0 ∷ xs) (sorts_grown ss s ids (λ k d le. h (suc k) d (omega arith)))

module _ (ns : List Node) (ss : List Sort) (d : Declarations) (n : Node) (s : Sort) (kept : IsKept ns ss d) (fresh : IsFresh ns ss d n s) where
  abbrev Ruled : ℕ → Node → Type 0
  Ruled i m = ruling d m.head m.indices (sorts_at (ss ++ s ∷ []) m.args) ≡ Has (sort_at (ss ++ s ∷ []) i)

  ruled_old : (i : ℕ) → i < length ns → Ruled i (node_at ns i)
  ruled_old i lt =
      let m = node_at ns i in
      let c = kept.count in
      let below : AreIds (length ss) m.args = λ k x le. let b = (kept.nodes i lt).below k x le in omega arith in
      ap (ruling d m.head m.indices) (sorts_grown ss s m.args below) ∙ kept.ruled i lt ∙ ap Has (sym (get_or-append ss (s ∷ []) _ i (omega arith)))

  ruled_new : Ruled (length ns) n
  ruled_new =
      let below : AreIds (length ss) n.args = λ k x le. let b = fresh.below k x le in let c = kept.count in omega arith in
      ap (ruling d n.head n.indices) (sorts_grown ss s n.args below) ∙ fresh.ruled
      ∙ ap Has (sym (ap (sort_at (ss ++ s ∷ [])) (sym kept.count) ∙ get_or-append_seam ss s [] _))

  len : length (ns ++ n ∷ []) ≡ length ns + 1
  len = omega (arith, length-append ns (n ∷ []))

  at_each : (P : ℕ → Node → Type 0) → ((i : ℕ) → i < length ns → P i (node_at ns i)) → P (length ns) n → (i : ℕ) → i < length (ns ++ n ∷ []) → P i (node_at (ns ++ n ∷ []) i)
  at_each P old new i lt =
      below_more (λ j. P j (node_at (ns ++ n ∷ []) j)) (length ns)
      (λ j h. subst (P j) (sym (get_or-append ns (n ∷ []) _ j h)) (old j h))
      (subst (P (length ns)) (sym (get_or-append_seam ns n [] _)) new)
      i (let e = len in omega arith)

  -- a fresh node keeps all
  pub kept_push : IsKept (ns ++ n ∷ []) (ss ++ s ∷ []) d
  kept_push = record {
    one = push_one ns kept.nodes n kept.one (fresh_tree ns kept.nodes kept.one n fresh.below fresh.none);
    nodes = push_nodes ns kept.nodes n fresh.below (fresh.deep ∙ nesting_is ns kept.nodes n.head n.indices n.args fresh.below) (fresh.large ∙ size_is ns kept.nodes n.head n.indices n.args fresh.below);
    accepted = at_each (λ i m. IsAccepted d m) kept.accepted fresh.accepted;
    ruled = at_each Ruled ruled_old ruled_new;
    count = omega (arith, length-append ss (s ∷ []), len, kept.count);
    sorts = All-push (λ x. IsTrue (is_sort d x)) ss s kept.sorts fresh.sort.declared;
    shallow = All-push (λ x. sort_nesting x ≤ MOST_NESTED_SORTS) ss s kept.shallow fresh.sort.shallow;
    declared = kept.declared;
  }

-- ---- declarations that grow

kept_grow : (ns : List Node) (ss : List Sort) (d e : Declarations) → Grows d e → AreDeclared e → IsKept ns ss d → IsKept ns ss e
kept_grow ns ss d e g decl kept = record {
  one = kept.one;
  nodes = kept.nodes;
  accepted = λ i lt. let a = kept.accepted i lt in record {
    small = a.small;
    few = a.few;
    numbers = a.numbers;
    literals = a.literals;
    symbol = symbol_grows d e g _ a.symbol;
    names = linears_grow d e g _ a.names;
  };
  ruled = λ i lt. ruling_grows d e g _ _ _ _ (kept.ruled i lt);
  count = kept.count;
  sorts = λ k x lt. sort_grows d e g _ (kept.sorts k x lt);
  shallow = kept.shallow;
  declared = decl;
}

no_more : (cs : List Constraint) → cs ≡ cs ++ []
no_more [] = refl
no_more (c ∷ cs) = ap (λ xs. c ∷ xs) (no_more cs)

found_append : (xs ys : List Signature) (k : ℕ) (g : Signature) → slice_get xs k ≡ Some g → slice_get (xs ++ ys) k ≡ Some g
found_append [] ys k g e = absurd (none-some g e)
found_append (x ∷ xs) ys zero g e = e
found_append (x ∷ xs) ys (suc k) g e = found_append xs ys k g e

pub kept_sort : (ns : List Node) (ss : List Sort) (d : Declarations) → IsKept ns ss d → IsKept ns ss (one_sort d)
kept_sort ns ss d kept =
    let old = kept.declared in
    let e = one_sort d in
    let g : Grows d e = record { symbols = λ k x h. h; count = omega arith; widths = omega arith; constraints = ([], no_more d.constraints); sorts = omega arith } in
    kept_grow ns ss d e g (record { symbols = signatures_grow d e g d.symbols old.symbols; lows = old.lows; constraints = old.constraints }) kept

pub kept_width : (ns : List Node) (ss : List Sort) (d : Declarations) → IsKept ns ss d → IsKept ns ss (one_width d)
kept_width ns ss d kept =
    let old = kept.declared in
    let e = one_width d in
    let g : Grows d e = record {
      symbols = λ k x h. h;
      count = omega arith;
      widths = (let l = length-append d.lows (1 ∷ []) in omega arith);
      constraints = ([], no_more d.constraints);
      sorts = omega arith;
    } in
    kept_grow ns ss d e g (record {
      symbols = signatures_grow d e g d.symbols old.symbols;
      lows = All-push (λ n. n ≡ 1) d.lows 1 old.lows refl;
      constraints = constraints_grow d e g d.constraints old.constraints;
    }) kept

pub kept_symbol : (ns : List Node) (ss : List Sort) (d : Declarations) (x : Signature) → All (IsDeclaredSort d) x.args → IsDeclaredSort d x.gives → IsKept ns ss d → IsKept ns ss (one_symbol x d)
kept_symbol ns ss d x args gives kept =
    let old = kept.declared in
    let e = one_symbol x d in
    let g : Grows d e = record {
      symbols = λ k y h. found_append d.symbols (x ∷ []) k y h;
      count = (let l = length-append d.symbols (x ∷ []) in omega arith);
      widths = omega arith;
      constraints = ([], no_more d.constraints);
      sorts = omega arith;
    } in
    kept_grow ns ss d e g (record {
      symbols = All-push (λ y. All (IsDeclaredSort e) y.args × IsDeclaredSort e y.gives) d.symbols x (signatures_grow d e g d.symbols old.symbols)
          ((λ k y lt. declared_sort_grows d e g _ (args k y lt)), declared_sort_grows d e g x.gives gives);
      lows = old.lows;
      constraints = old.constraints;
    }) kept

pub kept_constraint : (ns : List Node) (ss : List Sort) (d : Declarations) (c : Constraint) → NamesBelow (widths d) c.floor.parts → IsKept ns ss d → IsKept ns ss (one_constraint c d)
kept_constraint ns ss d c named kept =
    let old = kept.declared in
    let e = one_constraint c d in
    let g : Grows d e = record { symbols = λ k x h. h; count = omega arith; widths = omega arith; constraints = (c ∷ [], refl); sorts = omega arith } in
    kept_grow ns ss d e g (record {
      symbols = signatures_grow d e g d.symbols old.symbols;
      lows = old.lows;
      constraints = All-push (λ x. NamesBelow (widths e) x.floor.parts) d.constraints c old.constraints named;
    }) kept

-- whichever answer came
pub by_result : {X Y E : Type 0} (P : X → Type 0) (r : Result Y E) (old more new : X) → OnOk r (new ≡ more) → OnErr r (new ≡ old) → P old → P more → P new
by_result P (Ok y) old more new ok err p q = subst P (sym ok) q
by_result P (Err e) old more new ok err p q = subst P (sym err) p
