-- A term means one value, which is of its sort.
use Rattle.std.proofs.Common.{◌≡◌, ℕ, List, [], ◌∷◌, ◌++◌, map, flat_map, refl, ap, ◌∙◌, subst}
use Rattle.std.specs.Prelude.{ℤ, pos, ◌≤ℤ◌, Option, Some, slice_get}
use Rattle.rare_linear.specs.Linears.{LinearExpression, linear_value}
use Rattle.rare_linear.specs.Entailment.{IsEntailed, AllHold}
use Rattle.rare_linear.specs.declared.constraint.Constraint.{Constraint}
use Rattle.rare_linear.proofs.LinearLemmas.{entailed_holds_lem}
use Rattle.rare_sort.specs.Each.{Each, EachPair}
use Rattle.rare_sort.specs.Trees.{node}
use Rattle.rare_sort.specs.SortRules.{width_needs}
use Rattle.rare_sort.specs.Sorting.{IsSorted}
use Rattle.rare_sort.specs.SortLaws.{Gives}
use Rattle.rare_sort.specs.declared.sort.Signature.{Signature}
use Rattle.rare_sort.specs.declared.sort.Sort.{Sort}
use Rattle.rare_sort.specs.declared.head.Head.{Head}
use Rattle.rare_sort.specs.declared.head.Head.TheVariants as head
use Rattle.rare_sort.specs.declared.tree.Tree.{Tree, ind-Tree}
use Rattle.rare_sort.proofs.SortLawLemmas.{node_law}
use Rattle.rare_sort.proofs.SortingLemmas.{Each-map}
use Rattle.rare_meaning.specs.Values.{Truths}
use Rattle.rare_meaning.specs.Settings.{Item, Group, Setting, group_of, one}
use Rattle.rare_meaning.specs.Splicing.{joined, first_element}
use Rattle.rare_meaning.specs.Meaning.{applied, here, meaning}
use Rattle.rare_meaning.specs.Interpretations.{IsInterpreted}
use Rattle.rare_meaning.specs.Fitting.{TermsFit}
use Rattle.rare_meaning.proofs.MeaningLemmas.{meaning-node}
use Rattle.rare_meaning.proofs.FitsLemmas.{IsTermItem, fits_head}

module _ (symbols : ℕ → Option Signature) (lows : ℕ → ℤ) (have : List Constraint) (e : Setting)
    (above : (k : ℕ) → lows k ≤ℤ e.number k) (holds : AllHold e.number have) (known : (k : ℕ) (g : Signature) → symbols k ≡ Some g → IsInterpreted e k g) where
  abbrev pub Good : Tree → Sort → Type 0
  Good = IsSorted symbols lows have

  all_hold : (ns : List LinearExpression) → Each (IsEntailed lows have) ns → Each (λ n. pos 0 ≤ℤ linear_value e.number n) ns
  all_hold = Each-map (IsEntailed lows have) (λ n. pos 0 ≤ℤ linear_value e.number n) (λ n h. entailed_holds_lem lows e.number above have n holds h)

  -- an item of the tree's sort, whose widths are at least 1
  abbrev pub Claim : Tree → Type 0
  Claim t = (s : Sort) → Good t s → (i : Item) × (meaning e t ≡ one i) × IsTermItem symbols e s i

  record AreItems (ts : List Tree) (ss : List Sort) : Type 0 where
    items : List Item
    are : flat_map (λ g. g.items) (map (meaning e) ts) ≡ items
    first : first_element (map (meaning e) ts) ≡ Truths
    good : EachPair (IsTermItem symbols e) ss items

  are_items : (ts : List Tree) (ss : List Sort) → Each Claim ts → EachPair Good ts ss → AreItems ts ss
  are_items [] [] c h = record { items = []; are = refl; first = refl; good = tt }
  are_items [] (s ∷ ss) c h = absurd h
  are_items (t ∷ ts) [] c h = absurd h
  are_items (t ∷ ts) (s ∷ ss) c h =
      let i = c.0 s h.0 in
      let rest = are_items ts ss c.1 h.1 in record {
        items = i.0 ∷ rest.items;
        are = λ x. (i.1 x).items ++ rest.are x;
        first = ap (λ (g : Group). g.element) i.1;
        good = (i.2, rest.good);
      }

  -- the head is that of an application
  abbrev Stands : Head → Type 0
  Stands h = (ns : List ℤ) (g : Group) → here e h ns g ≡ one (applied e h ns g)

  node_by : (h : Head) → Stands h → (ix : List LinearExpression) (ts : List Tree) → Each Claim ts → Claim (node h ix ts)
  node_by h stands ix ts c s good =
      let q = node_law.only symbols lows have h ix ts s good in
      let a = are_items ts q.0 c q.1 in
      let g = q.2 in
      let ns = map (linear_value e.number) ix in
      let value = fits_head symbols e known h ix q.0 a.items g.rule a.good g.found g.same (all_hold g.rule.needs g.needs) (all_hold (width_needs g.rule.sort) g.widths) in
      let means : meaning e (node h ix ts) ≡ one (applied e h ns (group_of Truths a.items)) =
      meaning-node e h ix ts ∙ stands ns (joined (map (meaning e) ts)) ∙ (λ x. one (applied e h ns (group_of (a.first x) (a.are x)))) in
      (applied e h ns (group_of Truths a.items), means, subst (λ z. IsTermItem symbols e z (applied e h ns (group_of Truths a.items))) g.sort (record { of = value; widths = all_hold (width_needs g.rule.sort) g.widths }))

  not_param : (h : Head) (ix : List LinearExpression) (ts : List Tree) → ((ss : List Sort) (s : Sort) → Gives symbols lows have h ix ss s → ⊥) → Claim (node h ix ts)
  not_param h ix ts no_rule s good =
      let q = node_law.only symbols lows have h ix ts s good in
      absurd (no_rule q.0 s q.2)

  at_node : (h : Head) (ix : List LinearExpression) (ts : List Tree) → Each Claim ts → Claim (node h ix ts)
  at_node (head.Param k) ix ts c = not_param (head.Param k) ix ts (λ ss s g. let never : ⊥ = cc (g.found) in never)
  at_node head.Hole ix ts c = not_param head.Hole ix ts (λ ss s g. let never : ⊥ = cc (g.found) in never)
  at_node h ix ts c = node_by h (λ ns g. refl) ix ts c

  claims : (ts : List ((t : Tree) × Claim t)) → Each Claim (map (λ t. t.0) ts)
  claims [] = tt
  claims (t ∷ ts) = (t.1, claims ts)

  pub term_item : (t : Tree) → Claim t
  term_item = ind-Tree Claim (λ x y is. at_node x.head x.indices x.args (subst (λ z. Each Claim z.args) is (claims y.args)))

pub terms_fit : TermsFit
terms_fit c d e model t s h =
    let i = term_item (slice_get d.symbols) (λ k. pos 1) d.constraints e model.allowed.widths model.allowed.hold model.interpreted t s h in
    record { item = i.0; means = i.1; of = i.2.of }
