-- A term keeps its sort under more symbols.
use Rattle.std.proofs.Common.{◌≡◌, ℕ, zero, suc, List, [], ◌∷◌, ◌++◌, map, length, zip, nat_eq, refl, ap, ◌∙◌, subst, Some, None, if◌then◌else◌}
use Rattle.std.specs.Prelude.{pos, slice_get}
use Rattle.std.specs.Option.{option_and_then}
use Rattle.std.proofs.lemmas.Option.{none-some}
use Rattle.rare_linear.specs.Linears.{LinearExpression}
use Rattle.rare_linear.specs.declared.constraint.Constraint.{Constraint}
use Rattle.rare_sort.specs.Each.{Each, EachPair}
use Rattle.rare_sort.specs.Families.{family}
use Rattle.rare_sort.specs.SortOf.{given_by, sort_of, sort_step}
use Rattle.rare_sort.specs.SortRules.{SortRule, gives, sort_rule}
use Rattle.rare_sort.specs.Sorting.{IsSorted}
use Rattle.rare_sort.specs.Trees.{node}
use Rattle.rare_sort.specs.declared.family.Family.{Family}
use Rattle.rare_sort.specs.declared.family.Family.TheVariants as kind
use Rattle.rare_sort.specs.declared.head.Head.{Head}
use Rattle.rare_sort.specs.declared.sort.Signature.{Signature}
use Rattle.rare_sort.specs.declared.sort.Sort.{Sort}
use Rattle.rare_sort.specs.declared.tree.Tree.{Tree, ind-Tree}
use Rattle.rare_sort.specs.declared.tree.Tree.TheFolds.{fold-roll-Tree}
use Rattle.rare_sort.proofs.Options.{then_some}
use Rattle.rare_sort.proofs.SortLawLemmas.{node_law}

found_before : (xs ys : List Signature) (k : ℕ) (g : Signature) → slice_get xs k ≡ Some g → slice_get (xs ++ ys) k ≡ Some g
found_before [] ys k g e = absurd (none-some g e)
found_before (x ∷ xs) ys zero g e = e
found_before (x ∷ xs) ys (suc k) g e = found_before xs ys k g e

module _ (symbols more : List Signature) (cs : List Constraint) where
  rule_kept : (f : Family) (ix : List LinearExpression) (ss : List Sort) (r : SortRule) → sort_rule (slice_get symbols) 2 f ix ss ≡ Some r → sort_rule (slice_get (symbols ++ more)) 2 f ix ss ≡ Some r
  rule_kept (kind.Symbol k) [] ss r t =
      let f = λ (x : Signature). if nat_eq (length ss) (length x.args) then (Some (gives x.gives (zip ss x.args) [])) else None in
      let q = then_some f (slice_get symbols k) r t in
      ap (option_and_then f) (found_before symbols more k q.0 q.1) ∙ q.2
  rule_kept (kind.Symbol k) (i ∷ ix) ss r t = cc
  rule_kept f ix ss r t = t

  abbrev IsTerm : Tree → Sort → Type 0
  IsTerm t s = IsSorted (slice_get symbols) (λ k. pos 1) cs t s

  abbrev Keeps : Tree → Type 0
  Keeps t = (s : Sort) → IsTerm t s → sort_of (symbols ++ more) t ≡ s

  sorts_kept : (ts : List Tree) (ss : List Sort) → Each Keeps ts → EachPair IsTerm ts ss → map (sort_of (symbols ++ more)) ts ≡ ss
  sorts_kept [] [] c h = refl
  sorts_kept [] (s ∷ ss) c h = absurd h
  sorts_kept (t ∷ ts) [] c h = absurd h
  sorts_kept (t ∷ ts) (s ∷ ss) c h = λ i. c.0 s h.0 i ∷ sorts_kept ts ss c.1 h.1 i

  at_node : (h : Head) (ix : List LinearExpression) (ts : List Tree) → Each Keeps ts → Keeps (node h ix ts)
  at_node h ix ts c s good =
      let q = node_law.only (slice_get symbols) (λ k. pos 1) cs h ix ts s good in
      fold-roll-Tree Sort (sort_step (symbols ++ more)) (record { head = h; indices = ix; args = ts })
      ∙ ap (λ ss. given_by (sort_rule (slice_get (symbols ++ more)) 2 (family h) ix ss)) (sorts_kept ts q.0 c q.1)
      ∙ ap given_by (rule_kept (family h) ix q.0 q.2.rule q.2.found)
      ∙ q.2.sort

  all_keep : (ts : List ((t : Tree) × Keeps t)) → Each Keeps (map (λ t. t.0) ts)
  all_keep [] = tt
  all_keep (t ∷ ts) = (t.1, all_keep ts)

  pub sort_kept : (t : Tree) → Keeps t
  sort_kept = ind-Tree Keeps (λ x y is. at_node x.head x.indices x.args (subst (λ z. Each Keeps z.args) is (all_keep y.args)))
