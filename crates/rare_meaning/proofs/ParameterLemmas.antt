-- A term of a problem has no parameters.
use Rattle.std.proofs.Common.{◌≡◌, ℕ, List, [], ◌∷◌, map, refl, sym, ap, ◌∙◌, subst}
use Rattle.std.specs.Prelude.{ℤ, pos, slice_get}
use Rattle.rare_linear.specs.Linears.{LinearExpression, linear_value}
use Rattle.rare_sort.specs.Each.{Each, EachPair}
use Rattle.rare_sort.specs.Trees.{node}
use Rattle.rare_sort.specs.SortLaws.{Gives}
use Rattle.rare_sort.specs.SortOf.{IsTermOf}
use Rattle.rare_sort.specs.declared.declarations.Declarations.{Declarations}
use Rattle.rare_sort.specs.declared.sort.Sort.{Sort}
use Rattle.rare_sort.specs.declared.head.Head.{Head}
use Rattle.rare_sort.specs.declared.head.Head.TheVariants as head
use Rattle.rare_sort.specs.declared.tree.Tree.{Tree, ind-Tree}
use Rattle.rare_sort.proofs.SortLawLemmas.{node_law}
use Rattle.rare_meaning.specs.Settings.{Group, Setting, with_others}
use Rattle.rare_meaning.specs.Splicing.{joined}
use Rattle.rare_meaning.specs.Meaning.{here, meaning}
use Rattle.rare_meaning.specs.MeaningLaws.{TermsIgnoreParameters}
use Rattle.rare_meaning.proofs.MeaningLemmas.{meaning-node}

module _ (d : Declarations) (e : Setting) (group : ℕ → Group) (hole : Group) where
  abbrev other : Setting
  other = with_others e.number group hole e

  abbrev Alike : Tree → Type 0
  Alike t = (s : Sort) → IsTermOf d t s → meaning other t ≡ meaning e t

  alike_args : (ts : List Tree) (ss : List Sort) → Each Alike ts → EachPair (IsTermOf d) ts ss → map (meaning other) ts ≡ map (meaning e) ts
  alike_args [] [] c h = refl
  alike_args [] (s ∷ ss) c h = absurd h
  alike_args (t ∷ ts) [] c h = absurd h
  alike_args (t ∷ ts) (s ∷ ss) c h = λ i. c.0 s h.0 i ∷ alike_args ts ss c.1 h.1 i

  node_by : (h : Head) → ((ns : List ℤ) (g : Group) → here other h ns g ≡ here e h ns g) → (ix : List LinearExpression) (ts : List Tree) → Each Alike ts → Alike (node h ix ts)
  node_by h same ix ts c s good =
      let q = node_law.only (slice_get d.symbols) (λ k. pos 1) d.constraints h ix ts s good in
      let ns = map (linear_value e.number) ix in
      meaning-node other h ix ts
      ∙ ap (λ gs. here other h ns (joined gs)) (alike_args ts q.0 c q.1)
      ∙ same ns (joined (map (meaning e) ts))
      ∙ sym (meaning-node e h ix ts)

  not_param : (h : Head) (ix : List LinearExpression) (ts : List Tree) →
      ((ss : List Sort) (s : Sort) → Gives (slice_get d.symbols) (λ k. pos 1) d.constraints h ix ss s → ⊥) → Alike (node h ix ts)
  not_param h ix ts no_rule s good =
      let q = node_law.only (slice_get d.symbols) (λ k. pos 1) d.constraints h ix ts s good in
      absurd (no_rule q.0 s q.2)

  at_node : (h : Head) (ix : List LinearExpression) (ts : List Tree) → Each Alike ts → Alike (node h ix ts)
  at_node (head.Param k) ix ts c = not_param (head.Param k) ix ts (λ ss s g. let never : ⊥ = cc (g.found) in never)
  at_node head.Hole ix ts c = not_param head.Hole ix ts (λ ss s g. let never : ⊥ = cc (g.found) in never)
  at_node h ix ts c = node_by h (λ ns g. refl) ix ts c

  all_alike : (ts : List ((t : Tree) × Alike t)) → Each Alike (map (λ t. t.0) ts)
  all_alike [] = tt
  all_alike (t ∷ ts) = (t.1, all_alike ts)

  pub alike : (t : Tree) → Alike t
  alike = ind-Tree Alike (λ x y is. at_node x.head x.indices x.args (subst (λ z. Each Alike z.args) is (all_alike y.args)))

pub terms_ignore_parameters : TermsIgnoreParameters
terms_ignore_parameters d t s h e group hole = alike d e group hole t s h
