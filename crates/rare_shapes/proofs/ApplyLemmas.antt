-- What an application to one or to two terms means, by what these mean.
use Rattle.std.proofs.Common.{◌≡◌, [], ◌∷◌, ap, ◌∙◌}
use Rattle.rare_sort.specs.declared.head.Head.{Head}
use Rattle.rare_sort.specs.declared.tree.Tree.{Tree}
use Rattle.rare_meaning.specs.Values.{Value, ClosedSort}
use Rattle.rare_meaning.specs.Settings.{Group, Setting, item, one}
use Rattle.rare_meaning.specs.Splicing.{joined, values}
use Rattle.rare_meaning.specs.Meaning.{here, meaning}
use Rattle.rare_meaning.proofs.MeaningLemmas.{meaning-node}
use Rattle.rare_rule.specs.Written.{apply}
use Rattle.rare_shapes.specs.Totals.{IsTerm}

pub means_one : (e : Setting) (h : Head) (t : Tree) (g : Group) → meaning e t ≡ g → meaning e (apply h (t ∷ [])) ≡ here e h [] (joined (g ∷ []))
means_one e h t g p = meaning-node e h [] (t ∷ []) ∙ ap (λ x. here e h [] (joined (x ∷ []))) p

pub means_two : (e : Setting) (h : Head) (t u : Tree) (g k : Group) → meaning e t ≡ g → meaning e u ≡ k →
    meaning e (apply h (t ∷ u ∷ [])) ≡ here e h [] (joined (g ∷ k ∷ []))
means_two e h t u g k p q =
    meaning-node e h [] (t ∷ u ∷ [])
    ∙ ap (λ x. here e h [] (joined (x ∷ meaning e u ∷ []))) p
    ∙ ap (λ x. here e h [] (joined (g ∷ x ∷ []))) q

pub means_terms : (e : Setting) (s : ClosedSort) (h : Head) (t u : Tree) (v w : Value) → IsTerm e s t v → IsTerm e s u w →
    meaning e (apply h (t ∷ u ∷ [])) ≡ here e h [] (joined (one (item s v) ∷ one (item s w) ∷ []))
means_terms e s h t u v w x y = means_two e h t u (one (item s v)) (one (item s w)) x.means y.means

-- two trees of one meaning have one value
pub same_values : (e d : Setting) (t u : Tree) → meaning e t ≡ meaning d u → values (meaning e t).items ≡ values (meaning d u).items
same_values e d t u p = ap (λ (g : Group). values g.items) p
