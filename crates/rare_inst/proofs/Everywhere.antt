-- What holds at every node of a tree.
use Rattle.std.proofs.Common.{◌≡◌, List, [], ◌∷◌, map, refl, sym, ap, ◌∙◌, subst}
use Rattle.rare_sort.specs.declared.tree.Tree.{Tree, Tree-F, roll-Tree, out-roll-Tree, every-Tree, every_here-Tree, every_held-Tree, every_made-Tree, ind-Tree}

-- what holds of the tree by itself, where something holds of its parts
module _ (Q R : Tree-F Tree → Type 0) (more : (x : Tree-F Tree) → Q x → R x) where
  abbrev pub Turns : Tree → Type 0
  Turns t = every-Tree Q t → every-Tree R t

  -- two lists of facts about the same trees
  both : (ys : List ((t : Tree) × Turns t)) (zs : List ((t : Tree) × every-Tree Q t)) → map (λ y. y.0) ys ≡ map (λ z. z.0) zs →
      (ws : List ((t : Tree) × every-Tree R t)) × (map (λ w. w.0) ws ≡ map (λ z. z.0) zs)
  both [] [] e = ([], refl)
  both [] (z ∷ zs) e = cc
  both (y ∷ ys) [] e = cc
  both (y ∷ ys) (z ∷ zs) e =
      let same : y.0 ≡ z.0 = cc in
      let rest : map (λ y. y.0) ys ≡ map (λ z. z.0) zs = cc in
      let turned : Turns z.0 = subst Turns same y.1 in
      let others = both ys zs rest in
      ((z.0, turned z.1) ∷ others.0, ap (λ ts. z.0 ∷ ts) others.1)

  -- a fact of each node that implies another
  pub every_more : (t : Tree) → every-Tree Q t → every-Tree R t
  every_more = ind-Tree Turns (λ x y is h.
      let held = every_held-Tree Q (roll-Tree x) h in
      let at_x = held.1 ∙ out-roll-Tree x in
      let ws = both y.args held.0.args (ap (λ z. z.args) is ∙ sym (ap (λ z. z.args) at_x)) in
      let w : Tree-F ((t : Tree) × every-Tree R t) = record { head = x.head; indices = x.indices; args = ws.0 } in
      let args_are : map (λ v. v.0) ws.0 ≡ x.args = ws.1 ∙ ap (λ z. z.args) at_x in
      every_made-Tree R x w (λ i. record { head = x.head; indices = x.indices; args = args_are i }) (more x (subst Q (out-roll-Tree x) (every_here-Tree Q (roll-Tree x) h))))
