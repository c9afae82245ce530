-- Where a part of an instance exists, no node of it has a fault.
use Rattle.std.proofs.Common.{◌≡◌, List, [], ◌∷◌, map, refl, sym, ap, ◌∙◌, subst, Option, Some, None}
use Rattle.rare_sort.specs.Each.{Each}
use Rattle.rare_sort.specs.declared.declarations.Declarations.{Declarations}
use Rattle.rare_sort.specs.declared.tree.Tree.{Tree, Tree-F, roll-Tree, every-Tree, every_made-Tree, ind-Tree, para-roll-Tree}
use Rattle.rare_rule.specs.declared.param.Param.{Param}
use Rattle.rare_inst.specs.Substituting.{Substitution}
use Rattle.rare_inst.specs.Instance.{Side, node_fault, first_of, fault_step, instance_fault}
use Rattle.rare_inst.specs.declared.fault.InstFault.{InstFault}

module _ (d : Declarations) (ps : List Param) (a : Substitution) (side : Side) (in_hole : Option InstFault) where
  abbrev fault : Tree → Option InstFault
  fault = instance_fault d ps a side in_hole

  beside : (ts : List Tree) → map (λ (x : Tree × Option InstFault). x.1) (map (λ t. (t, fault t)) ts) ≡ map fault ts
  beside [] = refl
  beside (t ∷ ts) = ap (λ fs. fault t ∷ fs) (beside ts)

  themselves : (ts : List Tree) → map (λ (x : Tree × Option InstFault). x.0) (map (λ t. (t, fault t)) ts) ≡ ts
  themselves [] = refl
  themselves (t ∷ ts) = ap (λ us. t ∷ us) (themselves ts)

  pub fault-node : (x : Tree-F Tree) → fault (roll-Tree x) ≡ first_of d ps a side in_hole (map fault x.args) (node_fault d ps a side in_hole x.head x.indices x.args)
  fault-node x =
      para-roll-Tree (Option InstFault) (fault_step d ps a side in_hole) x
      ∙ (λ i. first_of d ps a side in_hole (beside x.args i) (node_fault d ps a side in_hole x.head x.indices (themselves x.args i)))

  none_first : (fs : List (Option InstFault)) (own : Option InstFault) → first_of d ps a side in_hole fs own ≡ None → Each (λ f. f ≡ None) fs × (own ≡ None)
  none_first [] own e = (tt, e)
  none_first (None ∷ fs) own e = let rest = none_first fs own e in ((refl, rest.0), rest.1)
  none_first (Some f ∷ fs) own e = cc

  -- the node has no fault of its own
  pub record IsFine (x : Tree-F Tree) : Type 0 where
    pub fine : node_fault d ps a side in_hole x.head x.indices x.args ≡ None

  abbrev Turns : Tree → Type 0
  Turns t = fault t ≡ None → every-Tree IsFine t

  held : (ys : List ((t : Tree) × Turns t)) → Each (λ f. f ≡ None) (map fault (map (λ y. y.0) ys)) →
      (ws : List ((t : Tree) × every-Tree IsFine t)) × (map (λ w. w.0) ws ≡ map (λ y. y.0) ys)
  held [] h = ([], refl)
  held (y ∷ ys) h =
      let rest = held ys h.1 in
      ((y.0, y.1 h.0) ∷ rest.0, ap (λ ts. y.0 ∷ ts) rest.1)

  pub all_fine : (t : Tree) → fault t ≡ None → every-Tree IsFine t
  all_fine = ind-Tree Turns (λ x y is none.
      let q = none_first (map fault x.args) (node_fault d ps a side in_hole x.head x.indices x.args) (sym (fault-node x) ∙ none) in
      let args_are : map (λ v. v.0) y.args ≡ x.args = ap (λ z. z.args) is in
      let ws = held y.args (subst (λ ts. Each (λ f. f ≡ None) (map fault ts)) (sym args_are) q.0) in
      let w : Tree-F ((t : Tree) × every-Tree IsFine t) = record { head = x.head; indices = x.indices; args = ws.0 } in
      let whole : map (λ v. v.0) ws.0 ≡ x.args = ws.1 ∙ args_are in
      every_made-Tree IsFine x w (λ i. record { head = x.head; indices = x.indices; args = whole i }) (record { fine = q.1 }))
