-- Where a context exists, what stands in its hole exists.
use Rattle.std.proofs.Common.{◌≡◌, ◌+◌, List, [], ◌∷◌, ◌++◌, map, flat_map, length, refl, ap, ◌∙◌, subst, arith, Option, Some, None}
use Rattle.std.proofs.lemmas.Bool.{eqb-true}
use Rattle.std.specs.Prelude.{nat_eq, Bool, true, false, if◌then◌else◌}
use Rattle.rare_linear.specs.Linears.{LinearExpression}
use Rattle.rare_sort.specs.Each.{Each}
use Rattle.rare_sort.specs.declared.declarations.Declarations.{Declarations}
use Rattle.rare_sort.specs.declared.head.Head.{Head}
use Rattle.rare_sort.specs.declared.head.Head.TheVariants as head
use Rattle.rare_sort.specs.declared.tree.Tree.{Tree, Tree-F, roll-Tree, out-roll-Tree, ind-Tree, every-Tree, every_here-Tree}
use Rattle.rare_sort.proofs.NeedsLemmas.{both}
use Rattle.rare_rule.specs.Holds.{has_list}
use Rattle.rare_rule.specs.NodeForms.{count_one, is_hole, hole_nodes}
use Rattle.rare_rule.specs.Nodes.{Node, Walk, walk, nodes_of}
use Rattle.rare_rule.specs.Rules.{side_nodes, IsInForm}
use Rattle.rare_rule.specs.declared.param.Param.{Param}
use Rattle.rare_rule.specs.declared.rule.Rule.{Rule}
use Rattle.rare_rule.proofs.Walks.{walk-node}
use Rattle.rare_inst.specs.Collapse.{spliced}
use Rattle.rare_inst.specs.Instance.{Side, too_few, has_too_few, instance, instance_fault, own_fault}
use Rattle.rare_inst.specs.Substituting.{TreeGroup, Substitution}
use Rattle.rare_inst.specs.declared.fault.InstFault.{InstFault}
use Rattle.rare_inst.proofs.Faults.{IsFine, all_fine}
use Rattle.rare_inst.proofs.Growing.{held_args, held_each}

hole_nodes-append : (ms ns : List Node) → hole_nodes (ms ++ ns) ≡ hole_nodes ms + hole_nodes ns
hole_nodes-append [] ns = omega arith
hole_nodes-append (m ∷ ms) ns = omega (arith, hole_nodes-append ms ns)

module _ (d : Declarations) (ps : List Param) (a : Substitution) (side : Side) (f : InstFault) where
  abbrev Fine : Tree-F Tree → Type 0
  Fine = IsFine d ps a side (Some f)

  own_is_none : (b : Bool) (o : Option InstFault) → (if b then (Some (too_few side)) else o) ≡ None → o ≡ None
  own_is_none false o e = e
  own_is_none true o e = cc

  -- a node without a fault is no hole, where the hole has one
  no_hole : (h : Head) (ix : List LinearExpression) (g : TreeGroup) → own_fault d ps a side (Some f) h ix g ≡ None → count_one (is_hole h) ≡ 0
  no_hole head.Hole ix g e = cc
  no_hole h ix g e = refl

  abbrev Claim : Tree → Type 0
  Claim t = every-Tree Fine t → (parent : Option Head) → hole_nodes ((walk t).nodes parent) ≡ 0

  below : (h : Head) (ts : List Tree) → Each Claim ts → Each (every-Tree Fine) ts → hole_nodes (flat_map (λ (w : Walk). w.nodes (Some h)) (map walk ts)) ≡ 0
  below h [] c e = refl
  below h (t ∷ ts) c e =
      omega (arith, hole_nodes-append ((walk t).nodes (Some h)) (flat_map (λ (w : Walk). w.nodes (Some h)) (map walk ts)), c.0 e.0 (Some h), below h ts c.1 e.1)

  at_node : (x : Tree-F Tree) → Each Claim x.args → Claim (roll-Tree x)
  at_node x claims fine parent =
      let here : Fine x = subst Fine (out-roll-Tree x) (every_here-Tree Fine (roll-Tree x) fine) in
      let g = spliced (map (instance a) x.args) in
      let own = no_hole x.head x.indices g (own_is_none (has_too_few side x.head (has_list ps x.args) g.trees) (own_fault d ps a side (Some f) x.head x.indices g) here.fine) in
      let rest = below x.head x.args claims (held_args Fine x fine) in
      let last : Node = record { head = x.head; indices = x.indices; parent = parent; args = map (λ w. w.root) (map walk x.args) } in
      ap (λ w. hole_nodes (w.nodes parent)) (walk-node x.head x.indices x.args)
      ∙ hole_nodes-append (flat_map (λ (w : Walk). w.nodes (Some x.head)) (map walk x.args)) (last ∷ [])
      ∙ omega (arith, own, rest)

  no_holes : (t : Tree) → Claim t
  no_holes = ind-Tree Claim (λ x y is. at_node x (subst (λ z. Each Claim z.args) is (held_each {P = Claim} y.args)))

-- the context has a hole
pub hole_exists : (d : Declarations) (r : Rule) (a : Substitution) (side : Side) (o : Option InstFault) → IsInForm r → (c : Tree) → r.context ≡ Some c → instance_fault d r.params a side o c ≡ None → o ≡ None
hole_exists d r a side None form c is e = refl
hole_exists d r a side (Some f) form c is e =
    let counted = (both (nat_eq (hole_nodes (side_nodes r)) 0) _ form.holes).1 in
    absurd (some_hole (subst (λ o. nat_eq (hole_nodes (nodes_at o)) (length (parts_at o)) ≡ true) is counted))
  where
    parts_at : Option Tree → List Tree
    parts_at None = []
    parts_at (Some t) = t ∷ []

    nodes_at : Option Tree → List Node
    nodes_at o = flat_map (λ (w : Walk). w.nodes None) (map walk (parts_at o))

    some_hole : nat_eq (hole_nodes (nodes_of c ++ [])) 1 ≡ true → ⊥
    some_hole q = omega (arith, eqb-true (hole_nodes (nodes_of c ++ [])) 1 q, hole_nodes-append (nodes_of c) [], no_holes d r.params a side f c (all_fine d r.params a side (Some f) c e) None)
