-- What doesn't depend on what stands in the hole.
use Rattle.std.proofs.Common.{◌≡◌, Bool as Test, true, false, ◌&&◌, ◌||◌, not, List, [], ◌∷◌, map, Option, Some, None, refl, sym, ap, ◌∙◌, subst, if◌then◌else◌}
use Rattle.std.proofs.lemmas.Option.{none-some}
use Rattle.std.specs.List.{list_all}
use Rattle.rare_linear.specs.Linears.{Part, LinearExpression, add, scale, number, substitute}
use Rattle.rare_linear.specs.EntailmentTest.{is_within}
use Rattle.rare_sort.specs.Each.{Each}
use Rattle.rare_sort.specs.Trees.{node}
use Rattle.rare_sort.specs.declared.declarations.Declarations.{Declarations}
use Rattle.rare_sort.specs.declared.head.Head.{Head}
use Rattle.rare_sort.specs.declared.head.Head.TheVariants as head
use Rattle.rare_sort.specs.declared.sort.Sort.{Sort, Bool, Int, BitVec, Array', Named, Row_of-Sort, end_of-Sort, more_of-Sort}
use Rattle.rare_sort.specs.declared.tree.Tree.{Tree, ind-Tree}
use Rattle.rare_rule.specs.Holds.{has_list}
use Rattle.rare_rule.specs.declared.param.Param.{Param}
use Rattle.rare_inst.specs.Collapse.{spliced, reduct}
use Rattle.rare_inst.specs.Instance.{Side, too_few, has_too_few, is_refused, put_node, instance, own_fault, fault_with, node_fault, first_of, instance_fault}
use Rattle.rare_inst.specs.Substituting.{TreeGroup, Substitution, sums_within, is_put_within, is_sort_within, is_boxed_within}
use Rattle.rare_inst.specs.declared.fault.InstFault.{InstFault}
use Rattle.rare_inst.specs.declared.fault.InstFault.TheVariants.{Limit}
use Rattle.rare_inst.proofs.Growing.{held_each}
use Rattle.rare_inst.proofs.InstanceNodes.{instance-node, instance_fault-node}

module _ (a : Substitution) (g : TreeGroup) where
  -- another hole
  abbrev pub other : Substitution
  other = record a { hole = g }

  sums_alike : (sum : LinearExpression) (ps : List Part) → sums_within other sum ps ≡ sums_within a sum ps
  sums_alike sum [] = refl
  sums_alike sum (p ∷ ps) = ap (λ b. is_within sum && (a.is_formed p.0 && b)) (sums_alike (add sum (scale p.1 (a.number p.0))) ps)

  pub put_alike : (e : LinearExpression) → is_put_within other e ≡ is_put_within a e
  put_alike e = sums_alike (number e.constant) e.parts

  all_alike : (es : List LinearExpression) → list_all (is_put_within other) es ≡ list_all (is_put_within a) es
  all_alike [] = refl
  all_alike (e ∷ es) = λ i. put_alike e i && all_alike es i

  mutual
    pub sort_alike : (s : Sort) → is_sort_within other s ≡ is_sort_within a s
    sort_alike Bool = refl
    sort_alike Int = refl
    sort_alike (BitVec w) = put_alike w
    sort_alike (Array' p keys q entries) = λ i. boxed_alike keys i && boxed_alike entries i
    sort_alike (Named k) = refl

    boxed_alike : {n : _} → (r : Row_of-Sort n) → is_boxed_within other r ≡ is_boxed_within a r
    boxed_alike end_of-Sort = refl
    boxed_alike (more_of-Sort s rest) = sort_alike s

  -- ---- where the hole has a fault

  module _ (d : Declarations) (ps : List Param) (side : Side) (f : InstFault) where
    abbrev there : Tree → Option InstFault
    there = instance_fault d ps other side (Some f)

    abbrev here : Tree → Option InstFault
    here = instance_fault d ps a side (Some f)

    -- the fault is one, and where there is none the terms are
    record Claim (t : Tree) : Type 0 where
      fault : there t ≡ here t
      group : here t ≡ None → instance other t ≡ instance a t

    faults : (ts : List Tree) → Each Claim ts → map there ts ≡ map here ts
    faults [] c = refl
    faults (t ∷ ts) c = λ i. c.0.fault i ∷ faults ts c.1 i

    -- every argument is without a fault
    all_none : List (Option InstFault) → Test
    all_none [] = true
    all_none (None ∷ fs) = all_none fs
    all_none (Some k ∷ fs) = false

    groups : (ts : List Tree) → Each Claim ts → Each (λ t. here t ≡ None) ts → map (instance other) ts ≡ map (instance a) ts
    groups [] c n = refl
    groups (t ∷ ts) c n = λ i. c.0.group n.0 i ∷ groups ts c.1 n.1 i

    -- own faults are alike where the arguments have none
    first_alike : (fs : List (Option InstFault)) (own own' : Option InstFault) → (Each (λ o. o ≡ None) fs → own ≡ own') → first_of d ps other side (Some f) fs own ≡ first_of d ps a side (Some f) fs own'
    first_alike [] own own' h = h tt
    first_alike (None ∷ fs) own own' h = first_alike fs own own' (λ n. h (refl, n))
    first_alike (Some k ∷ fs) own own' h = refl

    none_first : (fs : List (Option InstFault)) (own : Option InstFault) → first_of d ps a side (Some f) fs own ≡ None → Each (λ o. o ≡ None) fs × (own ≡ None)
    none_first [] own e = (tt, e)
    none_first (None ∷ fs) own e = let rest = none_first fs own e in ((refl, rest.0), rest.1)
    none_first (Some k ∷ fs) own e = cc

    each_none : (ts : List Tree) → Each (λ o. o ≡ None) (map here ts) → Each (λ t. here t ≡ None) ts
    each_none [] n = tt
    each_none (t ∷ ts) n = (n.0, each_none ts n.1)

    application_alike : (h : Head) (ix : List LinearExpression) (x : TreeGroup) →
        ◌≡◌ {A = Option InstFault} (if not (list_all (is_put_within other) ix) || is_refused d (reduct h (map (substitute a.number) ix) x) then (Some Limit) else None)
        (if not (list_all (is_put_within a) ix) || is_refused d (reduct h (map (substitute a.number) ix) x) then (Some Limit) else None)
    application_alike h ix x = ap (λ b. if not b || is_refused d (reduct h (map (substitute a.number) ix) x) then (Some Limit) else None) (all_alike ix)

    own_alike : (h : Head) (ix : List LinearExpression) (x : TreeGroup) → own_fault d ps other side (Some f) h ix x ≡ own_fault d ps a side (Some f) h ix x
    own_alike (head.Param k) ix x = refl
    own_alike head.Hole ix x = refl
    own_alike h ix x = application_alike h ix x

    node_alike : (h : Head) (ix : List LinearExpression) (ts : List Tree) → map (instance other) ts ≡ map (instance a) ts → node_fault d ps other side (Some f) h ix ts ≡ node_fault d ps a side (Some f) h ix ts
    node_alike h ix ts e =
        ap (λ gs. fault_with d ps other side (Some f) (has_list ps ts) h ix (spliced gs)) e
        ∙ ap (λ o. if has_too_few side h (has_list ps ts) (spliced (map (instance a) ts)).trees then (Some (too_few side)) else o) (own_alike h ix (spliced (map (instance a) ts)))

    group_alike : (h : Head) (ix : List LinearExpression) (x : TreeGroup) → own_fault d ps a side (Some f) h ix x ≡ None → put_node other h (map (substitute a.number) ix) x ≡ put_node a h (map (substitute a.number) ix) x
    group_alike (head.Param k) ix x e = refl
    group_alike head.Hole ix x e = absurd (none-some f (sym e))
    group_alike h ix x e = refl

    own_none : (h : Head) (ix : List LinearExpression) (ts : List Tree) → node_fault d ps a side (Some f) h ix ts ≡ None → own_fault d ps a side (Some f) h ix (spliced (map (instance a) ts)) ≡ None
    own_none h ix ts e = go (has_too_few side h (has_list ps ts) (spliced (map (instance a) ts)).trees) e
      where
        go : (b : Test) → (if b then (Some (too_few side)) else (own_fault d ps a side (Some f) h ix (spliced (map (instance a) ts)))) ≡ None → own_fault d ps a side (Some f) h ix (spliced (map (instance a) ts)) ≡ None
        go true q = cc
        go false q = q

    at_node : (h : Head) (ix : List LinearExpression) (ts : List Tree) → Each Claim ts → Claim (node h ix ts)
    at_node h ix ts c = record {
      fault =
          instance_fault-node d ps other side (Some f) h ix ts
          ∙ ap (λ fs. first_of d ps other side (Some f) fs (node_fault d ps other side (Some f) h ix ts)) (faults ts c)
          ∙ first_alike (map here ts) (node_fault d ps other side (Some f) h ix ts) (node_fault d ps a side (Some f) h ix ts) (λ n. node_alike h ix ts (groups ts c (each_none ts n)))
          ∙ sym (instance_fault-node d ps a side (Some f) h ix ts);
      group = λ e.
          let q = none_first (map here ts) (node_fault d ps a side (Some f) h ix ts) (sym (instance_fault-node d ps a side (Some f) h ix ts) ∙ e) in
          instance-node other h ix ts
          ∙ ap (λ gs. put_node other h (map (substitute a.number) ix) (spliced gs)) (groups ts c (each_none ts q.0))
          ∙ group_alike h ix (spliced (map (instance a) ts)) (own_none h ix ts q.1)
          ∙ sym (instance-node a h ix ts);
    }

    claimed : (t : Tree) → Claim t
    claimed = ind-Tree Claim (λ x y is. at_node x.head x.indices x.args (subst (λ z. Each Claim z.args) is (held_each {P = Claim} y.args)))

    pub fault_alike : (t : Tree) → there t ≡ here t
    fault_alike t = (claimed t).fault
