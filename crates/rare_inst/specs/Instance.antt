-- The instance of a rule at its arguments: its trees with names replaced, lists spliced in and literals reduced, and where it doesn't
-- exist, the first cause (the RARE paper, FMCAD 2022, on instances of rules; limits are this project's own).
use Rattle.std.specs.Prelude.{ℕ, nat_lt, Bool as Test, false, not, ◌&&◌, ◌||◌, List, [], ◌∷◌, length, map, is_some, Option, Some, None, Result, Ok, Err, if◌then◌else◌}
use Rattle.std.specs.List.{list_all}
use Rattle.rare_linear.specs.Linears.{LinearExpression, substitute}
use Rattle.rare_sort.specs.Ids.{tree_at}
use Rattle.rare_sort.specs.Sorting.{is_concat}
use Rattle.rare_sort.specs.declared.declarations.Declarations.{Declarations}
use Rattle.rare_sort.specs.declared.head.Head.{Head}
use Rattle.rare_sort.specs.declared.head.Head.TheVariants as head
use Rattle.rare_sort.specs.declared.tree.Tree.{Tree, Tree-F, fold-Tree, para-Tree}
use Rattle.rare_term.specs.Refusals.{refusal}
use Rattle.rare_rule.specs.Holds.{has_list}
use Rattle.rare_rule.specs.declared.param.Param.{Param}
use Rattle.rare_rule.specs.declared.rule.Rule.{Rule}
use Rattle.rare_inst.specs.Arguments.{Argument}
use Rattle.rare_inst.specs.Collapse.{Reduct, Alone, Applied, spliced, reduct, reduct_tree}
use Rattle.rare_inst.specs.Substituting.{TreeGroup, Substitution, one_tree, is_put_within, substitution}
use Rattle.rare_inst.specs.declared.fault.InstFault.{InstFault}
use Rattle.rare_inst.specs.declared.fault.InstFault.TheVariants.{LeftTooShort, EmptyConcat, Limit}

-- ---- trees

-- a parameter, the hole, or an application, by its indices and the trees of its arguments
abbrev pub put_node : Substitution → Head → List LinearExpression → TreeGroup → TreeGroup
put_node a (head.Param k) ix g = a.group k
put_node a head.Hole ix g = a.hole
put_node a h ix g = one_tree (reduct_tree (reduct h ix g))

abbrev pub instance_step : Substitution → Tree-F TreeGroup → TreeGroup
instance_step a n = put_node a n.head (map (substitute a.number) n.indices) (spliced n.args)

-- the trees in the place of a rule's tree: one, or those of a list variable
abbrev pub instance : Substitution → Tree → TreeGroup
instance a = fold-Tree TreeGroup (instance_step a)

-- ---- faults

-- the left side, where nothing collapses, since an application that has list variables has two arguments or more; or another part
pub data Side : Type 0 where
  LeftSide : Side
  OtherSide : Side

-- whether too few arguments are left: on the left side, of an application that has list variables; elsewhere, of a `concat`
abbrev pub has_too_few : Side → Head → Test → List Tree → Test
has_too_few LeftSide h lists ts = lists && nat_lt (length ts) 2
has_too_few OtherSide h lists ts = is_concat h && nat_lt (length ts) 1

abbrev pub too_few : Side → InstFault
too_few LeftSide = LeftTooShort
too_few OtherSide = EmptyConcat

-- no term can be made of it: a limit is broken, or what the rule of sorts asks for doesn't follow
abbrev pub is_refused : Declarations → Reduct → Test
is_refused d (Alone t) = false
is_refused d (Applied h ix ts) = is_some (refusal d h ix ts)

module _ (d : Declarations) (ps : List Param) (a : Substitution) (side : Side) (in_hole : Option InstFault) where
  -- a node that has enough arguments: an index leaves i128, or no term can be made of it
  abbrev pub own_fault : Head → List LinearExpression → TreeGroup → Option InstFault
  own_fault (head.Param k) ix g = None
  own_fault head.Hole ix g = in_hole
  own_fault h ix g =
      if not (list_all (is_put_within a) ix) || is_refused d (reduct h (map (substitute a.number) ix) g) then (Some Limit) else None

  abbrev pub fault_with : Test → Head → List LinearExpression → TreeGroup → Option InstFault
  fault_with lists h ix g = if has_too_few side h lists g.trees then (Some (too_few side)) else (own_fault h ix g)

  -- the fault of a node whose arguments have none
  abbrev pub node_fault : Head → List LinearExpression → List Tree → Option InstFault
  node_fault h ix ts = fault_with (has_list ps ts) h ix (spliced (map (instance a) ts))

  -- the first fault of the arguments, or else the node's own
  abbrev pub first_of : List (Option InstFault) → Option InstFault → Option InstFault
  first_of [] own = own
  first_of (None ∷ fs) own = first_of fs own
  first_of (Some f ∷ fs) own = Some f

  -- each argument with its fault
  abbrev pub fault_step : Tree-F (Tree × Option InstFault) → Option InstFault
  fault_step n = first_of (map (λ x. x.1) n.args) (node_fault n.head n.indices (map (λ x. x.0) n.args))

  -- the fault of the first node that has one, an application's arguments before itself
  abbrev pub instance_fault : Tree → Option InstFault
  instance_fault = para-Tree (Option InstFault) fault_step

-- ---- parts

abbrev pub unless_faulty : Option InstFault → TreeGroup → Result Tree InstFault
unless_faulty None g = Ok (tree_at g.trees 0)
unless_faulty (Some f) g = Err f

-- a part that is not in a context
abbrev pub part_of : Declarations → Rule → List Argument → Side → Tree → Result Tree InstFault
part_of d r args side t =
    let a = substitution d.symbols r.params args in
    unless_faulty (instance_fault d r.params a side None t) (instance a t)

abbrev pub left_of : Declarations → Rule → List Argument → Result Tree InstFault
left_of d r args = part_of d r args LeftSide r.left

-- premise k
abbrev pub premise_of : Declarations → Rule → List Argument → ℕ → Result Tree InstFault
premise_of d r args k = part_of d r args OtherSide (tree_at r.premises k)

-- the same arguments, and the right side in the hole
abbrev pub with_right : Rule → Substitution → Substitution
with_right r a = record a { hole = instance a r.right }

abbrev pub result_in : Declarations → Rule → List Argument → Option Tree → Result Tree InstFault
result_in d r args None = part_of d r args OtherSide r.right
result_in d r args (Some c) =
    let a = substitution d.symbols r.params args in
    let b = with_right r a in
    unless_faulty (instance_fault d r.params b OtherSide (instance_fault d r.params a OtherSide None r.right) c) (instance b c)

-- the right side, or the context with the right side in its hole
abbrev pub result_of : Declarations → Rule → List Argument → Result Tree InstFault
result_of d r args = result_in d r args r.context
