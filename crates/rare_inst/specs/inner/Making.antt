-- What a part is put together from, as the definitions have it.
use Rattle.std.specs.Prelude.{◌≡◌, ℕ, ◌<◌, not, ◌||◌, true, List, [], ◌∷◌, length, map, flat_map, Option, Some, None, Result, Ok, Err, if◌then◌else◌}
use Rattle.std.specs.List.{list_all}
use Rattle.rare_linear.specs.Linears.{substitute}
use Rattle.rare_sort.specs.DeclaredSorts.{AreNamed, widths}
use Rattle.rare_sort.specs.Ids.{AreIds, tree_at, trees_at}
use Rattle.rare_sort.specs.Trees.{head_of, indices_of, args_of}
use Rattle.rare_sort.specs.declared.declarations.Declarations.{Declarations}
use Rattle.rare_sort.specs.declared.sort.Sort.{Sort, Bool}
use Rattle.rare_sort.specs.declared.tree.TermId.{TermId}
use Rattle.rare_sort.specs.declared.tree.Tree.{Tree}
use Rattle.rare_term.specs.State.{State}
use Rattle.rare_rule.specs.Holds.{has_list}
use Rattle.rare_rule.specs.Params.{kind_at}
use Rattle.rare_rule.specs.declared.param.ParamKind.{ParamKind}
use Rattle.rare_rule.specs.declared.param.ParamKind.TheVariants as kind
use Rattle.rare_inst.specs.Answers.{AreGiven, IsFault}
use Rattle.rare_inst.specs.Arguments.{arguments_of}
use Rattle.rare_inst.specs.Collapse.{Reduct, first_sort, reduct, reduct_tree}
use Rattle.rare_inst.specs.Instance.{Side, LeftSide, OtherSide, is_refused, put_node, instance, own_fault, fault_with, first_of, instance_fault}
use Rattle.rare_inst.specs.Substituting.{TreeGroup, tree_group, one_tree, Substitution, substitution, put_sort, is_put_within, is_sort_within, element_sort}
use Rattle.rare_inst.specs.declared.arg.Arg.{Arg}
use Rattle.rare_inst.specs.declared.arg.Arg.TheVariants as given
use Rattle.rare_inst.specs.declared.fault.InstFault.{InstFault}
use Rattle.rare_inst.specs.declared.fault.InstFault.TheVariants.{Limit, Memory}
use Rattle.rare_inst.specs.declared.part.Hole.{Hole}
use Rattle.rare_inst.specs.declared.part.Hole.TheVariants as hole
use Rattle.rare_inst.specs.declared.part.Part.{Part}
use Rattle.rare_inst.specs.declared.part.Side.{Side as CodeSide}
use Rattle.rare_inst.specs.declared.part.Side.TheVariants as side
use Rattle.rare_inst.specs.inner.Standing.{StandsFor}

abbrev pub side_of : CodeSide → Side
side_of side.Left = LeftSide
side_of side.Other = OtherSide

-- ---- the hole

abbrev pub hole_group : List Tree → Hole → TreeGroup
hole_group ts hole.Nothing = tree_group Bool []
hole_group ts (hole.Term id) = one_tree (tree_at ts id.0)
hole_group ts (hole.Fault f) = tree_group Bool []

abbrev pub hole_fault : Hole → Option InstFault
hole_fault (hole.Fault f) = Some f
hole_fault h = None

abbrev pub IsHoleOf : List Tree → Hole → Type 0
IsHoleOf ts (hole.Term id) = id.0 < length ts
IsHoleOf ts h = Unit {0}

abbrev pub hole_ids : Hole → List TermId
hole_ids (hole.Term id) = id ∷ []
hole_ids h = []

abbrev pub AnswersHole : Hole → Result (List TermId) InstFault → Type 0
AnswersHole h (Ok ids) = (ids ≡ hole_ids h) × (hole_fault h ≡ None)
AnswersHole h (Err f) = IsFault (hole_fault h) f

-- the hole has that part: its term, or the fault for which there is none
abbrev pub HoldsPart : List Tree → Result Tree InstFault → Hole → Type 0
HoldsPart ts part hole.Nothing = ⊥
HoldsPart ts part (hole.Term id) = (id.0 < length ts) × (part ≡ Ok (tree_at ts id.0))
HoldsPart ts part (hole.Fault f) = part ≡ Err f

-- a hole that has that part, unless memory was wanting
abbrev pub AnswersHeld : List Tree → Result Tree InstFault → Result Hole InstFault → Type 0
AnswersHeld ts part (Ok h) = HoldsPart ts part h
AnswersHeld ts part (Err f) = f ≡ Memory

-- ---- arguments

-- the ids that stand for a name whose argument this is
abbrev pub ids_given : Option Arg → List TermId
ids_given (Some (given.Term id)) = id ∷ []
ids_given (Some (given.List ids)) = ids
ids_given o = []

-- what stands for the names, and in the hole
abbrev pub putting : State → Part → Substitution
putting s p = record (substitution s.declared.symbols p.params.now (arguments_of s.trees p.args.now)) { hole = hole_group s.trees p.hole }

-- the sort of the elements of a list stays within i128 with what stands for its names
abbrev pub HasSortWithin : Substitution → ParamKind → Type 0
HasSortWithin a (kind.List r) = is_sort_within a r ≡ true
HasSortWithin a c = Unit {0}

abbrev pub put_elements : Substitution → Option ParamKind → Sort
put_elements a c = put_sort a.number a.sort (element_sort c)

-- what is known of what a part is put together from
pub record IsPartOf (s : State) (p : Part) : Type 0 where
  pub args : AreGiven s p.args.now
  pub hole : IsHoleOf s.trees p.hole
  pub numbers : StandsFor (putting s p) p.numbers.now
  pub named : AreNamed (widths s.declared) p.numbers.now.values
  pub within : (k : ℕ) (c : ParamKind) → kind_at p.params.now k ≡ Some c → HasSortWithin (putting s p) c

-- ---- answers

-- the terms are those of the group, and there is no fault
pub record IsGroup (ts : List Tree) (f : Option InstFault) (g : TreeGroup) (ids : List TermId) : Type 0 where
  pub known : AreIds (length ts) ids
  pub trees : trees_at ts ids ≡ g.trees
  pub fine : f ≡ None

-- the ids of the group, or its fault; want of memory is free
abbrev pub AnswersGroup : List Tree → Option InstFault → TreeGroup → Result (List TermId) InstFault → Type 0
AnswersGroup ts f g (Ok ids) = IsGroup ts f g ids
AnswersGroup ts f g (Err e) = IsFault f e

-- a reduct that cannot be made
abbrev pub reduct_fault : Declarations → Reduct → Option InstFault
reduct_fault d r = if is_refused d r then (Some Limit) else None

pub record IsMade (ts : List Tree) (f : Option InstFault) (t : Tree) (id : TermId) : Type 0 where
  pub known : id.0 < length ts
  pub tree : tree_at ts id.0 ≡ t
  pub fine : f ≡ None

-- the id of the tree, or its fault; want of memory is free
abbrev pub AnswersMade : List Tree → Option InstFault → Tree → Result TermId InstFault → Type 0
AnswersMade ts f t (Ok id) = IsMade ts f t id
AnswersMade ts f t (Err e) = IsFault f e

abbrev pub AnswersReduct : Declarations → List Tree → Reduct → Result TermId InstFault → Type 0
AnswersReduct d ts r o = AnswersMade ts (reduct_fault d r) (reduct_tree r) o

-- ---- nodes

-- the arguments of a node, whose terms these are
abbrev pub group_at : State → Part → Tree → List TermId → TreeGroup
group_at s p t ids = tree_group (first_sort (map (instance (putting s p)) (args_of t))) (trees_at s.trees ids)

-- what a node becomes that is an application, and its fault
abbrev pub applied : State → Part → Tree → List TermId → Reduct
applied s p t ids = reduct (head_of t) (map (substitute (putting s p).number) (indices_of t)) (group_at s p t ids)

abbrev pub applied_fault : State → Part → Tree → List TermId → Option InstFault
applied_fault s p t ids =
    if not (list_all (is_put_within (putting s p)) (indices_of t)) || is_refused s.declared (applied s p t ids) then (Some Limit) else None

-- what a node becomes, and its fault
abbrev pub node_group : State → Part → Tree → List TermId → TreeGroup
node_group s p t ids = put_node (putting s p) (head_of t) (map (substitute (putting s p).number) (indices_of t)) (group_at s p t ids)

abbrev pub own_fault_at : State → Part → Tree → List TermId → Option InstFault
own_fault_at s p t ids =
    own_fault s.declared p.params.now (putting s p) (side_of p.side) (hole_fault p.hole) (head_of t) (indices_of t) (group_at s p t ids)

abbrev pub fault_at : State → Part → Tree → List TermId → Option InstFault
fault_at s p t ids =
    fault_with s.declared p.params.now (putting s p) (side_of p.side) (hole_fault p.hole) (has_list p.params.now (args_of t)) (head_of t) (indices_of t)
    (group_at s p t ids)

-- what a tree becomes, and its fault
abbrev pub part_group : State → Part → Tree → TreeGroup
part_group s p t = instance (putting s p) t

abbrev pub part_fault : State → Part → Tree → Option InstFault
part_fault s p t = instance_fault s.declared p.params.now (putting s p) (side_of p.side) (hole_fault p.hole) t

abbrev pub first_fault : State → Part → List (Option InstFault) → Option InstFault → Option InstFault
first_fault s p fs own = first_of s.declared p.params.now (putting s p) (side_of p.side) (hole_fault p.hole) fs own

abbrev pub all_trees : State → Part → List Tree → List Tree
all_trees s p ts = flat_map (λ g. g.trees) (map (part_group s p) ts)

-- one term alone
pub record IsAlone (g : TreeGroup) : Type 0 where
  pub tree : Tree
  pub only : g.trees ≡ tree ∷ []
