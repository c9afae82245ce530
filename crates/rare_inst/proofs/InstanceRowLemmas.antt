-- Rows of instances.
use Rattle.std.proofs.Common.{◌≡◌, Bool, refl, ap}
use Rattle.rare_linear.specs.Linears.{LinearExpression}
use Rattle.rare_linear.specs.EntailmentTest.{is_entailed, is_within}
use Rattle.rare_sort.specs.DeclaredSorts.{follows}
use Rattle.rare_sort.specs.Rulings.{ruling}
use Rattle.rare_sort.specs.Sameness.{sort_eq, sort_eq_step}
use Rattle.rare_sort.specs.Sorting.{name}
use Rattle.rare_sort.specs.declared.declarations.Declarations.{Declarations}
use Rattle.rare_sort.specs.declared.sort.Sort.{Sort, Bool as BoolSort, Int, BitVec}
use Rattle.rare_sort.specs.declared.sort.Sort.TheOpen.{Sort-F}
use Rattle.rare_sort.specs.declared.sort.Sort.TheOpen as shape
use Rattle.rare_sort.specs.declared.sort.Sort.TheViews.{roll-Sort, out-Sort, out-roll-Sort}
use Rattle.rare_sort.specs.declared.sort.Sort.TheFolds.{fold-roll-Sort, map-Sort}
use denote.Hole.Carrier
use Rattle.rare_term.specs.Literals.{reduced}
use Rattle.rare_term.specs.Refusals.{refusal}
use Rattle.rare_term.specs.inner.TreeLaws.{head_node, indices_node, args_node, nesting_node, size_node}
use Rattle.rare_inst.specs.AdmissionRows.{AdmissionRows, typed, two_bounds}
use Rattle.rare_inst.specs.InstanceRows.{ListRows, PartRows, BitVectorRows, OrderRows, problem, named_problem, all_ones, adding, index_given, x, y, z}
use Rattle.rare_inst.specs.Admission.{fault_at}
use Rattle.rare_inst.specs.Arguments.{Argument, OfLinear, OfTerm, OfList}
use Rattle.std.specs.Prelude.{List, [], ◌∷◌, Some, None, Option}
use Rattle.rare_rule.specs.Nodes.{walk}
use Rattle.rare_rule.specs.declared.rule.Rule.{Rule}
use Rattle.rare_linear.specs.declared.constraint.Constraint.{Constraint}
use Rattle.rare_inst.specs.declared.fault.InstFault.{InstFault}
use Rattle.rare_inst.specs.declared.fault.InstFault.TheVariants.{ArgMissorted, Unentailed}
use Rattle.rare_rule.proofs.Walks.{walk-node}
use Rattle.rare_inst.proofs.InstanceNodes.{instance-node, instance_fault-node, sort_of-node}

-- the test on a written sort
sort_eq-roll : (v : Sort-F Sort) (t : Sort) → sort_eq (roll-Sort v) t ≡ sort_eq_step (map-Sort Sort (Sort → Bool) sort_eq v) (out-Sort t)
unfolding sort_eq
sort_eq-roll v t = ap (λ f. f t) (fold-roll-Sort (Sort → Bool) (λ s t. sort_eq_step s (out-Sort t)) v)

eq-Bool : (s : Sort) → sort_eq BoolSort s ≡ sort_eq_step shape.Bool (out-Sort s)
unfolding roll-Sort Carrier.roll
eq-Bool s = sort_eq-roll shape.Bool s

eq-Int : (s : Sort) → sort_eq Int s ≡ sort_eq_step shape.Int (out-Sort s)
unfolding roll-Sort Carrier.roll
eq-Int s = sort_eq-roll shape.Int s

eq-BitVec : (w : LinearExpression) (s : Sort) → sort_eq (BitVec w) s ≡ sort_eq_step (shape.BitVec w) (out-Sort s)
unfolding roll-Sort Carrier.roll
eq-BitVec w s = sort_eq-roll (shape.BitVec w) s

out-Bool : out-Sort BoolSort ≡ shape.Bool
unfolding roll-Sort Carrier.roll
out-Bool = out-roll-Sort shape.Bool

out-Int : out-Sort Int ≡ shape.Int
unfolding roll-Sort Carrier.roll
out-Int = out-roll-Sort shape.Int

out-BitVec : (w : LinearExpression) → out-Sort (BitVec w) ≡ shape.BitVec w
unfolding roll-Sort Carrier.roll
out-BitVec w = out-roll-Sort (shape.BitVec w)

ruleset nodes = (instance-node, instance_fault-node, sort_of-node, walk-node, head_node, indices_node, args_node, nesting_node, size_node, eq-Bool, eq-Int, eq-BitVec, out-Bool, out-Int, out-BitVec)

pub list_rows : ListRows
unfolding refusal ruling follows is_entailed is_within reduced
list_rows = record { left = simp nodes; right = simp nodes; one = simp nodes; none = simp nodes; short = simp nodes }

pub part_rows : PartRows
unfolding refusal ruling follows is_entailed is_within reduced
part_rows = record { premise = simp nodes; left = simp nodes; right = simp nodes; context = simp nodes }

pub bit_vector_rows : BitVectorRows
unfolding refusal ruling follows is_entailed is_within reduced
bit_vector_rows = record {
  neutral = simp nodes;
  wide_neutral = simp nodes;
  named_neutral = simp nodes;
  joined = simp nodes;
  empty = simp nodes;
  reduced = simp nodes;
  large_index = simp nodes;
  large_width = simp nodes;
}

pub order_rows : OrderRows
unfolding refusal ruling follows is_entailed is_within reduced
order_rows = record { hole_last = simp nodes; hole_first = simp nodes; argument = simp nodes; application = simp nodes }

-- a row, where the nodes of the left side are told
abbrev Row : Declarations → Rule → List Constraint → List Argument → Option InstFault → Type 0
Row d r cs args o = fault_at d (typed r cs) args ((walk r.left).nodes None) ≡ o

width_row : Row problem all_ones [] (index_given 4 ∷ OfTerm x ∷ OfList [] ∷ []) (Some (ArgMissorted 2))
unfolding follows is_entailed is_within
width_row = simp nodes

list_row : Row problem all_ones [] (index_given 8 ∷ OfTerm x ∷ OfList (x ∷ y ∷ []) ∷ []) (Some (ArgMissorted 3))
unfolding follows is_entailed is_within
list_row = simp nodes

literal_row : Row problem adding [] (index_given 8 ∷ index_given 255 ∷ OfTerm x ∷ []) None
unfolding follows is_entailed is_within
literal_row = simp nodes

large_literal_row : Row problem adding [] (index_given 8 ∷ index_given 256 ∷ OfTerm x ∷ []) (Some (ArgMissorted 2))
unfolding follows is_entailed is_within
large_literal_row = simp nodes

constraint_row : Row problem all_ones two_bounds (index_given 8 ∷ OfTerm x ∷ OfList [] ∷ []) (Some (Unentailed 2))
unfolding follows is_entailed is_within
constraint_row = simp nodes

named_row : Row named_problem all_ones two_bounds (OfLinear (name 0) ∷ OfTerm z ∷ OfList [] ∷ []) None
unfolding follows is_entailed is_within
named_row = simp nodes

pub admission_rows : AdmissionRows
unfolding follows is_entailed is_within
admission_rows = record {
  terms = simp nodes;
  sort = refl;
  term = simp nodes;
  width = width_row;
  list = list_row;
  words = simp nodes;
  literal = literal_row;
  large_literal = large_literal_row;
  value = simp nodes;
  negative = simp nodes;
  zero = simp nodes;
  sum = simp nodes;
  constraint = constraint_row;
  named = named_row;
}
