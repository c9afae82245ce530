-- What computes on a written tree: its instance, its fault, its sort and its measures.
use Rattle.std.proofs.Common.{◌≡◌, List, map}
use Rattle.rare_linear.specs.Linears.{LinearExpression, substitute}
use Rattle.rare_sort.specs.Families.{family}
use Rattle.rare_sort.specs.SortOf.{sort_of, sort_step, given_by}
use Rattle.rare_sort.specs.SortRules.{sort_rule}
use Rattle.rare_sort.specs.Trees.{node}
use Rattle.rare_sort.specs.declared.declarations.Declarations.{Declarations}
use Rattle.rare_sort.specs.declared.head.Head.{Head}
use Rattle.rare_sort.specs.declared.sort.Signature.{Signature}
use Rattle.rare_sort.specs.declared.sort.Sort.{Sort}
use Rattle.rare_sort.specs.declared.tree.Tree.{Tree, fold-roll-Tree}
use Rattle.std.specs.Prelude.{slice_get, Option}
use Rattle.rare_rule.specs.declared.param.Param.{Param}
use Rattle.rare_inst.specs.Collapse.{spliced}
use Rattle.rare_inst.specs.Instance.{Side, first_of, instance, instance_step, instance_fault, node_fault, put_node}
use Rattle.rare_inst.specs.Substituting.{TreeGroup, Substitution}
use Rattle.rare_inst.specs.declared.fault.InstFault.{InstFault}
use Rattle.rare_inst.proofs.Faults.{fault-node}

pub instance-node : (a : Substitution) (h : Head) (ix : List LinearExpression) (ts : List Tree) →
    instance a (node h ix ts) ≡ put_node a h (map (substitute a.number) ix) (spliced (map (instance a) ts))
instance-node a h ix ts = fold-roll-Tree TreeGroup (instance_step a) (record { head = h; indices = ix; args = ts })

pub instance_fault-node : (d : Declarations) (ps : List Param) (a : Substitution) (side : Side) (in_hole : Option InstFault) (h : Head) (ix : List LinearExpression) (ts : List Tree) →
    instance_fault d ps a side in_hole (node h ix ts) ≡ first_of d ps a side in_hole (map (instance_fault d ps a side in_hole) ts) (node_fault d ps a side in_hole h ix ts)
instance_fault-node d ps a side in_hole h ix ts = fault-node d ps a side in_hole (record { head = h; indices = ix; args = ts })

pub sort_of-node : (symbols : List Signature) (h : Head) (ix : List LinearExpression) (ts : List Tree) →
    sort_of symbols (node h ix ts) ≡ given_by (sort_rule (slice_get symbols) 2 (family h) ix (map (sort_of symbols) ts))
sort_of-node symbols h ix ts = fold-roll-Tree Sort (sort_step symbols) (record { head = h; indices = ix; args = ts })
