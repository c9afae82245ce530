use Rattle.std.proofs.Common.{◌≡◌, ◌++◌, drop, length, map, Option}
use Rattle.rare_sort.specs.Ids.{AreIds, trees_at}
use Rattle.rare_sort.specs.Trees.{nesting}
use Rattle.rare_term.specs.State.{Grows}
use Rattle.rare_inst.specs.declared.fault.InstFault.{InstFault}
use Rattle.rare_inst.specs.inner.Making.{all_trees, first_fault, part_fault}
use Rattle.rare_inst.proofs.instance.+instance_of.Given as goal

abbrev pub decreases-instance_of : goal.decreases-instance_of
decreases-instance_of g l = nesting l.tree.now

-- the terms so far stand before those of what is left, and none of their trees has a fault
abbrev pub invariant-loop-arg : goal.invariant-loop-arg
invariant-loop-arg g l =
    let old = g.T.Terms.state l.initial.terms in
    let now = g.T.Terms.state l.terms in
    record {
      grows : Grows old now;
      known : AreIds (length now.trees) l.ids;
      trees : all_trees old l.part l.arg-items ≡ trees_at now.trees l.ids ++ all_trees old l.part (drop l.arg-index l.arg-items);
      fine : (own : Option InstFault) →
          first_fault old l.part (map (part_fault old l.part) l.arg-items) own ≡ first_fault old l.part (map (part_fault old l.part) (drop l.arg-index l.arg-items)) own;
    }
