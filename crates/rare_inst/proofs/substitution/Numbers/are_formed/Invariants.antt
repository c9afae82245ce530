use Rattle.std.proofs.Common.{◌≡◌, drop, length}
use Rattle.rare_linear.specs.Linears.{NamesBelow}
use Rattle.rare_inst.specs.inner.Standing.{all_formed}
use Rattle.rare_inst.proofs.substitution.Numbers.are_formed.Given as goal

-- what is left decides
abbrev pub invariant-loop-name : goal.invariant-loop-name
invariant-loop-name l = record {
  named : NamesBelow (length l.self.values) (drop l.name-index l.parts);
  same : all_formed l.self.formed l.parts ≡ all_formed l.self.formed (drop l.name-index l.parts);
}
