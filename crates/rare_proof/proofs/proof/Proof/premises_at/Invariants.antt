use Rattle.std.proofs.Common.{◌≡◌, All, List, length, take, Some}
use Rattle.rare_sort.specs.declared.tree.Tree.{Tree}
use Rattle.rare_term.specs.State.{State}
use Rattle.rare_proof.specs.Proofs.{IsStepOf, concluded_by}
use Rattle.rare_proof.specs.Sided.{AllAreSides, equations_of}
use Rattle.rare_proof.specs.Steps.{equations_at}
use Rattle.rare_proof.proofs.proof.Proof.premises_at.Given as goal

abbrev pub invariant-loop-place : goal.invariant-loop-place
invariant-loop-place l = record {
  found : (ts : List Tree) → equations_at (concluded_by ts l.self-inside.steps) (take l.place-index l.places) ≡ Some (equations_of ts l.premises);
  ids : (s : State) → All (IsStepOf s) l.self-inside.steps → AllAreSides (length s.trees) l.premises;
}
