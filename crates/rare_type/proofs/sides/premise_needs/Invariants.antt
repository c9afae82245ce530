use Rattle.std.proofs.Common.{◌≡◌, ◌++◌, drop, Ok}
use Rattle.rare_type.specs.FirstCase.{and_then, premises_typed}
use Rattle.rare_type.proofs.sides.premise_needs.Given as goal

-- what they ask for so far stands before that of those left
abbrev pub invariant-loop-premise : goal.invariant-loop-premise
invariant-loop-premise l = premises_typed l.params l.premises ≡ and_then (premises_typed l.params (drop l.premise-index l.premises)) (λ ns. Ok (l.needs ++ ns))
