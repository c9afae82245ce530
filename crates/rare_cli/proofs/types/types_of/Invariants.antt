use Rattle.std.proofs.Common.{◌≡◌, take}
use Rattle.rare_cli.specs.Outcomes.{types_text}
use Rattle.rare_cli.proofs.types.types_of.Given as goal

abbrev pub invariant-loop-k : goal.invariant-loop-k
invariant-loop-k l = l.text ≡ types_text (take l.k l.book)
