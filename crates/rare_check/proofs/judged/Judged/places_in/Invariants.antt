use Rattle.std.proofs.Common.{◌≡◌, Some, take}
use Rattle.rare_proof_text.specs.Commands.{texts_in}
use Rattle.rare_check.specs.inner.Judging.{places_named}
use Rattle.rare_check.proofs.judged.Judged.places_in.Given as goal

abbrev pub invariant-loop-k : goal.invariant-loop-k
invariant-loop-k g l = places_named l.self.ids l.self.places (take l.k (texts_in (g.E.Expr.tree l.list))) ≡ Some l.places
