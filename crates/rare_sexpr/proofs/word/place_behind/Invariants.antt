use Rattle.rare_sexpr.proofs.Places.{IsBehind}
use Rattle.rare_sexpr.proofs.word.place_behind.Given as goal

abbrev pub invariant-loop-byte : goal.invariant-loop-byte
invariant-loop-byte l = IsBehind l.bytes l.fn.place l.byte-index l.place
