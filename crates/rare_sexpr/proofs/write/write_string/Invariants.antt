use Rattle.std.proofs.Common.{◌≡◌, ◌∷◌, ◌++◌, take}
use Rattle.rare_sexpr.specs.Written.{doubled}
use Rattle.rare_sexpr.proofs.write.write_string.Given as goal

abbrev pub invariant-loop-byte : goal.invariant-loop-byte
invariant-loop-byte l = l.out ≡ l.fn.out ++ 34 ∷ doubled (take l.byte-index l.bytes)
