use Rattle.std.proofs.Common.{◌≡◌, ◌++◌, map, string_bytes}
use Rattle.std.specs.Vec.Iter.{into_iter_items}
use Rattle.rare_cli.proofs.words.words_of.Given as goal

abbrev pub invariant-loop-arg : goal.invariant-loop-arg
invariant-loop-arg l = (l.yielded ++ into_iter_items l.arg-iterator ≡ into_iter_items l.initial.arg-iterator) × (l.words ≡ map string_bytes l.yielded)
