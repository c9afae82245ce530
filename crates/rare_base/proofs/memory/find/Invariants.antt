use Rattle.std.proofs.Common.{◌≡◌, drop}
use Rattle.rare_base.specs.MemoryTexts.{text_named}
use Rattle.rare_base.proofs.memory.find.Given as goal

abbrev pub invariant-loop-t : goal.invariant-loop-t
invariant-loop-t l = text_named l.texts l.name ≡ text_named (drop l.t-index l.texts) l.name
