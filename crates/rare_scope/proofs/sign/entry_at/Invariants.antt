use Rattle.std.proofs.Common.{◌≡◌, map, drop}
use Rattle.rare_scope.specs.Entries.{entry}
use Rattle.rare_scope.proofs.sign.entry_at.Given as goal

abbrev pub invariant-loop-text : goal.invariant-loop-text
invariant-loop-text g l = entry (map (λ w. (w.0.now, w.1)) (drop l.text-index l.table)) l.word ≡ entry (map (λ w. (w.0.now, w.1)) l.table) l.word
