use Rattle.std.proofs.Common.{◌≡◌, drop, map}
use Rattle.rare_scope.specs.Reserved.{is_among}
use Rattle.rare_scope.proofs.reserved.is_one_of.Given as goal

abbrev pub invariant-loop-word : goal.invariant-loop-word
invariant-loop-word l = is_among (map (λ word. word.now) (drop l.word-index l.words)) l.name ≡ is_among (map (λ word. word.now) l.words) l.name
