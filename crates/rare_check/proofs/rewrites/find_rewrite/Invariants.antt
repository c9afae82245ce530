use Rattle.std.proofs.Common.{◌≡◌, map, position, bytes_eq, drop}
use Rattle.rare_check.proofs.Naming.{behind_place}
use Rattle.rare_check.proofs.rewrites.find_rewrite.Given as goal

abbrev pub invariant-loop-k : goal.invariant-loop-k
invariant-loop-k l = behind_place l.k (position (bytes_eq l.name) (map (λ r. r.name) (drop l.k l.rewrites))) ≡ position (bytes_eq l.name) (map (λ r. r.name) l.rewrites)
