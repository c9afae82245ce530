use Rattle.std.proofs.Common.{◌≡◌, map, take}
use Rattle.rare_law_parts.specs.RowTerms.{term_of}
use Rattle.rare_law_parts.proofs.rules.terms.Given as goal

abbrev pub invariant-loop-row : goal.invariant-loop-row
invariant-loop-row l = l.all ≡ map (λ p. term_of p.now) (take l.row-index l.rows)
