use Rattle.rare_sort.proofs.BasicLemmas.{bool_declared}
use Rattle.rare_sort.specs.DeclaredSorts.{IsDeclaredSort}
use Rattle.rare_sort.specs.declared.declarations.Declarations.{Declarations}
use Rattle.rare_sort.specs.declared.sort.Sort.{Sort, Bool}
use Rattle.std.proofs.Common.{ℕ, zero, suc, ◌<◌, [], ◌∷◌, slice_index_or, arith}
use Rattle.rare_term.proofs.TestLemmas.{array_declared}
use Rattle.rare_term.proofs.tests.ready.Goals as goal

only : (d : Declarations) (k : ℕ) (s : Sort) → k < 1 → IsDeclaredSort d (slice_index_or (Bool ∷ []) k s)
only d zero s lt = bool_declared d
only d (suc k) s lt = absurd (omega arith)

pub declare_symbol-requires-clause-args : goal.declare_symbol-requires-clause-args
declare_symbol-requires-clause-args g c = only (g.T.Terms.state c.declare_width-2.new.self).declared

pub declare_symbol-requires-clause-gives : goal.declare_symbol-requires-clause-gives
declare_symbol-requires-clause-gives g c = bool_declared (g.T.Terms.state c.declare_width-2.new.self).declared

pub declare_symbol-requires-2-clause-gives : goal.declare_symbol-requires-2-clause-gives
declare_symbol-requires-2-clause-gives g c = rw (c.in_ok-new.ensures, c.in_ok-new-2.ensures) (array_declared (g.T.Terms.state c.declare_symbol.new.self).declared)
