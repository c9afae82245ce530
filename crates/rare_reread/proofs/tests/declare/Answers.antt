use Rattle.std.proofs.Common.{ℕ, zero, suc, ◌<◌, [], ◌∷◌, slice_index_or, arith}
use Rattle.rare_sort.proofs.BasicLemmas.{bool_declared, int_declared}
use Rattle.rare_sort.specs.DeclaredSorts.{IsDeclaredSort}
use Rattle.rare_sort.specs.declared.declarations.Declarations.{Declarations}
use Rattle.rare_sort.specs.declared.sort.Sort.{Sort, Int}
use Rattle.rare_reread.proofs.tests.declare.Goals as goal

only : (d : Declarations) (k : ℕ) (s : Sort) → k < 1 → IsDeclaredSort d (slice_index_or (Int ∷ []) k s)
only d zero s lt = int_declared d
only d (suc k) s lt = absurd (omega arith)

pub declare_symbol-requires-clause-gives : goal.declare_symbol-requires-clause-gives
declare_symbol-requires-clause-gives g c = bool_declared (g.T.Terms.state c.declare_width.new.self).declared

pub declare_symbol-requires-2-clause-args : goal.declare_symbol-requires-2-clause-args
declare_symbol-requires-2-clause-args g c = only (g.T.Terms.state c.declare_symbol.new.self).declared

pub declare_symbol-requires-2-clause-gives : goal.declare_symbol-requires-2-clause-gives
declare_symbol-requires-2-clause-gives g c = int_declared (g.T.Terms.state c.declare_symbol.new.self).declared
