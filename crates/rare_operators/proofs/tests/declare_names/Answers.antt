use Rattle.std.proofs.Common.{[]}
use Rattle.std.proofs.lemmas.List.Elements.{All-nil, All-cons}
use Rattle.rare_sort.specs.DeclaredSorts.{IsDeclaredSort}
use Rattle.rare_sort.specs.declared.sort.Sort.{Sort, Bool}
use Rattle.rare_sort.proofs.BasicLemmas.{bool_declared}
use Rattle.rare_operators.proofs.tests.declare_names.Goals as goal

pub declare_symbol-requires-clause-gives : goal.declare_symbol-requires-clause-gives
declare_symbol-requires-clause-gives g c = bool_declared (g.T.Terms.state c.declare_width.new.self).declared

pub declare_symbol-requires-2-clause-args : goal.declare_symbol-requires-2-clause-args
declare_symbol-requires-2-clause-args g c =
    let d = (g.T.Terms.state c.declare_symbol.new.self).declared in
    let P : Sort → Type 0 = λ s. IsDeclaredSort d s in
    All-cons P Bool [] (bool_declared d) (All-nil P)

pub declare_symbol-requires-2-clause-gives : goal.declare_symbol-requires-2-clause-gives
declare_symbol-requires-2-clause-gives g c = bool_declared (g.T.Terms.state c.declare_symbol.new.self).declared
