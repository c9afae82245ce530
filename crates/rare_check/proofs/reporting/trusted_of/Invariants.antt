use Rattle.std.proofs.Common.{◌≡◌, ◌||◌, ℕ, Bool, false, nat_eq, ◌++◌, drop}
use Rattle.std.specs.List.{list_any}
use Rattle.rare_check.specs.Verdicts.{trusted_by}
use Rattle.rare_check.proofs.reporting.trusted_of.Given as goal

abbrev pub invariant-loop-k : goal.invariant-loop-k
invariant-loop-k l =
    let named : ℕ → Bool = λ k. list_any (nat_eq k) l.named.keys || false in
    l.trusted ++ trusted_by named l.k (drop l.k l.book) ≡ trusted_by named 0 l.book
