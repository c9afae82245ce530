use Rattle.std.proofs.Common.{◌≡◌, ℕ, ◌++◌, drop}
use Rattle.std.specs.Option.{option_map}
use Rattle.rare_sort.specs.DeclaredSorts.{AreNamed}
use Rattle.rare_inst.specs.Substituting.{Substitution}
use Rattle.rare_inst.specs.inner.Standing.{StandsFor, put_all_within}
use Rattle.rare_inst.proofs.substitution.Numbers.put_all.Given as goal

-- those so far stand before those left
abbrev pub invariant-loop-e : goal.invariant-loop-e
invariant-loop-e l = record {
  value : (a : Substitution) → StandsFor a l.self → put_all_within a l.es ≡ option_map (λ rest. l.all ++ rest) (put_all_within a (drop l.e-index l.es));
  named : (n : ℕ) → AreNamed n l.self.values → AreNamed n l.all;
}
