use Rattle.std.proofs.Common.{◌≡◌, ◌++◌, List, ℕ, drop}
use Rattle.rare_rule_printing.specs.inner.RulePieces.{declared_rest}
use Rattle.rare_rule_printing.specs.SortPrinting.{params_text}
use Rattle.rare_rule_printing.proofs.params.write_params.Given as goal

-- the front of the text is written
abbrev pub invariant-loop-param : goal.invariant-loop-param
invariant-loop-param l = (front : List ℕ) × (l.out ≡ l.fn.out ++ front) × (front ++ declared_rest l.params l.lead (drop l.param-index l.params) ≡ params_text l.params)
