use Rattle.std.proofs.Common.{◌≡◌, take}
use Rattle.rare_rule.specs.Books.{rule_names}
use Rattle.rare_cli.proofs.report.names_of_rules.Given as goal

abbrev pub invariant-loop-k : goal.invariant-loop-k
invariant-loop-k l = l.names ≡ rule_names (take l.k l.book)
