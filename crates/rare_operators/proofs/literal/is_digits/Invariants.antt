use Rattle.std.proofs.Common.{◌≡◌, drop}
use Rattle.std.specs.List.{list_all}
use Rattle.rare_sexpr.specs.Bytes.{is_digit}
use Rattle.rare_operators.specs.LiteralText.{are_digits}
use Rattle.rare_operators.proofs.literal.is_digits.Given as goal

abbrev pub invariant-loop-byte : goal.invariant-loop-byte
invariant-loop-byte l = list_all is_digit (drop l.byte-index l.text) ≡ are_digits l.text
