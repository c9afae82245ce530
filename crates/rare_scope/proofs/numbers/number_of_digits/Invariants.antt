use Rattle.std.proofs.Common.{◌≡◌, ◌≤◌, drop}
use Rattle.rare_scope.specs.Numbers.{LARGEST_WIDE, digits_from}
use Rattle.rare_scope.proofs.numbers.number_of_digits.Given as goal

abbrev pub invariant-loop-digit : goal.invariant-loop-digit
invariant-loop-digit l = record {
  same : digits_from l.base l.n (drop l.digit-index l.digits) ≡ digits_from l.base 0 l.digits;
  small : l.n ≤ LARGEST_WIDE;
}
