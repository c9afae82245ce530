use Rattle.rare_meaning.proofs.RowLemmas.{core_rows, ints_rows, arrays_rows, arithmetic_rows, bitwise_rows, slices_rows, lists_rows, names_rows}
use Rattle.rare_meaning.proofs.rows.rows_hold.Goals as goal

pub returns-clause-core : goal.returns-clause-core
returns-clause-core c = core_rows

pub returns-clause-ints : goal.returns-clause-ints
returns-clause-ints c = ints_rows

pub returns-clause-arrays : goal.returns-clause-arrays
returns-clause-arrays c = arrays_rows

pub returns-clause-arithmetic : goal.returns-clause-arithmetic
returns-clause-arithmetic c = arithmetic_rows

pub returns-clause-bitwise : goal.returns-clause-bitwise
returns-clause-bitwise c = bitwise_rows

pub returns-clause-slices : goal.returns-clause-slices
returns-clause-slices c = slices_rows

pub returns-clause-lists : goal.returns-clause-lists
returns-clause-lists c = lists_rows

pub returns-clause-names : goal.returns-clause-names
returns-clause-names c = names_rows
