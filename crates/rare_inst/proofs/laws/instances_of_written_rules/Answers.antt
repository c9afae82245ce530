use Rattle.rare_inst.proofs.InstanceRowLemmas.{list_rows, part_rows, bit_vector_rows, order_rows, admission_rows}
use Rattle.rare_inst.proofs.laws.instances_of_written_rules.Goals as goal

pub returns-clause-lists : goal.returns-clause-lists
returns-clause-lists c = list_rows

pub returns-clause-parts : goal.returns-clause-parts
returns-clause-parts c = part_rows

pub returns-clause-bit_vectors : goal.returns-clause-bit_vectors
returns-clause-bit_vectors c = bit_vector_rows

pub returns-clause-order : goal.returns-clause-order
returns-clause-order c = order_rows

pub returns-clause-admission : goal.returns-clause-admission
returns-clause-admission c = admission_rows
