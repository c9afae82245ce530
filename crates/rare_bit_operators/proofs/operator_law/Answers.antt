use Rattle.rare_bit_operators.proofs.OperatorLemmas.{bvand_laws, bvor_laws, bvxor_laws, bvnot_twice, bvadd_laws, bvmul_laws}
use Rattle.rare_bit_operators.proofs.operator_law.Goals as goal

pub returns-clause-and : goal.returns-clause-and
returns-clause-and c = bvand_laws

pub returns-clause-or : goal.returns-clause-or
returns-clause-or c = bvor_laws

pub returns-clause-xor : goal.returns-clause-xor
returns-clause-xor c = bvxor_laws

pub returns-clause-not_twice : goal.returns-clause-not_twice
returns-clause-not_twice c = bvnot_twice

pub returns-clause-sum : goal.returns-clause-sum
returns-clause-sum c = bvadd_laws

pub returns-clause-product : goal.returns-clause-product
returns-clause-product c = bvmul_laws
