use Rattle.rare_type.proofs.indexed.sort_of.Goals as goal

pub returns-in-Extract : goal.returns-in-Extract
returns-in-Extract c = rw c.in-Extract.is (c.extract.ensures c.args.least)

pub returns-in-Extend : goal.returns-in-Extend
returns-in-Extend c = rw c.in-Extend.is (c.extend.ensures c.args.least)

pub returns-in-Rotate : goal.returns-in-Rotate
returns-in-Rotate c = rw c.in-Rotate.is (c.rotate.ensures c.args.least)

pub returns-in-Repeat : goal.returns-in-Repeat
returns-in-Repeat c = rw c.in-Repeat.is (c.repeat.ensures c.args.least)

pub returns-in-Bits : goal.returns-in-Bits
returns-in-Bits c = rw c.in-Bits.is (c.bits.ensures c.args.least)

pub returns-in-Literal : goal.returns-in-Literal
returns-in-Literal c = rw c.in-Literal.is (c.literal.ensures c.args.least)
