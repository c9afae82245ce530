use Rattle.std.proofs.Common.{refl}
use Rattle.rare_term_printing.specs.inner.Writing.{id_from}
use Rattle.rare_term_printing.proofs.Texts.{id_found, id_passed, id_absent}
use Rattle.rare_term_printing.proofs.term.number_of.Goals as goal

pub loop-k-init : goal.loop-k-init
loop-k-init c = refl

pub returns-then-other-id : goal.returns-then-other-id
returns-then-other-id c = id_found c.loop-k.k c.args.ids.now (record { 0 = 0 }) c.args.id (id_from 1 c.args.ids.now c.args.id) c.loop-k-test.true c.if-other-id.true c.loop-k.invariant

pub loop-k-preserved : goal.loop-k-preserved
loop-k-preserved c = id_passed c.loop-k.k c.args.ids.now (record { 0 = 0 }) c.args.id (id_from 1 c.args.ids.now c.args.id) c.loop-k-test.true c.if-other-id.false c.loop-k.invariant

pub returns : goal.returns
returns c = id_absent c.loop-k.k c.args.ids.now c.args.id (id_from 1 c.args.ids.now c.args.id) c.loop-k-test.false c.loop-k.invariant
