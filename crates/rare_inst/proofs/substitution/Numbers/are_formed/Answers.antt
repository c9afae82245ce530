use Rattle.std.proofs.Common.{◌∙◌, sym}
use Rattle.rare_inst.proofs.Putting.{name_below, one_unformed, one_formed}
use Rattle.rare_inst.proofs.substitution.Numbers.are_formed.Goals as goal

pub returns-then-not-get : goal.returns-then-not-get
returns-then-not-get c =
    let n = c.args.self.now in
    one_unformed n.formed n.values c.args.parts.now c.loop-name.name-index c.get.result.now c.loop-name-test.true c.get.ensures c.if-not-get.true
    ∙ sym c.loop-name.invariant.same

pub loop-name-preserved : goal.loop-name-preserved
loop-name-preserved c =
    let n = c.args.self.now in
    record {
      named = (name_below n.formed n.values c.args.parts.now c.loop-name.name-index c.get.result.now c.loop-name-test.true c.get.ensures c.loop-name.invariant.named).1;
      same =
          c.loop-name.invariant.same
          ∙ one_formed n.formed n.values c.args.parts.now c.loop-name.name-index c.get.result.now c.loop-name-test.true c.get.ensures c.if-not-get.false;
    }
