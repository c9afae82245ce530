use Rattle.rare_cli.proofs.Listing.{trust_more}
use Rattle.rare_cli.proofs.report.write_trusted.Goals as goal

pub loop-k-preserved : goal.loop-k-preserved
loop-k-preserved c =
    trust_more c.args.rules.now c.args.trusted.now c.loop-k.k-index c.index-rules-k.result c.bytes.result.now c.args.out.now c.loop-k.out c.write_trust.new.out c.requires c.loop-k-test.true
    c.index-rules-k.is c.bytes.ensures c.loop-k.invariant c.in_ok-write_trust.ensures
