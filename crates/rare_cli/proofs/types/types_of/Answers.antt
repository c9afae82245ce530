use Rattle.rare_cli.proofs.Listing.{line_more}
use Rattle.rare_cli.proofs.types.types_of.Goals as goal

pub loop-k-preserved : goal.loop-k-preserved
loop-k-preserved c = line_more c.args.book.now c.loop-k.k c.rule.result.now c.loop-k.text c.write_rule.new.out c.rule.ensures c.loop-k.invariant c.in_ok-write_rule.ensures
