use Rattle.std.proofs.Common.{sym, ◌∙◌}
use Rattle.rare_sexpr.specs.Bytes.{is_symbol_byte}
use Rattle.rare_sexpr.proofs.Scans.{run_more}
use Rattle.rare_sexpr.proofs.scan.symbol_run.Goals as goal

pub run-preserved : goal.run-preserved
run-preserved c = run_more is_symbol_byte c.args.word.now c.args.at c.run.i c.run.invariant c.run-test.true (sym c.in_symbol.ensures ∙ c.if-in_symbol.true)
