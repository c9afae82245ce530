use Rattle.rare_cli.specs.inner.Prepared.{answer_outcome}
use Rattle.rare_cli.proofs.Runs.{becomes_allowed}
use Rattle.rare_cli.proofs.run.run_all.Goals as goal

pub returns-in-Ok-clause-ran : goal.returns-in-Ok-clause-ran
returns-in-Ok-clause-ran g c = (answer_outcome c.in-Ok.answer, c.in-Ok.ensures.allowed, rw (← c.bytes.ensures) c.deliver.ensures)

pub returns-in-Err-clause-ran : goal.returns-in-Err-clause-ran
returns-in-Err-clause-ran g c = let t = c.tell.ensures in (t.0, becomes_allowed _ _ c.in-Err.stop _ c.in-Err.ensures.allowed t.1, t.2)
