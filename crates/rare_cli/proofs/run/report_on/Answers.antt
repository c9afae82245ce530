use Rattle.rare_cli.proofs.Runs.{report_started}
use Rattle.rare_cli.proofs.run.report_on.Goals as goal

pub returns-in-Ok : goal.returns-in-Ok
returns-in-Ok g c = report_started c.new.result _ _ _ c.in-Ok.report c.new.ensures.held (c.new.ensures.whole _) c.in-Ok.ensures.report c.in-Ok.ensures.sound
