use Rattle.rare_cli.specs.Calls.{library}
use Rattle.rare_cli.proofs.Runs.{unread}
use Rattle.rare_cli.proofs.text.read_text.Goals as goal

pub returns-in-Err-clause-text : goal.returns-in-Err-clause-text
returns-in-Err-clause-text g c =
    unread (library g.L.Library.text g.L.Library.faults c.args.files.now c.read_whole.new.files) c.args.name.now c.args.file c.in-Err.error _
    c.of_read.ensures (λ e. c.in-Err.ensures.failed e) (λ e. c.in-Err.ensures.long e) (λ ne. c.in-Err.ensures.quiet ne)
