use Rattle.std.proofs.Common.{◌≡◌, append_assoc}
use Rattle.rare_cli.specs.Outcomes.{stop_line}
use Rattle.rare_cli.specs.declared.outcome.Stop.TheVariants.{Refused}
use Rattle.rare_cli.proofs.outcome.refused.Goals as goal

pub returns : goal.returns
returns c =
    let text : c.as_bytes.result.now ≡ stop_line (Refused c.args.file c.args.place c.args.reason) =
    rw (c.as_bytes.ensures.value, c.in_ok-message.ensures.ok, c.file_name-name.ensures, c.word-word.ensures) (simp append_assoc) in
    rw text at c.of.ensures
