use Rattle.rare_parse.specs.declared.measured.Arguments.{Arguments}
use Rattle.rare_parse.proofs.MeasureLemmas.{more_counted}
use Rattle.rare_parse.proofs.measured.with_argument.Goals as goal

pub returns-clause-counted : goal.returns-clause-counted
returns-clause-counted c =
    let b : Arguments = record { trees = c.push.new.self; nesting = c.max-nesting.result; nodes = c.min-nodes.result } in
    more_counted c.args.arguments b c.args.term c.requires.counted c.requires.measured c.in_ok-push.ensures.ok c.max-nesting.ensures c.min-nodes.ensures
