use Rattle.rare_eval.proofs.ProgressLemmas.{led_some, led_none}
use Rattle.rare_eval.proofs.progress.after_two.Goals as goal

pub returns-in-Some-clause-step : goal.returns-in-Some-clause-step
returns-in-Some-clause-step c ns is other led suits = led_some c.args.head ns is c.args.a c.args.v c.in-Some.x other led suits c.in-Some.ensures.value

pub returns-in-None-clause-step : goal.returns-in-None-clause-step
returns-in-None-clause-step c ns is other led suits = led_none c.args.head ns is c.args.a c.args.v c.requires.first other led suits c.in-None.ensures.value
