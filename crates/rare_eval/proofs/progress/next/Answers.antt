use Rattle.std.proofs.Common.{subst}
use Rattle.rare_eval.specs.inner.Progress.{IsAfter}
use Rattle.rare_eval.proofs.ProgressLemmas.{chain_step}
use Rattle.rare_eval.proofs.progress.next.Goals as goal

pub returns-in-Chain-clause-step : goal.returns-in-Chain-clause-step
returns-in-Chain-clause-step c ns is after suits = chain_step c.args.head ns is c.in-Chain.holds c.in-Chain.last c.args.v c.is_linked.result (subst (IsAfter c.args.head ns is) c.in-Chain.is after) suits c.is_linked.ensures
