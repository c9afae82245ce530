use Rattle.std.proofs.Common.{◌∙◌, Some, ap, subst}
use Rattle.rare_meaning.specs.Operators.{truth}
use Rattle.rare_eval.specs.inner.Progress.{IsAfter}
use Rattle.rare_eval.proofs.ProgressLemmas.{chain_is}
use Rattle.rare_eval.proofs.progress.finish.Goals as goal

pub returns-in-Chain-clause-value : goal.returns-in-Chain-clause-value
returns-in-Chain-clause-value c ns is first second after full =
    ap (λ b. Some (truth b)) c.chain_truth.ensures ∙ chain_is c.args.head ns is c.in-Chain.holds c.in-Chain.last (subst (IsAfter c.args.head ns is) c.in-Chain.is after)
