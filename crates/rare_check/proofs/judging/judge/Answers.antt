use Rattle.std.proofs.Common.{subst}
use Rattle.rare_proof_text.specs.declared.command.ReadCommand.{ReadCommand}
use Rattle.rare_check.specs.inner.Judging.{NamesKnown}
use Rattle.rare_check.proofs.judging.judge.Goals as goal

pub returns-in-Step-clause-rules : goal.returns-in-Step-clause-rules
returns-in-Step-clause-rules g c = λ named rules known. c.judge_step.ensures.rules named rules (subst (λ (d : ReadCommand _). NamesKnown named d) c.in-Step.is known)
