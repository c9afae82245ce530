use Rattle.std.proofs.Common.{◌≡◌, drop}
use Rattle.rare_term.specs.State.{Grows}
use Rattle.rare_inst.specs.Arguments.{arguments_of}
use Rattle.rare_proof.specs.Sided.{equations_of}
use Rattle.rare_proof.specs.Steps.{first_failing, premise_conditions}
use Rattle.rare_proof.proofs.rules.rewrite.test_premises.Given as goal

-- what is left decides
abbrev pub invariant-loop-k : goal.invariant-loop-k
invariant-loop-k g l =
    let old = g.T.Terms.state l.initial.terms in
    let args = arguments_of old.trees l.args in
    record {
      grows : Grows old (g.T.Terms.state l.terms);
      rest :
          first_failing (premise_conditions old.declared l.rule args 0 (equations_of old.trees l.premises))
          ≡ first_failing (premise_conditions old.declared l.rule args l.k (equations_of old.trees (drop l.k l.premises)));
    }
