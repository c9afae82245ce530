use Rattle.std.proofs.Common.{◌≡◌, map, ap, sym, subst, length, ◌∙◌}
use Rattle.std.proofs.lemmas.List.{length-map}
use Rattle.rare_rule.specs.Books.{rule_name}
use Rattle.rare_text.specs.Stated.{stated_problem}
use Rattle.rare_cli.specs.inner.Prepared.{TrustsAmong}
use Rattle.rare_cli.proofs.Runs.{answer_of_report, trusts_among}
use Rattle.rare_cli.proofs.run.judge.Goals as goal

pub returns : goal.returns
returns g c =
    let names : c.items-2.result.now ≡ map (λ r. r.name) c.args.problem.rewrites = c.items-2.ensures ∙ c.in_ok-names.ensures ∙ ap (map (λ r. r.name)) c.items.ensures in (
      c.in_ok-report.report,
      c.in_ok-report.ensures,
      answer_of_report (g.T.Terms.state c.args.terms) c.args.book c.args.problem c.items-2.result.now c.items-3.result.now c.in_ok-answer_on.field-0 c.in_ok-report.report names (c.items-3.ensures ∙ c.in_ok-rules.ensures) c.in_ok-answer_on.ensures.text c.in_ok-answer_on.ensures.status,
    )

pub answer_on-requires : goal.answer_on-requires
answer_on-requires g c =
    let count : length c.items-3.result.now ≡ length c.args.book = ap length (c.items-3.ensures ∙ c.in_ok-rules.ensures) ∙ length-map c.args.book rule_name in
    subst (λ n. TrustsAmong n c.in_ok-report.report) (sym count) (trusts_among c.args.book (stated_problem (g.T.Terms.state c.args.terms) c.args.problem) c.args.proof.now c.in_ok-report.report c.in_ok-report.ensures.0)
