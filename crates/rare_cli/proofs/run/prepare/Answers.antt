use Rattle.std.proofs.Common.{option_map, Some, ap, sym, ◌∙◌}
use Rattle.rare_cli.specs.WordForms.{asked_by}
use Rattle.rare_cli.specs.inner.Prepared.{form_asked}
use Rattle.rare_cli.proofs.Runs.{checked_allowed, listed_allowed}
use Rattle.rare_cli.proofs.run.prepare.Goals as goal

pub returns-in-Some-Check-clause-allowed : goal.returns-in-Some-Check-clause-allowed
returns-in-Some-Check-clause-allowed g c =
    let form = ap asked_by (sym c.items.ensures) ∙ c.read_form.ensures ∙ ap (option_map form_asked) c.in-Some-Check.is ∙ ap (λ f. Some (form_asked f)) c.in-Some-Check.field-0-is in
    checked_allowed _ _ _ _ form c.check.ensures.checked

pub returns-in-Some-Types-clause-allowed : goal.returns-in-Some-Types-clause-allowed
returns-in-Some-Types-clause-allowed g c =
    let form = ap asked_by (sym c.items.ensures) ∙ c.read_form.ensures ∙ ap (option_map form_asked) c.in-Some-Types.is ∙ ap (λ f. Some (form_asked f)) c.in-Some-Types.field-0-is in
    listed_allowed _ _ _ _ form c.list_types.ensures.listed
