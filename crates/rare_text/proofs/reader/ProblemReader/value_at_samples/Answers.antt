use Rattle.std.proofs.Common.{◌≡◌, sym, ◌∙◌, ap, subst}
use Rattle.std.proofs.lemmas.Result.{IfOk-weaker, on_ok_weaker}
use Rattle.rare_linear.specs.Linears.{number, linear_value, substitute, value_at}
use Rattle.rare_linear.specs.PartialSums.{PartialSumsFit}
use Rattle.rare_text.specs.Samples.{sample_number}
use Rattle.rare_text.specs.inner.SampleValues.{sample_values}
use Rattle.rare_text.proofs.AtSamples.{substituted, fits-Decides, fits_not}
use Rattle.rare_text.proofs.reader.ProblemReader.value_at_samples.Goals as goal

pub returns-clause-value : goal.returns-clause-value
returns-clause-value c =
    let e = c.args.e.now in
    let samples = c.args.self.now.problem.samples in
    let vs : c.items.result.now ≡ sample_values samples = c.items.ensures ∙ c.args.self.now.valued in
    IfOk-weaker c.substitute.result (λ l. l ≡ substitute (value_at c.items.result.now) e) (λ l. l ≡ number (linear_value (sample_number samples) e))
    (λ l h. h ∙ ap (λ ws. substitute (value_at ws) e) vs ∙ substituted samples e c.requires) c.substitute.ensures.substituted

pub returns-clause-fits : goal.returns-clause-fits
returns-clause-fits c =
    let e = c.args.e.now in
    let samples = c.args.self.now.problem.samples in
    let vs : c.items.result.now ≡ sample_values samples = c.items.ensures ∙ c.args.self.now.valued in
    on_ok_weaker c.substitute.result (λ h. (fits-Decides samples e c.requires).1 (subst (λ ws. PartialSumsFit (value_at ws) e) vs h)) c.substitute.ensures.within

pub returns-clause-too_large : goal.returns-clause-too_large
returns-clause-too_large c is =
    let e = c.args.e.now in
    let samples = c.args.self.now.problem.samples in
    let vs : c.items.result.now ≡ sample_values samples = c.items.ensures ∙ c.args.self.now.valued in
    fits_not samples e c.requires (λ h. c.substitute.ensures.too_large is (subst (λ ws. PartialSumsFit (value_at ws) e) (sym vs) h))
