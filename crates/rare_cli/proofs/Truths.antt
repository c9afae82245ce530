-- Where each verdict is valid, each rewrite of the problem is true.
use Rattle.std.proofs.Common.{◌≡◌, ℕ, zero, suc, Bool, true, false, ◌&&◌, List, [], ◌∷◌, Option, Some, None, Result, Ok, Err, refl, sym, ap, subst}
use Rattle.std.specs.Prelude.{slice_get}
use Rattle.std.specs.List.{list_all, list_any}
use Rattle.rare_base.specs.Answers.{Refusal}
use Rattle.rare_check.specs.declared.report.Report.TheVariants.{Checked}
use Rattle.rare_check.specs.declared.report.Verdict.{Verdict}
use Rattle.rare_check.specs.declared.report.Verdict.TheVariants.{Valid, Missing}
use Rattle.rare_text.specs.Problems.{StatedProblem, StatedRewrite}
use Rattle.rare_proof_text.specs.ProofText.{proof_of}
use Rattle.rare_proof_text.specs.ProofCommands.{ProofCommand}
use Rattle.rare_check.specs.Verdicts.{Bad, first_bad, concludes, verdict_by, trusted_of, verdicts_from, report_by, report_of, on_proof, checked, ValidAreTrue}
use Rattle.rare_cli.specs.Outcomes.{is_valid}
use Rattle.rare_meaning.specs.Interpretations.{FunctionClass}
use Rattle.rare_rule.specs.Books.{BookRule}
use Rattle.rare_cli.specs.Statuses.{AllAreTrue}

both_true : (a b : Bool) → (a && b) ≡ true → (a ≡ true) × (b ≡ true)
both_true true b e = (refl, e)
both_true false b e = absurd cc

valid_verdict : (v : Verdict) → is_valid v ≡ true → v ≡ Valid
valid_verdict Valid e = refl
valid_verdict Missing e = absurd cc

-- where all verdicts are valid, each rewrite has the verdict valid
all_valid : (rewrites : List StatedRewrite) (commands : List ProofCommand) (k : ℕ) (rs : List StatedRewrite) →
    list_all is_valid (verdicts_from rewrites commands k rs) ≡ true → (j : ℕ) (r : StatedRewrite) → slice_get rs j ≡ Some r →
    slice_get (verdicts_from rewrites commands k rs) j ≡ Some Valid
all_valid rewrites commands k [] e j r at = absurd cc
all_valid rewrites commands k (x ∷ xs) e zero r at =
    let v = verdict_by (list_any (concludes rewrites k) commands) in
    ap Some (valid_verdict v (both_true (is_valid v) _ e).0)
all_valid rewrites commands k (x ∷ xs) e (suc j) r at =
    let v = verdict_by (list_any (concludes rewrites k) commands) in
    all_valid rewrites commands (suc k) xs (both_true (is_valid v) _ e).1 j r at

verdicts_in : (bad : Option Bad) (vs verdicts : List Verdict) (ks trusted : List ℕ) → report_by bad vs ks ≡ Checked verdicts trusted → vs ≡ verdicts
verdicts_in None vs verdicts ks trusted e = cc
verdicts_in (Some bad) vs verdicts ks trusted e = absurd cc

pub all_true : (c : FunctionClass) (book : List BookRule) (p : StatedProblem) (text : List ℕ) (verdicts : List Verdict) (trusted : List ℕ) → checked book p text ≡ Ok (Checked verdicts trusted) →
    list_all is_valid verdicts ≡ true → ValidAreTrue c p (Checked verdicts trusted) → AllAreTrue c p
all_true c book p text verdicts trusted is valid true_where = by (proof_of p book text) is
  where
    by : (read : Result (List ProofCommand) Refusal) → on_proof (report_of p.declared book p.rewrites) read ≡ Ok (Checked verdicts trusted) → AllAreTrue c p
    by (Err fault) e = absurd cc
    by (Ok commands) e =
        let report : report_of p.declared book p.rewrites commands ≡ Checked verdicts trusted = cc in
        let same : verdicts_from p.rewrites commands 0 p.rewrites ≡ verdicts =
        verdicts_in (first_bad p.declared book p.rewrites [] commands) _ verdicts (trusted_of book commands) trusted report in
        λ k r at.
        let P : List Verdict → Type 0 = λ vs. list_all is_valid vs ≡ true in
        let Q : List Verdict → Type 0 = λ vs. slice_get vs k ≡ Some Valid in
        true_where k r at (subst Q same (all_valid p.rewrites commands 0 p.rewrites (subst P (sym same) valid) k r at))
