-- A new checker answers what its whole text gives.
use Rattle.std.proofs.Common.{◌≡◌, ◌∙◌, ◌<◌, ℕ, zero, suc, true, false, nat_eq, List, [], ◌∷◌, All, None, Ok, Err, length, take, refl, sym, ap, subst, arith}
use Rattle.std.proofs.lemmas.List.Elements.{All-nil}
use Rattle.std.proofs.lemmas.Option.{none-some}
use Rattle.std.specs.Option.{option_map}
use Rattle.std.specs.List.{list_any}
use Rattle.rare_sexpr.specs.Streams.{Stream, new_stream}
use Rattle.rare_sort.specs.declared.declarations.Declarations.{Declarations}
use Rattle.rare_sort.specs.declared.tree.Tree.{Tree}
use Rattle.rare_rule.specs.Books.{AreTyped, BookRule}
use Rattle.rare_term.specs.State.{State}
use Rattle.rare_scope.specs.Names.{Held, AreMeant, meant, names_of}
use Rattle.rare_meaning.specs.Interpretations.{FunctionClass}
use Rattle.rare_scope.specs.Reading.{Read}
use Rattle.rare_text.specs.Stated.{HaveIds, stated_problem}
use Rattle.rare_text.specs.declared.problem.Problem.{Problem}
use Rattle.rare_proof.specs.Proofs.{HasArguments, IsProofOver, IsStepOf, concluded_by}
use Rattle.rare_proof.specs.declared.step.Step.{Step}
use Rattle.rare_text.specs.Problems.{StatedProblem, StatedRewrite}
use Rattle.rare_proof_text.specs.ProofText.{proof_of}
use Rattle.rare_proof_text.specs.ProofCommands.{ProofCommand}
use Rattle.rare_check.specs.declared.report.Report.{Report}
use Rattle.rare_check.specs.declared.judged.Judged.{Judged}
use Rattle.rare_check.specs.inner.Judging.{AreNamedRules, IsNamedRule, bad_of, named_equations}
use Rattle.rare_check.specs.inner.Kept.{IsHeld, checking_of}
use Rattle.rare_check.specs.Verdicts.{ShippedHold, concludes, verdict_by, trusted_of, verdicts_from, report_of, report_by, first_bad, checked, on_proof}
use Rattle.rare_check.specs.Checking.{Progress, start, answer, verdicts_with, report_with}

verdicts_start : (rewrites : List StatedRewrite) (commands : List ProofCommand) (k : ℕ) (rs : List StatedRewrite) →
    verdicts_with rewrites [] commands k rs ≡ verdicts_from rewrites commands k rs
verdicts_start rewrites commands k [] = refl
verdicts_start rewrites commands k (r ∷ rs) = ap (λ vs. verdict_by (list_any (concludes rewrites k) commands) ∷ vs) (verdicts_start rewrites commands (suc k) rs)

abbrev no_progress : Progress
no_progress = record { earlier = []; concluded = []; bad = None }

report_start : (d : Declarations) (book : List BookRule) (rewrites : List StatedRewrite) (commands : List ProofCommand) →
    report_with d book rewrites no_progress [] commands ≡ report_of d book rewrites commands
report_start d book rewrites commands =
    ap (λ vs. report_by (first_bad d book rewrites [] commands) vs (trusted_of book commands)) (verdicts_start rewrites commands 0 rewrites)

on_same : (f g : List ProofCommand → Report) → ((commands : List ProofCommand) → f commands ≡ g commands) → (read : Read (List ProofCommand)) → on_proof f read ≡ on_proof g read
on_same f g same (Ok commands) = ap (λ r. Ok r) (same commands)
on_same f g same (Err fault) = refl

pub answer_start : (book : List BookRule) (p : StatedProblem) (bytes : List ℕ) → answer (start book p) bytes ≡ checked book p bytes
answer_start book p bytes =
    on_same (report_with p.declared book p.rewrites no_progress []) (report_of p.declared book p.rewrites) (report_start p.declared book p.rewrites) (proof_of p book bytes)

whole_names : (ts : List Tree) (scope : Held) (known : ℕ) → known ≡ length scope → take known (names_of ts scope) ≡ names_of ts scope
whole_names ts [] zero n = refl
whole_names ts [] (suc k) n = absurd (omega (arith, n))
whole_names ts (x ∷ scope) zero n = absurd (omega (arith, n))
whole_names ts (x ∷ scope) (suc k) n = ap (λ names. (x.0, meant ts x.1) ∷ names) (whole_names ts scope k (omega (arith, n)))

-- what a new checker holds
pub begun : (s : State) (book : List BookRule) (known : ℕ) (p : Problem) (j : Judged) (left : Stream) → known ≡ length p.scope → j.ids ≡ [] → j.places ≡ [] → j.concluded.keys ≡ [] → j.named.keys ≡ [] → j.bad ≡ None → left ≡ new_stream →
    checking_of s book known p j left None ≡ start book (stated_problem s p)
begun s book known p j left n ids places keys named bad new = λ i. record {
  problem = record (stated_problem s p) { names = whole_names s.trees p.scope known n i };
  book = book;
  names = names_of s.trees p.scope;
  earlier = named_equations (concluded_by s.trees j.proof) (ids i) (places i);
  concluded = keys i;
  named = named i;
  bad = option_map bad_of (bad i);
  left = new i;
  stopped = None;
}

no_proof : (s : State) (book : List BookRule) → IsProofOver s book []
no_proof s book = record {
  are = All-nil (IsStepOf s);
  proof = record {
    valid = λ k x at. absurd (none-some x at);
    arguments = All-nil (λ x. HasArguments s.declared x.rule);
    differ = λ j k e at also. absurd (none-some e at);
  };
}

pub held_start : (s : State) (book : List BookRule) (p : Problem) (j : Judged) → AreTyped book → ((c : FunctionClass) → ShippedHold c book) → HaveIds (length s.trees) p.rewrites → AreMeant s p.scope →
    j.ids ≡ [] → j.places ≡ [] → j.proof ≡ [] → j.concluded.keys ≡ [] → IsHeld s book p.rewrites p.scope j
held_start s book p j typed shipped sides meant ids places proof keys = record {
  typed = typed;
  shipped = shipped;
  sides = sides;
  meant = meant;
  steps = record {
    matched = ap length ids ∙ sym (ap length places);
    within = (let P : List ℕ → Type 0 = λ ks. All (λ k. k < length j.proof) ks in subst P (sym places) (All-nil (λ k. k < length j.proof)));
    proof = (let P : List Step → Type 0 = λ ss. IsProofOver s book ss in subst P (sym proof) (no_proof s book));
  };
  rules = (let P : List Step → Type 0 = λ ss. AreNamedRules j.named.keys ss in subst P (sym proof) (All-nil (λ step. IsNamedRule j.named.keys step.by)));
  sound = λ c hold k r is at. let e : true ≡ false = sym is ∙ ap (list_any (nat_eq k)) keys in cc;
}
