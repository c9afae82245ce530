-- How far a proof has come after some commands, and after one more.
use Rattle.std.specs.Prelude.{ℕ, nat_eq, List, [], ◌∷◌, ◌++◌, Option, Some, None, Ok, if◌then◌else◌}
use Rattle.std.specs.List.{list_any}
use Rattle.rare_sort.specs.declared.tree.Tree.{Tree}
use Rattle.rare_sort.specs.declared.declarations.Declarations.{Declarations}
use Rattle.rare_rule.specs.Books.{BookRule}
use Rattle.rare_text.specs.Problems.{StatedRewrite}
use Rattle.rare_proof.specs.Steps.{Rewrite}
use Rattle.rare_proof_text.specs.ArgumentText.{NamedRule}
use Rattle.rare_proof.specs.declared.fault.StepFault.{StepFault}
use Rattle.rare_proof_text.specs.ProofCommands.{ProofCommand, Define, Step, Conclude}
use Rattle.rare_check.specs.declared.judged.Judged.{Judged}
use Rattle.rare_check.specs.Verdicts.{Bad, fault_of, name_of, added_by, rewrite_place}
use Rattle.rare_check.specs.Checking.{Progress}
use Rattle.rare_check.specs.inner.Judging.{earlier_of, bad_in}

abbrev pub progress_of : List Tree → Judged → Progress
progress_of ts j = record { earlier = earlier_of ts j; concluded = j.concluded.keys; bad = bad_in j }

abbrev pub with_place : List ℕ → Option ℕ → List ℕ
with_place places None = places
with_place places (Some k) = if list_any (nat_eq k) places then places else (places ++ k ∷ [])

abbrev pub concluded_after : List StatedRewrite → List ℕ → ProofCommand → List ℕ
concluded_after rewrites places (Define name t) = places
concluded_after rewrites places (Step s) = places
concluded_after rewrites places (Conclude name id) = with_place places (rewrite_place rewrites name)

abbrev pub named_by : NamedRule → Option ℕ
named_by (Ok (Rewrite k args)) = Some k
named_by r = None

-- the rules that are named behind a command, whether or not it is valid
abbrev pub named_after : List ℕ → ProofCommand → List ℕ
named_after named (Define name t) = named
named_after named (Step s) = with_place named (named_by s.rule)
named_after named (Conclude name id) = named

module _ (d : Declarations) (book : List BookRule) (rewrites : List StatedRewrite) where
  abbrev pub by_fault : Progress → ProofCommand → Option StepFault → Progress
  by_fault p c (Some fault) = record p { bad = Some (record { name = name_of c; fault = fault }) }
  by_fault p c None = record p { earlier = p.earlier ++ added_by c; concluded = concluded_after rewrites p.concluded c }

  abbrev pub unless_bad : Progress → ProofCommand → Option Bad → Progress
  unless_bad p c (Some bad) = p
  unless_bad p c None = by_fault p c (fault_of d book rewrites p.earlier c)

  -- a bad command stands, and nothing behind it counts
  abbrev pub progress : Progress → ProofCommand → Progress
  progress p c = unless_bad p c p.bad
