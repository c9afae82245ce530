-- Rewrites and commands as terms grow.
use Rattle.std.proofs.Common.{◌≡◌, suc, List, [], ◌∷◌, map, length, Result, Ok, Err, refl, ap, arith}
use Rattle.rare_term.specs.State.{State, Grows}
use Rattle.rare_text.specs.Stated.{HaveIds, stated_rewrite}
use Rattle.rare_text.specs.declared.problem.Rewrite.{Rewrite}
use Rattle.rare_proof.specs.declared.fault.StepFault.{StepFault}
use Rattle.rare_proof.specs.declared.step.StepRule.{StepRule}
use Rattle.rare_proof.proofs.Growing as step
use Rattle.rare_sexpr.specs.declared.tree.Sexpr.{Sexpr}
use Rattle.rare_proof_text.specs.Commands.{IsCommandOf, IsNamedRuleOf, command_at, named_rule, premise_ids}
use Rattle.rare_proof_text.specs.ProofCommands.{Define, Step}
use Rattle.rare_proof_text.specs.declared.command.ReadCommand.{ReadCommand}
use Rattle.rare_proof_text.specs.declared.command.ReadCommand.TheVariants as «read»

module _ (old new : State) (g : Grows old new) where
  pub rewrites_kept : (rs : List Rewrite) → HaveIds (length old.trees) rs → map (stated_rewrite new.trees) rs ≡ map (stated_rewrite old.trees) rs
  rewrites_kept [] h = refl
  rewrites_kept (r ∷ rs) h =
      let first = h 0 r (omega arith) in
      let left = step.tree_kept old new g r.left.0 first.0 in
      let right = step.tree_kept old new g r.right.0 first.1 in
      let rest = rewrites_kept rs (λ k d lt. h (suc k) d (omega arith)) in
      λ i. record { name = r.name; left = left i; right = right i } ∷ rest i

  pub sides_kept : (rs : List Rewrite) → HaveIds (length old.trees) rs → HaveIds (length new.trees) rs
  sides_kept rs h = λ k d lt. let b = h k d lt in let le = step.longer old new g in (omega (arith, le, b.0), omega (arith, le, b.1))

-- ---- commands

module _ (old new : State) (g : Grows old new) where
  rule_kept : (r : Result StepRule StepFault) → IsNamedRuleOf old r → named_rule new.trees r ≡ named_rule old.trees r
  rule_kept (Ok r) h = ap (λ x. Ok x) (step.rule_kept old new g r h)
  rule_kept (Err fault) h = refl

  pub command_is : {E : Type 0} (tree : E → Sexpr) (c : ReadCommand E) → IsCommandOf old c → command_at tree new.trees c ≡ command_at tree old.trees c
  command_is tree («read».Define name term) h = ap (Define name.now) (step.tree_kept old new g term.0 h)
  command_is tree («read».Step s) h =
      let sides = step.equation_kept old new g s.sides h.sides in
      let rule = rule_kept s.rule h.rule in
      λ i. Step (record { id = s.id.now; concluded = sides i; rule = rule i; premises = premise_ids tree s.premises })
  command_is tree («read».Conclude name id) h = refl
