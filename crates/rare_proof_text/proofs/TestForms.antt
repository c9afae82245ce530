-- The rules that tests put into books are in form.
use Rattle.std.proofs.Common.{refl}
use Rattle.rare_rule.specs.Rules.{IsInForm}
use Rattle.rare_rule.proofs.Walks.{walk-node, nesting-Bool, nesting-BitVec, nesting-Named}
use Rattle.rare_rule.proofs.FormLemmas.{in_form}
use Rattle.rare_proof_text.specs.inner.TestRules.{swap, kinds}

pub swap_form : IsInForm swap
swap_form = in_form swap refl (simp nesting-Bool refl) (simp walk-node refl) (simp walk-node refl) (simp walk-node refl)

pub kinds_form : IsInForm kinds
kinds_form = in_form kinds refl (simp (nesting-Bool, nesting-BitVec, nesting-Named) refl) (simp walk-node refl) (simp walk-node refl) (simp walk-node refl)
