-- The rules that tests put into books are in form.
use Rattle.std.proofs.Common.{refl}
use Rattle.rare_rule.specs.Rules.{IsInForm}
use Rattle.rare_rule.proofs.Walks.{walk-node, nesting-Bool, nesting-BitVec}
use Rattle.rare_rule.proofs.FormLemmas.{in_form}
use Rattle.rare_proof.specs.inner.TestRules.{swap, refute, low}

pub swap_form : IsInForm swap
swap_form = in_form swap refl (simp nesting-Bool refl) (simp walk-node refl) (simp walk-node refl) (simp walk-node refl)

pub refute_form : IsInForm refute
refute_form = in_form refute refl (simp nesting-Bool refl) (simp walk-node refl) (simp walk-node refl) (simp walk-node refl)

pub low_form : IsInForm low
low_form = in_form low refl (simp nesting-BitVec refl) (simp walk-node refl) (simp walk-node refl) (simp walk-node refl)
