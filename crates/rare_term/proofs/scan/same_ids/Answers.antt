use Rattle.std.proofs.lemmas.Slice.Eq.{slice_eq-Decides}
use Rattle.rare_term.specs.inner.Keeping.{same_id}
use Rattle.rare_term.proofs.scan.same_ids.Goals as goal

pub returns : goal.returns
returns c = slice_eq-Decides (λ x y. same_id x y) _ _ _ c.eq.ensures
