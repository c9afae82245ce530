use Rattle.std.proofs.Common.{◌≡◌, ◌⊎◌, ℕ, List, [], ◌∷◌, ◌++◌, inl, inr, refl, sym, ap, ◌∙◌}
use Rattle.std.proofs.lemmas.List.{append-nil}
use Rattle.std.proofs.lemmas.Slice.Zip.{either_empty_from_Zip}
use Rattle.std.specs.Iterator.Adapters.{zip_first, zip_second}
use Rattle.std.specs.Slice.Iter.{iter_rest}
use Rattle.std.specs.List.{flat_map, zip}
use Rattle.rare_cli.specs.Outcomes.{rewrite_line}
use Rattle.rare_check.specs.declared.report.Verdict.{Verdict}
use Rattle.rare_cli.proofs.report.write_verdicts.Goals as goal

zip_none : (names : List (List ℕ)) (verdicts : List Verdict) → (names ≡ []) ⊎ (verdicts ≡ []) → flat_map rewrite_line (zip names verdicts) ≡ []
zip_none names verdicts (inl e) = ap (λ ns. flat_map rewrite_line (zip ns verdicts)) e
zip_none [] verdicts (inr e) = refl
zip_none (n ∷ ns) verdicts (inr e) = ap (λ vs. flat_map rewrite_line (zip (n ∷ ns) vs)) e

pub returns : goal.returns
returns c =
    let left = either_empty_from_Zip c.loop-name.name-iterator c.next.new.self c.next.result c.in-None.is c.next.ensures.steps in
    let none = zip_none (iter_rest (zip_first c.loop-name.name-iterator)) (iter_rest (zip_second c.loop-name.name-iterator)) left in
    sym (append-nil c.loop-name.out) ∙ ap (λ more. c.loop-name.out ++ more) (sym none) ∙ c.loop-name.invariant
