use Rattle.std.proofs.Common.{◌∷◌, [], ◌++◌, ◌∙◌, ap, sym, map, if◌then◌else◌}
use Rattle.std.proofs.lemmas.List.{map-append}
use Rattle.std.specs.List.{list_any}
use Rattle.rare_proof.specs.Proofs.{is_equation}
use Rattle.rare_proof.specs.inner.Numbered.{sides_numbers}
use Rattle.rare_proof.proofs.Listing.{any_of_map}
use Rattle.rare_proof.proofs.proof.Proof.push.Goals as goal

pub invariant_of-self-in_default : goal.invariant_of-self-in_default
invariant_of-self-in_default c =
    let keys = c.self.inside.equations.keys in
    let steps = c.self.inside.steps in
    let key = sides_numbers c.args.step in
    let none =
    ap (list_any _) c.self.invariant.same ∙ any_of_map sides_numbers _ steps ∙ ap (list_any (is_equation c.args.step.left c.args.step.right)) c.self.view_is ∙ c.requires in
    record {
      same =
          c.in_default.ensures.keys ∙ ap (λ b. if b then keys else (keys ++ key ∷ [])) none ∙ ap (λ ks. ks ++ key ∷ []) c.self.invariant.same
          ∙ sym (map-append sides_numbers steps (c.args.step ∷ [])) ∙ ap (map sides_numbers) (sym c.in_ok-push.ensures.ok);
    }
