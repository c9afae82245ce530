use Rattle.std.proofs.Common.{◌∙◌, ap, position}
use Rattle.std.specs.List.{list_any}
use Rattle.rare_proof.specs.Proofs.{is_equation}
use Rattle.rare_proof.specs.inner.Numbered.{sides_numbers}
use Rattle.rare_proof.proofs.Listing.{position_of_map, any_of_map}
use Rattle.rare_proof.proofs.proof.Proof.find.Goals as goal

pub returns-clause-place : goal.returns-clause-place
returns-clause-place c =
    c.get_index_of.ensures.index ∙ ap (position _) c.self.invariant.same ∙ position_of_map sides_numbers _ c.self.inside.steps
    ∙ ap (position (is_equation c.args.left c.args.right)) c.self.view_is

pub returns-clause-found : goal.returns-clause-found
returns-clause-found c =
    c.get_index_of.ensures.found ∙ ap (list_any _) c.self.invariant.same ∙ any_of_map sides_numbers _ c.self.inside.steps
    ∙ ap (list_any (is_equation c.args.left c.args.right)) c.self.view_is
