use Rattle.std.proofs.Common.{All, ◌∷◌, [], ◌∙◌, List, length, get_or, Some, ap, sym, subst, arith}
use Rattle.std.proofs.lemmas.List.{map-append}
use Rattle.std.proofs.lemmas.List.Elements.{All-push}
use Rattle.std.proofs.lemmas.Option.{slice_get-get_or}
use Rattle.rare_proof.specs.declared.sides.Sides.{Sides}
use Rattle.rare_proof.specs.declared.step.Step.{Step}
use Rattle.rare_proof.specs.Proofs.{IsStepOf, concluded_by}
use Rattle.rare_proof.specs.Sided.{AreSides, AllAreSides, equation_of, equations_of}
use Rattle.rare_proof.specs.Steps.{equations_at}
use Rattle.rare_proof.proofs.Premises.{equations_more, equations_stop, concluded_at, none_at, step_at}
use Rattle.rare_proof.proofs.proof.Proof.premises_at.Goals as goal

pub returns-then-place-len-clause-found : goal.returns-then-place-len-clause-found
returns-then-place-len-clause-found c = λ ts.
    let k = c.loop-place.place-index in
    let place = get_or c.args.places.now k 0 in
    let at = slice_get-get_or c.args.places.now k 0 (omega arith) in
    sym (ap (λ ss. equations_at (concluded_by ts ss) c.args.places.now) (sym c.self.view_is)
    ∙ equations_stop (concluded_by ts c.self.inside.steps) c.args.places.now k place at (none_at ts c.self.inside.steps place (λ lt. omega (arith, lt, c.len.ensures, c.if-place-len.true))))

pub loop-place-preserved : goal.loop-place-preserved
loop-place-preserved c =
    let k = c.loop-place.place-index in
    let place = get_or c.args.places.now k 0 in
    let at = slice_get-get_or c.args.places.now k 0 (omega arith) in
    let step = c.get-step.result.now in
    let sides : Sides = record { left = step.left; right = step.right } in
    record {
      found = λ ts.
          equations_more (concluded_by ts c.self.inside.steps) c.args.places.now k place (equations_of ts c.loop-place.premises) (equation_of ts sides) (c.loop-place.invariant.found ts) at
          (concluded_at ts c.self.inside.steps place step c.get-step.ensures)
          ∙ ap Some (sym (map-append (equation_of ts) c.loop-place.premises (sides ∷ [])) ∙ ap (equations_of ts) (sym c.in_ok-push.ensures.ok));
      ids = λ s h.
          let one = step_at s c.self.inside.steps place step h c.get-step.ensures in
          let P : List Sides → Type 0 = λ xs. AllAreSides (length s.trees) xs in
          subst P (sym c.in_ok-push.ensures.ok) (All-push (AreSides (length s.trees)) c.loop-place.premises sides (c.loop-place.invariant.ids s h) (record { left = one.left; right = one.right }));
    }

pub returns-clause-ids : goal.returns-clause-ids
returns-clause-ids c = λ s h.
    let P : List Step → Type 0 = λ ss. All (IsStepOf s) ss in
    c.loop-place.invariant.ids s (subst P (sym c.self.view_is) h)
