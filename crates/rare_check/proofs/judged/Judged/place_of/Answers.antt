use Rattle.std.proofs.Common.{ap, sym, ◌∙◌}
use Rattle.rare_check.proofs.Naming.{at_place, place_at}
use Rattle.rare_check.proofs.judged.Judged.place_of.Goals as goal

pub returns-in-Some : goal.returns-in-Some
returns-in-Some c =
    let j = c.args.self.now in
    sym (place_at c.args.id.now j.ids j.places c.requires ∙ ap (at_place j.places) (sym c.find.ensures ∙ c.in-Some.is) ∙ c.get.ensures)

pub returns-in-None : goal.returns-in-None
returns-in-None c =
    let j = c.args.self.now in
    sym (place_at c.args.id.now j.ids j.places c.requires ∙ ap (at_place j.places) (sym c.find.ensures ∙ c.in-None.is))
