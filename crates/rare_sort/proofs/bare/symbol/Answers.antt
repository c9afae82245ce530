use Rattle.std.proofs.Common.{◌≡◌, ◌&&◌, ap, sym, ◌∙◌, subst, IfOk, length, zip, nat_eq, All}
use Rattle.rare_sort.specs.Ids.{sorts_at}
use Rattle.rare_sort.specs.DeclaredSorts.{IsDeclaredSort}
use Rattle.rare_sort.specs.declared.sort.Signature.{Signature}
use Rattle.rare_sort.specs.Rulings.{all_one}
use Rattle.rare_sort.proofs.RulingLemmas.{symbol_ruled, at_place}
use Rattle.rare_sort.proofs.bare.symbol.Goals as goal

pub returns : goal.returns
returns c =
    let ss = sorts_at c.args.sorts.now c.args.args.now in
    let g = c.get-signature.result.now in
    let met = c.are_of-met.ensures ∙ ap (λ xs. nat_eq (length ss) (length xs) && all_one (zip ss xs)) c.items.ensures in
    let d = c.args.declared.now in
    let fine = (at_place (λ (s : Signature). All (IsDeclaredSort d) s.args × IsDeclaredSort d s.gives) d.symbols c.requires.declared.symbols c.args.symbol g c.get-signature.ensures).1.declared in
    subst (λ x. IfOk c.copy_where.result (λ r. r ≡ x))
    (symbol_ruled c.args.declared.now c.args.symbol g ss c.are_of-met.result c.get-signature.ensures fine met)
    c.copy_where.ensures
