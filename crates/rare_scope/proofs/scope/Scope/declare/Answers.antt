use Rattle.std.proofs.Common.{◌≡◌, ℕ, false, List, [], ◌∷◌, ◌++◌, ap, sym, ◌∙◌, subst, length, map}
use Rattle.std.proofs.lemmas.List.{append-nil}
use Rattle.rare_scope.specs.Names.{Held, is_declared, IsNext, sort_number, symbol_number, width_number}
use Rattle.rare_scope.specs.inner.Places.{held_by, placed}
use Rattle.rare_scope.specs.declared.meaning.Meaning.{Meaning}
use Rattle.rare_scope.proofs.ScopeLemmas.{is_new}
use Rattle.rare_scope.proofs.PlaceLemmas.{Adds, held_grown, view_grown}
use Rattle.rare_scope.proofs.scope.Scope.declare.Goals as goal

pub add-requires : goal.add-requires
add-requires c =
    is_new c.args.name.now c.self.inside.names c.self.inside.meanings.items c.self.invariant.even
    (ap (λ (held : Held). is_declared held c.args.name.now) c.self.view_is ∙ c.requires.new)

pub invariant_of-self-in-Sort : goal.invariant_of-self-in-Sort
invariant_of-self-in-Sort c =
    held_grown c.self.inside.names c.self.inside.meanings.items c.self.inside.sorts.items c.self.inside.symbols.items c.self.inside.widths.items c.args.name.now c.args.meaning
    c.add.new.self c.push_reserved.new.items.items c.push_reserved-in-Sort.new.items.items c.reserve-3.new.self.items c.reserve-4.new.self.items
    c.self.invariant (ap (λ (held : Held). is_declared held c.args.name.now) c.self.view_is ∙ c.requires.new)
    (subst (λ (held : Held). IsNext held c.args.meaning) (sym c.self.view_is) c.requires.next)
    (record {
      names = c.in_ok-add.ensures.ok;
      meanings = c.push_reserved.ensures ∙ ap (λ xs. xs ++ c.args.meaning ∷ []) c.reserve.ensures.items;
      sorts = c.push_reserved-in-Sort.ensures ∙ ap (λ xs. xs ++ c.len-place.result ∷ []) c.reserve-2.ensures.items ∙ ap (λ (p : ℕ). c.self.inside.sorts.items ++ p ∷ []) c.len-place.ensures
          ∙ ap (λ (m : Meaning). placed sort_number m (length c.self.inside.names) c.self.inside.sorts.items) (sym c.in-Sort.is);
      symbols = c.reserve-3.ensures.items ∙ sym (append-nil c.self.inside.symbols.items)
          ∙ ap (λ (m : Meaning). placed symbol_number m (length c.self.inside.names) c.self.inside.symbols.items) (sym c.in-Sort.is);
      widths = c.reserve-4.ensures.items ∙ sym (append-nil c.self.inside.widths.items)
          ∙ ap (λ (m : Meaning). placed width_number m (length c.self.inside.names) c.self.inside.widths.items) (sym c.in-Sort.is);
    })

pub returns-in-Sort-clause-ok : goal.returns-in-Sort-clause-ok
returns-in-Sort-clause-ok c =
    view_grown c.self.inside.names c.self.inside.meanings.items c.self.inside.sorts.items c.self.inside.symbols.items c.self.inside.widths.items c.args.name.now c.args.meaning
    c.add.new.self c.push_reserved.new.items.items c.push_reserved-in-Sort.new.items.items c.reserve-3.new.self.items c.reserve-4.new.self.items
    c.args.self.now c.self.view_is c.self.invariant.even c.in_ok-add.ensures.ok (c.push_reserved.ensures ∙ ap (λ xs. xs ++ c.args.meaning ∷ []) c.reserve.ensures.items)

pub invariant_of-self-in-Symbol : goal.invariant_of-self-in-Symbol
invariant_of-self-in-Symbol c =
    held_grown c.self.inside.names c.self.inside.meanings.items c.self.inside.sorts.items c.self.inside.symbols.items c.self.inside.widths.items c.args.name.now c.args.meaning
    c.add.new.self c.push_reserved.new.items.items c.reserve-2.new.self.items c.push_reserved-in-Symbol.new.items.items c.reserve-4.new.self.items
    c.self.invariant (ap (λ (held : Held). is_declared held c.args.name.now) c.self.view_is ∙ c.requires.new)
    (subst (λ (held : Held). IsNext held c.args.meaning) (sym c.self.view_is) c.requires.next)
    (record {
      names = c.in_ok-add.ensures.ok;
      meanings = c.push_reserved.ensures ∙ ap (λ xs. xs ++ c.args.meaning ∷ []) c.reserve.ensures.items;
      sorts = c.reserve-2.ensures.items ∙ sym (append-nil c.self.inside.sorts.items)
          ∙ ap (λ (m : Meaning). placed sort_number m (length c.self.inside.names) c.self.inside.sorts.items) (sym c.in-Symbol.is);
      symbols = c.push_reserved-in-Symbol.ensures ∙ ap (λ xs. xs ++ c.len-place.result ∷ []) c.reserve-3.ensures.items ∙ ap (λ (p : ℕ). c.self.inside.symbols.items ++ p ∷ []) c.len-place.ensures
          ∙ ap (λ (m : Meaning). placed symbol_number m (length c.self.inside.names) c.self.inside.symbols.items) (sym c.in-Symbol.is);
      widths = c.reserve-4.ensures.items ∙ sym (append-nil c.self.inside.widths.items)
          ∙ ap (λ (m : Meaning). placed width_number m (length c.self.inside.names) c.self.inside.widths.items) (sym c.in-Symbol.is);
    })

pub returns-in-Symbol-clause-ok : goal.returns-in-Symbol-clause-ok
returns-in-Symbol-clause-ok c =
    view_grown c.self.inside.names c.self.inside.meanings.items c.self.inside.sorts.items c.self.inside.symbols.items c.self.inside.widths.items c.args.name.now c.args.meaning
    c.add.new.self c.push_reserved.new.items.items c.reserve-2.new.self.items c.push_reserved-in-Symbol.new.items.items c.reserve-4.new.self.items
    c.args.self.now c.self.view_is c.self.invariant.even c.in_ok-add.ensures.ok (c.push_reserved.ensures ∙ ap (λ xs. xs ++ c.args.meaning ∷ []) c.reserve.ensures.items)

pub invariant_of-self-in-Width : goal.invariant_of-self-in-Width
invariant_of-self-in-Width c =
    held_grown c.self.inside.names c.self.inside.meanings.items c.self.inside.sorts.items c.self.inside.symbols.items c.self.inside.widths.items c.args.name.now c.args.meaning
    c.add.new.self c.push_reserved.new.items.items c.reserve-2.new.self.items c.reserve-3.new.self.items c.push_reserved-in-Width.new.items.items
    c.self.invariant (ap (λ (held : Held). is_declared held c.args.name.now) c.self.view_is ∙ c.requires.new)
    (subst (λ (held : Held). IsNext held c.args.meaning) (sym c.self.view_is) c.requires.next)
    (record {
      names = c.in_ok-add.ensures.ok;
      meanings = c.push_reserved.ensures ∙ ap (λ xs. xs ++ c.args.meaning ∷ []) c.reserve.ensures.items;
      sorts = c.reserve-2.ensures.items ∙ sym (append-nil c.self.inside.sorts.items)
          ∙ ap (λ (m : Meaning). placed sort_number m (length c.self.inside.names) c.self.inside.sorts.items) (sym c.in-Width.is);
      symbols = c.reserve-3.ensures.items ∙ sym (append-nil c.self.inside.symbols.items)
          ∙ ap (λ (m : Meaning). placed symbol_number m (length c.self.inside.names) c.self.inside.symbols.items) (sym c.in-Width.is);
      widths = c.push_reserved-in-Width.ensures ∙ ap (λ xs. xs ++ c.len-place.result ∷ []) c.reserve-4.ensures.items ∙ ap (λ (p : ℕ). c.self.inside.widths.items ++ p ∷ []) c.len-place.ensures
          ∙ ap (λ (m : Meaning). placed width_number m (length c.self.inside.names) c.self.inside.widths.items) (sym c.in-Width.is);
    })

pub returns-in-Width-clause-ok : goal.returns-in-Width-clause-ok
returns-in-Width-clause-ok c =
    view_grown c.self.inside.names c.self.inside.meanings.items c.self.inside.sorts.items c.self.inside.symbols.items c.self.inside.widths.items c.args.name.now c.args.meaning
    c.add.new.self c.push_reserved.new.items.items c.reserve-2.new.self.items c.reserve-3.new.self.items c.push_reserved-in-Width.new.items.items
    c.args.self.now c.self.view_is c.self.invariant.even c.in_ok-add.ensures.ok (c.push_reserved.ensures ∙ ap (λ xs. xs ++ c.args.meaning ∷ []) c.reserve.ensures.items)

pub invariant_of-self-in-Term : goal.invariant_of-self-in-Term
invariant_of-self-in-Term c =
    held_grown c.self.inside.names c.self.inside.meanings.items c.self.inside.sorts.items c.self.inside.symbols.items c.self.inside.widths.items c.args.name.now c.args.meaning
    c.add.new.self c.push_reserved.new.items.items c.reserve-2.new.self.items c.reserve-3.new.self.items c.reserve-4.new.self.items
    c.self.invariant (ap (λ (held : Held). is_declared held c.args.name.now) c.self.view_is ∙ c.requires.new)
    (subst (λ (held : Held). IsNext held c.args.meaning) (sym c.self.view_is) c.requires.next)
    (record {
      names = c.in_ok-add.ensures.ok;
      meanings = c.push_reserved.ensures ∙ ap (λ xs. xs ++ c.args.meaning ∷ []) c.reserve.ensures.items;
      sorts = c.reserve-2.ensures.items ∙ sym (append-nil c.self.inside.sorts.items)
          ∙ ap (λ (m : Meaning). placed sort_number m (length c.self.inside.names) c.self.inside.sorts.items) (sym c.in-Term.is);
      symbols = c.reserve-3.ensures.items ∙ sym (append-nil c.self.inside.symbols.items)
          ∙ ap (λ (m : Meaning). placed symbol_number m (length c.self.inside.names) c.self.inside.symbols.items) (sym c.in-Term.is);
      widths = c.reserve-4.ensures.items ∙ sym (append-nil c.self.inside.widths.items)
          ∙ ap (λ (m : Meaning). placed width_number m (length c.self.inside.names) c.self.inside.widths.items) (sym c.in-Term.is);
    })

pub returns-in-Term-clause-ok : goal.returns-in-Term-clause-ok
returns-in-Term-clause-ok c =
    view_grown c.self.inside.names c.self.inside.meanings.items c.self.inside.sorts.items c.self.inside.symbols.items c.self.inside.widths.items c.args.name.now c.args.meaning
    c.add.new.self c.push_reserved.new.items.items c.reserve-2.new.self.items c.reserve-3.new.self.items c.reserve-4.new.self.items
    c.args.self.now c.self.view_is c.self.invariant.even c.in_ok-add.ensures.ok (c.push_reserved.ensures ∙ ap (λ xs. xs ++ c.args.meaning ∷ []) c.reserve.ensures.items)
