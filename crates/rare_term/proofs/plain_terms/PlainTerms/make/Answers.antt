use Rattle.std.proofs.Common.{◌≡◌, ap, sym, refl, ◌∙◌, subst, [], ◌∷◌, ◌++◌, inl, inr}
use Rattle.rare_sort.specs.Ids.{trees_at}
use Rattle.rare_sort.specs.Trees.{node}
use Rattle.rare_term.specs.inner.Nodes.{IsAt, tree_of, trees_of}
use Rattle.rare_term.specs.inner.Prepared.{IsPrepared}
use Rattle.rare_term.specs.inner.Keeping.{built_push}
use Rattle.rare_term.proofs.MakeLemmas.{ids_of, found_told, added_told, pushed, last_term, kept_either}
use Rattle.rare_term.proofs.plain_terms.PlainTerms.make.Goals as goal

pub prepare-requires-clause-ids : goal.prepare-requires-clause-ids
prepare-requires-clause-ids c = rw c.items.ensures (ids_of c.args.self.now.nodes c.args.args.now c.requires.ids)

pub returns-in-Some-clause-id : goal.returns-in-Some-clause-id
returns-in-Some-clause-id c =
    let p = c.args.self.now in
    (found_told p.nodes c.items-3.result.now p.kept.nodes c.in-Some.k c.args.head c.args.indices.now c.items-4.result.now c.args.args.now c.in-Ok.prepared.operator
    c.items-3.ensures c.items-4.ensures c.in-Ok.ensures.prepared.operator c.in-Some.ensures.found).0

pub returns-in-Some-clause-made : goal.returns-in-Some-clause-made
returns-in-Some-clause-made c =
    let p = c.args.self.now in
    (found_told p.nodes c.items-3.result.now p.kept.nodes c.in-Some.k c.args.head c.args.indices.now c.items-4.result.now c.args.args.now c.in-Ok.prepared.operator
    c.items-3.ensures c.items-4.ensures c.in-Ok.ensures.prepared.operator c.in-Some.ensures.found).1

pub add-requires : goal.add-requires
add-requires c = c.args.self.now.kept.count

pub invariant_of-self-2 : goal.invariant_of-self-2
invariant_of-self-2 c =
    let p = c.args.self.now in
    let r = c.in-Ok.prepared in
    let q : IsPrepared p.nodes p.sorts p.declared c.args.head c.args.indices.now c.args.args.now r =
    subst (λ ss. IsPrepared p.nodes ss p.declared c.args.head c.args.indices.now c.args.args.now r) c.items-2.ensures
    (subst (λ ns. IsPrepared ns c.items-2.result.now p.declared c.args.head c.args.indices.now c.args.args.now r) c.items.ensures c.in-Ok.ensures.prepared) in
    let none = added_told p.nodes c.items-3.result.now r.operator.head r.operator.indices c.items-4.result.now c.args.args.now c.items-3.ensures c.items-4.ensures c.in_default.ensures.none in
    let more = pushed p.nodes p.sorts p.declared p.kept c.args.head c.args.indices.now c.args.args.now (ids_of p.nodes c.args.args.now c.requires.ids) c.requires.symbol c.requires.names
    r.operator r.nesting r.size r.sort q.operator q.nesting q.size q.accepted q.sort none
    _ (ap (λ x. record { head = r.operator.head; indices = r.operator.indices; args = x; nesting = r.nesting; size = r.size }) c.in-Ok-copy_ids.ensures) in
    record { kept = kept_either p.nodes c.add.new.nodes p.sorts c.add.new.sorts p.declared _ r.sort c.add.result p.kept more c.add.ensures.nodes c.add.ensures.sorts c.add.ensures.err }

pub returns-clause-id : goal.returns-clause-id
returns-clause-id c =
    let p = c.args.self.now in
    let r = c.in-Ok.prepared in
    (last_term p.nodes c.args.head c.args.indices.now c.args.args.now r.operator r.nesting r.size _ c.add.new.nodes c.in-Ok-add.id.0
    p.kept.nodes c.in-Ok.ensures.prepared.operator
    (ap (λ x. record { head = r.operator.head; indices = r.operator.indices; args = x; nesting = r.nesting; size = r.size }) c.in-Ok-copy_ids.ensures)
    c.in-Ok-add.ensures.nodes c.in-Ok-add.ensures.id).0

pub returns-clause-made : goal.returns-clause-made
returns-clause-made c =
    let p = c.args.self.now in
    let r = c.in-Ok.prepared in
    (last_term p.nodes c.args.head c.args.indices.now c.args.args.now r.operator r.nesting r.size _ c.add.new.nodes c.in-Ok-add.id.0
    p.kept.nodes c.in-Ok.ensures.prepared.operator
    (ap (λ x. record { head = r.operator.head; indices = r.operator.indices; args = x; nesting = r.nesting; size = r.size }) c.in-Ok-copy_ids.ensures)
    c.in-Ok-add.ensures.nodes c.in-Ok-add.ensures.id).1

pub returns-clause-grows : goal.returns-clause-grows
returns-clause-grows c =
    let p = c.args.self.now in
    let r = c.in-Ok.prepared in
    record {
      declared = refl;
      trees = inr (
          ap trees_of c.in-Ok-add.ensures.nodes ∙ built_push [] p.nodes _
          ∙ ap (λ t. trees_of p.nodes ++ t ∷ [])
          (ap (tree_of (trees_of p.nodes)) (ap (λ x. record { head = r.operator.head; indices = r.operator.indices; args = x; nesting = r.nesting; size = r.size }) c.in-Ok-copy_ids.ensures)
          ∙ ap (λ o. node o.head o.indices (trees_at (trees_of p.nodes) c.args.args.now)) c.in-Ok.ensures.prepared.operator)
          );
    }
