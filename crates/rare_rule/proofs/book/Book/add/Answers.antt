use Rattle.std.proofs.Common.{refl, ap, sym, ◌∙◌, subst}
use Rattle.rare_rule.specs.Books.{is_name_in}
use Rattle.rare_rule.specs.TypedRule.{IsTypedRule}
use Rattle.rare_rule.specs.inner.Entries.{rules_of}
use Rattle.rare_rule.specs.declared.book.Entry.{Entry}
use Rattle.rare_rule.proofs.BookLemmas.{found, absent, at_end, grown, grown_typed, not_duplicate, no_error}
use Rattle.rare_rule.proofs.book.Book.add.Goals as goal

pub returns-then-contains-clause-duplicate : goal.returns-then-contains-clause-duplicate
returns-then-contains-clause-duplicate c =
    let name = c.bytes.ensures ∙ ap (λ r. r.name) c.rule-2.ensures.rule in
    let has = found c.args.rule.rule.name c.bytes.result.now c.self.inside.names (rules_of c.self.inside.entries) c.args.self.now c.contains.result c.contains.ensures name c.self.invariant.0 c.self.view_is in
    (λ e. sym has ∙ c.if-contains.true, λ h. refl)

pub returns-in-Err-clause-duplicate : goal.returns-in-Err-clause-duplicate
returns-in-Err-clause-duplicate c =
    let name = c.bytes.ensures ∙ ap (λ r. r.name) c.rule-2.ensures.rule in
    let has = found c.args.rule.rule.name c.bytes.result.now c.self.inside.names (rules_of c.self.inside.entries) c.args.self.now c.contains.result c.contains.ensures name c.self.invariant.0 c.self.view_is in
    not_duplicate (is_name_in c.args.rule.rule.name c.args.self.now) (sym has ∙ c.if-contains.false)

pub add-requires : goal.add-requires
add-requires c =
    let name = c.bytes.ensures ∙ ap (λ r. r.name) c.rule-2.ensures.rule in
    let has = found c.args.rule.rule.name c.bytes.result.now c.self.inside.names (rules_of c.self.inside.entries) c.args.self.now c.contains.result c.contains.ensures name c.self.invariant.0 c.self.view_is in
    let entry = at_end c.self.inside.entries c.push.new.self (record { typed = c.args.rule; shipped = c.args.shipped }) c.get.result.now c.len-last.result c.in_default.ensures.ok c.len-last.ensures c.get.ensures in
    let behind = c.bytes-name.ensures ∙ ap (λ r. r.name) c.rule-3.ensures.rule ∙ ap (λ x. x.typed.rule.name) entry in
    absent c.args.rule.rule.name c.bytes-name.result.now c.self.inside.names (rules_of c.self.inside.entries) c.args.self.now (sym has ∙ c.if-contains.false) behind c.self.invariant.0 c.self.view_is

pub returns-in-Err-add-clause-duplicate : goal.returns-in-Err-add-clause-duplicate
returns-in-Err-add-clause-duplicate c =
    let name = c.bytes.ensures ∙ ap (λ r. r.name) c.rule-2.ensures.rule in
    let has = found c.args.rule.rule.name c.bytes.result.now c.self.inside.names (rules_of c.self.inside.entries) c.args.self.now c.contains.result c.contains.ensures name c.self.invariant.0 c.self.view_is in
    not_duplicate (is_name_in c.args.rule.rule.name c.args.self.now) (sym has ∙ c.if-contains.false)

pub invariant_of-self-in_default-add : goal.invariant_of-self-in_default-add
invariant_of-self-in_default-add c =
    let e : Entry = record { typed = c.args.rule; shipped = c.args.shipped } in
    let entry = at_end c.self.inside.entries c.push.new.self e c.get.result.now c.len-last.result c.in_default.ensures.ok c.len-last.ensures c.get.ensures in
    let behind = c.bytes-name.ensures ∙ ap (λ r. r.name) c.rule-3.ensures.rule ∙ ap (λ x. x.typed.rule.name) entry in
    (grown c.self.inside.names c.add.new.self c.bytes-name.result.now c.self.inside.entries c.push.new.self e c.self.invariant.0 c.in_default.ensures.ok c.in_default-add.ensures.ok behind, grown_typed c.self.inside.entries c.push.new.self e c.self.invariant.1 c.in_default.ensures.ok (subst IsTypedRule c.rule.view_is c.rule.invariant))

pub returns-clause-duplicate : goal.returns-clause-duplicate
returns-clause-duplicate c =
    let name = c.bytes.ensures ∙ ap (λ r. r.name) c.rule-2.ensures.rule in
    let has = found c.args.rule.rule.name c.bytes.result.now c.self.inside.names (rules_of c.self.inside.entries) c.args.self.now c.contains.result c.contains.ensures name c.self.invariant.0 c.self.view_is in
    no_error (is_name_in c.args.rule.rule.name c.args.self.now) (sym has ∙ c.if-contains.false)
