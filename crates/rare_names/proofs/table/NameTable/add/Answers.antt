use Rattle.std.proofs.Common.{◌≡◌, false, ◌∷◌, [], ◌++◌, ◌∙◌, ap, sym, subst, map, bytes_eq, if◌then◌else◌}
use Rattle.std.proofs.lemmas.List.{map-append}
use Rattle.std.specs.List.{list_any}
use Rattle.rare_names.specs.inner.Names.{AllDiffer}
use Rattle.rare_names.proofs.Lookups.{any-map, differ-append, holds_after}
use Rattle.rare_names.proofs.table.NameTable.add.Goals as goal

pub returns-clause-ok : goal.returns-clause-ok
returns-clause-ok c =
    let keys = c.self.inside.names.keys in
    let name = c.in_ok-name.name in
    let none = ap (λ n. list_any (λ v. bytes_eq n v.items) keys) c.in_ok-name.ensures.items ∙ sym (any-map (λ v. v.items) (bytes_eq c.args.name.now) keys)
    ∙ ap (list_any (bytes_eq c.args.name.now)) c.self.view_is ∙ c.requires in
    ap (map (λ v. v.items)) (c.in_ok-insert.ensures.keys ∙ ap (λ b. if b then keys else (keys ++ name ∷ [])) none)
    ∙ map-append (λ v. v.items) keys (name ∷ [])
    ∙ ap (λ ns. ns ++ name.items ∷ []) c.self.view_is ∙ ap (λ n. c.args.self.now ++ n ∷ []) c.in_ok-name.ensures.items

pub invariant_of-self-2 : goal.invariant_of-self-2
invariant_of-self-2 c =
    let keys = c.self.inside.names.keys in
    let name = c.in_ok-name.name in
    let fresh : list_any (bytes_eq name.items) (map (λ v. v.items) keys) ≡ false =
    ap (λ n. list_any (bytes_eq n) (map (λ v. v.items) keys)) c.in_ok-name.ensures.items ∙ ap (list_any (bytes_eq c.args.name.now)) c.self.view_is ∙ c.requires in
    let none : list_any (λ v. bytes_eq name.items v.items) keys ≡ false = sym (any-map (λ v. v.items) (bytes_eq name.items) keys) ∙ fresh in
    let grown = ap (λ b. map (λ v. v.items) (if b then keys else (keys ++ name ∷ []))) none ∙ map-append (λ v. v.items) keys (name ∷ []) in
    holds_after c.insert.result keys c.insert.new.self.keys _ (λ ks. AllDiffer (map (λ v. v.items) ks)) c.insert.ensures.keys c.insert.ensures.err c.self.invariant
    (subst AllDiffer (sym grown) (differ-append (map (λ v. v.items) keys) name.items c.self.invariant fresh))
