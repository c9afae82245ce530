-- The list of the rules of a book.
use Rattle.std.proofs.Common.{◌≡◌, ℕ, zero, suc, ◌+◌, ◌<◌, All, Bool, true, false, ◌&&◌, List, [], ◌∷◌, ◌++◌, codes, length, take, IsTrue, Some, refl, sym, ap, ◌∙◌, arith, append_assoc}
use Rattle.std.proofs.lemmas.List.{append-nil, flat_map_more, get_or_read, take_more}
use Rattle.std.proofs.lemmas.List.Elements.{All-get_or}
use Rattle.std.proofs.lemmas.Option.{same_Some}
use Rattle.std.specs.Prelude.{get_or}
use Rattle.std.specs.List.{flat_map}
use Rattle.rare_linear.specs.declared.constraint.Constraint.{Constraint}
use Rattle.rare_rule.specs.ParamForms.{are_numbers, are_bounds}
use Rattle.rare_rule.specs.Books.{BookRule, rule_names, typed_at}
use Rattle.rare_rule.specs.TypedRule.{TypedRule}
use Rattle.rare_sexpr.specs.Written.{written_symbol}
use Rattle.rare_cli.specs.Outcomes.{line, rule_line, trust_line, types_text}
use Rattle.rare_rule.specs.declared.param.Param.{Param}

both : (a b : Bool) → IsTrue (a && b) → IsTrue a × IsTrue b
both true b h = (refl, h)
both false b h = absurd cc

-- each constraint is over numbers
pub numbers_at : (ps : List Param) (cs : List Constraint) (k : ℕ) (c d : Constraint) → IsTrue (are_bounds ps cs) → k < length cs → c ≡ get_or cs k d → IsTrue (are_numbers ps c.floor.parts)
numbers_at ps [] k c d h lt is = absurd (omega (arith, lt))
numbers_at ps (x ∷ cs) zero c d h lt is = ap (λ (y : Constraint). are_numbers ps y.floor.parts) is ∙ (both (are_numbers ps x.floor.parts) (are_bounds ps cs) h).0
numbers_at ps (x ∷ cs) (suc k) c d h lt is = numbers_at ps cs k c d (both (are_numbers ps x.floor.parts) (are_bounds ps cs) h).1 (omega (arith, lt)) is

-- the lines of one rule more
lines_take : (bs : List BookRule) (k : ℕ) (t : TypedRule) → typed_at bs k ≡ Some t → types_text (take (suc k) bs) ≡ types_text (take k bs) ++ rule_line t
lines_take [] k t is = absurd cc
lines_take (b ∷ bs) zero t is = append-nil (rule_line b.typed) ∙ ap rule_line (same_Some b.typed t is)
lines_take (b ∷ bs) (suc k) t is = ap (λ text. rule_line b.typed ++ text) (lines_take bs k t is) ∙ sym (append_assoc (rule_line b.typed) (types_text (take k bs)) (rule_line t))

pub line_more : (bs : List BookRule) (k : ℕ) (t : TypedRule) (text new : List ℕ) → typed_at bs k ≡ Some t → text ≡ types_text (take k bs) → new ≡ text ++ rule_line t → new ≡ types_text (take (k + 1) bs)
line_more bs k t text new is so more =
    let next : suc k ≡ k + 1 = omega arith in
    more ∙ ap (λ x. x ++ rule_line t) so ∙ sym (lines_take bs k t is) ∙ ap (λ n. types_text (take n bs)) next

-- the name of one rule more
name_take : (bs : List BookRule) (k : ℕ) (t : TypedRule) → typed_at bs k ≡ Some t → rule_names (take (suc k) bs) ≡ rule_names (take k bs) ++ t.rule.name ∷ []
name_take [] k t is = absurd cc
name_take (b ∷ bs) zero t is = ap (λ (t : TypedRule). t.rule.name ∷ []) (same_Some b.typed t is)
name_take (b ∷ bs) (suc k) t is = ap (λ names. b.typed.rule.name ∷ names) (name_take bs k t is)

pub name_more : (bs : List BookRule) (k : ℕ) (t : TypedRule) (names new : List (List ℕ)) → typed_at bs k ≡ Some t → names ≡ rule_names (take k bs) → new ≡ names ++ t.rule.name ∷ [] →
    new ≡ rule_names (take (k + 1) bs)
name_more bs k t names new is so more =
    let next : suc k ≡ k + 1 = omega arith in
    more ∙ ap (λ x. x ++ t.rule.name ∷ []) so ∙ sym (name_take bs k t is) ∙ ap (λ n. rule_names (take n bs)) next

-- the line of one trusted rule more
pub trust_more : (rules : List (List ℕ)) (ks : List ℕ) (i : ℕ) (name bytes start text new : List ℕ) → All (λ k. k < length rules) ks → i < length ks → name ≡ get_or rules (get_or ks i 0) name →
    bytes ≡ name → text ≡ start ++ flat_map (trust_line rules) (take i ks) → new ≡ text ++ line (codes "trusts " ++ written_symbol bytes) →
    new ≡ start ++ flat_map (trust_line rules) (take (i + 1) ks)
trust_more rules ks i name bytes start text new among lt is same so more =
    let k = get_or ks i 0 in
    let below : k < length rules = All-get_or (λ k. k < length rules) ks i 0 lt among in
    let named : bytes ≡ get_or rules k [] = same ∙ get_or_read rules k name below is [] in
    more
    ∙ ap (λ x. text ++ line (codes "trusts " ++ written_symbol x)) named
    ∙ ap (λ x. x ++ trust_line rules k) so
    ∙ flat_map_more (trust_line rules) start (take i ks) k
    ∙ ap (λ x. start ++ flat_map (trust_line rules) x) (sym (take_more ks i 0 lt))
