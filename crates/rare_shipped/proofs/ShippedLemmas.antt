-- The book of the shipped rules: how many they are, and that each holds.
use Rattle.std.proofs.Common.{◌≡◌, List, [], length, refl, ◌∙◌, sym, subst}
use Rattle.rare_meaning.specs.Interpretations.{FunctionClass}
use Rattle.rare_rule.specs.Books.{BookRule, rule_names}
use Rattle.rare_rule.specs.ParamForms.{all_differ_from}
use Rattle.rare_law_parts.specs.RuleTables.{EachHolds}
use Rattle.rare_laws_core.specs.CoreTable.{core_rules}
use Rattle.rare_laws_core.proofs.CoreHolds.{core_rules_hold}
use Rattle.rare_laws_int.specs.IntTable.{int_rules}
use Rattle.rare_laws_int.proofs.IntHolds.{int_rules_hold}
use Rattle.rare_laws_array.specs.ArrayTable.{array_rules}
use Rattle.rare_laws_array.proofs.ArrayHolds.{array_rules_hold}
use Rattle.rare_laws_bvarith.specs.BvArithTable.{bv_arith_rules}
use Rattle.rare_laws_bvarith.proofs.BvArithHolds.{bv_arith_rules_hold}
use Rattle.rare_laws_bvbits.specs.BvBitsTable.{bv_bits_rules}
use Rattle.rare_laws_bvbits.proofs.BvBitsHolds.{bv_bits_rules_hold}
use Rattle.rare_shipped.specs.ShippedBook.{HoldIn, NamesDiffer, shipped_book}
use Rattle.rare_shipped.proofs.BookLemmas.{parts, parts_hold}

pub book_parts : shipped_book ≡ parts core_rules int_rules array_rules bv_arith_rules bv_bits_rules
unfolding shipped_book
book_parts = refl

pub book_length : (b : List BookRule) → b ≡ shipped_book → length b ≡ 96
unfolding shipped_book
book_length b h = λ i. length (h i)

pub book_names : (b : List BookRule) → b ≡ shipped_book → NamesDiffer b
unfolding shipped_book
book_names b h = λ i. all_differ_from [] (rule_names (h i))

pub book_holds : (b : List BookRule) → b ≡ shipped_book → (c : FunctionClass) → HoldIn c b
book_holds b h c =
    subst (HoldIn c) (sym (h ∙ book_parts))
    (parts_hold core_rules int_rules array_rules bv_arith_rules bv_bits_rules c core_rules_hold int_rules_hold array_rules_hold bv_arith_rules_hold bv_bits_rules_hold)
