-- The book of the shipped rules: Core, Ints, arrays, arithmetic on bit vectors, and bits, slices and joins.
use Rattle.std.specs.Prelude.{true, List, [], ◌++◌, map, IsTrue}
use Rattle.rare_sort.specs.Each.{Each}
use Rattle.rare_meaning.specs.Interpretations.{FunctionClass}
use Rattle.rare_rule.specs.Books.{BookRule, book_rule, rule_names}
use Rattle.rare_rule.specs.ParamForms.{all_differ_from}
use Rattle.rare_rule.specs.Holds.{Holds}
use Rattle.rare_rule.specs.TypedRule.{TypedRule}
use Rattle.rare_laws_core.specs.CoreTable.{core_rules}
use Rattle.rare_laws_int.specs.IntTable.{int_rules}
use Rattle.rare_laws_array.specs.ArrayTable.{array_rules}
use Rattle.rare_laws_bvarith.specs.BvArithTable.{bv_arith_rules}
use Rattle.rare_laws_bvbits.specs.BvBitsTable.{bv_bits_rules}

-- the rule, marked as shipped
abbrev pub shipped_rule : TypedRule → BookRule
shipped_rule t = book_rule t true

abbrev pub shipped_rules : List TypedRule → List BookRule
shipped_rules ts = map shipped_rule ts

-- all of them in order
unfoldable pub shipped_book : List BookRule
shipped_book =
    shipped_rules core_rules
    ++ (shipped_rules int_rules ++ (shipped_rules array_rules ++ (shipped_rules bv_arith_rules ++ shipped_rules bv_bits_rules)))

-- each rule of the book holds, by the functions of the class
abbrev pub HoldIn : FunctionClass → List BookRule → Type 0
HoldIn c bs = Each (λ b. Holds c b.typed.rule b.typed.constraints) bs

-- no two rules of the book have one name
abbrev pub NamesDiffer : List BookRule → Type 0
NamesDiffer bs = IsTrue (all_differ_from [] (rule_names bs))
