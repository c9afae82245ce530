use Rattle.std.proofs.Common.{◌∙◌, sym}
use Rattle.rare_laws_core.specs.CoreTable.{core_rules}
use Rattle.rare_laws_int.specs.IntTable.{int_rules}
use Rattle.rare_laws_array.specs.ArrayTable.{array_rules}
use Rattle.rare_laws_bvarith.specs.BvArithTable.{bv_arith_rules}
use Rattle.rare_laws_bvbits.specs.BvBitsTable.{bv_bits_rules}
use Rattle.rare_shipped.proofs.BookLemmas.{parts_added}
use Rattle.rare_shipped.proofs.ShippedLemmas.{book_parts}
use Rattle.rare_shipped.proofs.book_of_rules.Goals as goal

pub returns : goal.returns
returns c = record {
  exact =
      parts_added core_rules int_rules array_rules bv_arith_rules bv_bits_rules
      c.new-book.result c.add_rules.new.book c.add_rules-2.new.book c.add_rules-3.new.book c.add_rules-4.new.book c.add_rules-5.new.book
      c.in_ok-rules.field-0 c.in_ok-rules-2.field-0 c.in_ok-rules-3.field-0 c.in_ok-rules-4.field-0 c.in_ok-rules-5.field-0
      c.new-book.ensures
      c.in_ok-add_rules.ensures c.in_ok-rules.ensures.exact
      c.in_ok-add_rules-2.ensures c.in_ok-rules-2.ensures.exact
      c.in_ok-add_rules-3.ensures c.in_ok-rules-3.ensures.exact
      c.in_ok-add_rules-4.ensures c.in_ok-rules-4.ensures.exact
      c.in_ok-add_rules-5.ensures c.in_ok-rules-5.ensures.exact
      ∙ sym book_parts;
}
