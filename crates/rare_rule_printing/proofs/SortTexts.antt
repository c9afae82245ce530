-- The texts of sorts by their parts.
use Rattle.std.proofs.Common.{◌≡◌, ℕ, zero, suc, ◌+◌, ◌<◌, max, List, [], ◌∷◌, ◌++◌, length, get_or, IsTrue, refl, sym, ap, ◌∙◌, subst, arith}
use Rattle.std.specs.Prelude.{codes}
use Rattle.std.proofs.lemmas.List.{append-nil}
use Rattle.rare_linear.specs.Linears.{LinearExpression}
use Rattle.rare_sexpr.specs.Written.{written_symbol}
use Rattle.rare_sort.specs.DeclaredSorts.{sort_nesting, sort_nesting_step}
use Rattle.rare_sort.specs.declared.sort.Sort.{Sort, BitVec, Named}
use Rattle.rare_sort.specs.declared.sort.Sort.TheOpen as shape
use Rattle.rare_sort.specs.declared.sort.Sort.TheViews.{Array, roll-Sort}
use Rattle.rare_sort.specs.declared.sort.Sort.TheFolds.{fold-roll-Sort}
use Rattle.rare_sort.specs.declared.sort.Sort.TheBlock.{hidden-the_row-Sort-0}
use denote.Hole.Carrier
use Rattle.rare_scope.specs.Printing.{arrays_text, linear_text_by}
use Rattle.rare_term_printing.specs.OperatorTexts.{list_text}
use Rattle.rare_rule.specs.ParamForms.{is_sort_over}
use Rattle.rare_rule.specs.declared.param.Param.{Param}
use Rattle.rare_rule_printing.specs.ConstraintPrinting.{number_text}
use Rattle.rare_rule_printing.specs.SortPrinting.{sort_name_text, sort_text_step, rule_sort_text}
use Rattle.rare_rule_printing.proofs.ParamNumbers.{both}

pub name_at : (ps : List Param) (k : ℕ) (d : Param) → k < length ps → written_symbol (get_or ps k d).name ≡ sort_name_text ps k
name_at [] k d lt = absurd (omega (arith, lt))
name_at (p ∷ ps) zero d lt = refl
name_at (p ∷ ps) (suc k) d lt = name_at ps k d (omega arith)

-- `(BitVec E)` in its parts
pub words_parts : (w : List ℕ) → codes "(BitVec " ++ (w ++ codes ")") ≡ list_text (codes "BitVec" ∷ w ∷ [])
words_parts w = ap (λ t. codes "(BitVec " ++ (t ++ codes ")")) (sym (append-nil w))

pub nesting_array : (a b : Sort) → sort_nesting (Array a b) ≡ 1 + max (sort_nesting a) (sort_nesting b)
unfolding roll-Sort Carrier.roll
nesting_array a b = fold-roll-Sort ℕ sort_nesting_step (shape.Array a b)

pub keys_less : (s a b keys : Sort) → s ≡ Array a b → keys ≡ a → sort_nesting keys < sort_nesting s
keys_less s a b keys is same = let e = ap sort_nesting is ∙ nesting_array a b in let f = ap sort_nesting same in omega (arith, e, f)

pub entries_less : (s a b entries : Sort) → s ≡ Array a b → entries ≡ b → sort_nesting entries < sort_nesting s
entries_less s a b entries is same = let e = ap sort_nesting is ∙ nesting_array a b in let f = ap sort_nesting same in omega (arith, e, f)

module _ (ps : List Param) where
  pub words_text : (w : LinearExpression) → rule_sort_text ps (BitVec w) ≡ list_text (codes "BitVec" ∷ linear_text_by (number_text ps) w ∷ [])
  unfolding roll-Sort Carrier.roll
  words_text w = fold-roll-Sort (List ℕ) (sort_text_step ps) (shape.BitVec w)

  array_text : (a b : Sort) → rule_sort_text ps (Array a b) ≡ arrays_text (rule_sort_text ps a) (rule_sort_text ps b)
  unfolding roll-Sort Carrier.roll
  array_text a b = fold-roll-Sort (List ℕ) (sort_text_step ps) (shape.Array a b)

  pub named_text : (k : ℕ) → rule_sort_text ps (Named k) ≡ sort_name_text ps k
  unfolding roll-Sort Carrier.roll
  named_text k = fold-roll-Sort (List ℕ) (sort_text_step ps) (shape.Named k)

  parts_over : (a b : Sort) → IsTrue (is_sort_over ps (Array a b)) → IsTrue (is_sort_over ps a) × IsTrue (is_sort_over ps b)
  unfolding hidden-the_row-Sort-0 denote.Hole.Carrier.hidden
  parts_over a b h = both (is_sort_over ps a) (is_sort_over ps b) h

  -- the sort of arrays of these parts
  pub array_parts : (s a b keys entries : Sort) → s ≡ Array a b → keys ≡ a → entries ≡ b → arrays_text (rule_sort_text ps keys) (rule_sort_text ps entries) ≡ rule_sort_text ps s
  array_parts s a b keys entries is first second =
      ap (λ (x : Sort). arrays_text (rule_sort_text ps x) (rule_sort_text ps entries)) first ∙ ap (λ (x : Sort). arrays_text (rule_sort_text ps a) (rule_sort_text ps x)) second
      ∙ sym (ap (rule_sort_text ps) is ∙ array_text a b)

  pub array_over : (s a b : Sort) → s ≡ Array a b → IsTrue (is_sort_over ps s) → IsTrue (is_sort_over ps a) × IsTrue (is_sort_over ps b)
  array_over s a b is h = parts_over a b (subst (λ (x : Sort). IsTrue (is_sort_over ps x)) is h)
