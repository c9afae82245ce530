-- None of the rules that a text states is shipped, so those that are hold.
use Rattle.std.proofs.Common.{◌≡◌, true, false, List, [], ◌∷◌, ◌++◌, Option, Ok, Err, refl, sym, ◌∙◌, subst}
use Rattle.rare_base.specs.Answers.{Refusal}
use Rattle.rare_meaning.specs.Interpretations.{FunctionClass}
use Rattle.rare_scope.specs.Reading.{Read}
use Rattle.rare_sexpr.specs.declared.tree.Sexpr.{Sexpr}
use Rattle.rare_sort.specs.Each.{Each}
use Rattle.rare_rule.specs.Books.{BookRule, book_rule}
use Rattle.rare_rule.specs.TypedRule.{TypedRule}
use Rattle.rare_book.specs.RuleFile.{book_from, rule_for, unless_fault}
use Rattle.rare_check.specs.Verdicts.{ShippedHold}

abbrev NoneShipped : List BookRule → Type 0
NoneShipped bs = Each (λ b. b.shipped ≡ false) bs

one_more : (bs : List BookRule) (t : TypedRule) → NoneShipped bs → NoneShipped (bs ++ book_rule t false ∷ [])
one_more [] t h = (refl, tt)
one_more (b ∷ bs) t h = (h.0, one_more bs t h.1)

read_none : (bs : List BookRule) (es : List Sexpr) (f : Option Refusal) → NoneShipped bs → NoneShipped (book_from bs es f).rules
read_none bs [] f h = h
read_none bs (e ∷ es) f h = by (rule_for bs e) (λ t. read_none (bs ++ book_rule t false ∷ []) es f (one_more bs t h))
  where
    by : (r : Read TypedRule) → ((t : TypedRule) → NoneShipped (book_from (bs ++ book_rule t false ∷ []) es f).rules) →
        NoneShipped (unless_fault bs r (λ t. book_from (bs ++ book_rule t false ∷ []) es f)).rules
    by (Ok t) more = more t
    by (Err r) more = h

shipped_hold : (c : FunctionClass) (bs : List BookRule) → NoneShipped bs → ShippedHold c bs
shipped_hold c [] h = tt
shipped_hold c (b ∷ bs) h = ((λ is. let e : true ≡ false = sym is ∙ h.0 in cc), shipped_hold c bs h.1)

-- those that are read into an empty book
pub read_hold : (es : List Sexpr) (f : Option Refusal) (bs : List BookRule) → bs ≡ (book_from [] es f).rules → (c : FunctionClass) → ShippedHold c bs
read_hold es f bs is c = let P : List BookRule → Type 0 = λ bs. ShippedHold c bs in subst P (sym is) (shipped_hold c (book_from [] es f).rules (read_none [] es f tt))
