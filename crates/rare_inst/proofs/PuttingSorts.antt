-- Sorts with what stands for their names, as the code forms them.
use Rattle.std.proofs.Common.{◌≡◌, ℕ, Bool as Test, true, false, ◌&&◌, List, [], ◌∷◌, Some, None, refl, sym, ap, ◌∙◌, if◌then◌else◌, IsTrue}
use Rattle.std.proofs.lemmas.Bool.{ltb-true}
use Rattle.std.specs.Prelude.{nat_lt}
use Rattle.rare_linear.specs.Linears.{Part, LinearExpression, NamesBelow}
use Rattle.rare_sort.specs.DeclaredSorts.{names_below}
use Rattle.rare_sort.specs.declared.sort.Sort.{Sort, BitVec}
use Rattle.rare_sort.specs.declared.sort.Sort as sort
use Rattle.rare_sort.specs.declared.sort.Sort.TheOpen as shape
use Rattle.rare_sort.specs.declared.sort.Sort.TheFolds.{fold-roll-Sort}
use Rattle.rare_sort.specs.declared.sort.Sort.TheViews.{Array}
use Rattle.rare_sort.specs.declared.sort.Sort.TheBlock.{hidden-the_row-Sort-0}
use denote.Hole.Carrier
use Rattle.rare_inst.specs.Answers.{is_named_step, is_named_sort}
use Rattle.rare_inst.specs.Substituting.{Substitution, put_sort, is_sort_within}
use Rattle.rare_inst.specs.inner.Standing.{put_sort_within, array_within}

both : (b c : Test) → (b && c) ≡ true → (b ≡ true) × (c ≡ true)
both true c e = (refl, e)
both false c e = cc

pub are_below : (n : ℕ) (ps : List Part) → names_below n ps ≡ true → NamesBelow n ps
are_below n [] e = tt
are_below n (p ∷ ps) e = let b = both (nat_lt p.0 n) (names_below n ps) e in (ltb-true p.0 n b.0, are_below n ps b.1)

pub named-BitVec : (n : ℕ) (w : LinearExpression) → is_named_sort n (BitVec w) ≡ names_below n w.parts
unfolding sort.roll-Sort denote.Hole.Carrier.roll
named-BitVec n w = fold-roll-Sort Test (is_named_step n) (shape.BitVec w)

pub named-Array : (n : ℕ) (k e : Sort) → is_named_sort n (Array k e) ≡ (is_named_sort n k && is_named_sort n e)
unfolding sort.roll-Sort denote.Hole.Carrier.roll
named-Array n k e = fold-roll-Sort Test (is_named_step n) (shape.Array k e)

array_is_within : (a : Substitution) (k e : Sort) → is_sort_within a (Array k e) ≡ (is_sort_within a k && is_sort_within a e)
unfolding hidden-the_row-Sort-0 denote.Hole.Carrier.hidden
array_is_within a k e = refl

array_put : (a : Substitution) (k e : Sort) → put_sort a.number a.sort (Array k e) ≡ Array (put_sort a.number a.sort k) (put_sort a.number a.sort e)
unfolding hidden-the_row-Sort-0 denote.Hole.Carrier.hidden
array_put a k e = refl

pub word_named : (n : ℕ) (s : Sort) (w : LinearExpression) → s ≡ BitVec w → IsTrue (is_named_sort n s) → NamesBelow n w.parts
word_named n s w is e = are_below n w.parts (sym (named-BitVec n w) ∙ ap (is_named_sort n) (sym is) ∙ e)

pub parts_put : (a : Substitution) (s k e : Sort) → s ≡ Array k e → array_within (put_sort_within a k) (put_sort_within a e) ≡ put_sort_within a s
parts_put a s k e is =
    go (is_sort_within a k) (is_sort_within a e)
    ∙ (λ i. if (sym (array_is_within a k e) i) then (Some (sym (array_put a k e) i)) else None)
    ∙ ap (put_sort_within a) (sym is)
  where
    pk : Sort
    pk = put_sort a.number a.sort k

    pe : Sort
    pe = put_sort a.number a.sort e

    go : (b c : Test) → array_within (if b then (Some pk) else None) (if c then (Some pe) else None) ≡ (if b && c then (Some (Array pk pe)) else None)
    go true true = refl
    go true false = refl
    go false true = refl
    go false false = refl
