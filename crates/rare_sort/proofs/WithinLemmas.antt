-- Expressions where they are within i128, and names of sums.
use Rattle.std.proofs.Common.{◌≡◌, ℕ, ℤ, pos, negsuc, Bool, true, false, ◌&&◌, refl, sym, ap, ◌∙◌, Decides, IsTrue, ◌↔◌, Option, Some, None}
use Rattle.std.proofs.lemmas.Option.{same_Some}
use Rattle.rare_linear.specs.Linears.{LinearExpression, NamesBelow, add, scale}
use Rattle.rare_linear.specs.Entailment.{minus}
use Rattle.rare_linear.specs.EntailmentTest.{is_within, is_entailed}
use Rattle.rare_linear.specs.PartialSums.{IsWithin}
use Rattle.rare_linear.proofs.EntailmentTestLemmas.{is_within-Decides, is_entailed-Decides}
use Rattle.rare_linear.proofs.Names.{NamesBelow-add, NamesBelow-scale}
use Rattle.rare_sort.specs.declared.declarations.Declarations.{Declarations}
use Rattle.rare_sort.specs.DeclaredSorts.{follows}
use Rattle.rare_sort.specs.inner.Within.{within, within_by}

-- what decides alike is the same test
pub same_test : {P : Type 0} (b c : Bool) → (IsTrue b ↔ P) → Decides c P → b ≡ c
same_test true true h d = refl
same_test false false h d = refl
same_test true false h d = sym (d.1 (h.0 refl))
same_test false true h d = h.1 (d.0 refl)

pub within_yes : (e : LinearExpression) → IsWithin e → within e ≡ Some e
within_yes e h = rw ((is_within-Decides e).1 h) refl

not_true : (b : Bool) → (b ≡ true → ⊥) → b ≡ false
not_true true h = absurd (h refl)
not_true false h = refl

pub within_no : (e : LinearExpression) → ¬ IsWithin e → within e ≡ None
within_no e h = rw (not_true (is_within e) (λ t. h ((is_within-Decides e).0 t))) refl

-- what is not within i128 does not follow
pub none_follows : (d : Declarations) (e : LinearExpression) → within e ≡ None → follows d e ≡ false
unfolding follows is_entailed
none_follows d e h = go (is_within e) _ refl h
  where
    go : (b c : Bool) → is_within e ≡ b → within_by b e ≡ None → (b && c) ≡ false
    go true c eq h = cc
    go false c eq h = refl

pub some_within : (e x : LinearExpression) → within e ≡ Some x → x ≡ e
some_within e x h = go (is_within e) h
  where
    go : (b : Bool) → within_by b e ≡ Some x → x ≡ e
    go true h = same_Some x e (sym h)
    go false h = cc

pub some_is_within : (e x : LinearExpression) → within e ≡ Some x → is_within e ≡ true
some_is_within e x h = go (is_within e) h
  where
    go : (b : Bool) → within_by b e ≡ Some x → b ≡ true
    go true h = refl
    go false h = cc

pub minus_named : (n : ℕ) (a b : LinearExpression) → NamesBelow n a.parts → NamesBelow n b.parts → NamesBelow n (minus a b).parts
minus_named n a b p q = NamesBelow-add n a (scale (negsuc 0) b) p (NamesBelow-scale n (negsuc 0) b q)

pub given_within : (e x : LinearExpression) → x ≡ e → IsWithin e → Some x ≡ within e
given_within e x is h = ap Some is ∙ sym (within_yes e h)

pub none_within : (e : LinearExpression) → ¬ IsWithin e → None ≡ within e
none_within e h = sym (within_no e h)

pub add_named : (n : ℕ) (a b : LinearExpression) → NamesBelow n a.parts → NamesBelow n b.parts → NamesBelow n (add a b).parts
add_named n a b p q = NamesBelow-add n a b p q

pub scale_named : (n : ℕ) (k : ℤ) (a : LinearExpression) → NamesBelow n a.parts → NamesBelow n (scale k a).parts
scale_named n k a p = NamesBelow-scale n k a p
