-- The tests on arguments, as the code makes them.
use Rattle.std.proofs.Common.{◌≡◌, ℕ, ◌+◌, ◌<◌, ◌≤◌, Bool as Test, true, false, ◌&&◌, List, [], ◌∷◌, ◌++◌, length, drop, get_or, slice_get, if◌then◌else◌, Option, Some, None, refl, sym, ap, ◌∙◌, subst, IsTrue, negsuc, pos}
use Rattle.std.proofs.lemmas.List.{drop_more, drop_all}
use Rattle.std.proofs.lemmas.Option.{slice_get-map, slice_get-get_or}
use Rattle.std.specs.Option.{option_map}
use Rattle.rare_linear.specs.Linears.{LinearExpression, NamesBelow, number, scale}
use Rattle.rare_linear.specs.Entailment.{minus}
use Rattle.rare_linear.specs.EntailmentTest.{is_within, is_entailed}
use Rattle.rare_linear.specs.PartialSums.{IsWithin}
use Rattle.rare_linear.proofs.EntailmentTestLemmas.{is_within-Decides}
use Rattle.rare_linear.proofs.Names.{NamesBelow-add, NamesBelow-scale}
use Rattle.rare_sort.specs.DeclaredSorts.{all_follow, follows}
use Rattle.rare_sort.specs.SortRules.{less_one, width_needs}
use Rattle.rare_sort.specs.declared.declarations.Declarations.{Declarations}
use Rattle.rare_sort.specs.declared.sort.Sort.{Sort, BitVec}
use Rattle.rare_sort.specs.declared.sort.Sort.TheViews.{Array}
use Rattle.rare_sort.specs.declared.sort.Sort.TheBlock.{hidden-the_row-Sort-0}
use denote.Hole.Carrier
use Rattle.rare_sort.specs.declared.tree.Tree.{Tree}
use Rattle.rare_inst.specs.Admission.{first_that_fails}
use Rattle.rare_inst.specs.Arguments.{argument_of, arguments_of}
use Rattle.rare_inst.specs.declared.arg.Arg.{Arg}

not_true : (b : Test) → (b ≡ true → ⊥) → b ≡ false
not_true true h = absurd (h refl)
not_true false h = refl

-- what leaves i128 doesn't follow
pub beyond_none : (d : Declarations) (e : LinearExpression) → ¬ IsWithin e → false ≡ follows d e
unfolding follows is_entailed
beyond_none d e h = go (is_within e) _ (not_true (is_within e) (λ t. h ((is_within-Decides e).0 t)))
  where
    go : (b c : Test) → b ≡ false → false ≡ (b && c)
    go false c q = refl
    go true c q = cc

pub less_named : (n : ℕ) (e x : LinearExpression) → x ≡ less_one e → NamesBelow n e.parts → NamesBelow n x.parts
less_named n e x is h = subst (λ (y : LinearExpression). NamesBelow n y.parts) (sym is) (NamesBelow-add n e (scale (negsuc 0) (number (pos 1))) h (NamesBelow-scale n (negsuc 0) (number (pos 1)) tt))

-- ---- the widths of a sort

all_follow-append : (d : Declarations) (xs ys : List LinearExpression) → all_follow d (xs ++ ys) ≡ (all_follow d xs && all_follow d ys)
all_follow-append d [] ys = refl
all_follow-append d (x ∷ xs) ys = ap (λ b. follows d x && b) (all_follow-append d xs ys) ∙ go (follows d x) (all_follow d xs) (all_follow d ys)
  where
    go : (a b c : Test) → (a && (b && c)) ≡ ((a && b) && c)
    go true b c = refl
    go false b c = refl

needs-Array : (a b : Sort) → width_needs (Array a b) ≡ width_needs a ++ width_needs b
unfolding hidden-the_row-Sort-0 denote.Hole.Carrier.hidden
needs-Array a b = refl

pub parts_follow : (d : Declarations) (s a b : Sort) → s ≡ Array a b → (all_follow d (width_needs a) && all_follow d (width_needs b)) ≡ all_follow d (width_needs s)
parts_follow d s a b is =
    sym (ap (λ z. all_follow d (width_needs z)) is ∙ ap (all_follow d) (needs-Array a b) ∙ all_follow-append d (width_needs a) (width_needs b))

-- ---- the first that fails

module _ {X : Type 0} (test : ℕ → X → Test) (xs : List X) (i : ℕ) where
  module _ (x : X) (b : Test) (lt : i < length xs) (is : x ≡ get_or xs i x) (tested : b ≡ test i x) where
    front : first_that_fails test i (drop i xs) ≡ (if test i x then (first_that_fails test (i + 1) (drop (i + 1) xs)) else (Some i))
    front =
        ap (first_that_fails test i) (drop_more xs i x lt)
        ∙ ap (λ y. if test i y then (first_that_fails test (i + 1) (drop (i + 1) xs)) else (Some i)) (sym is)

    pub here_fails : (whole : Option ℕ) → whole ≡ first_that_fails test i (drop i xs) → b ≡ false → Some i ≡ whole
    here_fails whole rest e = sym (rest ∙ front ∙ ap (λ c. if c then (first_that_fails test (i + 1) (drop (i + 1) xs)) else (Some i)) (sym tested ∙ e))

    pub here_passes : (whole : Option ℕ) → whole ≡ first_that_fails test i (drop i xs) → b ≡ true → whole ≡ first_that_fails test (i + 1) (drop (i + 1) xs)
    here_passes whole rest e = rest ∙ front ∙ ap (λ c. if c then (first_that_fails test (i + 1) (drop (i + 1) xs)) else (Some i)) (sym tested ∙ e)

  pub none_fails : (whole : Option ℕ) → whole ≡ first_that_fails test i (drop i xs) → length xs ≤ i → None ≡ whole
  none_fails whole rest le = sym (rest ∙ ap (first_that_fails test i) (drop_all i xs le))

-- the argument that is lent from the list
pub argument_at : (ts : List Tree) (args : List Arg) (k : ℕ) (d : Arg) → k < length args → slice_get (arguments_of ts args) k ≡ Some (argument_of ts (get_or args k d))
argument_at ts args k d lt = slice_get-map (argument_of ts) args k ∙ ap (option_map (argument_of ts)) (slice_get-get_or args k d lt)
