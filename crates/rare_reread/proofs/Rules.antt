-- What is known of an application that is not refused.
use Rattle.std.proofs.Common.{◌≡◌, ℕ, zero, suc, Bool, true, false, ◌&&◌, ◌||◌, List, [], ◌∷◌, map, length, Option, Some, None, slice_get, refl, sym, ◌∙◌, arith, if◌then◌else◌}
use Rattle.std.specs.Prelude.{nat_lt, nat_eq, nat_le}
use Rattle.std.proofs.lemmas.Bool.Decides.{nat_tests}
use Rattle.std.proofs.lemmas.Option.{none-some}
use Rattle.rare_linear.specs.Linears.{LinearExpression}
use Rattle.rare_sort.specs.DeclaredSorts.{all_follow}
use Rattle.rare_sort.specs.Families.{family}
use Rattle.rare_sort.specs.Rulings.{ruling, ruled, ruled_by, all_one, all_within, formed_widths}
use Rattle.rare_sort.specs.SortOf.{sort_of}
use Rattle.rare_sort.specs.SortRules.{SortRule, sort_rule, width_needs, gives, basic_sort, each_is}
use Rattle.rare_sort.specs.Trees.{node, nesting, size}
use Rattle.rare_sort.specs.declared.declarations.Declarations.{Declarations}
use Rattle.rare_sort.specs.declared.family.Basic.{Basic}
use Rattle.rare_sort.specs.declared.family.Count.TheVariants as count
use Rattle.rare_sort.specs.declared.family.Family.{Family}
use Rattle.rare_sort.specs.declared.family.Family.TheVariants as kind
use Rattle.rare_sort.specs.declared.head.Head.{Head}
use Rattle.rare_sort.specs.declared.ruling.Ruling.{Ruling}
use Rattle.rare_sort.specs.declared.ruling.Ruling.TheVariants.{Ill, Wide, Has}
use Rattle.rare_sort.specs.declared.sort.Signature.{Signature}
use Rattle.rare_sort.specs.declared.sort.Sort.{Sort}
use Rattle.rare_sort.specs.declared.tree.Tree.{Tree}
use Rattle.rare_term.specs.Limits.{MOST_ARGS, MOST_NESTED, MOST_NODES}
use Rattle.rare_term.specs.Refusals.{refusal, refusal_by, is_ill, is_wide, has_large_number}
use Rattle.rare_term.specs.declared.terms.TermError.{TermError}
use Rattle.rare_term.specs.declared.terms.TermError.TheVariants.{TooManyArgs, IllSorted, TooDeep, TooLarge}

not_ill : (r : Ruling) (large : Bool) (args nest nodes : ℕ) → refusal_by r large args nest nodes ≡ None → is_ill r ≡ false
not_ill r large args nest nodes none = go (nat_lt MOST_ARGS args) (is_ill r) refl none
  where
    go : (a b : Bool) → is_ill r ≡ b →
        ◌≡◌ {A = Option TermError} (if a then Some TooManyArgs else (if b then Some IllSorted else (if nat_lt MOST_NESTED nest then Some TooDeep else (if nat_lt MOST_NODES nodes || (is_wide r || large) then Some TooLarge else None)))) None →
        is_ill r ≡ false
    go true b is e = absurd (none-some TooManyArgs (sym e))
    go false true is e = absurd (none-some IllSorted (sym e))
    go false false is e = is

-- the rule of sorts of an application, and that what it asks for follows
pub record HasRule (d : Declarations) (h : Head) (ix : List LinearExpression) (ss : List Sort) : Type 0 where
  pub rule : SortRule
  pub is : sort_rule (slice_get d.symbols) 2 (family h) ix ss ≡ Some rule
  pub needs : all_follow d rule.needs ≡ true

both : (a b : Bool) → (a && b) ≡ true → (a ≡ true) × (b ≡ true)
both true b e = (refl, e)
both false b e = absurd cc

ruled_well : (d : Declarations) (formed : List LinearExpression) (r : SortRule) → is_ill (ruled_by d formed r) ≡ false → all_follow d r.needs ≡ true
ruled_well d formed r ok = go (all_one r.alike && all_follow d r.needs) refl ok
  where
    go : (b : Bool) → (all_one r.alike && all_follow d r.needs) ≡ b → is_ill (if b then (if all_within formed then (if all_follow d (width_needs r.sort) then (Has r.sort) else Ill) else Wide) else Ill) ≡ false → all_follow d r.needs ≡ true
    go true is e = (both (all_one r.alike) (all_follow d r.needs) is).1
    go false is e = absurd cc

pub has_rule : (d : Declarations) (h : Head) (ix : List LinearExpression) (ts : List Tree) → refusal d h ix ts ≡ None → HasRule d h ix (map (sort_of d.symbols) ts)
unfolding refusal ruling
has_rule d h ix ts none =
    let ss = map (sort_of d.symbols) ts in
    let ok : is_ill (ruled d (family h) ss (sort_rule (slice_get d.symbols) 2 (family h) ix ss)) ≡ false =
    not_ill (ruled d (family h) ss (sort_rule (slice_get d.symbols) 2 (family h) ix ss)) (has_large_number h ix) (length ts) (nesting (node h ix ts)) (size (node h ix ts)) none in
    go (sort_rule (slice_get d.symbols) 2 (family h) ix (map (sort_of d.symbols) ts)) refl ok
  where
    go : (o : Option SortRule) → sort_rule (slice_get d.symbols) 2 (family h) ix (map (sort_of d.symbols) ts) ≡ o → is_ill (ruled d (family h) (map (sort_of d.symbols) ts) o) ≡ false → HasRule d h ix (map (sort_of d.symbols) ts)
    go None is ok = absurd cc
    go (Some r) is ok = record { rule = r; is = is; needs = ruled_well d (formed_widths (family h) (map (sort_of d.symbols) ts) r.sort) r ok }

-- ---- by family

module _ (symbols : ℕ → Option Signature) where
  abbrev RuleOf : Family → List LinearExpression → List Sort → Option SortRule
  RuleOf f ix ss = sort_rule symbols 2 f ix ss

  -- operators that have arguments
  abbrev pub has_arguments : Family → Bool
  has_arguments (kind.Fixed (count.Exactly zero) s t) = false
  has_arguments (kind.Fixed (count.Exactly (suc n)) s t) = true
  has_arguments (kind.Fixed count.Several s t) = true
  has_arguments kind.Bits = false
  has_arguments kind.Literal = false
  has_arguments (kind.Symbol k) = false
  has_arguments kind.OfRules = false
  has_arguments f = true

  pub none_alone : (f : Family) (ix : List LinearExpression) → has_arguments f ≡ true → RuleOf f ix [] ≡ None
  none_alone (kind.Fixed (count.Exactly zero) s t) ix is = absurd cc
  none_alone (kind.Fixed (count.Exactly (suc n)) s t) [] is = let e : nat_eq 0 (suc n) ≡ false = grind (arith, nat_tests) in rw e refl
  none_alone (kind.Fixed (count.Exactly (suc n)) s t) (i ∷ ix) is = refl
  none_alone (kind.Fixed count.Several s t) [] is = refl
  none_alone (kind.Fixed count.Several s t) (i ∷ ix) is = refl
  none_alone kind.Alike [] is = refl
  none_alone kind.Alike (i ∷ ix) is = refl
  none_alone kind.Choice [] is = refl
  none_alone kind.Choice (i ∷ ix) is = refl
  none_alone kind.Select [] is = refl
  none_alone kind.Select (i ∷ ix) is = refl
  none_alone kind.Store [] is = refl
  none_alone kind.Store (i ∷ ix) is = refl
  none_alone (kind.BitVectors c o) [] is = refl
  none_alone (kind.BitVectors c o) (i ∷ ix) is = refl
  none_alone kind.Concat [] is = refl
  none_alone kind.Concat (i ∷ ix) is = refl
  none_alone kind.Extract [] is = refl
  none_alone kind.Extract (j ∷ []) is = refl
  none_alone kind.Extract (j ∷ i ∷ []) is = refl
  none_alone kind.Extract (j ∷ i ∷ k ∷ ix) is = refl
  none_alone kind.Extend [] is = refl
  none_alone kind.Extend (i ∷ []) is = refl
  none_alone kind.Extend (i ∷ j ∷ ix) is = refl
  none_alone kind.Rotate [] is = refl
  none_alone kind.Rotate (i ∷ []) is = refl
  none_alone kind.Rotate (i ∷ j ∷ ix) is = refl
  none_alone kind.Repeat [] is = refl
  none_alone kind.Repeat (i ∷ []) is = refl
  none_alone kind.Repeat (i ∷ j ∷ ix) is = refl
  none_alone kind.Bits ix is = absurd cc
  none_alone kind.Literal ix is = absurd cc
  none_alone (kind.Symbol k) ix is = absurd cc
  none_alone kind.OfRules ix is = absurd cc

  -- operators without indices
  abbrev pub has_no_indices : Family → Bool
  has_no_indices kind.Extract = false
  has_no_indices kind.Extend = false
  has_no_indices kind.Rotate = false
  has_no_indices kind.Repeat = false
  has_no_indices kind.Bits = false
  has_no_indices kind.Literal = false
  has_no_indices f = true

  pub none_indexed : (f : Family) (i : LinearExpression) (ix : List LinearExpression) (ss : List Sort) → has_no_indices f ≡ true → RuleOf f (i ∷ ix) ss ≡ None
  none_indexed kind.Extract i ix ss is = absurd cc
  none_indexed kind.Extend i ix ss is = absurd cc
  none_indexed kind.Rotate i ix ss is = absurd cc
  none_indexed kind.Repeat i ix ss is = absurd cc
  none_indexed kind.Bits i ix ss is = absurd cc
  none_indexed kind.Literal i ix ss is = absurd cc
  none_indexed f i ix ss is = refl

  pub no_index : (f : Family) (ix : List LinearExpression) (ss : List Sort) (r : SortRule) → has_no_indices f ≡ true → RuleOf f ix ss ≡ Some r → ix ≡ []
  no_index f [] ss r is rule = refl
  no_index f (i ∷ ix) ss r is rule = absurd (none-some r (sym (none_indexed f i ix ss is) ∙ rule))

  -- constants have no arguments
  pub none_applied : (s t : Basic) (ix : List LinearExpression) (u : Sort) (us : List Sort) → RuleOf (kind.Fixed (count.Exactly 0) s t) ix (u ∷ us) ≡ None
  none_applied s t [] u us = let e : nat_eq (suc (length us)) 0 ≡ false = grind (arith, nat_tests) in rw e refl
  none_applied s t (i ∷ ix) u us = refl

  pub one_argument : (s t : Basic) (us : List Sort) (r : SortRule) → RuleOf (kind.Fixed (count.Exactly 1) s t) [] us ≡ Some r → nat_eq (length us) 1 ≡ true
  one_argument s t us r is = go (nat_eq (length us) 1) refl is
    where
      go : (b : Bool) → nat_eq (length us) 1 ≡ b → (if b then (Some (gives (basic_sort t) (each_is (basic_sort s) us) [])) else None) ≡ Some r → nat_eq (length us) 1 ≡ true
      go true e q = e
      go false e q = absurd (none-some r q)

  pub several_arguments : (s t : Basic) (us : List Sort) (r : SortRule) → RuleOf (kind.Fixed count.Several s t) [] us ≡ Some r → nat_eq (length us) 1 ≡ false
  several_arguments s t us r is = go (nat_le 2 (length us)) refl is
    where
      go : (b : Bool) → nat_le 2 (length us) ≡ b → (if b then (Some (gives (basic_sort t) (each_is (basic_sort s) us) [])) else None) ≡ Some r → nat_eq (length us) 1 ≡ false
      go true e q = grind (arith, nat_tests)
      go false e q = absurd (none-some r q)
