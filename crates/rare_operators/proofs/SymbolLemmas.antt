-- Declared symbols alone.
use Rattle.std.proofs.Common.{◌≡◌, ◌≢◌, ℕ, zero, suc, ◌<◌, Bool, true, false, List, [], ◌∷◌, length, slice_get, Option, Some, None, All, refl, sym, ap, ◌∙◌, subst, arith, if◌then◌else◌, nat_eq, Ok}
use Rattle.std.proofs.lemmas.Bool.Decides.{nat_tests}
use Rattle.std.proofs.lemmas.Option.{none-some, same_Some}
use Rattle.rare_base.specs.declared.answers.Reason.TheVariants as reason
use Rattle.rare_sexpr.specs.declared.tree.Sexpr.{Sexpr}
use Rattle.rare_sort.specs.DeclaredSorts.{AreDeclared, IsDeclaredSort, all_follow}
use Rattle.rare_sort.specs.Rulings.{ruling, ruled}
use Rattle.rare_sort.specs.SortRules.{gives, width_needs}
use Rattle.rare_sort.specs.Trees.{node, size}
use Rattle.rare_sort.specs.declared.declarations.Declarations.{Declarations}
use Rattle.rare_sort.specs.declared.family.Family.TheVariants as kind
use Rattle.rare_sort.specs.declared.head.Head.TheVariants as head
use Rattle.rare_sort.specs.declared.ruling.Ruling.{Ruling}
use Rattle.rare_sort.specs.declared.ruling.Ruling.TheVariants.{Ill}
use Rattle.rare_sort.specs.declared.sort.Signature.{Signature}
use Rattle.rare_sort.proofs.NeedsLemmas.{needs_follow}
use Rattle.rare_term.specs.Refusals.{refusal, refusal_by, IsRefusal}
use Rattle.rare_term.specs.declared.terms.TermError.{TermError}
use Rattle.rare_term.specs.declared.terms.TermError.TheVariants.{TooManyArgs, IllSorted, TooDeep, TooLarge, Memory}
use Rattle.rare_term.specs.inner.TreeLaws.{nesting_node, size_node}
use Rattle.rare_scope.specs.Reading.{Read, refused}
use Rattle.rare_operators.specs.declared.head.IndexedHead.{IndexedHead}
use Rattle.rare_operators.specs.inner.DeclaredHead.{IsDeclaredHead}
use Rattle.rare_linear.specs.Linears.{LinearExpression, NamesBelow}
use Rattle.std.proofs.lemmas.List.Elements.{All-nil}
use Rattle.rare_operators.specs.HeadText.{bare, has_no_arguments, symbol_head, unless_alone}

all_at : {A : Type 0} (P : A → Type 0) (xs : List A) (k : ℕ) (x : A) → All P xs → slice_get xs k ≡ Some x → P x
all_at P [] k x all is = absurd (none-some x is)
all_at P (y ∷ ys) zero x all is = subst P (same_Some y x is) (all 0 y (omega arith))
all_at P (y ∷ ys) (suc k) x all is = all_at P ys k x (λ i d lt. all (suc i) d (omega arith)) is

module _ (d : Declarations) (k : ℕ) where
  -- by the signature that a symbol has
  abbrev rule_by : Option Signature → Ruling
  rule_by None = Ill
  rule_by (Some g) = ruled d (kind.Symbol k) [] (if nat_eq 0 (length g.args) then Some (gives g.gives [] []) else None)

  ruling_is : (o : Option Signature) → slice_get d.symbols k ≡ o → ruling d (head.Free k) [] [] ≡ rule_by o
  unfolding ruling
  ruling_is None is = rw is refl
  ruling_is (Some g) is = rw is refl

  refusal_is : refusal d (head.Free k) [] [] ≡ refusal_by (ruling d (head.Free k) [] []) false 0 1 1
  unfolding refusal
  refusal_is =
      ap (λ n. refusal_by (ruling d (head.Free k) [] []) false 0 n (size (node (head.Free k) [] []))) (nesting_node (head.Free k) [] [])
      ∙ ap (λ n. refusal_by (ruling d (head.Free k) [] []) false 0 1 n) (size_node (head.Free k) [] [])

  abbrev refusal_without : Bool → Option TermError
  refusal_without b = if b then None else Some IllSorted

  zero_either_way : (n : ℕ) → nat_eq 0 n ≡ nat_eq n 0
  zero_either_way n = grind (arith, nat_tests)

  by_count : (g : Signature) (a b : Bool) → a ≡ b → all_follow d (width_needs g.gives) ≡ true →
      refusal_by (ruled d (kind.Symbol k) [] (if a then Some (gives g.gives [] []) else None)) false 0 1 1 ≡ refusal_without b
  by_count g true true is needs = rw needs refl
  by_count g false false is needs = refl
  by_count g true false is needs = absurd cc
  by_count g false true is needs = absurd cc

  by_arguments : (g : Signature) → all_follow d (width_needs g.gives) ≡ true → refusal_by (rule_by (Some g)) false 0 1 1 ≡ refusal_without (nat_eq (length g.args) 0)
  by_arguments g needs = by_count g (nat_eq 0 (length g.args)) (nat_eq (length g.args) 0) (zero_either_way (length g.args)) needs

  by_signature : (o : Option Signature) → slice_get d.symbols k ≡ o → AreDeclared d → refusal d (head.Free k) [] [] ≡ refusal_without (has_no_arguments o)
  by_signature None is declared = refusal_is ∙ ap (λ r. refusal_by r false 0 1 1) (ruling_is None is)
  by_signature (Some g) is declared =
      let fine = all_at (λ (s : Signature). All (IsDeclaredSort d) s.args × IsDeclaredSort d s.gives) d.symbols k g declared.symbols is in
      refusal_is ∙ ap (λ r. refusal_by r false 0 1 1) (ruling_is (Some g) is) ∙ by_arguments g (needs_follow d g.gives fine.1.declared)

  -- a symbol alone is refused where it takes arguments
  symbol_refusal : AreDeclared d → refusal d (head.Free k) [] [] ≡ refusal_without (has_no_arguments (slice_get d.symbols k))
  symbol_refusal declared = by_signature (slice_get d.symbols k) refl declared

  abbrev lone : Sexpr → Bool → Read IndexedHead
  lone e b = if b then unless_alone e 0 (head.Free k) else Ok (bare (head.Free k))

  pub lone_constant : (e : Sexpr) → AreDeclared d → refusal d (head.Free k) [] [] ≡ None → symbol_head d e 0 k ≡ refused e reason.BadForm
  lone_constant e declared is = go (has_no_arguments (slice_get d.symbols k)) (sym (symbol_refusal declared) ∙ is)
    where
      go : (b : Bool) → refusal_without b ≡ None → lone e b ≡ refused e reason.BadForm
      go true none = refl
      go false none = absurd (none-some IllSorted (sym none))

  lone_function : (e : Sexpr) (why : TermError) → AreDeclared d → refusal d (head.Free k) [] [] ≡ Some why → symbol_head d e 0 k ≡ Ok (bare (head.Free k))
  lone_function e why declared is = go (has_no_arguments (slice_get d.symbols k)) (sym (symbol_refusal declared) ∙ is)
    where
      go : (b : Bool) → refusal_without b ≡ Some why → lone e b ≡ Ok (bare (head.Free k))
      go true some = absurd (none-some why some)
      go false some = refl

  -- refused as a term alone, and memory was not wanting
  pub lone_refused : (e : Sexpr) (why : TermError) → AreDeclared d → why ≢ Memory → IsRefusal (refusal d (head.Free k) [] []) why → symbol_head d e 0 k ≡ Ok (bare (head.Free k))
  lone_refused e Memory declared ne is = absurd (ne refl)
  lone_refused e IllSorted declared ne is = lone_function e IllSorted declared is
  lone_refused e TooManyArgs declared ne is = lone_function e TooManyArgs declared is
  lone_refused e TooDeep declared ne is = lone_function e TooDeep declared is
  lone_refused e TooLarge declared ne is = lone_function e TooLarge declared is

-- a declared symbol with its arguments makes terms
pub free_ready : (d : Declarations) (k : ℕ) → k < length d.symbols → (a : IndexedHead) → a ≡ bare (head.Free k) → IsDeclaredHead d a
free_ready d k below a is =
    let NoNames : LinearExpression → Type 0 = λ e. NamesBelow (length d.lows) e.parts in
    subst (IsDeclaredHead d) (sym is) (record { symbol = below; indices = All-nil NoNames; bits = tt })
