-- The steps of admission.
use Rattle.std.proofs.Common.{◌≡◌, ℕ, ◌+◌, List, length, map, slice_get, All, Bool, Option, Some, None, refl, sym, ap, ◌∙◌, subst}
use Rattle.std.specs.Option.{option_map}
use Rattle.std.proofs.lemmas.Option.{slice_get-map}
use Rattle.rare_linear.specs.Linears.{LinearExpression, NamesBelow}
use Rattle.rare_linear.specs.declared.constraint.Constraint.{Constraint}
use Rattle.rare_sort.specs.declared.declarations.Declarations.{Declarations}
use Rattle.rare_sort.specs.declared.tree.Tree.{Tree}
use Rattle.rare_rule.specs.Nodes.{Node, nodes_of}
use Rattle.rare_rule.specs.Rules.{IsInForm}
use Rattle.rare_rule.specs.RuleSorting.{Types}
use Rattle.rare_rule.specs.TypedRule.{TypedRule}
use Rattle.rare_rule.specs.declared.param.Param.{Param}
use Rattle.rare_rule.specs.declared.rule.Rule.{Rule}
use Rattle.rare_inst.specs.Admission.{obeys, is_met, first_that_fails, first_fault, admission_fault}
use Rattle.rare_inst.specs.Arguments.{Argument, arguments_of, argument_of}
use Rattle.rare_inst.specs.Substituting.{Substitution, substitution, sort_given}
use Rattle.rare_inst.specs.declared.arg.Arg.{Arg}
use Rattle.rare_inst.specs.declared.arg.Arg.TheVariants as given
use Rattle.rare_inst.specs.declared.fault.InstFault.{InstFault}
use Rattle.rare_inst.specs.declared.fault.InstFault.TheVariants.{ArgMissorted, Unentailed}
use Rattle.rare_inst.specs.declared.substitution.Numbers.{Numbers}
use Rattle.rare_inst.specs.inner.RuleTrees.{IsRuleTree}
use Rattle.rare_inst.specs.inner.Sites.{HasNamedSort}
use Rattle.rare_inst.specs.inner.Standing.{AreNumbersOf, HasSorts, StandsFor, sort_standing}

module _ (d : Declarations) (t : TypedRule) (xs : List Argument) where
  abbrev pub standing : Substitution
  standing = substitution d.symbols t.rule.params xs

  -- argument k of the rule obeys
  abbrev pub is_obeyed : Rule → ℕ → Param → Bool
  is_obeyed r k p = obeys d (nodes_of r.left) standing k p (slice_get xs k)

  abbrev pub missorted : Rule → Option ℕ
  missorted r = first_that_fails (is_obeyed r) 0 r.params

  abbrev pub unentailed : Option ℕ
  unentailed = first_that_fails (λ k c. is_met d (nodes_of t.rule.left) standing c) 0 t.constraints

  by_both : (o p : Option ℕ) → missorted t.rule ≡ o → unentailed ≡ p → admission_fault d t xs ≡ first_fault o p
  by_both o p e f = λ i. first_fault (e i) (f i)

  pub first_missorted : (o : Option ℕ) (k : ℕ) → o ≡ missorted t.rule → o ≡ Some k → admission_fault d t xs ≡ Some (ArgMissorted (k + 1))
  first_missorted o k is e = ap (λ p. first_fault p unentailed) (sym is ∙ e)

  pub first_unentailed : (o p : Option ℕ) (k : ℕ) → o ≡ missorted t.rule → o ≡ None → p ≡ unentailed → p ≡ Some k → admission_fault d t xs ≡ Some (Unentailed (k + 1))
  first_unentailed o p k is none met e = by_both None (Some k) (sym is ∙ none) (sym met ∙ e)

  pub admitted : (o p : Option ℕ) → o ≡ missorted t.rule → o ≡ None → p ≡ unentailed → p ≡ None → admission_fault d t xs ≡ None
  admitted o p is none met e = by_both None None (sym is ∙ none) (sym met ∙ e)

-- sorts stand for the names as in the list
pub has_sorts : (d : Declarations) (ts : List Tree) (ps : List Param) (args : List Arg) → HasSorts (substitution d.symbols ps (arguments_of ts args)) args
has_sorts d ts ps args = record { sorts = λ k. by args k }
  where
    one : (o : Option Arg) → sort_given (option_map (argument_of ts) o) ≡ sort_standing o
    one None = refl
    one (Some (given.Sort s)) = refl
    one (Some (given.Linear e)) = refl
    one (Some (given.Term id)) = refl
    one (Some (given.List ids)) = refl

    by : (args : List Arg) (k : ℕ) → sort_given (slice_get (arguments_of ts args) k) ≡ sort_standing (slice_get args k)
    by args k = ap sort_given (slice_get-map (argument_of ts) args k) ∙ one (slice_get args k)

pub is_none : {X : Type 0} (o : Option X) → ((x : X) → o ≡ Some x → ⊥) → o ≡ None
is_none None h = refl
is_none (Some x) h = absurd (h x refl)
