-- The arguments of a step by a rule of a book, as a text gives them: one for each name of the rule, in order, each read by its kind.
use Rattle.std.specs.Prelude.{ℕ, nat_eq, List, [], ◌∷◌, ◌++◌, length, position, codes, Option, Some, None, Result, Ok, Err, if◌then◌else◌}
use Rattle.rare_base.specs.declared.answers.Reason.TheVariants as reason
use Rattle.rare_sexpr.specs.declared.tree.Sexpr.{Sexpr}
use Rattle.rare_sexpr.specs.Tree.{items_of, kind_of, text_of}
use Rattle.rare_sort.specs.declared.declarations.Declarations.{Declarations}
use Rattle.rare_sort.specs.declared.tree.Tree.{Tree}
use Rattle.rare_scope.specs.LinearText.{linear_at, widths_of}
use Rattle.rare_scope.specs.Names.{Names}
use Rattle.rare_scope.specs.Reading.{Read, refused, go_on, is_string_kind, is_word}
use Rattle.rare_scope.specs.SortText.{sort_at}
use Rattle.rare_term_text.specs.TermText.{term_at}
use Rattle.rare_rule.specs.Books.{BookRule, has_name, typed_at}
use Rattle.rare_rule.specs.TypedRule.{TypedRule}
use Rattle.rare_rule.specs.declared.param.Param.{Param}
use Rattle.rare_rule.specs.declared.param.ParamKind.{ParamKind}
use Rattle.rare_rule.specs.declared.param.ParamKind.TheVariants as kind
use Rattle.rare_inst.specs.Arguments.{Argument, OfSort, OfLinear, OfTerm, OfList}
use Rattle.rare_proof.specs.Steps.{StatedRule, Rewrite}
use Rattle.rare_proof.specs.declared.fault.StepFault.{StepFault}
use Rattle.rare_proof.specs.declared.fault.StepFault.TheVariants.{NoSuchRule, ArgCount}

-- the rule of a step with its arguments, or why a text names none
abbrev pub NamedRule : Type 0
NamedRule = Result StatedRule StepFault

module _ (d : Declarations) (names : Names) where
  -- the terms so far, and those that are left
  abbrev pub terms_from : List Tree → List Sexpr → Read (List Tree)
  terms_from ts [] = Ok ts
  terms_from ts (x ∷ xs) = go_on (term_at d names x) (λ t. terms_from (ts ++ t ∷ []) xs)

  -- `(rare-list t ..)`
  abbrev pub list_of_terms : Sexpr → List Sexpr → Read Argument
  list_of_terms e [] = refused e reason.BadForm
  list_of_terms e (h ∷ xs) =
      if is_word (codes "rare-list") h then go_on (terms_from [] xs) (λ ts. Ok (OfList ts)) else refused h reason.BadForm

  -- for a name of this kind: a sort, a linear expression over the widths of the problem, a term, or a list of terms
  abbrev pub argument_at : ParamKind → Sexpr → Read Argument
  argument_at kind.SortName e = go_on (sort_at d names e) (λ s. Ok (OfSort s))
  argument_at kind.Width e = go_on (linear_at (widths_of names) e) (λ l. Ok (OfLinear l))
  argument_at kind.Index e = go_on (linear_at (widths_of names) e) (λ l. Ok (OfLinear l))
  argument_at (kind.Term s) e = go_on (term_at d names e) (λ t. Ok (OfTerm t))
  argument_at (kind.List s) e = list_of_terms e (items_of e)
  argument_at kind.WideList e = list_of_terms e (items_of e)

  -- the arguments so far, and those for the names that are left
  abbrev pub arguments_from : List Argument → List Param → List Sexpr → Read (List Argument)
  arguments_from args (p ∷ ps) (x ∷ xs) = go_on (argument_at p.kind x) (λ a. arguments_from (args ++ a ∷ []) ps xs)
  arguments_from args ps xs = Ok args

  -- arguments of another number than the rule has names are not read
  abbrev pub applied : ℕ → Option TypedRule → List Sexpr → Read NamedRule
  applied k None xs = Ok (Err NoSuchRule)
  applied k (Some t) xs =
      if nat_eq (length xs) (length t.rule.params)
      then go_on (arguments_from [] t.rule.params xs) (λ args. Ok (Ok (Rewrite k args)))
      else Ok (Err ArgCount)

  module _ (book : List BookRule) where
    -- nor are those of a rule that is not in the book
    abbrev pub applied_at : Option ℕ → List Sexpr → Read NamedRule
    applied_at None xs = Ok (Err NoSuchRule)
    applied_at (Some k) xs = applied k (typed_at book k) xs

    abbrev pub instance_of : Sexpr → List Sexpr → Read NamedRule
    instance_of e [] = refused e reason.BadForm
    instance_of e (n ∷ xs) =
        if is_string_kind (kind_of n) then applied_at (position (has_name (text_of n)) book) xs else refused n reason.BadForm

    -- `("NAME" A ..)`, an instance of the rule of this name
    abbrev pub instance_at : Sexpr → Read NamedRule
    instance_at e = instance_of e (items_of e)
