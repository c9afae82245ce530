-- The steps of a reading of bounds.
use Rattle.std.proofs.Common.{◌≡◌, ℕ, ◌+◌, ◌≤◌, true, false, List, [], ◌∷◌, ◌++◌, map, drop, length, slice_get, Some, Ok, refl, sym, ap, ◌∙◌, if◌then◌else◌}
use Rattle.rare_base.specs.declared.answers.Fault.{Fault}
use Rattle.rare_base.specs.declared.answers.Reason.TheVariants as reason
use Rattle.rare_linear.specs.Linears.{LinearExpression}
use Rattle.rare_linear.specs.declared.constraint.Constraint.{Constraint}
use Rattle.rare_sexpr.specs.declared.tree.Sexpr.{Sexpr}
use Rattle.rare_sexpr.specs.Tree.{items_of, kind_of}
use Rattle.rare_scope.specs.Answers.{Fails}
use Rattle.rare_scope.specs.ConstraintText.{constraints_at}
use Rattle.rare_scope.specs.Reading.{refused, go_on, is_list_kind}
use Rattle.rare_scope.proofs.InOrder.{fails_on, goes_on}
use Rattle.rare_scope.proofs.Listing.{drop_at, drop_all}
use Rattle.rare_rule.specs.declared.param.Param.{Param}
use Rattle.rare_parse.specs.RuleNames.{rule_widths}
use Rattle.rare_parse.specs.RuleText.{bounds_of, floors_from, bounds_at}

abbrev pub floors : List Constraint → List LinearExpression
floors cs = map (λ c. c.floor) cs

bounds_floors : (cs : List Constraint) → bounds_of (floors cs) ≡ cs
bounds_floors [] = refl
bounds_floors (c ∷ cs) = ap (λ ds. c ∷ ds) (bounds_floors cs)

floors_more : (cs : List Constraint) (es : List LinearExpression) → floors (cs ++ bounds_of es) ≡ floors cs ++ es
floors_more [] [] = refl
floors_more [] (e ∷ es) = ap (λ ds. e ∷ ds) (floors_more [] es)
floors_more (c ∷ cs) es = ap (λ ds. c.floor ∷ ds) (floors_more cs es)

module _ (ps : List Param) (e : Sexpr) where
  pub no_list : is_list_kind (kind_of e) ≡ false → bounds_at ps e ≡ refused e reason.BadForm
  no_list is = ap (λ b. if b then go_on (floors_from ps [] (items_of e)) (λ fs. Ok (bounds_of fs)) else (refused e reason.BadForm)) is

  listed : is_list_kind (kind_of e) ≡ true → bounds_at ps e ≡ go_on (floors_from ps [] (items_of e)) (λ fs. Ok (bounds_of fs))
  listed is = ap (λ b. if b then go_on (floors_from ps [] (items_of e)) (λ fs. Ok (bounds_of fs)) else (refused e reason.BadForm)) is

  module _ (cs : List Constraint) (k : ℕ) (so : floors_from ps (map (λ c. c.floor) cs) (drop k (items_of e)) ≡ floors_from ps [] (items_of e)) where
    module _ (x : Sexpr) (at : slice_get (items_of e) k ≡ Some x) where
      next : floors_from ps [] (items_of e) ≡ go_on (constraints_at (rule_widths ps) x) (λ fs. floors_from ps (floors cs ++ fs) (drop (k + 1) (items_of e)))
      next = sym so ∙ ap (floors_from ps (floors cs)) (drop_at (items_of e) k x at)

      pub constraint_fails : is_list_kind (kind_of e) ≡ true → (f : Fault) → Fails f (constraints_at (rule_widths ps) x) → Fails f (bounds_at ps e)
      constraint_fails is f bad =
          fails_on f (floors_from ps [] (items_of e)) (λ fs. Ok (bounds_of fs)) (bounds_at ps e) (listed is)
          (fails_on f (constraints_at (rule_widths ps) x) (λ fs. floors_from ps (floors cs ++ fs) (drop (k + 1) (items_of e))) (floors_from ps [] (items_of e)) next bad)

      pub constraint_kept : (ds : List Constraint) (fs : List LinearExpression) → constraints_at (rule_widths ps) x ≡ Ok fs → ds ≡ cs ++ bounds_of fs →
          floors_from ps (map (λ c. c.floor) ds) (drop (k + 1) (items_of e)) ≡ floors_from ps [] (items_of e)
      constraint_kept ds fs read is =
          ap (λ ds. floors_from ps (floors ds) (drop (k + 1) (items_of e))) is
          ∙ ap (λ gs. floors_from ps gs (drop (k + 1) (items_of e))) (floors_more cs fs)
          ∙ sym (goes_on (constraints_at (rule_widths ps) x) fs (λ fs. floors_from ps (floors cs ++ fs) (drop (k + 1) (items_of e))) (floors_from ps [] (items_of e)) next read)

    pub all_read : is_list_kind (kind_of e) ≡ true → length (items_of e) ≤ k → bounds_at ps e ≡ Ok cs
    all_read is le =
        goes_on (floors_from ps [] (items_of e)) (floors cs) (λ fs. Ok (bounds_of fs)) (bounds_at ps e) (listed is) (sym so ∙ ap (floors_from ps (floors cs)) (drop_all (items_of e) k le))
        ∙ ap Ok (bounds_floors cs)
