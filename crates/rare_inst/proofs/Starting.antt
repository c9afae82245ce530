-- Parts of a rule at arguments that it admits.
use Rattle.std.proofs.Common.{◌≡◌, ℕ, List, [], length, slice_get, All, Some, None, refl, sym, ap, ◌∙◌, subst}
use Rattle.std.proofs.lemmas.Option.{get_or_from_slice_get, slice_get_within}
use Rattle.rare_linear.specs.declared.constraint.Constraint.{Constraint}
use Rattle.rare_sort.specs.DeclaredSorts.{AreNamed, widths}
use Rattle.rare_sort.specs.Each.{Each}
use Rattle.rare_sort.specs.Ids.{tree_at}
use Rattle.rare_sort.specs.Trees.{node}
use Rattle.rare_sort.specs.declared.head.Head.TheVariants.{True}
use Rattle.rare_sort.specs.declared.sort.Sort.{Sort, Bool}
use Rattle.rare_sort.specs.declared.tree.Tree.{Tree}
use Rattle.rare_term.specs.State.{State}
use Rattle.rare_rule.specs.Params.{kind_at}
use Rattle.rare_rule.specs.RuleSorting.{Types, TypesAs}
use Rattle.rare_rule.specs.Rules.{IsInForm}
use Rattle.rare_rule.specs.TypedRule.{TypedRule, IsTypedRule}
use Rattle.rare_rule.specs.declared.param.Param.{Param}
use Rattle.rare_rule.specs.declared.param.ParamKind.{ParamKind}
use Rattle.rare_rule.specs.declared.param.ParamKind.TheVariants as kind
use Rattle.rare_rule.specs.declared.rule.Rule.{Rule}
use Rattle.rare_inst.specs.Admission.{IsAdmitted}
use Rattle.rare_inst.specs.Answers.{AreGiven}
use Rattle.rare_inst.specs.Arguments.{Argument, argument_of, arguments_of}
use Rattle.rare_inst.specs.Instance.{instance, instance_fault}
use Rattle.rare_inst.specs.InstanceLaws.{IsArgument, IsInstance}
use Rattle.rare_inst.specs.Substituting.{Substitution, substitution}
use Rattle.rare_inst.specs.declared.arg.Arg.{Arg}
use Rattle.rare_inst.specs.declared.part.Hole.TheVariants as hole
use Rattle.rare_inst.specs.declared.part.Part.{Part}
use Rattle.rare_inst.specs.declared.substitution.Numbers.{Numbers}
use Rattle.rare_inst.specs.inner.Making.{HasSortWithin, IsAlone, IsHoleOf, IsPartOf, hole_fault, hole_group, part_fault, part_group, putting, side_of}
use Rattle.rare_inst.specs.inner.Sites.{HasNamedSort}
use Rattle.rare_inst.specs.inner.Standing.{AreNumbersOf, StandsFor}
use Rattle.rare_inst.proofs.Admitted.{lists_within}
use Rattle.rare_inst.proofs.HoleLemmas.{other, sort_alike}
use Rattle.rare_inst.proofs.Siting.{length_map, count_is, stands, sorts_named}
use Rattle.rare_inst.proofs.RuleTreeLemmas.{left_tree, right_tree, premise_tree}
use Rattle.rare_inst.proofs.SortedInstances.{each_at, whole}
use Rattle.rare_inst.specs.inner.RuleTrees.{IsRuleTree}

module _ (s : State) (t : TypedRule) (args : List Arg) where
  abbrev pub given : List Argument
  given = arguments_of s.trees args

  -- a rule at arguments that it admits
  pub is_instance : IsTypedRule t → Each (IsArgument s.declared) given → IsAdmitted s.declared t given → IsInstance s.declared t given
  is_instance typed arguments admitted = record { typed = typed; arguments = arguments; admitted = admitted }

  -- as many numbers as parameters
  pub count : (n : Numbers) → AreNumbersOf s.declared.symbols given n → length args ≡ length t.rule.params → length t.rule.params ≡ length n.values
  count n are e = sym e ∙ sym (length_map (argument_of s.trees) args) ∙ sym (count_is s.declared.symbols given n are)

  module _ (p : Part) (ps : p.params.now ≡ t.rule.params) (same : p.args.now ≡ args) (are : AreNumbersOf s.declared.symbols given p.numbers.now) where
    abbrev standing : Substitution
    standing = substitution s.declared.symbols t.rule.params given

    pub putting_is : putting s p ≡ other standing (hole_group s.trees p.hole)
    putting_is = λ i. record (substitution s.declared.symbols (ps i) (arguments_of s.trees (same i))) { hole = hole_group s.trees p.hole }

    module _ (i : IsInstance s.declared t given) (held : AreGiven s args) (hole : IsHoleOf s.trees p.hole) (named : AreNamed (widths s.declared) p.numbers.now.values) where
      within : (k : ℕ) (c : ParamKind) → kind_at t.rule.params k ≡ Some c → HasSortWithin (other standing (hole_group s.trees p.hole)) c
      within k (kind.List r) e = sort_alike standing (hole_group s.trees p.hole) r ∙ lists_within s.declared t given i.arguments i.admitted k r e
      within k kind.SortName e = tt
      within k kind.Width e = tt
      within k kind.Index e = tt
      within k (kind.Term r) e = tt
      within k kind.WideList e = tt

      pub is_part : IsPartOf s p
      is_part = record {
        args = subst (AreGiven s) (sym same) held;
        hole = hole;
        numbers = subst (λ (a : Substitution). StandsFor a p.numbers.now) (sym putting_is)
            (stands s.declared.symbols given p.numbers.now are (other standing (hole_group s.trees p.hole)) (λ k. refl) (λ k. refl));
        named = named;
        within = λ k c e. subst (λ (a : Substitution). HasSortWithin a c) (sym putting_is) (within k c (ap (λ qs. kind_at qs k) (sym ps) ∙ e));
      }

  pub sorts_are : (n : ℕ) (qs : List Param) → IsTypedRule t → length t.rule.params ≡ n → qs ≡ t.rule.params → All (λ p. HasNamedSort n p.kind) qs
  sorts_are n qs typed e same =
      subst (λ (rs : List Param). All (λ p. HasNamedSort n p.kind) rs) (sym same)
      (subst (λ (m : ℕ). All (λ p. HasNamedSort m p.kind) t.rule.params) e (sorts_named t.rule typed.form))

pub is_typed : (t : TypedRule) (r : Rule) (cs : List Constraint) → r ≡ t.rule → IsInForm r → cs ≡ t.constraints → Types t.rule cs → IsTypedRule t
is_typed t r cs same form is typing = record {
  form = subst IsInForm same form;
  typing = subst (λ (xs : List Constraint). Types t.rule xs) is typing;
}

module _ (s : State) (t : TypedRule) (args : List Arg) (p : Part) (ps : p.params.now ≡ t.rule.params) (same : p.args.now ≡ args) (are : AreNumbersOf s.declared.symbols (given s t args) p.numbers.now)
    (i : IsInstance s.declared t (given s t args)) (none : p.hole ≡ hole.Nothing) where
  abbrev a : Substitution
  a = substitution s.declared.symbols t.rule.params (given s t args)

  pub plain_putting : putting s p ≡ a
  plain_putting = putting_is s t args p ps same are ∙ ap (λ h. other a (hole_group s.trees h)) none

  pub plain_fault : (u : Tree) → part_fault s p u ≡ instance_fault s.declared t.rule.params a (side_of p.side) None u
  plain_fault u = λ j. instance_fault s.declared (ps j) (plain_putting j) (side_of p.side) (hole_fault (none j)) u

  -- a part that has no fault becomes one term
  pub plain_alone : (u : Tree) (x : Sort) → TypesAs t.rule u x → part_fault s p u ≡ None → IsAlone (part_group s p u)
  plain_alone u x h e =
      let w = whole s.declared t (given s t args) i (side_of p.side) u x h (sym (plain_fault u) ∙ e) in
      record { tree = w.0; only = ap (λ b. (instance b u).trees) plain_putting ∙ w.1.only }

-- ---- the parts of a rule

module _ (t : TypedRule) (typed : IsTypedRule t) (r : Rule) (same : r ≡ t.rule) where
  pub left_is_tree : IsRuleTree (length t.rule.params) r.left
  left_is_tree = subst (λ (q : Rule). IsRuleTree (length t.rule.params) q.left) (sym same) (left_tree t.rule typed.form)

  pub right_is_tree : IsRuleTree (length t.rule.params) r.right
  right_is_tree = subst (λ (q : Rule). IsRuleTree (length t.rule.params) q.right) (sym same) (right_tree t.rule typed.form)

  pub premise_is_tree : (k : ℕ) (x : Tree) → slice_get r.premises k ≡ Some x → IsRuleTree (length t.rule.params) x
  premise_is_tree k x e = premise_tree t.rule typed.form k x (ap (λ (q : Rule). slice_get q.premises k) (sym same) ∙ e)

  pub premise_sort : (k : ℕ) (x : Tree) → slice_get r.premises k ≡ Some x → TypesAs t.rule x Bool
  premise_sort k x e =
      let at : slice_get t.rule.premises k ≡ Some x = ap (λ (q : Rule). slice_get q.premises k) (sym same) ∙ e in
      subst (λ (u : Tree). TypesAs t.rule u Bool) (get_or_from_slice_get t.rule.premises k x x at)
      (each_at (λ u. TypesAs t.rule u Bool) t.rule.premises typed.typing.typed.premises k x (slice_get_within t.rule.premises k x at))

  pub premise_is : (k : ℕ) (x : Tree) → slice_get r.premises k ≡ Some x → x ≡ tree_at t.rule.premises k
  premise_is k x e = sym (get_or_from_slice_get t.rule.premises k x (node True [] []) (ap (λ (q : Rule). slice_get q.premises k) (sym same) ∙ e))
