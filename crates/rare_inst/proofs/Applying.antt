-- The setting that arguments give counts for the rule, and a rule that holds applies.
use Rattle.std.proofs.Common.{ℕ, ◌+◌, arith, ◌≡◌, List, [], ◌∷◌, refl, sym, ap, ◌∙◌, subst, Option, Some, None, Ok}
use Rattle.std.specs.Prelude.{true, false}
use Rattle.rare_sort.specs.Each.{Each, EachPair}
use Rattle.rare_sort.specs.Trees.{node}
use Rattle.rare_sort.specs.declared.declarations.Declarations.{Declarations}
use Rattle.rare_sort.specs.declared.head.Head.TheVariants.{True}
use Rattle.rare_sort.specs.declared.sort.Sort.{Sort, Bool}
use Rattle.rare_sort.specs.declared.tree.Tree.{Tree}
use Rattle.rare_meaning.specs.Interpretations.{FunctionClass, IsModel}
use Rattle.rare_meaning.specs.Meaning.{meaning, value_of}
use Rattle.rare_meaning.specs.Settings.{Group, Item, Setting}
use Rattle.rare_meaning.specs.Splicing.{val, values}
use Rattle.rare_meaning.specs.Values.{Value, Truth}
use Rattle.rare_meaning.specs.TrueRewrite.{MeansSame}
use Rattle.rare_meaning.proofs.MeaningLemmas.{meaning-node}
use Rattle.rare_meaning.proofs.RewriteLemmas.{counts_elsewhere, one_item, true_is_same}
use Rattle.rare_rule.specs.Holds.{IsJoined, at_right, JoinsContext, AreTrue, result_meaning}
use Rattle.rare_rule.specs.RuleSorting.{TypesAs}
use Rattle.rare_rule.specs.TypedRule.{TypedRule}
use Rattle.rare_rule.specs.declared.rule.Rule.{Rule}
use Rattle.rare_inst.specs.Arguments.{Argument}
use Rattle.rare_inst.specs.Induced.{induced, induced_sorts}
use Rattle.rare_inst.specs.Instance.{Side, LeftSide, OtherSide, instance, instance_fault, part_of, result_in}
use Rattle.rare_inst.specs.InstanceLaws.{IsInstance, Parts, HasParts, MeanAlike, MeansAsRule, InstancesMeanAsRules, RulesThatHoldApply, InstancesMeanSame}
use Rattle.rare_inst.specs.Substituting.{Substitution, put_sort}
use Rattle.rare_inst.specs.declared.fault.InstFault.{InstFault}
use Rattle.rare_inst.proofs.Admitted.{Suits, suits, constraints_follow}
use Rattle.rare_inst.proofs.Holes.{hole_exists}
use Rattle.rare_inst.proofs.InstanceMeaning.{meaning-instance}
use Rattle.rare_inst.proofs.SortedInstances.{instances_sorted, exists, putting, at_hole, Is, one_part, result_group, result_part}
use Rattle.rare_inst.proofs.Suiting.{suit_all, constraints_hold, all_joined, all_long, items_of}

none_plus : (n : ℕ) → n ≡ 0 + n
none_plus n = omega arith

abbrev first_value : List Value → Value
first_value [] = Truth false
first_value (v ∷ vs) = v

first_is : (is : List Item) → val 0 is ≡ first_value (values is)
first_is [] = refl
first_is (i ∷ is) = refl

module _ (c : FunctionClass) (d : Declarations) (t : TypedRule) (args : List Argument) (i : IsInstance d t args) (e : Setting) (model : IsModel c d e) where
  abbrev r : Rule
  r = t.rule

  abbrev a : Substitution
  a = putting d t args i

  abbrev v : Setting
  v = induced e a

  abbrev sort : Sort
  sort = i.typed.typing.typed.sort

  abbrev fault : Side → Tree → Option InstFault
  fault side p = instance_fault d r.params a side None p

  no_fault : (side : Side) (p u : Tree) → part_of d r args side p ≡ Ok u → fault side p ≡ None
  no_fault side p u q = (exists (fault side p) (instance a p) u q).0

  part_joined : (side : Side) (p u : Tree) → part_of d r args side p ≡ Ok u → IsJoined v p
  part_joined side p u q = all_joined c d e model a r.params None side p (no_fault side p u q)

  part_alike : (side : Side) (p : Tree) (s : Sort) → TypesAs r p s → (u : Tree) → part_of d r args side p ≡ Ok u → MeanAlike v p e u
  part_alike side p s h u q = items_of c d e model a p u (one_part d t args i side p s h u q).only

  premises_joined : (ps us : List Tree) → EachPair (λ p u. part_of d r args OtherSide p ≡ Ok u) ps us → Each (IsJoined v) ps
  premises_joined [] [] h = tt
  premises_joined [] (u ∷ us) h = absurd h
  premises_joined (p ∷ ps) [] h = absurd h
  premises_joined (p ∷ ps) (u ∷ us) h = (part_joined OtherSide p u h.0, premises_joined ps us h.1)

  premises_alike : (ps us : List Tree) → Each (λ p. TypesAs r p Bool) ps → EachPair (λ p u. part_of d r args OtherSide p ≡ Ok u) ps us → EachPair (λ p u. MeanAlike v p e u) ps us
  premises_alike [] [] k h = tt
  premises_alike [] (u ∷ us) k h = absurd h
  premises_alike (p ∷ ps) [] k h = absurd h
  premises_alike (p ∷ ps) (u ∷ us) k h = (part_alike OtherSide p Bool k.0 u h.0, premises_alike ps us k.1 h.1)

  -- ---- the result

  abbrev b : Substitution
  b = at_hole d t args i

  -- the right side in the hole, in the instance and in the meaning
  setting_is : induced e b ≡ at_right v r
  setting_is = λ x. record v { hole = sym (meaning-instance e model.single a r.right) x }

  abbrev context_fault : Tree → Option InstFault
  context_fault x = instance_fault d r.params b OtherSide (fault OtherSide r.right) x

  right_exists : (x : Option Tree) → r.context ≡ x → (u : Tree) → result_in d r args x ≡ Ok u → fault OtherSide r.right ≡ None
  right_exists None is u q = no_fault OtherSide r.right u q
  right_exists (Some x) is u q = hole_exists d r b OtherSide (fault OtherSide r.right) i.typed.form x is (exists (context_fault x) (instance b x) u q).0

  context_joined : (x : Option Tree) → (u : Tree) → result_in d r args x ≡ Ok u → JoinsContext v r x
  context_joined None u q = tt
  context_joined (Some x) u q =
      subst (λ s. IsJoined s x) setting_is (all_joined c d e model b r.params (fault OtherSide r.right) OtherSide x (exists (context_fault x) (instance b x) u q).0)

  result_alike : (x : Option Tree) (u : Tree) → Is d t args i (result_group d t args i x) sort u → (result_meaning v r x).items ≡ (meaning e u).items
  result_alike None u h = items_of c d e model a r.right u h.only
  result_alike (Some x) u h = ap (λ s. (meaning s x).items) (sym setting_is) ∙ items_of c d e model b x u h.only

  module _ (x : Parts) (parts : HasParts d r args x) where
    pub means_as_rule : MeansAsRule c t a e x
    means_as_rule = record {
      functions = counts_elsewhere c e v.number v.group v.hole model.counts;
      counts = record {
        suits = suit_all c d e model a 0 r.params (λ k y q. subst (λ n. Suits d (put_sort a.number a.sort) y (a.number n) (a.sort n) (a.group n)) (none_plus k) (suits d t args i.arguments i.admitted k y q));
        hold = constraints_hold c d e model a t.constraints (constraints_follow d t args i.arguments i.admitted);
        long = all_long c d e model a r.params None r.left (no_fault LeftSide r.left x.left parts.left);
        left = part_joined LeftSide r.left x.left parts.left;
        premises = premises_joined r.premises x.premises parts.premises;
        right = all_joined c d e model a r.params None OtherSide r.right (right_exists r.context refl x.result parts.result);
        context = context_joined r.context x.result parts.result;
      };
      left = part_alike LeftSide r.left sort i.typed.typing.typed.left x.left parts.left;
      premises = premises_alike r.premises x.premises i.typed.typing.typed.premises parts.premises;
      result = result_alike r.context x.result (result_part d t args i x.result parts.result);
    }

pub mean_as_rules : InstancesMeanAsRules
mean_as_rules c d t args x i parts e model = means_as_rule c d t args i e model x parts

-- ---- a rule that holds

module _ (c : FunctionClass) (d : Declarations) (e : Setting) (model : IsModel c d e) (v : Setting) where
  -- a term that has a value means this alone
  values_of : (u : Tree) (w : Value) → value_of e u ≡ w → values (meaning e u).items ≡ w ∷ []
  values_of u w q =
      let i = one_item e model.single u in
      let same : i.0.value ≡ w = sym (ap (λ g. val 0 g.items) i.1) ∙ q in
      ap (λ g. values g.items) i.1 ∙ ap (λ z. z ∷ []) same

  are_true : (ps us : List Tree) → EachPair (λ p u. MeanAlike v p e u) ps us → Each (λ u. value_of e u ≡ Truth true) us → AreTrue v ps
  are_true [] [] h k = tt
  are_true [] (u ∷ us) h k = absurd h
  are_true (p ∷ ps) [] h k = absurd h
  are_true (p ∷ ps) (u ∷ us) h k = (ap values h.0 ∙ values_of u (Truth true) k.0, are_true ps us h.1 k.1)

pub hold_apply : RulesThatHoldApply
hold_apply c d t args x i parts holds e model premises =
    let m = means_as_rule c d t args i e model x parts in
    let v = induced e (putting d t args i) in
    let same = holds.same v (induced_sorts e (putting d t args i)) m.functions m.counts (are_true c d e model v t.rule.premises x.premises m.premises premises) in
    let both : values (meaning e x.left).items ≡ values (meaning e x.result).items = sym (ap values m.left) ∙ same ∙ ap values m.result in
    first_is (meaning e x.left).items ∙ ap first_value both ∙ sym (first_is (meaning e x.result).items)

module _ (c : FunctionClass) (d : Declarations) (e : Setting) (model : IsModel c d e) where
  -- what means what `true` means has the value true
  true_values : (us : List Tree) → Each (λ u. MeansSame c d u (node True [] [])) us → Each (λ u. value_of e u ≡ Truth true) us
  true_values [] h = tt
  true_values (u ∷ us) h =
      (ap (λ (g : Group). val 0 g.items) (h.0.same e model ∙ meaning-node e True [] []), true_values us h.1)

pub mean_same : InstancesMeanSame
mean_same c d t args x i parts holds premises =
    let sorts = instances_sorted d t args i in
    true_is_same c d x.left x.result sorts.sort (sorts.left x.left parts.left) (sorts.result x.result parts.result)
    (record { same = λ e model. hold_apply c d t args x i parts holds e model (true_values c d e model x.premises premises) })
