-- The rules of theory Core hold.
use Rattle.std.proofs.Common.{◌≡◌, ◌≢◌, ◌⊎◌, inl, inr, Bool, true, false, not, ◌&&◌, [], ◌∷◌, refl, ap, ◌∙◌, sym}
use Rattle.std.proofs.Math.Bool.{not-not}
use Rattle.std.specs.Prelude.{◌||◌, if◌then◌else◌}
use Rattle.rare_bits.specs.Bits.{differ}
use Rattle.rare_sort.specs.declared.head.Head.TheVariants as head
use Rattle.rare_meaning.specs.Values.{Value, Truth, value_eq, truth_of}
use Rattle.rare_meaning.specs.Operators.{truth}
use Rattle.rare_meaning.specs.Interpretations.{AnyFunctions}
use Rattle.rare_meaning.proofs.MeaningLemmas.{meaning-node}
use Rattle.rare_meaning.proofs.ValueLemmas.{value_eq_refl, value_eq-same, value_cases}
use Rattle.rare_rule.specs.Holds.{Holds}
use Rattle.rare_rule.specs.Written.{param, apply}
use Rattle.rare_shapes.specs.RuleShapes.{truths}
use Rattle.rare_shapes.proofs.Shapes.{unit_holds, absorbing_holds, flat_holds, swap_holds, dup_holds, compl_holds, de_morgan_holds}
use Rattle.rare_shapes.proofs.TruthLemmas.{at_truth, ands, ors, skips_none, true_is, false_is, turned, not_maps, and_same, or_same, and_turned, or_turned, not_both, not_either}
use Rattle.rare_laws_core.specs.CoreRules.{bool_not_not, bool_and_true, bool_and_false, bool_and_flat, bool_and_dup, bool_and_conf, bool_or_false, bool_or_true, bool_or_flat, bool_or_dup, bool_or_taut, bool_and_comm, bool_or_comm, bool_and_de_morgan, bool_or_de_morgan, bool_impl_elim, bool_xor_false, bool_xor_true, bool_xor_refl, ite_true, ite_false, ite_same, ite_not, ite_bool, ite_then, ite_else, ite_cond, eq_refl, eq_symm, eq_true, eq_false, distinct_elim}

-- ---- `xor`

pub differ-false : (b : Bool) → differ b false ≡ b
differ-false true = refl
differ-false false = refl

pub differ-true : (b : Bool) → differ b true ≡ not b
differ-true true = refl
differ-true false = refl

pub differ-self : (b : Bool) → differ b b ≡ false
differ-self true = refl
differ-self false = refl

-- ---- choices

pub if-same : {X : Type 0} (b : Bool) (x : X) → (if b then x else x) ≡ x
if-same true x = refl
if-same false x = refl

pub if-not : {X : Type 0} (b : Bool) (x y : X) → (if not b then x else y) ≡ (if b then y else x)
if-not true x y = refl
if-not false x y = refl

pub if-truth : (b : Bool) → (if b then (truth true) else (truth false)) ≡ truth b
if-truth true = refl
if-truth false = refl

pub if-then : {X : Type 0} (b : Bool) (x y z : X) → (if b then (if b then x else y) else z) ≡ (if b then x else z)
if-then true x y z = refl
if-then false x y z = refl

pub if-else : {X : Type 0} (b : Bool) (x y z : X) → (if b then x else (if b then y else z)) ≡ (if b then x else z)
if-else true x y z = refl
if-else false x y z = refl

-- ---- equality

pub value_eq_comm : (a b : Value) → value_eq a b ≡ value_eq b a
value_eq_comm a b = elim (value_cases a b) [ inl h ↦ h.0 ∙ sym (value_eq-same b a (sym h.1)) | inr h ↦ other h.0 h.1 (value_cases b a) ]
  where
    other : value_eq a b ≡ false → a ≢ b → ((value_eq b a ≡ true) × (b ≡ a)) ⊎ ((value_eq b a ≡ false) × (b ≢ a)) → value_eq a b ≡ value_eq b a
    other e ne (inl h) = absurd (ne (sym h.1))
    other e ne (inr h) = e ∙ sym h.0

pub equals_true : (b : Bool) → (value_eq (Truth b) (Truth true) && true) ≡ b
equals_true true = refl
equals_true false = refl

pub equals_false : (b : Bool) → (value_eq (Truth b) (Truth false) && true) ≡ not b
equals_false true = refl
equals_false false = refl

pub apart : (t : Bool) → (not (t || false) && true) ≡ not (t && true)
apart true = refl
apart false = refl

-- ---- lists

pub bool_and_true_holds : Holds AnyFunctions bool_and_true []
bool_and_true_holds = unit_holds AnyFunctions truths skips_none head.And ands _ (apply head.True []) true_is

pub bool_and_false_holds : Holds AnyFunctions bool_and_false []
bool_and_false_holds = absorbing_holds AnyFunctions truths skips_none head.And ands _ (apply head.False []) (λ s. Truth false) false_is (λ number names v. refl)

pub bool_and_flat_holds : Holds AnyFunctions bool_and_flat []
bool_and_flat_holds = flat_holds AnyFunctions truths skips_none head.And ands _

pub bool_and_dup_holds : Holds AnyFunctions bool_and_dup []
bool_and_dup_holds = dup_holds AnyFunctions truths skips_none head.And ands _ and_same

pub bool_and_conf_holds : Holds AnyFunctions bool_and_conf []
bool_and_conf_holds =
    compl_holds AnyFunctions truths skips_none head.And ands _ (apply head.Not (param 0 ∷ [])) turned (λ names e v. not_maps names e (param 0) v) (apply head.False []) (λ s. Truth false) false_is
    (λ number names v fits. ap Truth (and_turned (truth_of v))) (λ number names v. refl)

pub bool_and_comm_holds : Holds AnyFunctions bool_and_comm []
bool_and_comm_holds = swap_holds AnyFunctions truths skips_none head.And ands _

pub bool_and_de_morgan_holds : Holds AnyFunctions bool_and_de_morgan []
bool_and_de_morgan_holds =
    de_morgan_holds AnyFunctions truths skips_none head.And ands _ head.Or ors head.Not turned not_maps (λ number names v w x y. ap Truth (not_both (truth_of v) (truth_of w)))

pub bool_or_false_holds : Holds AnyFunctions bool_or_false []
bool_or_false_holds = unit_holds AnyFunctions truths skips_none head.Or ors _ (apply head.False []) false_is

pub bool_or_true_holds : Holds AnyFunctions bool_or_true []
bool_or_true_holds = absorbing_holds AnyFunctions truths skips_none head.Or ors _ (apply head.True []) (λ s. Truth true) true_is (λ number names v. refl)

pub bool_or_flat_holds : Holds AnyFunctions bool_or_flat []
bool_or_flat_holds = flat_holds AnyFunctions truths skips_none head.Or ors _

pub bool_or_dup_holds : Holds AnyFunctions bool_or_dup []
bool_or_dup_holds = dup_holds AnyFunctions truths skips_none head.Or ors _ or_same

pub bool_or_taut_holds : Holds AnyFunctions bool_or_taut []
bool_or_taut_holds =
    compl_holds AnyFunctions truths skips_none head.Or ors _ (apply head.Not (param 0 ∷ [])) turned (λ names e v. not_maps names e (param 0) v) (apply head.True []) (λ s. Truth true) true_is
    (λ number names v fits. ap Truth (or_turned (truth_of v))) (λ number names v. refl)

pub bool_or_comm_holds : Holds AnyFunctions bool_or_comm []
bool_or_comm_holds = swap_holds AnyFunctions truths skips_none head.Or ors _

pub bool_or_de_morgan_holds : Holds AnyFunctions bool_or_de_morgan []
bool_or_de_morgan_holds =
    de_morgan_holds AnyFunctions truths skips_none head.Or ors _ head.And ands head.Not turned not_maps (λ number names v w x y. ap Truth (not_either (truth_of v) (truth_of w)))

-- ---- truth values

pub bool_not_not_holds : Holds AnyFunctions bool_not_not []
bool_not_not_holds = record { same = λ e names counts d m. at_truth d.suits.0 (λ b p. simp (meaning-node, p, not-not)) }

pub bool_impl_elim_holds : Holds AnyFunctions bool_impl_elim []
bool_impl_elim_holds = record { same = λ e names counts d m. at_truth d.suits.0 (λ a p. at_truth d.suits.1.0 (λ b q. simp (meaning-node, p, q))) }

pub bool_xor_false_holds : Holds AnyFunctions bool_xor_false []
bool_xor_false_holds = record { same = λ e names counts d m. at_truth d.suits.0 (λ b p. simp (meaning-node, p, differ-false)) }

pub bool_xor_true_holds : Holds AnyFunctions bool_xor_true []
bool_xor_true_holds = record { same = λ e names counts d m. at_truth d.suits.0 (λ b p. simp (meaning-node, p, differ-true)) }

pub bool_xor_refl_holds : Holds AnyFunctions bool_xor_refl []
bool_xor_refl_holds = record { same = λ e names counts d m. at_truth d.suits.0 (λ b p. simp (meaning-node, p, differ-self)) }

-- ---- choices

pub ite_true_holds : Holds AnyFunctions ite_true []
ite_true_holds = record { same = λ e names counts d m. simp (meaning-node, d.suits.1.0.only.1, d.suits.1.1.0.only.1) }

pub ite_false_holds : Holds AnyFunctions ite_false []
ite_false_holds = record { same = λ e names counts d m. simp (meaning-node, d.suits.1.0.only.1, d.suits.1.1.0.only.1) }

pub ite_same_holds : Holds AnyFunctions ite_same []
ite_same_holds = record { same = λ e names counts d m. at_truth d.suits.1.0 (λ b p. simp (meaning-node, p, d.suits.1.1.0.only.1, if-same)) }

pub ite_not_holds : Holds AnyFunctions ite_not []
ite_not_holds = record {
  same = λ e names counts d m. at_truth d.suits.1.0 (λ b p. simp (meaning-node, p, d.suits.1.1.0.only.1, d.suits.1.1.1.0.only.1, if-not));
}

pub ite_bool_holds : Holds AnyFunctions ite_bool []
ite_bool_holds = record { same = λ e names counts d m. at_truth d.suits.0 (λ b p. simp (meaning-node, p, if-truth)) }

pub ite_then_holds : Holds AnyFunctions ite_then []
ite_then_holds = record {
  same = λ e names counts d m.
      at_truth d.suits.1.0 (λ b p. simp (meaning-node, p, d.suits.1.1.0.only.1, d.suits.1.1.1.0.only.1, d.suits.1.1.1.1.0.only.1, if-then));
}

pub ite_else_holds : Holds AnyFunctions ite_else []
ite_else_holds = record {
  same = λ e names counts d m.
      at_truth d.suits.1.0 (λ b p. simp (meaning-node, p, d.suits.1.1.0.only.1, d.suits.1.1.1.0.only.1, d.suits.1.1.1.1.0.only.1, if-else));
}

pub ite_cond_holds : Holds AnyFunctions ite_cond []
ite_cond_holds = record {
  same = λ e names counts d m.
      at_truth d.suits.1.0 (λ b p.
      let premise = simp (meaning-node, p) at m.0 in
      let is_true : b ≡ true = cc in
      simp (meaning-node, p, d.suits.1.1.0.only.1, d.suits.1.1.1.0.only.1, is_true));
}

-- ---- equality

pub eq_refl_holds : Holds AnyFunctions eq_refl []
eq_refl_holds = record { same = λ e names counts d m. simp (meaning-node, d.suits.1.0.only.1, value_eq_refl) }

pub eq_symm_holds : Holds AnyFunctions eq_symm []
eq_symm_holds = record {
  same = λ e names counts d m.
      let x = d.suits.1.0.only in
      let y = d.suits.1.1.0.only in
      simp (meaning-node, x.1, y.1) (ap (λ t. Truth (t && true) ∷ []) (value_eq_comm x.0.value y.0.value));
}

pub eq_true_holds : Holds AnyFunctions eq_true []
eq_true_holds = record { same = λ e names counts d m. at_truth d.suits.0 (λ b p. simp (meaning-node, p) (ap (λ t. Truth t ∷ []) (equals_true b))) }

pub eq_false_holds : Holds AnyFunctions eq_false []
eq_false_holds = record { same = λ e names counts d m. at_truth d.suits.0 (λ b p. simp (meaning-node, p) (ap (λ t. Truth t ∷ []) (equals_false b))) }

pub distinct_elim_holds : Holds AnyFunctions distinct_elim []
distinct_elim_holds = record {
  same = λ e names counts d m.
      let x = d.suits.1.0.only in
      let y = d.suits.1.1.0.only in
      simp (meaning-node, x.1, y.1) (ap (λ t. Truth t ∷ []) (apart (value_eq x.0.value y.0.value)));
}
