-- Wrong rules don't hold: valuations that count exist.
use Rattle.std.proofs.Common.{ℕ, false, true, List, [], ◌∷◌, map, All, refl, arith, zero, suc}
use Rattle.std.proofs.lemmas.List.Elements.{All-nil, All-cons}
use Rattle.std.specs.Prelude.{pos}
use Rattle.rare_linear.specs.Linears.{LinearExpression}
use Rattle.rare_sort.specs.Trees.{node}
use Rattle.rare_sort.specs.declared.head.Head.{Head}
use Rattle.rare_sort.specs.declared.head.Head.TheVariants as head
use Rattle.rare_sort.specs.declared.tree.Tree.{Tree, Tree-F, every-Tree, every_made-Tree}
use Rattle.rare_meaning.specs.Values.{Truth, Whole, Truths, Wholes}
use Rattle.rare_meaning.specs.Settings.{Setting, Group, item, group_of, one, nothing}
use Rattle.rare_meaning.specs.Operators.{truth}
use Rattle.rare_meaning.specs.Fitting.{IsOf}
use Rattle.rare_meaning.specs.Interpretations.{FunctionClass, FiniteMaps, AnyFunctions, Counts}
use Rattle.rare_meaning.proofs.MeaningLemmas.{meaning-node}
use Rattle.rare_rule.specs.Holds.{Holds, DoesCount, IsLong, IsLongAt, IsJoined, IsJoinedAt}
use Rattle.rare_rule.specs.Written.{param}
use Rattle.rare_rule.specs.WrongRules.{and_all, ite_other}

every_node : (Q : Tree-F Tree → Type 0) (h : Head) (ix : List LinearExpression) (ws : List ((t : Tree) × every-Tree Q t)) →
    Q (record { head = h; indices = ix; args = map (λ w. w.0) ws }) → every-Tree Q (node h ix (map (λ w. w.0) ws))
every_node Q h ix ws q = every_made-Tree Q (record { head = h; indices = ix; args = map (λ w. w.0) ws }) (record { head = h; indices = ix; args = ws }) refl q

-- all functions are empty maps
abbrev with_groups : (ℕ → Group) → Setting
with_groups g = record {
  number = λ k. pos 0;
  group = g;
  hole = one nothing;
  quotient_by_zero = λ z. pos 0;
  remainder_by_zero = λ z. pos 0;
  symbol_sort = λ k. Truths;
  symbol_value = λ k vs. Truth false;
}

functions_count : (c : FunctionClass) (g : ℕ → Group) → Counts c (with_groups g)
functions_count FiniteMaps g = (record { symbols = []; quotients = []; remainders = [] }, record { symbols = λ k vs. refl; quotients = λ z. refl; remainders = λ z. refl })
functions_count AnyFunctions g = tt

yes : Tree
yes = node head.True [] []

-- ---- with lists: each is of one false item

abbrev at_false : Setting
at_false = with_groups (λ k. group_of Truths (truth false ∷ []))

long : IsLong and_all.params at_false and_all.left
unfolding IsLong
long =
    let Q = IsLongAt and_all.params at_false in
    let leaf : (h : Head) → every-Tree Q (node h [] []) = λ h. every_node Q h [] [] (λ e. cc) in
    every_node Q head.And [] ((param 0, leaf (head.Param 0)) ∷ (node head.True [] [], leaf head.True) ∷ (param 1, leaf (head.Param 1)) ∷ []) (λ e. simp meaning-node (omega arith))

joined_left : IsJoined at_false and_all.left
unfolding IsJoined
joined_left =
    let Q = IsJoinedAt at_false in
    let leaf : (k : ℕ) → every-Tree Q (param k) = λ k. every_node Q (head.Param k) [] [] (λ e. cc) in
    every_node Q head.And [] ((param 0, leaf 0) ∷ (node head.True [] [], every_node Q head.True [] [] (λ e. cc)) ∷ (param 1, leaf 1) ∷ []) (λ e. cc)

joined_right : IsJoined at_false and_all.right
unfolding IsJoined
joined_right = every_node (IsJoinedAt at_false) head.True [] [] (λ e. cc)

pub lists_fail : (c : FunctionClass) → Holds c and_all [] → ⊥
lists_fail c h =
    let one_false : All (IsOf Truths) (truth false ∷ []) = All-cons (IsOf Truths) (truth false) [] (record { sorted = refl; fits = tt }) (All-nil (IsOf Truths)) in
    let d : DoesCount and_all [] (λ k. Truths) at_false = record { suits = ((record { element = refl; each = one_false }, refl), ((record { element = refl; each = one_false }, refl), tt)); hold = tt; long = long; left = joined_left; premises = tt; right = joined_right; context = tt } in
    let same = simp meaning-node at (h.same at_false (λ k. Truths) (functions_count c (λ k. group_of Truths (truth false ∷ []))) d tt) in
    cc

-- ---- with a premise: it is true, and both numbers differ

abbrev choice : ℕ → Group
choice zero = one (truth true)
choice (suc zero) = one (item Wholes (Whole (pos 0)))
choice k = one (item Wholes (Whole (pos 1)))

abbrev at_choice : Setting
at_choice = with_groups choice

module _ (Q : Tree-F Tree → Type 0) (leafs : (k : ℕ) → Q (record { head = head.Param k; indices = []; args = [] })) where
  at_param : (k : ℕ) → every-Tree Q (param k)
  at_param k = every_node Q (head.Param k) [] [] (leafs k)

  at_ite : Q (record { head = head.Ite; indices = []; args = param 0 ∷ param 1 ∷ param 2 ∷ [] }) → every-Tree Q ite_other.left
  at_ite q = every_node Q head.Ite [] ((param 0, at_param 0) ∷ (param 1, at_param 1) ∷ (param 2, at_param 2) ∷ []) q

choice_counts : DoesCount ite_other [] (λ k. Truths) at_choice
unfolding IsLong IsJoined
choice_counts = record {
  suits = (
    record { only = (truth true, refl, record { sorted = refl; fits = tt }) },
    (
      record { only = (item Wholes (Whole (pos 0)), refl, record { sorted = refl; fits = tt }) },
      (record { only = (item Wholes (Whole (pos 1)), refl, record { sorted = refl; fits = tt }) }, tt),
    ),
  );
  hold = tt;
  long = at_ite (IsLongAt ite_other.params at_choice) (λ k e. absurd cc) (λ e. simp meaning-node (omega arith));
  left = at_ite (IsJoinedAt at_choice) (λ k e. cc) (λ e. cc);
  premises = (at_param (IsJoinedAt at_choice) (λ k e. cc) 0, tt);
  right = at_param (IsJoinedAt at_choice) (λ k e. cc) 2;
  context = tt;
}

pub premise_fails : (c : FunctionClass) → Holds c ite_other [] → ⊥
premise_fails c h =
    let same = simp meaning-node at (h.same at_choice (λ k. Truths) (functions_count c choice) choice_counts (simp meaning-node (refl, tt))) in
    cc
