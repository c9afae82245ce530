-- A tree that has a value means that value in every setting.
use Rattle.std.proofs.Common.{◌≡◌, ℕ, zero, suc, Bool, true, false, not, ◌&&◌, ◌||◌, List, [], ◌∷◌, ◌++◌, map, Option, Some, None, refl, sym, ap, ◌∙◌, subst, arith}
use Rattle.std.proofs.lemmas.Int.{ints}
use Rattle.std.specs.Prelude.{ℤ, pos, negsuc, ◌+ℤ◌, fold, if◌then◌else◌}
use Rattle.std.specs.List.{list_any}
use Rattle.rare_linear.specs.Linears.{Part, LinearExpression, linear_value, parts_value}
use Rattle.rare_sort.specs.SortRules.{no_names, number_in}
use Rattle.rare_sort.specs.Sorting.{all_of}
use Rattle.rare_sort.specs.declared.head.Head.{Head}
use Rattle.rare_sort.specs.declared.head.Head.TheVariants as head
use Rattle.rare_sort.specs.declared.tree.Tree.{Tree, Tree-F, roll-Tree, fold-roll-Tree, ind-Tree}
use Rattle.rare_sort.proofs.Options.{if_some, map_some}
use Rattle.rare_meaning.specs.Values.{Value, Whole, Truths, Wholes, whole_of}
use Rattle.rare_meaning.specs.Settings.{Item, Setting, group_of, item, one}
use Rattle.rare_meaning.specs.Splicing.{joined, values, val, from_left}
use Rattle.rare_meaning.specs.Operators.{div_value, quotient_of, remainder_of, whole}
use Rattle.rare_meaning.specs.Meaning.{here, meaning}
use Rattle.rare_meaning.proofs.MeaningLemmas.{meaning-node}
use Rattle.rare_eval.specs.Evaluation.{bare_setting, operator_item, is_zero, has_zero_divisor, is_open, has_value, evaluated, evaluation_step, evaluation}
use Rattle.rare_eval.specs.EvaluationLaws.{NodeEvaluation, ValueIsMeaning, OneValueMeansSame}

pub evaluation-roll : (x : Tree-F Tree) → evaluation (roll-Tree x) ≡ evaluated x.head (all_of (map number_in x.indices)) (all_of (map evaluation x.args))
unfolding evaluation
evaluation-roll x = fold-roll-Tree (Option Item) evaluation_step x

pub evaluation-node : NodeEvaluation
evaluation-node h ix ts = evaluation-roll (record { head = h; indices = ix; args = ts })

-- ---- indices

plus_nothing : (z : ℤ) → (z +ℤ pos 0) ≡ z
plus_nothing z = omega (arith, ints)

-- a number has its value at any numbers of names
number_value : (at : ℕ → ℤ) (e : LinearExpression) (n : ℤ) → number_in e ≡ Some n → linear_value at e ≡ n
number_value at e n h = go e.parts refl h
  where
    go : (ps : List Part) → e.parts ≡ ps → (if no_names ps then (Some e.constant) else None) ≡ Some n → (e.constant +ℤ parts_value at ps) ≡ n
    go [] q h = plus_nothing e.constant ∙ (cc)
    go (p ∷ ps) q h = cc

pub numbers_are : (at : ℕ → ℤ) (ix : List LinearExpression) (ns : List ℤ) → all_of (map number_in ix) ≡ Some ns → map (linear_value at) ix ≡ ns
numbers_are at [] ns h = cc
numbers_are at (e ∷ ix) ns h = go (number_in e) refl h (numbers_are at ix)
  where
    go : (o : Option ℤ) → number_in e ≡ o → all_of (o ∷ map number_in ix) ≡ Some ns → ((ms : List ℤ) → all_of (map number_in ix) ≡ Some ms → map (linear_value at) ix ≡ ms) →
        linear_value at e ∷ map (linear_value at) ix ≡ ns
    go None q h ih = cc
    go (Some n) q h ih =
        let m = map_some (λ ms. n ∷ ms) (all_of (map number_in ix)) ns h in
        (λ i. number_value at e n q i ∷ ih m.0 m.1 i) ∙ m.2

-- ---- operators that don't read the setting

pub both : (a b : Bool) → (a && b) ≡ true → (a ≡ true) × (b ≡ true)
both true b e = (refl, e)
both false b e = cc

pub turned : (a : Bool) → not a ≡ true → a ≡ false
turned false e = refl
turned true e = cc

either_false : (a b : Bool) → (a || b) ≡ false → (a ≡ false) × (b ≡ false)
either_false false b e = (refl, e)
either_false true b e = cc

same_quotient : (y z : ℤ → ℤ) (m n : ℤ) → is_zero n ≡ false → quotient_of y m n ≡ quotient_of z m n
same_quotient y z m (pos zero) h = cc
same_quotient y z m (pos (suc n)) h = refl
same_quotient y z m (negsuc n) h = refl

same_remainder : (y z : ℤ → ℤ) (m n : ℤ) → is_zero n ≡ false → remainder_of y m n ≡ remainder_of z m n
same_remainder y z m (pos zero) h = cc
same_remainder y z m (pos (suc n)) h = refl
same_remainder y z m (negsuc n) h = refl

same_fold : (y z : ℤ → ℤ) (v : Value) (is : List Item) → list_any (λ j. is_zero (whole_of j.value)) is ≡ false →
    fold (div_value y) v (values is) ≡ fold (div_value z) v (values is)
same_fold y z v [] h = refl
same_fold y z v (i ∷ is) h =
    let b = either_false (is_zero (whole_of i.value)) _ h in
    ap (λ w. fold (div_value y) w (values is)) (ap (λ n. Whole n) (same_quotient y z (whole_of v) (whole_of i.value) b.0))
    ∙ same_fold y z (div_value z v i.value) is b.1

same_division : (y z : ℤ → ℤ) (is : List Item) → has_zero_divisor is ≡ false → from_left (div_value y) (Whole (pos 0)) (values is) ≡ from_left (div_value z) (Whole (pos 0)) (values is)
same_division y z [] h = refl
same_division y z (i ∷ is) h = same_fold y z i.value is h

-- what an operator that is not open makes of its arguments is the same in every setting
pub alike : (e : Setting) (h : Head) (ns : List ℤ) (is : List Item) → is_open h is ≡ false → here e h ns (group_of Truths is) ≡ one (operator_item h ns is)
alike e (head.Free k) ns is c = cc
alike e (head.Param k) ns is c = cc
alike e head.Hole ns is c = cc
alike e head.Select ns is c = cc
alike e head.Store ns is c = cc
alike e head.Div ns is c = ap (λ v. one (item Wholes v)) (same_division e.quotient_by_zero bare_setting.quotient_by_zero is c)
alike e head.Mod ns is c = ap (λ n. one (whole n)) (same_remainder e.remainder_by_zero bare_setting.remainder_by_zero (whole_of (val 0 is)) (whole_of (val 1 is)) c)
alike e h ns is c = refl

module _ (e : Setting) where
  abbrev HasMeaning : Tree → Type 0
  HasMeaning t = (i : Item) → evaluation t ≡ Some i → meaning e t ≡ one i

  args_are : (ts : List ((t : Tree) × HasMeaning t)) (is : List Item) → all_of (map evaluation (map (λ t. t.0) ts)) ≡ Some is →
      joined (map (meaning e) (map (λ t. t.0) ts)) ≡ group_of Truths is
  args_are [] is w = ap (group_of Truths) (cc)
  args_are (t ∷ ts) is w = go (evaluation t.0) refl w (args_are ts)
    where
      go : (o : Option Item) → evaluation t.0 ≡ o → all_of (o ∷ map evaluation (map (λ t. t.0) ts)) ≡ Some is →
          ((js : List Item) → all_of (map evaluation (map (λ t. t.0) ts)) ≡ Some js → joined (map (meaning e) (map (λ t. t.0) ts)) ≡ group_of Truths js) →
          joined (map (meaning e) (t.0 ∷ map (λ t. t.0) ts)) ≡ group_of Truths is
      go None h w ih = cc
      go (Some i) h w ih =
          let m = map_some (λ js. i ∷ js) (all_of (map evaluation (map (λ t. t.0) ts))) is w in
          (λ k. group_of (t.1 i h k).element ((t.1 i h k).items ++ (ih m.0 m.1 k).items)) ∙ ap (group_of Truths) m.2

  at_node : (x : Tree-F Tree) → ((is : List Item) → all_of (map evaluation x.args) ≡ Some is → joined (map (meaning e) x.args) ≡ group_of Truths is) → HasMeaning (roll-Tree x)
  at_node x args i w = go (all_of (map number_in x.indices)) (all_of (map evaluation x.args)) refl refl (sym (evaluation-roll x) ∙ w)
    where
      go : (ns : Option (List ℤ)) (is : Option (List Item)) → all_of (map number_in x.indices) ≡ ns → all_of (map evaluation x.args) ≡ is → evaluated x.head ns is ≡ Some i →
          meaning e (roll-Tree x) ≡ one i
      go None is a b w = cc
      go (Some ns) None a b w = cc
      go (Some ns) (Some is) a b w =
          let f = if_some (has_value x.head ns is) (operator_item x.head ns is) i w in
          meaning-node e x.head x.indices x.args
          ∙ ap (λ ms. here e x.head ms (joined (map (meaning e) x.args))) (numbers_are e.number x.indices ns a)
          ∙ ap (here e x.head ns) (args is b)
          ∙ alike e x.head ns is (turned _ (both _ _ f.0).0)
          ∙ ap one f.1

  pub meaning-evaluation : (t : Tree) → HasMeaning t
  meaning-evaluation = ind-Tree HasMeaning (λ x y is. at_node x (subst (λ z. (js : List Item) → all_of (map evaluation z.args) ≡ Some js → joined (map (meaning e) z.args) ≡ group_of Truths js) is (args_are y.args)))

pub value_is_meaning : ValueIsMeaning
value_is_meaning e t i w = meaning-evaluation e t i w

pub one_value_means_same : OneValueMeansSame
one_value_means_same c d t u i w x = record { same = λ e model. meaning-evaluation e t i w ∙ sym (meaning-evaluation e u i x) }
