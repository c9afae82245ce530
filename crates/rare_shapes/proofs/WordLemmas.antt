-- Bit vectors: operators on their numbers, at each width.
use Rattle.std.proofs.Common.{◌≡◌, ℕ, ◌-◌, ◌^◌, ◌<◌, List, [], ◌∷◌, refl, ap, ◌∙◌, sym, subst, arith}
use Rattle.std.proofs.lemmas.Nat.{mod_below, pow_pos}
use Rattle.std.proofs.Math.IntN.{+ℤ_idr}
use Rattle.std.proofs.Math.Nat.{zero-mod}
use Rattle.std.specs.Prelude.{ℤ, pos, negsuc}
use Rattle.rare_bits.specs.Bits.{modulo}
use Rattle.rare_linear.specs.Linears.{linear_value, number}
use Rattle.rare_sort.specs.Sorting.{name}
use Rattle.rare_sort.specs.declared.head.Head.{Head}
use Rattle.rare_sort.specs.declared.head.Head.TheVariants as head
use Rattle.rare_sort.specs.declared.tree.Tree.{Tree}
use Rattle.rare_meaning.specs.Values.{Value, Truth, Whole, Bits, Element, Array, ClosedSort, BitVectors, Fits, bits_number, width_of}
use Rattle.rare_meaning.specs.ClosedSorts.{to_nat}
use Rattle.rare_meaning.specs.Settings.{Group, Setting, item, one}
use Rattle.rare_meaning.specs.Splicing.{gathered}
use Rattle.rare_meaning.specs.Operators.{bits, on_all}
use Rattle.rare_meaning.specs.Interpretations.{AnyFunctions}
use Rattle.rare_meaning.specs.Meaning.{here, meaning}
use Rattle.rare_meaning.proofs.MeaningLemmas.{meaning-node}
use Rattle.rare_rule.specs.Holds.{Holds}
use Rattle.rare_rule.specs.Written.{apply}
use Rattle.rare_shapes.specs.Operators.{Operator}
use Rattle.rare_shapes.specs.Totals.{IsTerm}
use Rattle.rare_shapes.specs.RuleShapes.{word, words, p1, unit_rule, absorbing_rule, flat_rule, pair_rule, dup_rule, cancel_rule, de_morgan_rule}
use Rattle.rare_shapes.specs.ShapeLaws.{Skips, Operators}
use Rattle.rare_shapes.proofs.Shapes.{IsConstant, Gives, Maps, unit_holds, absorbing_holds, flat_holds, dup_holds, cancel_holds, compl_holds, de_morgan_holds}

-- the width n of a rule
abbrev pub width_in : (ℕ → ℤ) → ℕ
width_in number = to_nat (linear_value number (name 0))

pub value_is : (n : ℕ) (v : Value) → Fits v (BitVectors n) → v ≡ Bits n (bits_number v)
value_is n (Bits w a) h = ap (λ k. Bits k a) h.0
value_is n (Truth b) h = absurd h
value_is n (Whole z) h = absurd h
value_is n (Element s m) h = absurd h
value_is n (Array m) h = absurd h

pub value_below : (n : ℕ) (v : Value) → Fits v (BitVectors n) → bits_number v < 2 ^ n
value_below n (Bits w a) h = h.1
value_below n (Truth b) h = absurd h
value_below n (Whole z) h = absurd h
value_below n (Element s m) h = absurd h
value_below n (Array m) h = absurd h

-- ---- literals

modulo-below : (v : ℤ) (n : ℕ) → modulo v (2 ^ n) < 2 ^ n
modulo-below (pos a) n = mod_below a (2 ^ n) (pow_pos n)
modulo-below (negsuc a) n = omega (arith, pow_pos n)

-- a word that is told for each width
abbrev pub word_of : (ℕ → ℕ) → ClosedSort → Value
word_of a s = Bits (width_of s) (a (width_of s))

abbrev pub IsLiteral : ℤ → (ℕ → ℕ) → Type 0
IsLiteral v a = (n : ℕ) → modulo v (2 ^ n) ≡ a n

pub zero_is : IsLiteral (pos 0) (λ n. 0)
zero_is n = zero-mod (2 ^ n)

pub ones_are : IsLiteral (negsuc 0) (λ n. 2 ^ n - 1)
ones_are n = omega (arith, zero-mod (2 ^ n))

pub literal_is : (v : ℤ) (a : ℕ → ℕ) → IsLiteral v a → IsConstant words (word v) (word_of a)
literal_is v a is names e =
    let n = width_in e.number in
    let same : modulo v (2 ^ n) ≡ a n = is n in
    record {
      means =
          meaning-node e head.Literal (number v ∷ name 0 ∷ []) []
          ∙ ap (λ z. one (bits n (modulo z (2 ^ n)))) (+ℤ_idr v)
          ∙ ap (λ z. one (bits n z)) same;
      fits = (refl, subst (λ z. z < 2 ^ n) same (modulo-below v n));
    }

-- a function of the numbers of words
abbrev pub word_map : (ℕ → ℕ → ℕ) → ClosedSort → Value → Value
word_map f s v = Bits (width_of s) (f (width_of s) (bits_number v))

-- ---- operators whose arguments may be lists

-- on numbers, at each width
pub record WordOperator (h : Head) : Type 0 where
  pub op : ℕ → ℕ → ℕ → ℕ
  pub unit : ℕ → ℕ
  pub applies : (e : Setting) (g : Group) → here e h [] g ≡ one (on_all op unit g)
  pub below : (n a b : ℕ) → op n a b < 2 ^ n
  pub unit_below : (n : ℕ) → unit n < 2 ^ n
  pub assoc : (n a b c : ℕ) → op n (op n a b) c ≡ op n a (op n b c)
  pub comm : (n a b : ℕ) → op n a b ≡ op n b a
  pub neutral : (n a : ℕ) → a < 2 ^ n → op n (unit n) a ≡ a

abbrev pub at_width : (h : Head) → WordOperator h → (n : ℕ) → Operator h (BitVectors n)
at_width h w n = record {
  op = λ a b. Bits n (w.op n (bits_number a) (bits_number b));
  unit = Bits n (w.unit n);
  applies = λ e g leads.
      w.applies e g
      ∙ ap (λ s. one (gathered (BitVectors (width_of s)) (λ a b. Bits (width_of s) (w.op (width_of s) (bits_number a) (bits_number b))) (Bits (width_of s) (w.unit (width_of s))) g.items)) leads;
  fits = λ a b. (refl, w.below n (bits_number a) (bits_number b));
  unit_fits = (refl, w.unit_below n);
  assoc = λ a b c. ap (Bits n) (w.assoc n (bits_number a) (bits_number b) (bits_number c));
  comm = λ a b. ap (Bits n) (w.comm n (bits_number a) (bits_number b));
  neutral = λ a h. ap (Bits n) (w.neutral n (bits_number a) (value_below n a h)) ∙ sym (value_is n a h);
}

pub skips : Skips words
skips names e ps h = h.1

-- the shapes, for words
module _ (h : Head) (w : WordOperator h) (n : List ℕ) where
  abbrev pub at_all : Operators words h
  at_all number names = at_width h w (width_in number)

  pub word_unit : (v : ℤ) → IsLiteral v w.unit → Holds AnyFunctions (unit_rule words n h (word v)) []
  word_unit v is = unit_holds AnyFunctions words skips h at_all n (word v) (literal_is v w.unit is)

  pub word_absorbing : (v : ℤ) (z : ℕ → ℕ) → IsLiteral v z → ((m a : ℕ) → w.op m (z m) a ≡ z m) → Holds AnyFunctions (absorbing_rule words n h (word v)) []
  word_absorbing v z is absorbs =
      absorbing_holds AnyFunctions words skips h at_all n (word v) (word_of z) (literal_is v z is) (λ number names a. let m = width_in number in ap (Bits m) (absorbs m (bits_number a)))

  pub word_flat : Holds AnyFunctions (flat_rule words n h) []
  word_flat = flat_holds AnyFunctions words skips h at_all n

  pub word_dup : ((m a : ℕ) → a < 2 ^ m → w.op m a a ≡ a) → Holds AnyFunctions (dup_rule words n h) []
  word_dup same =
      dup_holds AnyFunctions words skips h at_all n (λ number names v fits.
      let m = width_in number in
      ap (Bits m) (same m (bits_number v) (value_below m v fits)) ∙ sym (value_is m v fits))

  pub word_cancel : (t : Tree) (f : ℕ → ℕ → ℕ) → Gives words t (word_map f) → ((m a : ℕ) → a < 2 ^ m → w.op m a (f m a) ≡ w.unit m) → Holds AnyFunctions (cancel_rule words n h t) []
  word_cancel t f gives none =
      cancel_holds AnyFunctions words skips h at_all n t (word_map f) gives (λ number names v fits.
      let m = width_in number in
      ap (Bits m) (none m (bits_number v) (value_below m v fits)))

  -- two equal arguments
  pub word_cancel_same : ((m a : ℕ) → a < 2 ^ m → w.op m a a ≡ w.unit m) → Holds AnyFunctions (cancel_rule words n h (p1 words)) []
  word_cancel_same none =
      cancel_holds AnyFunctions words skips h at_all n (p1 words) (λ s v. v) (λ names e v x. x) (λ number names v fits.
      let m = width_in number in
      ap (Bits m) (none m (bits_number v) (value_below m v fits)))

  pub word_compl : (t : Tree) (f : ℕ → ℕ → ℕ) → Gives words t (word_map f) → (v : ℤ) (z : ℕ → ℕ) → IsLiteral v z →
      ((m a : ℕ) → w.op m a (f m a) ≡ z m) → ((m a : ℕ) → w.op m (z m) a ≡ z m) → Holds AnyFunctions (pair_rule words n h t (word v)) []
  word_compl t f gives v z is whole absorbs =
      compl_holds AnyFunctions words skips h at_all n t (word_map f) gives (word v) (word_of z) (literal_is v z is)
      (λ number names a fits. let m = width_in number in ap (Bits m) (whole m (bits_number a)))
      (λ number names a. let m = width_in number in ap (Bits m) (absorbs m (bits_number a)))

  pub word_de_morgan : (dual : Head) (d : WordOperator dual) (inverse : Head) (f : ℕ → ℕ → ℕ) → Maps words inverse (word_map f) →
      ((m a b : ℕ) → f m (w.op m a b) ≡ d.op m (f m a) (f m b)) → Holds AnyFunctions (de_morgan_rule words n inverse h dual) []
  word_de_morgan dual d inverse f maps law =
      de_morgan_holds AnyFunctions words skips h at_all n dual (λ number names. at_width dual d (width_in number)) inverse (word_map f) maps
      (λ number names a b x y. let m = width_in number in ap (Bits m) (law m (bits_number a) (bits_number b)))
