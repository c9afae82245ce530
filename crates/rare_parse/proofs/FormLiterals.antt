-- The literals and atoms that a rule's text spells are nodes of rules in form.
use Rattle.std.proofs.Common.{◌≡◌, ℕ, ◌-◌, ◌*◌, ◌%◌, ◌^◌, ◌<◌, ◌≤◌, Bool, true, false, ◌&&◌, List, [], ◌∷◌, length, nat_lt, bytes_eq, Option, Some, None, Ok, refl, sym, ap, ◌∙◌, subst, arith}
use Rattle.std.specs.Prelude.{ℤ, pos, negsuc, nat_le, if◌then◌else◌, codes}
use Rattle.std.proofs.Math.Nat.{mod-le}
use Rattle.std.proofs.Math.Pow.{pow_mono, pow_pos}
use Rattle.std.proofs.lemmas.Bool.{leb-true, lt-ltb, ltb-true, ltb-false}
use Rattle.rare_base.specs.declared.answers.Reason.TheVariants as reason
use Rattle.rare_linear.specs.Linears.{LinearExpression, number}
use Rattle.rare_linear.specs.EntailmentTest.{fits_i128}
use Rattle.rare_sort.specs.SortRules.{is_number, number_in}
use Rattle.rare_sort.specs.Trees.{node}
use Rattle.rare_sort.specs.declared.head.Head.{Head}
use Rattle.rare_sort.specs.declared.head.Head.TheVariants as head
use Rattle.rare_sort.specs.declared.tree.Tree.{Tree}
use Rattle.rare_sort.proofs.NeedsLemmas.{and_both}
use Rattle.rare_sort.proofs.Options.{if_some}
use Rattle.rare_sexpr.specs.declared.tree.Kind.{Kind}
use Rattle.rare_sexpr.specs.declared.tree.Kind.TheVariants as kind
use Rattle.rare_sexpr.specs.declared.tree.Sexpr.{Sexpr}
use Rattle.rare_sexpr.specs.Tree.{text_of}
use Rattle.rare_term.specs.Literals.{reduced_value}
use Rattle.rare_term.specs.Refusals.{is_below_wide}
use Rattle.rare_scope.specs.LinearText.{linear_at}
use Rattle.rare_scope.specs.Numbers.{LARGEST_WIDE, up_to, digits_number, small_number, wide_number}
use Rattle.rare_scope.specs.Reading.{Read, refused, go_on}
use Rattle.rare_scope.proofs.InOrder.{went, same_Ok}
use Rattle.rare_operators.specs.LiteralText.{digits_behind, numeral_at}
use Rattle.rare_operators.specs.OperatorWords.{operator_of_word}
use Rattle.rare_operators.specs.declared.words.WordUse.{WordUse}
use Rattle.rare_operators.specs.declared.words.WordUse.TheVariants.{Constant, Difference, Plain}
use Rattle.rare_rule.specs.NodeForms.{is_value_of_width, is_other_literal, all_nodes}
use Rattle.rare_rule.specs.Nodes.{walk}
use Rattle.rare_rule.specs.Params.{kind_at, is_term_kind}
use Rattle.rare_rule.specs.declared.param.Param.{Param}
use Rattle.rare_rule.proofs.Walks.{walk-node}
use Rattle.rare_parse.specs.RuleNames.{rule_widths, term_named}
use Rattle.rare_parse.specs.RuleTermText.{numeral_term, bits, bits_literal, decimal_literal, given_literal, linear_literal, word_term, symbol_term, atom_by}
use Rattle.rare_parse.proofs.FormBounds.{expression_over}
use Rattle.rare_parse.proofs.FormHeads.{is_plain_head, is_fine_node, plain_operator, word_plain}
use Rattle.rare_parse.proofs.FormNumbers.{IsOver, IsNarrow, small_narrow, linear_narrow}
use Rattle.rare_parse.proofs.FormSorts.{AreAmong, kind_named, widths_narrow}

-- ---- values

up_to_is : (largest n v : ℕ) → up_to largest n ≡ Some v → v ≤ largest
up_to_is largest n v is =
    let x = if_some (nat_le n largest) n v is in
    let P : ℕ → Type 0 = λ j. j ≤ largest in
    subst P x.1 (leb-true n largest x.0)

-- a value that is below 2^128 and below 2^width
value_fits : (v w : ℕ) → v < 2 ^ 128 → nat_lt v (2 ^ w) ≡ true → is_value_of_width v (Some (pos w)) ≡ true
value_fits v w wide fits = and_both _ _ (lt-ltb v (2 ^ 128) wide) fits

-- a value that is an i128, reduced: a negative one only at a width up to 128
reduced_fits : (m : ℤ) (n : ℕ) → fits_i128 m ≡ true → is_below_wide (Some m) (Some (pos n)) ≡ false → is_value_of_width (reduced_value m (pos n)) (Some (pos n)) ≡ true
reduced_fits (pos a) n narrow close =
    let some : 0 < 2 ^ n = pow_pos n in
    let small : a < 2 ^ 127 = ltb-true a (2 ^ 127) narrow in
    let low : a % 2 ^ n ≤ a = mod-le a (2 ^ n) in
    value_fits (a % 2 ^ n) n (omega (arith, small, low)) (lt-ltb (a % 2 ^ n) (2 ^ n) (omega (arith, some)))
reduced_fits (negsuc a) n narrow close =
    let some : 0 < 2 ^ n = pow_pos n in
    let low : 2 ^ n - 1 - a % 2 ^ n < 2 ^ n = omega (arith, some) in
    value_fits (2 ^ n - 1 - a % 2 ^ n) n (wide (nat_lt 128 n) refl close low) (lt-ltb (2 ^ n - 1 - a % 2 ^ n) (2 ^ n) low)
  where
    wide : (b : Bool) → nat_lt 128 n ≡ b → (b && true) ≡ false → 2 ^ n - 1 - a % 2 ^ n < 2 ^ n → 2 ^ n - 1 - a % 2 ^ n < 2 ^ 128
    wide true is h low = absurd cc
    wide false is h low =
        let few : n ≤ 128 = ltb-false 128 n is in
        let p : 2 ^ n ≤ 2 ^ 128 = pow_mono few in
        omega (arith, low, p)

module _ (ps : List Param) where
  -- each node is one of a rule in form
  abbrev pub IsFineTree : Tree → Type 0
  IsFineTree t = (parent : Option Head) → all_nodes (is_fine_node ps) ((walk t).nodes parent) ≡ true

  abbrev pub GivesTree : Read Tree → Type 0
  GivesTree read = (t : Tree) → read ≡ Ok t → IsFineTree t

  -- a node without arguments
  leaf_fine : (h : Head) (ix : List LinearExpression) → ((parent : Option Head) → is_fine_node ps (record { head = h; indices = ix; parent = parent; args = [] }) ≡ true) → IsFineTree (node h ix [])
  leaf_fine h ix fine = λ parent. ap (λ w. all_nodes (is_fine_node ps) (w.nodes parent)) (walk-node h ix []) ∙ and_both _ _ (fine parent) refl

  leaf_read : (h : Head) (ix : List LinearExpression) → ((parent : Option Head) → is_fine_node ps (record { head = h; indices = ix; parent = parent; args = [] }) ≡ true) →
      GivesTree (Ok (node h ix []))
  leaf_read h ix fine t is = subst IsFineTree (same_Ok (node h ix []) t is) (leaf_fine h ix fine)

  -- ---- literals of given value

  numeral_fine : (e : Sexpr) (o : Option ℕ) → ((k : ℕ) → o ≡ Some k → nat_lt k (2 ^ 127) ≡ true) → GivesTree (numeral_term e o)
  numeral_fine e (Some k) small t is = leaf_read (head.Numeral k) [] (λ parent. small k refl) t is
  numeral_fine e None small t is = absurd cc

  bits_fine : (v w : ℕ) → v < 2 ^ 128 → nat_lt v (2 ^ w) ≡ true → GivesTree (Ok (bits v (number (pos w))))
  bits_fine v w wide fits t is = leaf_read (head.Bits v) (number (pos w) ∷ []) (λ parent. value_fits v w wide fits) t is

  literal_fine : (e : Sexpr) (o : Option ℕ) (w : ℕ) → ((v : ℕ) → o ≡ Some v → v < 2 ^ 128) → GivesTree (bits_literal e o w)
  literal_fine e (Some v) w wide t is = go (nat_lt v (2 ^ w)) refl is
    where
      go : (b : Bool) → nat_lt v (2 ^ w) ≡ b → (if b then Ok (bits v (number (pos w))) else refused e reason.LiteralTooWide) ≡ Ok t → IsFineTree t
      go true fits is = bits_fine v w (wide v refl) fits t is
      go false fits is = absurd cc
  literal_fine e None w wide t is = absurd cc

  wide_below : (base : ℕ) (ds : List ℕ) (v : ℕ) → wide_number base ds ≡ Some v → v < 2 ^ 128
  wide_below base ds v is = let h : v ≤ LARGEST_WIDE = up_to_is LARGEST_WIDE (digits_number base ds) v is in omega (arith, h)

  spelled_fine : (e : Sexpr) (base : ℕ) (ds : List ℕ) (w : ℕ) → GivesTree (bits_literal e (wide_number base ds) w)
  spelled_fine e base ds w t is = literal_fine e (wide_number base ds) w (wide_below base ds) t is

  three_fine : (e u v w : Sexpr) → GivesTree (decimal_literal e (u ∷ v ∷ w ∷ []))
  three_fine e u v w t is =
      let ds = went (digits_behind v) (λ ds. go_on (numeral_at w) (λ n. bits_literal e (wide_number 10 ds) n)) t is in
      let n = went (numeral_at w) (λ n. bits_literal e (wide_number 10 ds.0) n) t ds.2 in
      spelled_fine e 10 ds.0 n.0 t n.2

  pub decimal_fine : (e : Sexpr) (items : List Sexpr) → GivesTree (decimal_literal e items)
  decimal_fine e (u ∷ v ∷ w ∷ []) t is = three_fine e u v w t is
  decimal_fine e items t is = absurd cc

  -- ---- atoms

  plain_fine : (h : Head) → is_plain_head h ≡ true → GivesTree (Ok (node h [] []))
  plain_fine h plain t is = leaf_read h [] (λ parent. plain_operator ps h plain parent []) t is

  constant_fine : (e : Sexpr) (u : Option WordUse) → ((h : Head) → u ≡ Some (Constant h) → is_plain_head h ≡ true) → GivesTree (word_term e u)
  constant_fine e (Some (Constant h)) plain t is = plain_fine h (plain h refl) t is
  constant_fine e (Some (Plain h)) plain t is = absurd cc
  constant_fine e (Some Difference) plain t is = absurd cc
  constant_fine e None plain t is = absurd cc

  other_fine : (e : Sexpr) (b : Bool) → GivesTree (if b then Ok (node head.Hole [] []) else word_term e (operator_of_word (text_of e)))
  other_fine e true t is = leaf_read head.Hole [] (λ parent. refl) t is
  other_fine e false t is = constant_fine e (operator_of_word (text_of e)) (λ h u. word_plain (text_of e) (Constant h) u) t is

  symbol_fine : (e : Sexpr) (o : Option ℕ) → ((k : ℕ) → o ≡ Some k → is_term_kind (kind_at ps k) ≡ true) → GivesTree (symbol_term e o)
  symbol_fine e (Some k) named t is = leaf_read (head.Param k) [] (λ parent. and_both _ _ (and_both _ _ (named k refl) refl) refl) t is
  symbol_fine e None named t is = other_fine e (bytes_eq (text_of e) (codes "_")) t is

  pub atom_fine : (e : Sexpr) (k : Kind) → GivesTree (atom_by ps e k)
  atom_fine e kind.Symbol t is = symbol_fine e (term_named ps (text_of e)) (λ k is. kind_named is_term_kind ps (text_of e) k is) t is
  atom_fine e kind.Numeral t is = numeral_fine e (small_number (text_of e)) (λ k is. small_narrow (digits_number 10 (text_of e)) k is) t is
  atom_fine e kind.Binary t is = spelled_fine e 2 (text_of e) (length (text_of e)) t is
  atom_fine e kind.Hex t is = spelled_fine e 16 (text_of e) (4 * length (text_of e)) t is
  atom_fine e k t is = absurd cc

  -- ---- `(bv E E)`

  abbrev are_over : LinearExpression → LinearExpression → Type 0
  are_over v w = IsOver ps v × IsOver ps w

  other_literal : (v w : LinearExpression) → are_over v w → is_other_literal (number_in v) (number_in w) ≡ true → GivesTree (Ok (node head.Literal (v ∷ w ∷ []) []))
  other_literal v w over other t is = leaf_read head.Literal (v ∷ w ∷ []) (λ parent. and_both _ _ (and_both _ _ over.0 (and_both _ _ over.1 refl)) other) t is

  reduced_literal : (m : ℤ) (n : ℕ) (w : LinearExpression) → IsOver ps w → number_in w ≡ Some (pos n) → is_value_of_width (reduced_value m (pos n)) (Some (pos n)) ≡ true →
      GivesTree (Ok (bits (reduced_value m (pos n)) w))
  reduced_literal m n w over is fits t read =
      leaf_read (head.Bits (reduced_value m (pos n))) (w ∷ [])
      (λ parent. and_both _ _ (and_both _ _ over refl) (ap (is_value_of_width (reduced_value m (pos n))) is ∙ fits)) t read

  close_literal : (e : Sexpr) (m : ℤ) (n : ℕ) (w : LinearExpression) → fits_i128 m ≡ true → IsOver ps w → number_in w ≡ Some (pos n) →
      GivesTree (if is_below_wide (Some m) (Some (pos n)) then refused e reason.LiteralTooWide else Ok (bits (reduced_value m (pos n)) w))
  close_literal e m n w narrow over is t read = go (is_below_wide (Some m) (Some (pos n))) refl read
    where
      go : (b : Bool) → is_below_wide (Some m) (Some (pos n)) ≡ b → (if b then refused e reason.LiteralTooWide else Ok (bits (reduced_value m (pos n)) w)) ≡ Ok t → IsFineTree t
      go true far read = absurd cc
      go false close read = reduced_literal m n w over is (reduced_fits m n narrow close) t read

  given_fine : (e : Sexpr) (v w : LinearExpression) (m n : Option ℤ) → are_over v w → ((k : ℤ) → m ≡ Some k → fits_i128 k ≡ true) → number_in v ≡ m → number_in w ≡ n →
      GivesTree (given_literal e v w m n)
  given_fine e v w (Some m) (Some (pos n)) over narrow vs ws t is = close_literal e m n w (narrow m refl) over.1 ws t is
  given_fine e v w (Some m) (Some (negsuc n)) over narrow vs ws t is = other_literal v w over (rw (vs, ws) refl) t is
  given_fine e v w (Some m) None over narrow vs ws t is = other_literal v w over (rw (vs, ws) refl) t is
  given_fine e v w None n over narrow vs ws t is = other_literal v w over (rw vs refl) t is

  number_narrow : (v : LinearExpression) (k : ℤ) → IsNarrow v → number_in v ≡ Some k → fits_i128 k ≡ true
  number_narrow v k narrow is = ap fits_i128 (sym (if_some (is_number v) v.constant k is).1) ∙ narrow

  module _ (among : AreAmong ps ps) where
    both_fine : (e h v w : Sexpr) → GivesTree (linear_literal ps e (h ∷ v ∷ w ∷ []))
    both_fine e h v w t is =
        let a = went (linear_at (rule_widths ps) v) (λ a. go_on (linear_at (rule_widths ps) w) (λ b. given_literal e a b (number_in a) (number_in b))) t is in
        let b = went (linear_at (rule_widths ps) w) (λ b. given_literal e a.0 b (number_in a.0) (number_in b)) t a.2 in
        let narrow = linear_narrow (rule_widths ps) (widths_narrow ps ps among) v a.0 a.1 in
        given_fine e a.0 b.0 (number_in a.0) (number_in b.0) (expression_over ps among v a.0 a.1, expression_over ps among w b.0 b.1)
        (λ k is. number_narrow a.0 k narrow is) refl refl t b.2

    pub linear_fine : (e : Sexpr) (items : List Sexpr) → GivesTree (linear_literal ps e items)
    linear_fine e (h ∷ v ∷ w ∷ []) t is = both_fine e h v w t is
    linear_fine e items t is = absurd cc
