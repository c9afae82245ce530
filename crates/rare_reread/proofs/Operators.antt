-- Each operator, read.
use Rattle.std.proofs.Common.{◌≡◌, ℕ, ◌≤◌, Bool, true, false, List, [], ◌∷◌, map, length, None, slice_get, All, Ok, refl, sym, ap, ◌∙◌, arith, if◌then◌else◌}
use Rattle.std.specs.Prelude.{codes, nat_eq, nat_lt, ◌&&◌}
use Rattle.std.proofs.lemmas.Bool.{ltb-false}
use Rattle.std.proofs.lemmas.List.{length-map}
use Rattle.std.proofs.lemmas.Option.{none-some, same_Some}
use Rattle.rare_linear.specs.Linears.{LinearExpression}
use Rattle.rare_sort.specs.DeclaredSorts.{widths, follows, all_follow, AreNamed, IsSymbol}
use Rattle.rare_sort.specs.Families.{family}
use Rattle.rare_sort.specs.Sameness.{head_eq}
use Rattle.rare_sort.specs.SortOf.{sort_of}
use Rattle.rare_sort.specs.SortRules.{SortRule, sort_rule, gives, less_one}
use Rattle.rare_sort.specs.Trees.{node}
use Rattle.rare_sort.specs.declared.declarations.Declarations.{Declarations}
use Rattle.rare_sort.specs.declared.family.Basic.TheVariants as basic
use Rattle.rare_sort.specs.declared.head.Head.{Head}
use Rattle.rare_sort.specs.declared.head.Head.TheVariants as head
use Rattle.rare_sort.specs.declared.sort.Sort.{BitVec}
use Rattle.rare_sort.specs.declared.tree.Tree.{Tree}
use Rattle.rare_term.specs.Literals.{operator, reduced, IsGiven}
use Rattle.rare_term.specs.Refusals.{refusal, has_large_number}
use Rattle.rare_scope.specs.Names.{Held, symbol_names, width_names}
use Rattle.rare_scope.specs.Numbers.{LARGEST_SMALL}
use Rattle.rare_operators.specs.declared.words.WordUse.TheVariants.{Difference, Plain}
use Rattle.rare_operators.specs.HeadText.{bare}
use Rattle.rare_term_printing.specs.OperatorTexts.{operator_text, operator_word}
use Rattle.rare_reread.specs.ReadsAs.{ReadsAs}
use Rattle.rare_reread.specs.Readable.{IsReadable, IsKeptLinear}
use Rattle.rare_reread.specs.Terms.{HasValueInRange}
use Rattle.rare_reread.proofs.Heads.{IsHead, word_heads, symbol_heads, indexed_heads}
use Rattle.rare_reread.proofs.Leaves.{Is, Fits, constant_reads, numeral_term_reads, symbol_reads_as}
use Rattle.rare_reread.proofs.Literals.{given_reads, literal_reads}
use Rattle.rare_reread.proofs.Rules.{HasRule, has_rule, none_alone, none_indexed, none_applied, one_argument, several_arguments}

-- an application that is kept
pub record FitsAll (d : Declarations) (h : Head) (ix : List LinearExpression) (us : List Tree) : Type 0 where
  pub allowed : refusal d h ix us ≡ None
  pub literals : reduced h ix ≡ operator h ix
  pub symbol : IsSymbol (length d.symbols) (family h)
  pub numbers : has_large_number h ix ≡ false
  pub named : AreNamed (widths d) ix
  pub given : IsGiven h ix
  pub value : HasValueInRange h
  pub kept : All IsKeptLinear ix

module _ (held : Held) (r : IsReadable held) (d : Declarations) (ts : List Tree) (symbols : length d.symbols ≤ length (symbol_names held)) (names : widths d ≤ length (width_names held)) where
  fits : (h : Head) (ix : List LinearExpression) (us : List Tree) → FitsAll d h ix us → Fits held r d ts h ix us
  fits h ix us f = record { allowed = f.allowed; literals = f.literals }

  rule_of : (h : Head) (ix : List LinearExpression) (us : List Tree) → FitsAll d h ix us → HasRule d h ix (map (sort_of d.symbols) us)
  rule_of h ix us f = has_rule d h ix us f.allowed

  no_rule : (h : Head) (ix : List LinearExpression) (us : List Tree) → FitsAll d h ix us → sort_rule (slice_get d.symbols) 2 (family h) ix (map (sort_of d.symbols) us) ≡ None → ⊥
  no_rule h ix us f none = let q = rule_of h ix us f in none-some q.rule (sym none ∙ q.is)

  small : (n : ℕ) → nat_lt LARGEST_SMALL n ≡ false → n ≤ LARGEST_SMALL
  small n is = ltb-false LARGEST_SMALL n is

  width_least : (v : ℕ) (w : LinearExpression) → FitsAll d (head.Bits v) (w ∷ []) [] → follows d (less_one w) ≡ true
  width_least v w f =
      let q = rule_of (head.Bits v) (w ∷ []) [] f in
      let needs : less_one w ∷ [] ≡ q.rule.needs = ap (λ (x : SortRule). x.needs) (same_Some (gives (BitVec w) [] (less_one w ∷ [])) q.rule q.is) in
      first (follows d (less_one w)) (ap (all_follow d) needs ∙ q.needs)
    where
      first : (b : Bool) → (b && true) ≡ true → b ≡ true
      first true e = refl
      first false e = absurd cc

  -- an operator alone
  pub leaf_reads : (h : Head) (ix : List LinearExpression) → FitsAll d h ix [] → ReadsAs 5 (operator_text held h ix) (Is held r d ts (node h ix []))
  unfolding head_eq
  leaf_reads head.True [] f = constant_reads held r d ts 5 (codes "true") head.True refl refl refl (fits head.True [] [] f)
  leaf_reads head.True (i ∷ ix) f = absurd (no_rule head.True (i ∷ ix) [] f refl)
  leaf_reads head.False [] f = constant_reads held r d ts 5 (codes "false") head.False refl refl refl (fits head.False [] [] f)
  leaf_reads head.False (i ∷ ix) f = absurd (no_rule head.False (i ∷ ix) [] f refl)
  leaf_reads (head.Numeral n) [] f = numeral_term_reads held r d ts 5 n (small n f.numbers) (fits (head.Numeral n) [] [] f)
  leaf_reads (head.Numeral n) (i ∷ ix) f = absurd (no_rule (head.Numeral n) (i ∷ ix) [] f refl)
  leaf_reads (head.Free k) [] f = symbol_reads_as held r d ts 5 k (omega (arith, f.symbol, symbols)) (fits (head.Free k) [] [] f)
  leaf_reads (head.Free k) (i ∷ ix) f = absurd (no_rule (head.Free k) (i ∷ ix) [] f refl)
  leaf_reads (head.Bits v) [] f = absurd (no_rule (head.Bits v) [] [] f refl)
  leaf_reads (head.Bits v) (w ∷ []) f = given_reads held r d ts v w f.value (f.given 0 w (omega arith)) (f.kept 0 w (omega arith)) (width_least v w f) (fits (head.Bits v) (w ∷ []) [] f)
  leaf_reads (head.Bits v) (w ∷ x ∷ ix) f = absurd (no_rule (head.Bits v) (w ∷ x ∷ ix) [] f refl)
  leaf_reads head.Literal [] f = absurd (no_rule head.Literal [] [] f refl)
  leaf_reads head.Literal (a ∷ []) f = absurd (no_rule head.Literal (a ∷ []) [] f refl)
  leaf_reads head.Literal (a ∷ b ∷ []) f = literal_reads held r d ts (widths d) a b names f.named f.kept (fits head.Literal (a ∷ b ∷ []) [] f)
  leaf_reads head.Literal (a ∷ b ∷ c ∷ ix) f = absurd (no_rule head.Literal (a ∷ b ∷ c ∷ ix) [] f refl)
  leaf_reads (head.Param k) ix f = absurd f.symbol
  leaf_reads head.Hole ix f = absurd f.symbol
  leaf_reads h ix f = absurd (no_rule h ix [] f (none_alone (slice_get d.symbols) (family h) ix refl))

  abbrev AsHead : Head → List LinearExpression → List Tree → Type 0
  AsHead h ix us = ReadsAs 5 (operator_text held h ix) (IsHead held r d ts (length us) h ix)

  as_many : (u : Tree) (us : List Tree) → length (map (sort_of d.symbols) (u ∷ us)) ≡ length (u ∷ us)
  as_many u us = length-map (u ∷ us) (sort_of d.symbols)

  neg_heads : (u : Tree) (us : List Tree) → nat_eq (length (u ∷ us)) 1 ≡ true → AsHead head.Neg [] (u ∷ us)
  unfolding head_eq
  neg_heads u us one = word_heads held r d ts 5 (length (u ∷ us)) head.Neg (codes "-") Difference refl refl refl refl refl refl (λ e y. ap (λ b. if b then Ok (bare head.Neg) else Ok (bare head.Minus)) one)

  minus_heads : (u : Tree) (us : List Tree) → nat_eq (length (u ∷ us)) 1 ≡ false → AsHead head.Minus [] (u ∷ us)
  unfolding head_eq
  minus_heads u us more = word_heads held r d ts 5 (length (u ∷ us)) head.Minus (codes "-") Difference refl refl refl refl refl refl (λ e y. ap (λ b. if b then Ok (bare head.Neg) else Ok (bare head.Minus)) more)

  -- an operator before arguments
  pub head_reads : (h : Head) (ix : List LinearExpression) (u : Tree) (us : List Tree) → FitsAll d h ix (u ∷ us) → AsHead h ix (u ∷ us)
  unfolding head_eq
  head_reads head.True ix u us f = absurd (no_rule head.True ix (u ∷ us) f (none_applied (slice_get d.symbols) basic.Bool basic.Bool ix (sort_of d.symbols u) (map (sort_of d.symbols) us)))
  head_reads head.False ix u us f = absurd (no_rule head.False ix (u ∷ us) f (none_applied (slice_get d.symbols) basic.Bool basic.Bool ix (sort_of d.symbols u) (map (sort_of d.symbols) us)))
  head_reads (head.Numeral n) ix u us f = absurd (no_rule (head.Numeral n) ix (u ∷ us) f (none_applied (slice_get d.symbols) basic.Int basic.Int ix (sort_of d.symbols u) (map (sort_of d.symbols) us)))
  head_reads (head.Free k) [] u us f = symbol_heads held r d ts 5 (length (u ∷ us)) k (omega arith) (omega (arith, f.symbol, symbols))
  head_reads (head.Free k) (i ∷ ix) u us f = absurd (no_rule (head.Free k) (i ∷ ix) (u ∷ us) f refl)
  head_reads (head.Bits v) [] u us f = absurd (no_rule (head.Bits v) [] (u ∷ us) f refl)
  head_reads (head.Bits v) (w ∷ []) u us f = absurd (no_rule (head.Bits v) (w ∷ []) (u ∷ us) f refl)
  head_reads (head.Bits v) (w ∷ x ∷ ix) u us f = absurd (no_rule (head.Bits v) (w ∷ x ∷ ix) (u ∷ us) f refl)
  head_reads head.Literal [] u us f = absurd (no_rule head.Literal [] (u ∷ us) f refl)
  head_reads head.Literal (a ∷ []) u us f = absurd (no_rule head.Literal (a ∷ []) (u ∷ us) f refl)
  head_reads head.Literal (a ∷ b ∷ []) u us f = absurd (no_rule head.Literal (a ∷ b ∷ []) (u ∷ us) f refl)
  head_reads head.Literal (a ∷ b ∷ c ∷ ix) u us f = absurd (no_rule head.Literal (a ∷ b ∷ c ∷ ix) (u ∷ us) f refl)
  head_reads (head.Param k) ix u us f = absurd f.symbol
  head_reads head.Hole ix u us f = absurd f.symbol
  head_reads head.Neg [] u us f =
      let q = rule_of head.Neg [] (u ∷ us) f in
      neg_heads u us (ap (λ n. nat_eq n 1) (sym (as_many u us)) ∙ one_argument (slice_get d.symbols) basic.Int basic.Int (map (sort_of d.symbols) (u ∷ us)) q.rule q.is)
  head_reads head.Minus [] u us f =
      let q = rule_of head.Minus [] (u ∷ us) f in
      minus_heads u us (ap (λ n. nat_eq n 1) (sym (as_many u us)) ∙ several_arguments (slice_get d.symbols) basic.Int basic.Int (map (sort_of d.symbols) (u ∷ us)) q.rule q.is)
  head_reads head.Extract [] u us f = absurd (no_rule head.Extract [] (u ∷ us) f refl)
  head_reads head.Extract (j ∷ []) u us f = absurd (no_rule head.Extract (j ∷ []) (u ∷ us) f refl)
  head_reads head.Extract (j ∷ i ∷ []) u us f =
      indexed_heads held r d ts (length (u ∷ us)) (widths d) j (i ∷ []) head.Extract (record { head = head.Extract; indices = 2 }) refl refl refl refl (omega arith) names f.named f.kept
  head_reads head.Extract (j ∷ i ∷ k ∷ ix) u us f = absurd (no_rule head.Extract (j ∷ i ∷ k ∷ ix) (u ∷ us) f refl)
  head_reads head.ZeroExtend [] u us f = absurd (no_rule head.ZeroExtend [] (u ∷ us) f refl)
  head_reads head.ZeroExtend (k ∷ []) u us f =
      indexed_heads held r d ts (length (u ∷ us)) (widths d) k [] head.ZeroExtend (record { head = head.ZeroExtend; indices = 1 }) refl refl refl refl (omega arith) names f.named f.kept
  head_reads head.ZeroExtend (k ∷ j ∷ ix) u us f = absurd (no_rule head.ZeroExtend (k ∷ j ∷ ix) (u ∷ us) f refl)
  head_reads head.SignExtend [] u us f = absurd (no_rule head.SignExtend [] (u ∷ us) f refl)
  head_reads head.SignExtend (k ∷ []) u us f =
      indexed_heads held r d ts (length (u ∷ us)) (widths d) k [] head.SignExtend (record { head = head.SignExtend; indices = 1 }) refl refl refl refl (omega arith) names f.named f.kept
  head_reads head.SignExtend (k ∷ j ∷ ix) u us f = absurd (no_rule head.SignExtend (k ∷ j ∷ ix) (u ∷ us) f refl)
  head_reads head.RotateLeft [] u us f = absurd (no_rule head.RotateLeft [] (u ∷ us) f refl)
  head_reads head.RotateLeft (k ∷ []) u us f =
      indexed_heads held r d ts (length (u ∷ us)) (widths d) k [] head.RotateLeft (record { head = head.RotateLeft; indices = 1 }) refl refl refl refl (omega arith) names f.named f.kept
  head_reads head.RotateLeft (k ∷ j ∷ ix) u us f = absurd (no_rule head.RotateLeft (k ∷ j ∷ ix) (u ∷ us) f refl)
  head_reads head.RotateRight [] u us f = absurd (no_rule head.RotateRight [] (u ∷ us) f refl)
  head_reads head.RotateRight (k ∷ []) u us f =
      indexed_heads held r d ts (length (u ∷ us)) (widths d) k [] head.RotateRight (record { head = head.RotateRight; indices = 1 }) refl refl refl refl (omega arith) names f.named f.kept
  head_reads head.RotateRight (k ∷ j ∷ ix) u us f = absurd (no_rule head.RotateRight (k ∷ j ∷ ix) (u ∷ us) f refl)
  head_reads head.Repeat [] u us f = absurd (no_rule head.Repeat [] (u ∷ us) f refl)
  head_reads head.Repeat (k ∷ []) u us f =
      indexed_heads held r d ts (length (u ∷ us)) (widths d) k [] head.Repeat (record { head = head.Repeat; indices = 1 }) refl refl refl refl (omega arith) names f.named f.kept
  head_reads head.Repeat (k ∷ j ∷ ix) u us f = absurd (no_rule head.Repeat (k ∷ j ∷ ix) (u ∷ us) f refl)
  head_reads h [] u us f = word_heads held r d ts 5 (length (u ∷ us)) h (operator_word h) (Plain h) refl refl refl refl refl refl (λ e y. refl)
  head_reads h (i ∷ ix) u us f = absurd (no_rule h (i ∷ ix) (u ∷ us) f (none_indexed (slice_get d.symbols) (family h) i ix (map (sort_of d.symbols) (u ∷ us)) refl))
