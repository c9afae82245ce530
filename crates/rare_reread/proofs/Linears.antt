-- Numbers, parts and sums, read.
use Rattle.std.proofs.Common.{◌≡◌, ◌≢◌, ℕ, zero, suc, ◌+◌, ◌-◌, ◌<◌, ◌≤◌, Bool, true, false, List, [], ◌∷◌, ◌++◌, map, drop, length, bytes_eq, Some, None, Ok, refl, sym, ap, ◌∙◌, subst, arith, FitsSigned, if◌then◌else◌}
use Rattle.std.specs.Prelude.{ℤ, pos, negsuc, ◌*ℤ◌, ◌&&◌, codes, is_some, nat_eq}
use Rattle.std.specs.Int.{w128}
use Rattle.std.specs.Fmt.{decimal, digits}
use Rattle.std.proofs.lemmas.Bool.{eqb-true, eqb-false}
use Rattle.std.proofs.lemmas.Int.{ints}
use Rattle.std.proofs.lemmas.List.{append-nil}
use Rattle.std.proofs.Math.IntN.{*ℤ-zero, *ℤ-one}
use Rattle.rare_base.specs.declared.answers.Reason.TheVariants.{TermLimit, BadForm}
use Rattle.rare_linear.specs.Linears.{Part, LinearExpression, linear, number, scale}
use Rattle.rare_linear.specs.PartialSums.{IsWithin}
use Rattle.rare_linear.proofs.EntailmentTestLemmas.{is_within-Decides}
use Rattle.rare_sexpr.specs.declared.tree.AtomKind.TheVariants as atom
use Rattle.rare_sexpr.specs.declared.tree.Sexpr.{Sexpr}
use Rattle.rare_sexpr.specs.Tree.{kind_of, text_of, items_of, list_of}
use Rattle.rare_sexpr.specs.Written.{is_simple}
use Rattle.rare_scope.specs.declared.sign.Sign.{Sign}
use Rattle.rare_scope.specs.declared.sign.Sign.TheVariants as sign
use Rattle.rare_scope.specs.Entries.{entry}
use Rattle.rare_scope.specs.Numbers.{LARGEST_SMALL, small_number}
use Rattle.rare_scope.specs.Reading.{refused, go_on, is_symbol_kind, is_list_kind, is_word}
use Rattle.rare_scope.specs.LinearText.{begins_size, WidthNames, signs, may_have, form_by, form_of, numeral, width_named, fitting, joined, folded, from_first, operands, linear_by, linear_at}
use Rattle.rare_scope.specs.Printing.{negation_text, number_text}
use Rattle.rare_scope.proofs.LinearSteps.{atom_read, list_read, pair}
use Rattle.rare_reread.specs.ReadsAs.{ReadsAs, RunsAs, IsListOf}
use Rattle.rare_reread.proofs.Atoms.{IsAtom, kind_is, text_is, list_kind, list_items, word_reads, numeral_reads, decimal_small}
use Rattle.rare_reread.proofs.Joining.{Begins, nothing_runs, more_runs, list_reads}

-- ---- the same text, read as something that follows

pub so_reads : (n m : ℕ) (bytes text : List ℕ) (Is Is' : Sexpr → Type 0) → n ≤ m → bytes ≡ text → ((e : Sexpr) → Is e → Is' e) → ReadsAs n bytes Is → ReadsAs m text Is'
so_reads n m bytes text Is Is' le same f r = subst (λ (t : List ℕ). ReadsAs m t Is') same (record {
  expression = r.expression;
  is = λ p. f (r.expression p) (r.is p);
  spells = λ d p rest l ok. r.spells d p rest (omega (arith, l, le)) ok;
})

pub so_runs : (n m : ℕ) (bytes text : List ℕ) (Are Are' : List Sexpr → Type 0) → n ≤ m → bytes ≡ text → ((es : List Sexpr) → Are es → Are' es) → RunsAs n bytes Are → RunsAs m text Are'
so_runs n m bytes text Are Are' le same f r = subst (λ (t : List ℕ). RunsAs m t Are') same (record {
  expressions = r.expressions;
  are = λ p. f (r.expressions p) (r.are p);
  spells = λ d p rest l ok. r.spells d p rest (omega (arith, l, le)) ok;
  follows = r.follows;
})

pub fits : (e : Sexpr) (l : LinearExpression) → IsWithin l → fitting e l ≡ Ok l
fits e l h = ap (λ b. if b then Ok l else refused e TermLimit) ((is_within-Decides l).1 h)

module _ (w : WidthNames) where
  abbrev pub Gives : LinearExpression → Sexpr → Type 0
  Gives l e = linear_at w e ≡ Ok l

  -- each gives what it is to give
  abbrev pub GiveEach : List LinearExpression → List Sexpr → Type 0
  GiveEach [] [] = Unit {0}
  GiveEach [] (e ∷ es) = ⊥
  GiveEach (l ∷ ls) [] = ⊥
  GiveEach (l ∷ ls) (e ∷ es) = Gives l e × GiveEach ls es

  pub no_more : (es : List Sexpr) → es ≡ [] → GiveEach [] es
  no_more es is = subst (GiveEach []) (sym is) tt

  pub one_more : (l : LinearExpression) (ls : List LinearExpression) (es : List Sexpr) → Begins (Gives l) (GiveEach ls) es → GiveEach (l ∷ ls) es
  one_more l ls es b = subst (GiveEach (l ∷ ls)) (sym b.both) (b.is, b.are)

  -- ---- atoms

  pub numeral_gives : (n : ℕ) (e : Sexpr) → n ≤ LARGEST_SMALL → IsAtom atom.Numeral (decimal n) e → Gives (number (pos n)) e
  numeral_gives n e le a =
      let k = kind_is atom.Numeral (decimal n) e a in
      atom_read w e (ap is_list_kind k) ∙ ap (λ k. linear_by w e k []) k ∙ ap (numeral e) (ap small_number (text_is atom.Numeral (decimal n) e a) ∙ decimal_small n le)

  pub name_gives : (name : List ℕ) (k : ℕ) (e : Sexpr) → w.number name ≡ Some k → IsAtom atom.Symbol name e → Gives (linear (pos 0) ((k, pos 1) ∷ [])) e
  name_gives name k e is a =
      let s = kind_is atom.Symbol name e a in
      atom_read w e (ap is_list_kind s) ∙ ap (λ k. linear_by w e k []) s ∙ ap (width_named e) (ap w.number (text_is atom.Symbol name e a) ∙ is)

  -- ---- lists

  form : (e h x : Sexpr) (xs : List Sexpr) (word : List ℕ) (s : Sign) → IsAtom atom.Symbol word h → entry signs word ≡ Some s → may_have s (length xs) ≡ true → form_of e (h ∷ x ∷ xs) ≡ Ok s
  form e h x xs word s a is may =
      ap (form_by e h (length xs)) (ap (λ k. if is_symbol_kind k then entry signs (text_of h) else None) (kind_is atom.Symbol word h a) ∙ ap (entry signs) (text_is atom.Symbol word h a) ∙ is)
      ∙ ap (λ b. if b then Ok s else refused e BadForm) may

  never : (a b : Bool) → b ≡ false → (a && b) ≡ false
  never true b is = is
  never false b is = refl

  begins_other : (word : List ℕ) (h : Sexpr) → bytes_eq word (codes "bvsize") ≡ false → IsAtom atom.Symbol word h → is_word (codes "bvsize") h ≡ false
  begins_other word h other a =
      ap (λ k. is_symbol_kind k && bytes_eq (text_of h) (codes "bvsize")) (kind_is atom.Symbol word h a) ∙ ap (λ t. bytes_eq t (codes "bvsize")) (text_is atom.Symbol word h a) ∙ other

  -- a list that begins with a sign gives what its operands give
  pub list_gives : (word : List ℕ) (s : Sign) (l : LinearExpression) (ls : List LinearExpression) (sum : LinearExpression) (e : Sexpr) → entry signs word ≡ Some s → bytes_eq word (codes "bvsize") ≡ false →
      may_have s (length ls) ≡ true → ((x : Sexpr) (xs : List Sexpr) → GiveEach ls xs → from_first e s l (map (pair w) xs) ≡ Ok sum) → IsListOf (IsAtom atom.Symbol word) (GiveEach (l ∷ ls)) e → Gives sum e
  list_gives word s l ls sum e is other may given i = go i.items i.are i.list
    where
      count : (ls : List LinearExpression) (xs : List Sexpr) → GiveEach ls xs → length ls ≡ length xs
      count [] [] g = refl
      count [] (x ∷ xs) g = absurd g
      count (l ∷ ls) [] g = absurd g
      count (l ∷ ls) (x ∷ xs) g = ap suc (count ls xs g.1)

      go : (xs : List Sexpr) → GiveEach (l ∷ ls) xs → e ≡ list_of i.place (i.first ∷ xs) → linear_at w e ≡ Ok sum
      go [] g list = absurd g
      go (x ∷ xs) g list =
          let items : items_of e ≡ i.first ∷ x ∷ xs = ap items_of list ∙ list_items i.place (i.first ∷ x ∷ xs) in
          list_read w e (never (is_some w.size) (begins_size (items_of e)) (ap begins_size items ∙ begins_other word i.first other i.is)) (ap is_list_kind (ap kind_of list ∙ list_kind i.place (i.first ∷ x ∷ xs)))
          ∙ ap (λ ys. go_on (form_of e ys) (λ s. operands e s (map (pair w) (drop 1 ys)))) items
          ∙ ap (λ r. go_on r (λ s. operands e s (map (pair w) (x ∷ xs)))) (form e i.first x xs word s i.is is (ap (may_have s) (sym (count ls xs g.1)) ∙ may))
          ∙ ap (λ r. go_on r (λ l. from_first e s l (map (pair w) xs))) g.0
          ∙ given x xs g.1

  -- ---- numbers

  less : (n : ℕ) → negsuc 0 *ℤ pos (n + 1) ≡ negsuc n
  less n = omega (arith, ints)

  number_within : (c : ℤ) → FitsSigned w128 c → IsWithin (number c)
  number_within c h = record { constant = h; coefficients = tt }

  pub none_gives : (n : ℕ) → RunsAs n [] (GiveEach [])
  none_gives n = so_runs n n [] [] (λ es. es ≡ []) (GiveEach []) (omega arith) refl no_more (nothing_runs n)

  pub more_gives : (n : ℕ) (bytes more : List ℕ) (l : LinearExpression) (ls : List LinearExpression) → ReadsAs n bytes (Gives l) → RunsAs n more (GiveEach ls) → RunsAs n (32 ∷ (bytes ++ more)) (GiveEach (l ∷ ls))
  more_gives n bytes more l ls r s =
      so_runs n n (32 ∷ (bytes ++ more)) (32 ∷ (bytes ++ more)) (Begins (Gives l) (GiveEach ls)) (GiveEach (l ∷ ls)) (omega arith) refl (one_more l ls) (more_runs n bytes more (Gives l) (GiveEach ls) r s)

  -- a list of a sign and operands
  pub sign_reads : (n : ℕ) (word text : List ℕ) (s : Sign) (l : LinearExpression) (ls : List LinearExpression) (sum : LinearExpression) → is_simple word ≡ true → entry signs word ≡ Some s →
      bytes_eq word (codes "bvsize") ≡ false → may_have s (length ls) ≡ true → ((e : Sexpr) (xs : List Sexpr) → GiveEach ls xs → from_first e s l (map (pair w) xs) ≡ Ok sum) → RunsAs n text (GiveEach (l ∷ ls)) → ReadsAs (suc n) (40 ∷ (word ++ (text ++ 41 ∷ []))) (Gives sum)
  sign_reads n word text s l ls sum simple is other may given r =
      let all : List ℕ = 40 ∷ (word ++ (text ++ 41 ∷ [])) in
      so_reads (suc n) (suc n) all all (IsListOf (IsAtom atom.Symbol word) (GiveEach (l ∷ ls))) (Gives sum) (omega arith) refl
      (λ e i. list_gives word s l ls sum e is other may (λ x xs g. given e xs g) i)
      (list_reads n word text (IsAtom atom.Symbol word) (GiveEach (l ∷ ls)) (word_reads n word simple) r)

  natural_reads : (k n : ℕ) → n ≤ LARGEST_SMALL → ReadsAs k (decimal n) (Gives (number (pos n)))
  natural_reads k n le = so_reads k k (decimal n) (decimal n) (IsAtom atom.Numeral (decimal n)) (Gives (number (pos n))) (omega arith) refl (λ e a. numeral_gives n e le a) (numeral_reads k n (omega arith))

  negation_reads : (n : ℕ) → n < LARGEST_SMALL → ReadsAs 1 (negation_text (n + 1)) (Gives (number (negsuc n)))
  negation_reads n lt =
      so_reads 1 1 (40 ∷ 45 ∷ 32 ∷ ((decimal (n + 1) ++ []) ++ 41 ∷ [])) (negation_text (n + 1)) (Gives (number (negsuc n))) (Gives (number (negsuc n))) (omega arith)
      (ap (λ ds. 40 ∷ 45 ∷ 32 ∷ (ds ++ 41 ∷ [])) (append-nil (decimal (n + 1)))) (λ e h. h)
      (sign_reads 0 (codes "-") (32 ∷ (decimal (n + 1) ++ [])) sign.Minus (number (pos (n + 1))) [] (number (negsuc n)) refl refl refl refl only
      (more_gives 0 (decimal (n + 1)) [] (number (pos (n + 1))) [] (natural_reads 0 (n + 1) (omega arith)) (none_gives 0)))
    where
      only : (e : Sexpr) (xs : List Sexpr) → GiveEach [] xs → from_first e sign.Minus (number (pos (n + 1))) (map (pair w) xs) ≡ Ok (number (negsuc n))
      only e [] g = ap (λ c. fitting e (number c)) (less n) ∙ fits e (number (negsuc n)) (number_within (negsuc n) (record { sfits = omega arith }))
      only e (y ∷ ys) g = absurd g

  -- one operand behind the first
  pub next_gives : (e y : Sexpr) (s : Sign) (l m sum : LinearExpression) (ys : List Sexpr) → Gives m y → joined e s l m ≡ Ok sum → folded e s l (map (pair w) (y ∷ ys)) ≡ folded e s sum (map (pair w) ys)
  next_gives e y s l m sum ys g is =
      ap (λ r. go_on r (λ m. go_on (joined e s l m) (λ n. folded e s n (map (pair w) ys)))) g ∙ ap (λ r. go_on r (λ n. folded e s n (map (pair w) ys))) is

  pub two_gives : (s : Sign) (l m sum : LinearExpression) → ((e : Sexpr) → joined e s l m ≡ Ok sum) → (e : Sexpr) (xs : List Sexpr) → GiveEach (m ∷ []) xs → from_first e s l (map (pair w) xs) ≡ Ok sum
  two_gives s l m sum is e [] g = absurd g
  two_gives s l m sum is e (y ∷ []) g = next_gives e y s l m sum [] g.0 (is e)
  two_gives s l m sum is e (y ∷ z ∷ zs) g = absurd g.1

  lowest_reads : ReadsAs 2 (codes "(- (- 170141183460469231731687303715884105727) 1)") (Gives (number (negsuc LARGEST_SMALL)))
  unfolding digits
  lowest_reads =
      let one : ReadsAs 1 (negation_text LARGEST_SMALL) (Gives (number (negsuc (LARGEST_SMALL - 1)))) = negation_reads (LARGEST_SMALL - 1) (omega arith) in
      so_reads 2 2 (40 ∷ 45 ∷ ((32 ∷ (negation_text LARGEST_SMALL ++ (32 ∷ (decimal 1 ++ [])))) ++ 41 ∷ [])) (codes "(- (- 170141183460469231731687303715884105727) 1)") (Gives (number (negsuc LARGEST_SMALL))) (Gives (number (negsuc LARGEST_SMALL))) (omega arith) refl (λ e h. h)
      (sign_reads 1 (codes "-") (32 ∷ (negation_text LARGEST_SMALL ++ (32 ∷ (decimal 1 ++ [])))) sign.Minus (number (negsuc (LARGEST_SMALL - 1))) (number (pos 1) ∷ []) (number (negsuc LARGEST_SMALL)) refl refl refl refl
      (two_gives sign.Minus (number (negsuc (LARGEST_SMALL - 1))) (number (pos 1)) (number (negsuc LARGEST_SMALL)) (λ e. fits e (number (negsuc LARGEST_SMALL)) (number_within (negsuc LARGEST_SMALL) (record { sfits = omega arith }))))
      (more_gives 1 (negation_text LARGEST_SMALL) (32 ∷ (decimal 1 ++ [])) (number (negsuc (LARGEST_SMALL - 1))) (number (pos 1) ∷ []) one
      (more_gives 1 (decimal 1) [] (number (pos 1)) [] (natural_reads 1 1 (omega arith)) (none_gives 1))))

  pub number_reads : (c : ℤ) → FitsSigned w128 c → ReadsAs 2 (number_text c) (Gives (number c))
  number_reads (pos n) h = natural_reads 2 n (let lt = h.sfits in omega arith)
  number_reads (negsuc n) h = go (nat_eq n LARGEST_SMALL) refl
    where
      go : (b : Bool) → nat_eq n LARGEST_SMALL ≡ b → ReadsAs 2 (if b then codes "(- (- 170141183460469231731687303715884105727) 1)" else negation_text (n + 1)) (Gives (number (negsuc n)))
      go true is = subst (λ (m : ℕ). ReadsAs 2 (codes "(- (- 170141183460469231731687303715884105727) 1)") (Gives (number (negsuc m)))) (sym (eqb-true n LARGEST_SMALL is)) lowest_reads
      go false is =
          so_reads 1 2 (negation_text (n + 1)) (negation_text (n + 1)) (Gives (number (negsuc n))) (Gives (number (negsuc n))) (omega arith) refl (λ e g. g)
          (negation_reads n (let lt = h.sfits in let other = eqb-false n LARGEST_SMALL is in omega arith))

  -- ---- parts

  abbrev pub alone : Part → LinearExpression
  alone p = linear (pos 0) (p ∷ [])

  pub multiple : (k : ℕ) (c : ℤ) → c ≢ pos 0 → scale c (linear (pos 0) ((k, pos 1) ∷ [])) ≡ alone (k, c)
  unfolding lib.IntN.one
  multiple k (pos zero) other = absurd (other refl)
  multiple k (pos (suc n)) other = ap (λ a. linear a ((k, pos (suc n) *ℤ pos 1) ∷ [])) (*ℤ-zero (pos (suc n))) ∙ ap (λ a. alone (k, a)) (*ℤ-one (pos (suc n)))
  multiple k (negsuc n) other = ap (λ a. linear a ((k, negsuc n *ℤ pos 1) ∷ [])) (*ℤ-zero (negsuc n)) ∙ ap (λ a. alone (k, a)) (*ℤ-one (negsuc n))

  pub alone_within : (p : Part) → FitsSigned w128 p.1 → IsWithin (alone p)
  alone_within p h = record { constant = record { sfits = omega arith }; coefficients = (h, tt) }
