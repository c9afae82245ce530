-- The text of a linear expression is read as the expression.
use Rattle.std.proofs.Common.{◌≡◌, ◌≢◌, ℕ, suc, ◌+◌, ◌<◌, ◌≤◌, Bool, true, false, List, [], ◌∷◌, ◌++◌, map, length, Ok, refl, sym, ap, ◌∙◌, subst, arith, append_assoc, FitsSigned, if◌then◌else◌}
use Rattle.std.specs.Prelude.{ℤ, pos, ◌+ℤ◌, codes, nat_lt, nat_eq, slice_index_or, flat_map}
use Rattle.std.specs.Int.{w128}
use Rattle.std.specs.Ordering.{int_eq}
use Rattle.std.proofs.lemmas.Bool.{lt-ltb}
use Rattle.std.proofs.lemmas.Bool.Decides.{Decides-int_eq}
use Rattle.std.proofs.lemmas.List.{append-nil}
use Rattle.std.proofs.Math.IntN.{+ℤ_idl}
use Rattle.rare_linear.specs.Linears.{Part, LinearExpression, linear, number, add, with_coefficient, with_part, with_parts, RisesFrom, IsNormal, NamesBelow}
use Rattle.rare_linear.specs.PartialSums.{AllFit, IsWithin}
use Rattle.rare_linear.proofs.NormalForms.{with_parts-nil}
use Rattle.rare_sexpr.specs.declared.tree.AtomKind.TheVariants as atom
use Rattle.rare_sexpr.specs.declared.tree.Sexpr.{Sexpr}
use Rattle.rare_scope.specs.declared.sign.Sign.{Sign}
use Rattle.rare_scope.specs.declared.sign.Sign.TheVariants as sign
use Rattle.rare_scope.specs.Names.{Held, width_in, width_names}
use Rattle.rare_scope.specs.LinearText.{WidthNames, widths_held, fitting, folded, from_first, linear_at}
use Rattle.rare_scope.specs.Printing.{joined_texts, number_text, name_text, part_text_by, linear_text, linear_text_by}
use Rattle.rare_scope.specs.inner.Pieces.{spaced_part, end_text, whole_sum}
use Rattle.rare_scope.proofs.LinearSteps.{pair}
use Rattle.rare_scope.proofs.PrintingSteps.{number_only, part_alone, sum_long, sum_constant}
use Rattle.rare_reread.specs.ReadsAs.{ReadsAs, RunsAs}
use Rattle.rare_reread.specs.Readable.{IsReadable, IsKeptLinear}
use Rattle.rare_reread.proofs.Atoms.{IsAtom, symbol_reads}
use Rattle.rare_reread.proofs.Finding.{width_found, width_symbol}
use Rattle.rare_reread.proofs.Linears.{so_reads, so_runs, fits, Gives, GiveEach, name_gives, none_gives, more_gives, sign_reads, number_reads, next_gives, two_gives, alone, multiple, alone_within}

-- ---- sums of parts in their order

front : (p : Part) (qs : List Part) → RisesFrom (p.0 + 1) qs → with_part p qs ≡ p ∷ qs
front p [] h = refl
front p (q ∷ qs) h = ap (λ b. if b then (p ∷ q ∷ qs) else (if nat_eq p.0 q.0 then (with_coefficient q.0 (p.1 +ℤ q.1) qs) else (q ∷ with_part p qs))) (lt-ltb p.0 q.0 (omega (arith, h.0)))

rises_front : (low : ℕ) (ps qs : List Part) → RisesFrom low (ps ++ qs) → RisesFrom low ps
rises_front low [] qs h = tt
rises_front low (p ∷ ps) qs h = (h.0, h.1, rises_front (p.0 + 1) ps qs h.2)

fit_front : (ps qs : List Part) → AllFit (ps ++ qs) → AllFit ps
fit_front [] qs h = tt
fit_front (p ∷ ps) qs h = (h.0, fit_front ps qs h.1)

-- a part behind those before it
part_behind : (low : ℕ) (ps : List Part) (p : Part) → RisesFrom low (ps ++ p ∷ []) → with_parts ps (p ∷ []) ≡ ps ++ p ∷ []
part_behind low [] p h = refl
part_behind low (q ∷ ps) p h = ap (with_part q) (part_behind (q.0 + 1) ps p h.2) ∙ front q (ps ++ p ∷ []) h.2

snoc : (ps : List Part) (p : Part) (qs : List Part) → (ps ++ p ∷ []) ++ qs ≡ ps ++ p ∷ qs
snoc ps p qs = append_assoc ps (p ∷ []) qs

zero_fits : FitsSigned w128 (pos 0)
zero_fits = record { sfits = omega arith }

module _ (w : WidthNames) where
  -- the parts that are left, added one after the other
  parts_add : (e : Sexpr) (done ps : List Part) (ls : List LinearExpression) (sum : LinearExpression) (xs : List Sexpr) → RisesFrom 0 (done ++ ps) → AllFit (done ++ ps) →
      ((ys : List Sexpr) → GiveEach w ls ys → folded e sign.Plus (linear (pos 0) (done ++ ps)) (map (pair w) ys) ≡ Ok sum) →
      GiveEach w (map (alone w) ps ++ ls) xs → folded e sign.Plus (linear (pos 0) done) (map (pair w) xs) ≡ Ok sum
  parts_add e done [] ls sum xs rises fit rest g = ap (λ ps. folded e sign.Plus (linear (pos 0) ps) (map (pair w) xs)) (sym (append-nil done)) ∙ rest xs g
  parts_add e done (p ∷ ps) ls sum [] rises fit rest g = absurd g
  parts_add e done (p ∷ ps) ls sum (x ∷ xs) rises fit rest g =
      let r : RisesFrom 0 ((done ++ p ∷ []) ++ ps) = subst (RisesFrom 0) (sym (snoc done p ps)) rises in
      let f : AllFit ((done ++ p ∷ []) ++ ps) = subst AllFit (sym (snoc done p ps)) fit in
      let one : RisesFrom 0 (done ++ p ∷ []) = rises_front 0 (done ++ p ∷ []) ps r in
      let is : add (linear (pos 0) done) (alone w p) ≡ linear (pos 0) (done ++ p ∷ []) = ap (linear (pos 0)) (part_behind 0 done p one) in
      next_gives w e x sign.Plus (linear (pos 0) done) (alone w p) (linear (pos 0) (done ++ p ∷ [])) xs g.0
      (ap (fitting e) is ∙ fits e (linear (pos 0) (done ++ p ∷ [])) (record { constant = zero_fits; coefficients = fit_front (done ++ p ∷ []) ps f }))
      ∙ parts_add e (done ++ p ∷ []) ps ls sum xs r f
      (λ ys gs. ap (λ qs. folded e sign.Plus (linear (pos 0) qs) (map (pair w) ys)) (snoc done p ps) ∙ rest ys gs) g.1

  nothing_left : (e : Sexpr) (l : LinearExpression) (xs : List Sexpr) → GiveEach w [] xs → folded e sign.Plus l (map (pair w) xs) ≡ Ok l
  nothing_left e l [] g = refl
  nothing_left e l (x ∷ xs) g = absurd g

  constant_left : (e : Sexpr) (c : ℤ) (ps : List Part) (xs : List Sexpr) → IsNormal ps → IsWithin (linear c ps) → GiveEach w (number c ∷ []) xs → folded e sign.Plus (linear (pos 0) ps) (map (pair w) xs) ≡ Ok (linear c ps)
  constant_left e c ps [] normal within g = absurd g
  constant_left e c ps (x ∷ xs) normal within g =
      next_gives w e x sign.Plus (linear (pos 0) ps) (number c) (linear c ps) xs g.0
      (ap (fitting e) (ap (λ k. linear k (with_parts ps [])) (+ℤ_idl c) ∙ ap (linear c) (with_parts-nil 0 ps normal)) ∙ fits e (linear c ps) within)
      ∙ nothing_left e (linear c ps) xs g.1

  some_left : (e : Sexpr) (s : Sign) (l m : LinearExpression) (ls : List LinearExpression) (xs : List Sexpr) → GiveEach w (m ∷ ls) xs → from_first e s l (map (pair w) xs) ≡ folded e s l (map (pair w) xs)
  some_left e s l m ls [] g = absurd g
  some_left e s l m ls (x ∷ xs) g = refl

some : (n : ℕ) → nat_lt 0 (suc n) ≡ true
some n = lt-ltb 0 (suc n) (omega arith)

-- over names that are read, by how they are written
module _ (w : WidthNames) (written : ℕ → List ℕ) where
  abbrev Are : List LinearExpression → List Sexpr → Type 0
  Are = GiveEach w

  abbrev Is : LinearExpression → Sexpr → Type 0
  Is = Gives w

  abbrev of_part : Part → LinearExpression
  of_part = alone w

  -- the name alone is read from how it is written, which has no list or is one
  abbrev pub NameReads : ℕ → Type 0
  NameReads k = ReadsAs 1 (written k) (Is (linear (pos 0) ((k, pos 1) ∷ [])))

  -- each name of the parts is so
  abbrev pub AllRead : List Part → Type 0
  AllRead [] = Unit {0}
  AllRead (p ∷ ps) = NameReads p.0 × AllRead ps

  -- ---- parts

  name_reads : (n k : ℕ) → 1 ≤ n → NameReads k → ReadsAs n (written k) (Is (linear (pos 0) ((k, pos 1) ∷ [])))
  name_reads n k le read = so_reads 1 n (written k) (written k) (Is (linear (pos 0) ((k, pos 1) ∷ []))) (Is (linear (pos 0) ((k, pos 1) ∷ []))) le refl (λ e g. g) read

  product_text : (c name : List ℕ) → 40 ∷ 42 ∷ 32 ∷ ((c ++ (32 ∷ (name ++ []))) ++ 41 ∷ []) ≡ joined_texts (codes "(* " ∷ c ∷ codes " " ∷ name ∷ codes ")" ∷ [])
  product_text c name = ap (λ t. 40 ∷ 42 ∷ 32 ∷ t) (append_assoc c (32 ∷ (name ++ [])) (41 ∷ []) ∙ ap (λ t. c ++ 32 ∷ t) (append_assoc name [] (41 ∷ [])))

  product_reads : (k : ℕ) (c : ℤ) → NameReads k → FitsSigned w128 c → c ≢ pos 0 →
      ReadsAs 3 (joined_texts (codes "(* " ∷ number_text c ∷ codes " " ∷ written k ∷ codes ")" ∷ [])) (Is (of_part (k, c)))
  product_reads k c lt fit other =
      let name = linear (pos 0) ((k, pos 1) ∷ []) in
      let text = written k in
      so_reads 3 3 (40 ∷ 42 ∷ 32 ∷ ((number_text c ++ (32 ∷ (text ++ []))) ++ 41 ∷ [])) (joined_texts (codes "(* " ∷ number_text c ∷ codes " " ∷ text ∷ codes ")" ∷ [])) (Is (of_part (k, c))) (Is (of_part (k, c)))
      (omega arith) (product_text (number_text c) text) (λ e g. g)
      (sign_reads w 2 (codes "*") (32 ∷ (number_text c ++ (32 ∷ (text ++ [])))) sign.Times (number c) (name ∷ []) (of_part (k, c)) refl refl refl refl
      (two_gives w sign.Times (number c) name (of_part (k, c)) (λ e. ap (fitting e) (multiple w k c other) ∙ fits e (of_part (k, c)) (alone_within w (k, c) fit)))
      (more_gives w 2 (number_text c) (32 ∷ (text ++ [])) (number c) (name ∷ []) (number_reads w c fit)
      (more_gives w 2 text [] name [] (name_reads 2 k (omega arith) lt) (none_gives w 2))))

  part_reads : (p : Part) → NameReads p.0 → FitsSigned w128 p.1 → p.1 ≢ pos 0 → ReadsAs 3 (part_text_by written p) (Is (of_part p))
  part_reads p lt fit other = go (int_eq p.1 (pos 1)) refl
    where
      go : (b : Bool) → int_eq p.1 (pos 1) ≡ b →
          ReadsAs 3 (if b then (written p.0) else joined_texts (codes "(* " ∷ number_text p.1 ∷ codes " " ∷ written p.0 ∷ codes ")" ∷ [])) (Is (of_part p))
      go true is = subst (λ (c : ℤ). ReadsAs 3 (written p.0) (Is (of_part (p.0, c)))) (sym ((Decides-int_eq p.1 (pos 1)).0 is)) (name_reads 3 p.0 (omega arith) lt)
      go false is = product_reads p.0 p.1 lt fit other

  -- ---- sums

  spaced_text : (part parts more : List ℕ) → 32 ∷ (part ++ (parts ++ more)) ≡ ((32 ∷ part) ++ parts) ++ more
  spaced_text part parts more = ap (λ t. 32 ∷ t) (sym (append_assoc part parts more))

  parts_run : (low : ℕ) (ps : List Part) (more : List ℕ) (ls : List LinearExpression) → RisesFrom low ps → AllRead ps → AllFit ps → RunsAs 3 more (Are ls) →
      RunsAs 3 (flat_map (spaced_part written) ps ++ more) (Are (map of_part ps ++ ls))
  parts_run low [] more ls rises below fit run = run
  parts_run low (p ∷ ps) more ls rises below fit run =
      let all = map of_part (p ∷ ps) ++ ls in
      so_runs 3 3 (32 ∷ (part_text_by written p ++ (flat_map (spaced_part written) ps ++ more))) (flat_map (spaced_part written) (p ∷ ps) ++ more) (Are all) (Are all) (omega arith)
      (spaced_text (part_text_by written p) (flat_map (spaced_part written) ps) more) (λ es g. g)
      (more_gives w 3 (part_text_by written p) (flat_map (spaced_part written) ps ++ more) (of_part p) (map of_part ps ++ ls) (part_reads p below.0 fit.0 rises.1)
      (parts_run (p.0 + 1) ps more ls rises.2 below.1 fit.1 run))

  abbrev whole : List Part → ℤ → List ℕ
  whole ps c = whole_sum written (linear c ps)

  sum_of_two : (p q : Part) (ps : List Part) → RisesFrom 0 (p ∷ q ∷ ps) → AllRead (p ∷ q ∷ ps) → AllFit (p ∷ q ∷ ps) → ReadsAs 4 (whole (p ∷ q ∷ ps) (pos 0)) (Is (linear (pos 0) (p ∷ q ∷ ps)))
  sum_of_two p q ps rises below fit =
      let all = p ∷ q ∷ ps in
      let run : RunsAs 3 (flat_map (spaced_part written) all ++ []) (Are (map of_part all ++ [])) = parts_run 0 all [] [] rises below fit (none_gives w 3) in
      so_reads 4 4 (40 ∷ 43 ∷ ((flat_map (spaced_part written) all ++ []) ++ 41 ∷ [])) (whole all (pos 0)) (Is (linear (pos 0) all)) (Is (linear (pos 0) all)) (omega arith)
      (ap (λ t. 40 ∷ 43 ∷ (t ++ 41 ∷ [])) (append-nil (flat_map (spaced_part written) all))) (λ e g. g)
      (sign_reads w 3 (codes "+") (flat_map (spaced_part written) all ++ []) sign.Plus (of_part p) (map of_part (q ∷ ps) ++ []) (linear (pos 0) all) refl refl refl (some (length (map of_part ps ++ [])))
      (λ e xs g. some_left w e sign.Plus (of_part p) (of_part q) (map of_part ps ++ []) xs g
      ∙ parts_add w e (p ∷ []) (q ∷ ps) [] (linear (pos 0) all) xs rises fit (λ ys gs. nothing_left w e (linear (pos 0) all) ys gs) g) run)

  end_bytes : (parts c : List ℕ) → (parts ++ (32 ∷ (c ++ []))) ++ 41 ∷ [] ≡ parts ++ (32 ∷ (c ++ 41 ∷ []))
  end_bytes parts c = append_assoc parts (32 ∷ (c ++ [])) (41 ∷ []) ∙ ap (λ t. parts ++ 32 ∷ t) (append_assoc c [] (41 ∷ []))

  end_is : (c : ℤ) → int_eq c (pos 0) ≡ false → 32 ∷ (number_text c ++ 41 ∷ []) ≡ end_text c
  end_is c other = ap (λ b. if b then (codes ")") else joined_texts (codes " " ∷ number_text c ∷ codes ")" ∷ [])) (sym other)

  count_some : (ps : List Part) (l : LinearExpression) → nat_lt 0 (length (map of_part ps ++ l ∷ [])) ≡ true
  count_some [] l = refl
  count_some (p ∷ ps) l = some (length (map of_part ps ++ l ∷ []))

  some_before : (e : Sexpr) (s : Sign) (first l : LinearExpression) (ps : List Part) (xs : List Sexpr) → Are (map of_part ps ++ l ∷ []) xs →
      from_first e s first (map (pair w) xs) ≡ folded e s first (map (pair w) xs)
  some_before e s first l [] xs g = some_left w e s first l [] xs g
  some_before e s first l (p ∷ ps) xs g = some_left w e s first (of_part p) (map of_part ps ++ l ∷ []) xs g

  sum_with_constant : (p : Part) (ps : List Part) (c : ℤ) → int_eq c (pos 0) ≡ false → IsNormal (p ∷ ps) → AllRead (p ∷ ps) → IsWithin (linear c (p ∷ ps)) → ReadsAs 4 (whole (p ∷ ps) c) (Is (linear c (p ∷ ps)))
  sum_with_constant p ps c other rises below within =
      let all = p ∷ ps in
      let parts = flat_map (spaced_part written) all in
      let more : List ℕ = 32 ∷ (number_text c ++ []) in
      let constant : RunsAs 3 (32 ∷ (number_text c ++ [])) (Are (number c ∷ [])) =
      more_gives w 3 (number_text c) [] (number c) [] (so_reads 2 3 (number_text c) (number_text c) (Is (number c)) (Is (number c)) (omega arith) refl (λ e g. g) (number_reads w c within.constant)) (none_gives w 3) in
      so_reads 4 4 (40 ∷ 43 ∷ ((parts ++ more) ++ 41 ∷ [])) (whole all c) (Is (linear c all)) (Is (linear c all)) (omega arith)
      (ap (λ t. 40 ∷ 43 ∷ t) (end_bytes parts (number_text c) ∙ ap (λ t. parts ++ t) (end_is c other))) (λ e g. g)
      (sign_reads w 3 (codes "+") (parts ++ more) sign.Plus (of_part p) (map of_part ps ++ number c ∷ []) (linear c all) refl refl refl (count_some ps (number c))
      (λ e xs g. some_before e sign.Plus (of_part p) (number c) ps xs g
      ∙ parts_add w e (p ∷ []) ps (number c ∷ []) (linear c all) xs rises within.coefficients (λ ys gs. constant_left w e c all ys rises within gs) g)
      (parts_run 0 all more (number c ∷ []) rises below within.coefficients constant))

  -- ---- expressions

  abbrev IsRead : LinearExpression → Type 0
  IsRead l = ReadsAs 4 (linear_text_by written l) (Is l)

  by_text : (n : ℕ) (text : List ℕ) (l : LinearExpression) → n ≤ 4 → text ≡ linear_text_by written l → ReadsAs n text (Is l) → IsRead l
  by_text n text l le same h = so_reads n 4 text (linear_text_by written l) (Is l) (Is l) le same (λ e g. g) h

  reads_by : (ps : List Part) (c : ℤ) (b : Bool) → int_eq c (pos 0) ≡ b → IsNormal ps → AllRead ps → IsWithin (linear c ps) → IsRead (linear c ps)
  reads_by [] c b is normal below within = by_text 2 (number_text c) (number c) (omega arith) (sym (append-nil (number_text c)) ∙ number_only written (number c) refl) (number_reads w c within.constant)
  reads_by (p ∷ []) c true is normal below within =
      subst (λ (k : ℤ). IsRead (linear k (p ∷ []))) (sym ((Decides-int_eq c (pos 0)).0 is))
      (by_text 3 (part_text_by written p) (linear (pos 0) (p ∷ [])) (omega arith) (sym (part_alone written p)) (part_reads p below.0 within.coefficients.0 normal.1))
  reads_by (p ∷ q ∷ ps) c true is normal below within =
      subst (λ (k : ℤ). IsRead (linear k (p ∷ q ∷ ps))) (sym ((Decides-int_eq c (pos 0)).0 is))
      (by_text 4 (whole (p ∷ q ∷ ps) (pos 0)) (linear (pos 0) (p ∷ q ∷ ps)) (omega arith) (sym (sum_long written (linear (pos 0) (p ∷ q ∷ ps)) (omega arith))) (sum_of_two p q ps normal below within.coefficients))
  reads_by (p ∷ ps) c false is normal below within =
      by_text 4 (whole (p ∷ ps) c) (linear c (p ∷ ps)) (omega arith) (sym (sum_constant written (linear c (p ∷ ps)) (λ none. absurd (omega (arith, none))) is)) (sum_with_constant p ps c is normal below within)

  pub written_reads : (l : LinearExpression) → IsKeptLinear l → AllRead l.parts → ReadsAs 4 (linear_text_by written l) (λ e. linear_at w e ≡ Ok l)
  written_reads l kept read = reads_by l.parts l.constant (int_eq l.constant (pos 0)) refl kept.normal read kept.within

-- ---- over the names of a scope

module _ (held : Held) (r : IsReadable held) where
  width_reads : (k : ℕ) → k < length (width_names held) → NameReads (widths_held held) (name_text (width_names held)) k
  width_reads k lt =
      let name = slice_index_or (width_names held) k [] in
      so_reads 1 1 (name_text (width_names held) k) (name_text (width_names held) k) (IsAtom atom.Symbol name) (Gives (widths_held held) (linear (pos 0) ((k, pos 1) ∷ []))) (omega arith) refl
      (λ e a. name_gives (widths_held held) name k e (ap width_in (width_found held r k lt)) a) (symbol_reads 1 name (width_symbol held r k lt))

  all_read : (ps : List Part) → NamesBelow (length (width_names held)) ps → AllRead (widths_held held) (name_text (width_names held)) ps
  all_read [] below = tt
  all_read (p ∷ ps) below = (width_reads p.0 below.0, all_read ps below.1)

pub linear_reads : (held : Held) (l : LinearExpression) → IsReadable held → IsKeptLinear l → NamesBelow (length (width_names held)) l.parts → ReadsAs 4 (linear_text (width_names held) l) (λ e. linear_at (widths_held held) e ≡ Ok l)
linear_reads held l r kept below = written_reads (widths_held held) (name_text (width_names held)) l kept (all_read held r l.parts below)
