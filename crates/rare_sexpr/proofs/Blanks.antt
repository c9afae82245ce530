-- Bytes of a gap.
use Rattle.std.proofs.Common.{◌≡◌, ℕ, ◌+◌, ◌<◌, ◌≤◌, Bool, true, false, List, [], ◌∷◌, ◌++◌, length, drop, get_or, ap, sym, ◌∙◌, refl, subst, arith, Some, if◌then◌else◌, append_assoc}
use Rattle.std.proofs.lemmas.List.{drop_more}
use Rattle.rare_base.specs.declared.answers.Place.{Place}
use Rattle.rare_sexpr.specs.declared.bytes.Class.{Class}
use Rattle.rare_sexpr.specs.declared.bytes.Class.TheVariants.{Blank, LineFeed, Open, Close, Semicolon, Colon, Hash, Digit, Letter, Quote, Bar, Other}
use Rattle.rare_sexpr.specs.Bytes.{after, ends_comment}
use Rattle.rare_sexpr.specs.inner.Classes.{class}
use Rattle.rare_sexpr.specs.inner.Words.{gap_class, gap_step}
use Rattle.rare_sexpr.specs.inner.Gaps.{Passes, none, blank, opens, text, ends, HasSkipped}
use Rattle.rare_sexpr.proofs.Lists.{behind_append}
use Rattle.rare_sexpr.proofs.ClassTests.{class_tests, IsOf}

pub after_line : (b : ℕ) (p : Place) → (after b p).line ≤ p.line + 1
after_line b p = grind arith

pub after_column : (b : ℕ) (p : Place) → (after b p).column ≤ p.column + 1
after_column b p = grind arith

-- a byte between words that goes on with a gap
gap_at : (k : Class) (b : ℕ) (d : Bool) → IsOf k b → gap_class k ≡ Some d → Passes false (b ∷ []) d
gap_at Blank b d is e = subst (λ o. Passes false (b ∷ []) o) (grind arith) (blank b [] false is (none false))
gap_at LineFeed b d is e = subst (λ o. Passes false (b ∷ []) o) (grind arith) (blank b [] false is (none false))
gap_at Semicolon b d is e = subst (λ x. Passes false (x ∷ []) d) (sym is) (subst (λ o. Passes false (59 ∷ []) o) (grind arith) (opens [] true (none true)))
gap_at Open b d is e = absurd (grind arith)
gap_at Close b d is e = absurd (grind arith)
gap_at Colon b d is e = absurd (grind arith)
gap_at Hash b d is e = absurd (grind arith)
gap_at Letter b d is e = absurd (grind arith)
gap_at Digit b d is e = absurd (grind arith)
gap_at Quote b d is e = absurd (grind arith)
gap_at Bar b d is e = absurd (grind arith)
gap_at Other b d is e = absurd (grind arith)

in_comment : (t : Bool) (b : ℕ) (d : Bool) → ends_comment b ≡ t → (if t then Some false else Some true) ≡ Some d → Passes true (b ∷ []) d
in_comment true b d is e = subst (λ o. Passes true (b ∷ []) o) (grind arith) (ends b [] false is (none false))
in_comment false b d is e = subst (λ o. Passes true (b ∷ []) o) (grind arith) (text b [] true is (none true))

pub one_passes : (c : Bool) (b : ℕ) (d : Bool) → gap_step c b ≡ Some d → Passes c (b ∷ []) d
one_passes true b d e = in_comment (ends_comment b) b d refl e
one_passes false b d e = gap_at (class b) b d (class_tests b) e

pub passes_append : (c : Bool) (xs : List ℕ) (d : Bool) (ys : List ℕ) (e : Bool) → Passes c xs d → Passes d ys e → Passes c (xs ++ ys) e
passes_append c xs d ys e (none _) q = q
passes_append c xs d ys e (blank b bs _ is p) q = blank b (bs ++ ys) e is (passes_append false bs d ys e p q)
passes_append c xs d ys e (opens bs _ p) q = opens (bs ++ ys) e (passes_append true bs d ys e p q)
passes_append c xs d ys e (text b bs _ is p) q = text b (bs ++ ys) e is (passes_append true bs d ys e p q)
passes_append c xs d ys e (ends b bs _ is p) q = ends b (bs ++ ys) e is (passes_append false bs d ys e p q)

pub skip_more : (bytes : List ℕ) (from : ℕ) (p : Place) (c : Bool) (i : ℕ) (q : Place) (d e : Bool) (r : Place) → HasSkipped bytes from p c i q d → i < length bytes → gap_step d (get_or bytes i 0) ≡ Some e →
    r ≡ after (get_or bytes i 0) q → HasSkipped bytes from p c (i + 1) r e
skip_more bytes from p c i q d e r h lt is to =
    let x = get_or bytes i 0 in
    record {
      begin = omega (arith, h.begin);
      within = omega arith;
      line = omega (arith, h.line, ap (λ y. y.line) to, after_line x q);
      column = omega (arith, h.column, ap (λ y. y.column) to, after_column x q);
      passed = h.passed ++ x ∷ [];
      split = h.split ∙ ap (λ xs. h.passed ++ xs) (drop_more bytes i 0 lt) ∙ sym (append_assoc h.passed (x ∷ []) (drop (i + 1) bytes));
      place = to ∙ ap (after x) h.place ∙ sym (behind_append p h.passed (x ∷ []));
      passes = passes_append c h.passed d (x ∷ []) e h.passes (one_passes d x e is);
    }
