-- Runs of blanks and of bytes of a comment.
use Rattle.std.proofs.Common.{◌≡◌, ℕ, zero, suc, ◌+◌, ◌-◌, ◌<◌, ◌≤◌, Bool, true, false, not, List, get_or, length, nat_eq, refl, ap, sym, ◌∙◌, subst, arith, Some, if◌then◌else◌}
use Rattle.std.proofs.lemmas.Bool.{eqb-true}
use Rattle.rare_base.specs.declared.answers.Place.{Place}
use Rattle.rare_sexpr.specs.declared.gaps.Gap.{Gap}
use Rattle.rare_sexpr.specs.Bytes.{after, ends_comment}
use Rattle.rare_sexpr.specs.inner.Words.{gap_step}
use Rattle.rare_sexpr.specs.inner.Gaps.{HasSkipped, HasRun, along, is_in_run, is_line_blank}
use Rattle.rare_sexpr.proofs.Blanks.{skip_more}
use Rattle.rare_sexpr.proofs.Lines.{after_along, along_none, along_more}

blank_step : (t : Bool) (b : ℕ) → is_line_blank b ≡ t → t ≡ true → gap_step false b ≡ Some false
blank_step true b e is = rw e refl
blank_step false b e is = cc

comment_step : (t : Bool) (b : ℕ) → ends_comment b ≡ t → not t ≡ true → gap_step true b ≡ Some true
comment_step true b e is = cc
comment_step false b e is = ap (λ t. if t then Some false else Some true) e

-- a byte of a run goes on with the gap
run_step : (c : Bool) (b : ℕ) → is_in_run c b ≡ true → gap_step c b ≡ Some c
run_step true b is = comment_step (ends_comment b) b refl is
run_step false b is = blank_step (is_line_blank b) b refl is

no_feed : (c : Bool) → is_in_run c 10 ≡ false
no_feed true = refl
no_feed false = refl

-- and is no line feed
run_line : (t : Bool) (c : Bool) (b : ℕ) → nat_eq b 10 ≡ t → is_in_run c b ≡ true → t ≡ false
run_line false c b e is = refl
run_line true c b e is = let f : is_in_run c b ≡ false = ap (is_in_run c) (eqb-true b 10 e) ∙ no_feed c in cc

run_from : (n : ℕ) (bytes : List ℕ) (from : ℕ) (p : Place) (c : Bool) (at : ℕ) (q : Place) (d : Bool) → HasSkipped bytes from p c at q d → at + n ≤ length bytes →
    ((i : ℕ) → at ≤ i → i < at + n → is_in_run d (get_or bytes i 0) ≡ true) → HasSkipped bytes from p c (at + n) (along q n) d
run_from zero bytes from p c at q d h le each = subst (λ i. HasSkipped bytes from p c i (along q 0) d) (omega arith) (subst (λ r. HasSkipped bytes from p c at r d) (along_none q) h)
run_from (suc n) bytes from p c at q d h le each =
    let b = get_or bytes (at + n) 0 in
    let is : is_in_run d b ≡ true = each (at + n) (omega arith) (omega arith) in
    let before = run_from n bytes from p c at q d h (omega (arith, le)) (λ i lo hi. each i lo (omega (arith, hi))) in
    let place : along q (suc n) ≡ after b (along q n) = ap (along q) (omega arith) ∙ sym (along_more q n 1) ∙ sym (after_along b (along q n) (run_line (nat_eq b 10) d b refl is)) in
    subst (λ i. HasSkipped bytes from p c i (along q (suc n)) d) (omega arith)
    (skip_more bytes from p c (at + n) (along q n) d d (along q (suc n)) before (omega (arith, le)) (run_step d b is) place)

-- behind a run
pub run_skipped : (bytes : List ℕ) (from : ℕ) (p : Place) (c : Bool) (old new : Gap) → HasSkipped bytes from p c old.at old.place old.in_comment → HasRun bytes old new →
    HasSkipped bytes from p c new.at new.place new.in_comment
run_skipped bytes from p c old new h r =
    let n = new.at - old.at in
    let end : old.at + n ≡ new.at = omega (arith, r.run.begin) in
    let there = run_from n bytes from p c old.at old.place old.in_comment h (omega (arith, end, r.run.within)) (λ i lo hi. r.run.each i lo (omega (arith, hi, end))) in
    subst (λ d. HasSkipped bytes from p c new.at new.place d) (sym r.same)
    (subst (λ q. HasSkipped bytes from p c new.at q old.in_comment) (sym r.place)
    (subst (λ i. HasSkipped bytes from p c i (along old.place n) old.in_comment) end there))
