-- Words one behind the other.
use Rattle.std.proofs.Common.{◌≡◌, ℕ, ◌-◌, ◌<◌, ◌≤◌, Bool, true, false, List, [], ◌++◌, length, drop, get_or, reverse, refl, ap, sym, ◌∙◌, subst, arith, Result, Ok, Err, IfOk, None, append_assoc, length-drop}
use Rattle.std.proofs.lemmas.List.{drop_all}
use Rattle.rare_base.specs.declared.answers.Place.{Place}
use Rattle.rare_base.specs.declared.answers.Reason.{Reason}
use Rattle.rare_base.specs.declared.answers.Reason.TheVariants.{Unbalanced}
use Rattle.rare_sexpr.specs.declared.tree.Sexpr.{Sexpr}
use Rattle.rare_sexpr.specs.declared.scan.Part.{Part}
use Rattle.rare_sexpr.specs.declared.word.Found.TheVariants as found
use Rattle.rare_sexpr.specs.declared.parser.Mode.{Mode}
use Rattle.rare_sexpr.specs.declared.parser.Mode.TheVariants as mode
use Rattle.rare_sexpr.specs.declared.parser.Parser.{Parser}
use Rattle.rare_sexpr.specs.declared.parser.Turn.{Turn}
use Rattle.rare_sexpr.specs.declared.parser.Turn.TheVariants as turn
use Rattle.rare_sexpr.specs.declared.parser.Read.{Read}
use Rattle.rare_sexpr.specs.declared.parser.Read.TheVariants as read
use Rattle.rare_sexpr.specs.inner.Wording.{IsWord, Resumes}
use Rattle.rare_sexpr.specs.declared.gaps.Gap.{Gap}
use Rattle.rare_sexpr.specs.inner.Words.{gap_step}
use Rattle.rare_sexpr.specs.inner.Gaps.{Passes, IsGapEnd}
use Rattle.rare_sexpr.specs.inner.States.{TextState, Takes, Reads, stays, goes, GivesCommand, Refuses}
use Rattle.rare_sexpr.specs.inner.States as states
use Rattle.rare_sexpr.specs.inner.Parsing.{is_comment, behind_gap, state_at, FitsMode, AreItems, IsParsing, HasPassed, IsSkipped, HasGone, HasCommand, IsFaulty, IsAtEnd, Waits, IsTurn, IsRead, IsEnd}
use Rattle.rare_sexpr.proofs.Moves.{length_reverse, empty_of}

pub reads_more : (s t u : TextState) → Reads s t → Reads t u → Reads s u
reads_more s t u r (stays _) = r
reads_more s t u r (goes _ v _ q k) = goes s v u (reads_more s t v r q) k

pub passed_more : (bytes : List ℕ) (a b c : Parser) → HasPassed bytes a b → HasPassed bytes b c → HasPassed bytes a c
passed_more bytes a b c h k = record { begin = omega (arith, h.begin, k.begin); within = k.within; line = omega (arith, h.line, k.line); column = omega (arith, h.column, k.column) }

pub skipped_gone : (bytes : List ℕ) (told : Bool) (old new : Parser) → IsSkipped bytes old new → HasGone bytes told old new
skipped_gone bytes told old new h =
    record { parsing = h.parsing; passed = h.passed; reads = λ more _. goes (state_at old bytes more) (state_at old bytes more) (state_at new bytes more) (stays (state_at old bytes more)) (h.takes more) }

pub gone_more : (bytes : List ℕ) (told : Bool) (a b c : Parser) → HasGone bytes told a b → HasGone bytes told b c → HasGone bytes told a c
gone_more bytes told a b c h k = record {
  parsing = k.parsing;
  passed = passed_more bytes a b c h.passed k.passed;
  reads = λ more no. reads_more (state_at a bytes more) (state_at b bytes more) (state_at c bytes more) (h.reads more no) (k.reads more no);
}

pub gone_command : (bytes : List ℕ) (told : Bool) (a b : Parser) (e : Sexpr) (c : Parser) → HasGone bytes told a b → HasCommand bytes told b e c → HasCommand bytes told a e c
gone_command bytes told a b e c h k = record {
  further = omega (arith, h.passed.begin, k.further);
  passed = passed_more bytes a b c h.passed k.passed;
  empty = k.empty;
  between = k.between;
  gives = λ more no. let g = k.gives more no in (g.0, reads_more (state_at a bytes more) (state_at b bytes more) g.0 (h.reads more no) g.1, g.2);
}

pub gone_faulty : (bytes : List ℕ) (told : Bool) (a b : Parser) (p : Place) (r : Reason) → HasGone bytes told a b → IsFaulty bytes told b p r → IsFaulty bytes told a p r
gone_faulty bytes told a b p r h k = λ more no. let g = k more no in (g.0, reads_more (state_at a bytes more) (state_at b bytes more) g.0 (h.reads more no) g.1, g.2)

pub gone_waits : (bytes : List ℕ) (told : Bool) (a b c : Parser) → HasGone bytes told a b → Waits bytes told b c → Waits bytes told a c
gone_waits bytes told a b c h k = record { untold = k.untold; gone = gone_more bytes told a b c h k.gone; end = k.end }

gone_turn : (bytes : List ℕ) (told : Bool) (a b : Parser) (t : Turn) (c : Parser) → HasGone bytes told a b → IsTurn bytes told b t c → IsTurn bytes told a t c
gone_turn bytes told a b turn.Goes c h k = (omega (arith, h.passed.begin, k.0), gone_more bytes told a b c h k.1)
gone_turn bytes told a b (turn.Command e) c h k = gone_command bytes told a b e c h k
gone_turn bytes told a b (turn.Refused p r) c h k = gone_faulty bytes told a b p r h k
gone_turn bytes told a b turn.Waits c h k = gone_waits bytes told a b c h k

-- a turn behind a gap
pub skipped_turn : {E : Type 0} → (bytes : List ℕ) (told : Bool) (a b : Parser) (r : Result Turn E) (c : Parser) → IsSkipped bytes a b → IfOk r (λ t. IsTurn bytes told b t c) → IfOk r (λ t. IsTurn bytes told a t c)
skipped_turn bytes told a b (Ok t) c h k = gone_turn bytes told a b t c (skipped_gone bytes told a b h) k
skipped_turn bytes told a b (Err e) c h k = k

-- the same parser
pub gone_none : (bytes : List ℕ) (told : Bool) (r : Parser) → IsParsing bytes r → HasGone bytes told r r
gone_none bytes told r h = record {
  parsing = h;
  passed = record { begin = omega arith; within = h.within; line = omega arith; column = omega arith };
  reads = λ more _. stays (state_at r bytes more);
}

-- a word that may go on
pub word_waits : (bytes : List ℕ) (told : Bool) (old : Parser) (q : Part) → IsParsing bytes old → old.at < length bytes → is_comment old.mode ≡ false → IsWord (drop old.at bytes) told (found.More q) →
    Waits bytes told old (record old { mode = mode.Word q (length bytes - old.at) })
word_waits bytes told old q h lt between w =
    let len : length (drop old.at bytes) ≡ length bytes - old.at = length-drop old.at bytes in
    let new : Parser = record old { mode = mode.Word q (length bytes - old.at) } in
    record {
      untold = w.0;
      gone = record {
        parsing = record { within = h.within; line = h.line; column = h.column; mode = (omega arith, omega (arith, len), subst (λ n. Resumes (drop old.at bytes) n q) len w.1); items = h.items };
        passed = record { begin = omega arith; within = h.within; line = omega arith; column = omega arith };
        reads = λ more _. subst (λ b. Reads (state_at old bytes more) (record (state_at old bytes more) { in_comment = b })) between (stays (state_at old bytes more));
      };
      end = sym len;
    }

-- the end of the bytes
at_end : (bytes : List ℕ) (r : Parser) (m : Mode) → length bytes ≤ r.at → FitsMode (drop r.at bytes) m → IsAtEnd (drop r.at bytes) m
at_end bytes r mode.Between le fits = drop_all r.at bytes le
at_end bytes r mode.Comment le fits = drop_all r.at bytes le
at_end bytes r (mode.Word q n) le fits = absurd (omega (arith, fits.0, fits.1, ap length (drop_all r.at bytes le)))

pub read_end : (bytes : List ℕ) (told : Bool) (old now : Parser) (r : Read) → HasGone bytes told old now → length bytes ≤ now.at → IsEnd told now r → IsRead bytes told old r now
read_end bytes told old now (read.Command e) h le is = absurd is
read_end bytes told old now (read.Refused p r) h le is = λ more no.
    let s = state_at now bytes more in
    let none_left : s.bytes ≡ [] = ap (λ xs. xs ++ more) (drop_all now.at bytes le) ∙ no is.0 in
    let some : 0 < length s.opens = omega (arith, is.1, length_reverse now.stack.opened) in
    (s, h.reads more no, subst (λ x. Refuses s p x) (sym is.3) (subst (λ x. Refuses s x Unbalanced) (sym is.2) (states.ended s none_left some)))
read_end bytes told old now read.NeedMore h le is = record { untold = is; gone = h; end = at_end bytes now now.mode le h.parsing.mode }
read_end bytes told old now read.Finished h le is =
    record { is_told = is.0; gone = h; end = drop_all now.at bytes le; closed = empty_of now.stack is.1 (subst (λ os. AreItems os now.stack.items) (ap reverse is.1) h.parsing.items) }

-- a gap
is_behind_gap : (d : Bool) → is_comment (behind_gap d) ≡ d
is_behind_gap true = refl
is_behind_gap false = refl

fits_gap : (rest : List ℕ) (d : Bool) → FitsMode rest (behind_gap d)
fits_gap rest true = tt
fits_gap rest false = tt

none_left : (d : Bool) (b : ℕ) → gap_step d b ≡ None → (d ≡ false) × (gap_step false b ≡ None)
none_left false b e = (refl, e)
none_left true b e = absurd (grind arith)

pub gap_skipped : (bytes : List ℕ) (old : Parser) (c : Bool) (g : Gap) (m : Mode) → IsParsing bytes old → c ≡ is_comment old.mode → m ≡ behind_gap g.in_comment → IsGapEnd bytes old.at old.place c g →
    IsSkipped bytes old (record { at = g.at; place = g.place; mode = m; stack = old.stack })
gap_skipped bytes old c g m h is to e =
    let made : Mode → Parser = λ x. record { at = g.at; place = g.place; mode = x; stack = old.stack } in
    let k = e.skipped in
    subst (λ x. IsSkipped bytes old (made x)) (sym to)
    (record {
      parsing = record { within = k.within; line = omega (arith, h.line, k.line, k.begin); column = omega (arith, h.column, k.column, k.begin); mode = fits_gap (drop g.at bytes) g.in_comment; items = h.items };
      passed = record { begin = k.begin; within = k.within; line = k.line; column = k.column };
      takes = λ more. states.gap (state_at old bytes more) (state_at (made (behind_gap g.in_comment)) bytes more) k.passed
          (ap (λ xs. xs ++ more) k.split ∙ append_assoc k.passed (drop g.at bytes) more) k.place
          (subst (λ x. Passes x k.passed (is_comment (behind_gap g.in_comment))) is (subst (λ x. Passes c k.passed x) (sym (is_behind_gap g.in_comment)) k.passes)) refl refl;
      stops = λ lt. let n = none_left g.in_comment (get_or bytes g.at 0) (e.stops lt) in (is_behind_gap g.in_comment ∙ n.0, n.1);
    })

-- a turn of the loop over words
pub turn_goes : (bytes : List ℕ) (told : Bool) (a b : Parser) (t : Turn) (c : Parser) → HasGone bytes told a b → IsTurn bytes told b t c → t ≡ turn.Goes → (b.at < c.at) × HasGone bytes told a c
turn_goes bytes told a b t c h k is = let g = subst (λ x. IsTurn bytes told b x c) is k in (g.0, gone_more bytes told a b c h g.1)

pub turn_command : (bytes : List ℕ) (told : Bool) (a b : Parser) (t : Turn) (e : Sexpr) (c : Parser) → HasGone bytes told a b → IsTurn bytes told b t c → t ≡ turn.Command e → HasCommand bytes told a e c
turn_command bytes told a b t e c h k is = gone_command bytes told a b e c h (subst (λ x. IsTurn bytes told b x c) is k)

pub turn_refused : (bytes : List ℕ) (told : Bool) (a b : Parser) (t : Turn) (p : Place) (r : Reason) (c : Parser) → HasGone bytes told a b → IsTurn bytes told b t c → t ≡ turn.Refused p r → IsFaulty bytes told a p r
turn_refused bytes told a b t p r c h k is = gone_faulty bytes told a b p r h (subst (λ x. IsTurn bytes told b x c) is k)

pub turn_waits : (bytes : List ℕ) (told : Bool) (a b : Parser) (t : Turn) (c : Parser) → HasGone bytes told a b → IsTurn bytes told b t c → t ≡ turn.Waits → Waits bytes told a c
turn_waits bytes told a b t c h k is = gone_waits bytes told a b c h (subst (λ x. IsTurn bytes told b x c) is k)
