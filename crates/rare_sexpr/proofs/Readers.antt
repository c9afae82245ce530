-- What a reader's fields give, and what it answers.
use Rattle.std.proofs.Common.{◌≡◌, ℕ, ◌+◌, ◌-◌, ◌<◌, ◌≤◌, ◌^◌, ◌==◌, ◌&&◌, not, Bool, true, false, List, [], ◌++◌, length, drop, reverse, Option, Some, None, refl, ap, sym, ◌∙◌, subst, arith, length-drop}
use Rattle.std.specs.Option.{option_map}
use Rattle.rare_base.specs.declared.answers.Place.{Place}
use Rattle.rare_base.specs.declared.answers.Reason.{Reason}
use Rattle.rare_sexpr.specs.declared.tree.Sexpr.{Sexpr}
use Rattle.rare_sexpr.specs.declared.stack.Stack.{Stack}
use Rattle.rare_sexpr.specs.declared.parser.Parser.{Parser}
use Rattle.rare_sexpr.specs.declared.parser.Read.{Read}
use Rattle.rare_sexpr.specs.declared.reader.Refused.{Refused}
use Rattle.rare_sexpr.specs.declared.reader.Reader.TheInside.{Inside}
use Rattle.rare_sexpr.specs.Bytes.{behind}
use Rattle.rare_sexpr.specs.Commands.{put_first, first_command}
use Rattle.rare_sexpr.specs.Streams.{Stream, unless_refused, commands_left}
use Rattle.rare_sexpr.specs.Answered.{IsTaken, IsFirst, IsWaiting, IsFinished, IsRefused, IsUndecided}
use Rattle.rare_sexpr.specs.inner.Reading.{reading_from, ended}
use Rattle.rare_sexpr.specs.inner.Stacks.{empty_stack}
use Rattle.rare_sexpr.specs.inner.States.{left, Reads, stays}
use Rattle.rare_sexpr.specs.inner.Parsing.{new_parser, is_comment, is_outermost, FitsMode, AreItems, text_state, state_at, IsParsing, HasPassed, HasCommand, IsFaulty, Waits, IsAtLast, IsRead}
use Rattle.rare_sexpr.specs.inner.Kept.{refusal_of, stream_of, begin_at, ReaderInvariant}
use Rattle.rare_sexpr.proofs.Lists.{append_none}
use Rattle.rare_sexpr.proofs.Moves.{no_items}
use Rattle.rare_sexpr.proofs.Turns.{reads_more}
use Rattle.rare_sexpr.proofs.Left.{reads_left, gives_left, refuses_left, finished_left}
use Rattle.rare_sexpr.proofs.Fronts.{Leads, leads_more, reads_front, gives_front, between, between_split, front_between}
use Rattle.rare_sexpr.specs.Grammar.{IsGap, IsLastGap, Spells}
use Rattle.rare_sexpr.specs.Grammar as grammar
use Rattle.rare_sexpr.specs.Faults.{IsFault}
use Rattle.rare_sexpr.proofs.Building.{whole_gap, inside_none, built_reads, built_gives, built_finished}
use Rattle.rare_sexpr.proofs.Refusing.{built_begin, built_refuses}
use Rattle.rare_sexpr.proofs.Depths.{first_shallow}
use Rattle.rare_sexpr.proofs.Waiting.{makes, bare}

pub different : true ≡ false → ⊥
different e = cc

-- what the parser needs of a reader
pub kept_parsing : (r : Inside) → ReaderInvariant r → IsParsing r.bytes.items r.parser
kept_parsing r i = record { within = i.at; line = omega (arith, i.parser_line, i.fed); column = omega (arith, i.parser_column, i.fed); mode = i.mode; items = i.items }

-- a parser that begins at the bytes not yet taken
pub kept_anew : (r : Inside) (start : ℕ) (place : Place) → start ≤ length r.bytes.items → r.fed ≤ 2 ^ 32 - 2 → place.line + length r.bytes.items ≤ r.fed + 1 + start → place.column + length r.bytes.items ≤ r.fed + 1 + start →
    ReaderInvariant (record r { start = start; place = place; parser = new_parser start place })
kept_anew r start place within fed line column =
    record { start = omega arith; at = within; fed = fed; line = line; column = column; parser_line = line; parser_column = column; mode = tt; items = refl; reads = λ more. stays (begin_at place (drop start r.bytes.items ++ more)) }

pub kept_again : (r : Inside) → ReaderInvariant r → ReaderInvariant (record r { parser = new_parser r.start r.place })
kept_again r i = kept_anew r r.start r.place (omega (arith, i.start, i.at)) i.fed i.line i.column

pub kept_refused : (r : Inside) (refusal : Option Refused) → ReaderInvariant r → ReaderInvariant (record r { parser = new_parser r.start r.place; refusal = refusal })
kept_refused r refusal i = kept_anew (record r { refusal = refusal }) r.start r.place (omega (arith, i.start, i.at)) i.fed i.line i.column

same_state : (p : Parser) (bytes : List ℕ) → p.stack ≡ empty_stack → is_comment p.mode ≡ false → begin_at p.place bytes ≡ text_state p bytes
same_state p bytes empty plain =
    ap (λ s. record { opens = reverse s.opened; items = s.items; in_comment = false; place = p.place; bytes = bytes }) (sym empty)
    ∙ ap (λ c. record { opens = reverse p.stack.opened; items = p.stack.items; in_comment = c; place = p.place; bytes = bytes }) (sym plain)

empty_items : (s : Stack) → s ≡ empty_stack → AreItems (reverse s.opened) s.items
empty_items s e = subst (λ x. AreItems (reverse x.opened) x.items) (sym e) refl

-- the reader behind what its parser read, with no list open
abbrev pub moved : Inside → Parser → Inside
moved r p = record r { start = p.at; place = p.place; parser = p }

kept_moved : (r : Inside) (new : Parser) → ReaderInvariant r → HasPassed r.bytes.items r.parser new → FitsMode (drop new.at r.bytes.items) new.mode → new.stack ≡ empty_stack → is_comment new.mode ≡ false → ReaderInvariant (moved r new)
kept_moved r new i h fits empty plain =
    let line : new.place.line + length r.bytes.items ≤ r.fed + 1 + new.at = omega (arith, i.parser_line, h.line, h.begin) in
    let column : new.place.column + length r.bytes.items ≤ r.fed + 1 + new.at = omega (arith, i.parser_column, h.column, h.begin) in
    record {
      start = omega arith;
      at = h.within;
      fed = i.fed;
      line = line;
      column = column;
      parser_line = line;
      parser_column = column;
      mode = fits;
      items = empty_items new.stack empty;
      reads = λ more. let s = begin_at new.place (drop new.at r.bytes.items ++ more) in subst (λ t. Reads s t) (same_state new (drop new.at r.bytes.items ++ more) empty plain) (stays s);
    }

pub kept_command : (r : Inside) (e : Sexpr) (new : Parser) → ReaderInvariant r → HasCommand r.bytes.items r.ended r.parser e new → ReaderInvariant (moved r new)
kept_command r e new i h = kept_moved r new i h.passed (subst (λ m. FitsMode (drop new.at r.bytes.items) m) (sym h.between) tt) h.empty (ap is_comment h.between)

-- of two tests that hold
both_first : (x y : Bool) → (x && y) ≡ true → x ≡ true
both_first true y e = refl
both_first false y e = e

both_second : (x y : Bool) → (x && y) ≡ true → y ≡ true
both_second true y e = e
both_second false y e = cc

not_true : (x : Bool) → not x ≡ true → x ≡ false
not_true true e = cc
not_true false e = refl

outermost_stack : (new : Parser) → AreItems (reverse new.stack.opened) new.stack.items → is_outermost new ≡ true → new.stack ≡ empty_stack
outermost_stack new items is =
    let opened : new.stack.opened ≡ [] = no_items new.stack.opened (both_first (length new.stack.opened == 0) (not (is_comment new.mode)) is) in
    let none : new.stack.items ≡ [] = subst (λ os. AreItems os new.stack.items) (ap reverse opened) items in
    ap (λ x. record { opened = x; items = new.stack.items }) opened ∙ ap (λ x. record { opened = []; items = x }) none

outermost_plain : (new : Parser) → is_outermost new ≡ true → is_comment new.mode ≡ false
outermost_plain new is = not_true (is_comment new.mode) (both_second (length new.stack.opened == 0) (not (is_comment new.mode)) is)

pub kept_outermost : (r : Inside) (new : Parser) → ReaderInvariant r → Waits r.bytes.items r.ended r.parser new → is_outermost new ≡ true → ReaderInvariant (moved r new)
kept_outermost r new i h is = kept_moved r new i h.gone.passed h.gone.parsing.mode (outermost_stack new h.gone.parsing.items is) (outermost_plain new is)

untold : (told : Bool) (more : List ℕ) → told ≡ false → told ≡ true → more ≡ []
untold told more e t = absurd (different (sym t ∙ e))

pub kept_inside : (r : Inside) (new : Parser) → ReaderInvariant r → Waits r.bytes.items r.ended r.parser new → ReaderInvariant (record r { parser = new })
kept_inside r new i h =
    let p = h.gone.passed in
    record {
      start = omega (arith, i.start, p.begin);
      at = p.within;
      fed = i.fed;
      line = i.line;
      column = i.column;
      parser_line = omega (arith, i.parser_line, p.line, p.begin);
      parser_column = omega (arith, i.parser_column, p.column, p.begin);
      mode = h.gone.parsing.mode;
      items = h.gone.parsing.items;
      reads = λ more. reads_more (begin_at r.place (drop r.start r.bytes.items ++ more)) (state_at r.parser r.bytes.items more) (state_at new r.bytes.items more) (i.reads more) (h.gone.reads more (untold r.ended more h.untold));
    }

pub kept_finished : (r : Inside) (new : Parser) → ReaderInvariant r → IsAtLast r.bytes.items r.ended r.parser new → ReaderInvariant (record r { start = new.at; place = new.place; parser = new_parser new.at new.place })
kept_finished r new i h =
    let p = h.gone.passed in
    kept_anew r new.at new.place p.within i.fed (omega (arith, i.parser_line, p.line, p.begin)) (omega (arith, i.parser_column, p.column, p.begin))

-- the commands left are those that are left to the parser
left_at : (r : Inside) (old : Stream) → ReaderInvariant r → r.refusal ≡ None → stream_of r ≡ old → (more : List ℕ) → commands_left old more ≡ left (state_at r.parser r.bytes.items more)
left_at r old i none is more =
    ap (λ s. commands_left s more) (sym is)
    ∙ ap (λ o. unless_refused (option_map refusal_of o) r.place (drop r.start r.bytes.items ++ more)) none
    ∙ reads_left (begin_at r.place (drop r.start r.bytes.items ++ more)) (state_at r.parser r.bytes.items more) (i.reads more)

told_too : (r : Inside) (old : Stream) (more : List ℕ) → stream_of r ≡ old → (old.ended ≡ true → more ≡ []) → r.ended ≡ true → more ≡ []
told_too r old more is none t = none (sym (ap (λ s. s.ended) is) ∙ t)

-- what was taken
taken_to : (r : Inside) (old : Stream) (new : Inside) (at : ℕ) (place : Place) → ReaderInvariant r → stream_of r ≡ old → r.start ≤ at → at ≤ length r.bytes.items →
    Leads r.place (drop r.start r.bytes.items ++ []) place (drop at r.bytes.items ++ []) → new ≡ record r { start = at; place = place; parser = new.parser } → IsTaken old (between r.bytes.items r.start at) (stream_of new)
taken_to r old new at place i is le within leads to =
    let items = r.bytes.items in
    let now : stream_of new ≡ record (stream_of r) { rest = drop at items; place = place } = ap stream_of to in
    record {
      split = ap (λ s. s.rest) (sym is) ∙ between_split items r.start at le ∙ ap (λ s. between items r.start at ++ s.rest) (sym now);
      place = ap (λ s. s.place) now ∙ leads.place ∙ ap (behind r.place) (front_between items r.start at [] leads.front le within leads.split) ∙ ap (λ s. behind s.place (between items r.start at)) is;
      fed = ap (λ s. s.fed) now ∙ ap (λ s. s.fed) is;
      ended = ap (λ s. s.ended) now ∙ ap (λ s. s.ended) is;
    }

pub read_as : (r : Inside) (bytes : List ℕ) (f g : Read) (new : Parser) → bytes ≡ r.bytes.items → f ≡ g → IsRead bytes r.ended r.parser f new → IsRead r.bytes.items r.ended r.parser g new
read_as r bytes f g new whole is h = subst (λ xs. IsRead xs r.ended r.parser g new) whole (subst (λ x. IsRead bytes r.ended r.parser x new) is h)

-- a command
pub first_read : (r : Inside) (old : Stream) (e : Sexpr) (new : Parser) → ReaderInvariant r → r.refusal ≡ None → stream_of r ≡ old → HasCommand r.bytes.items r.ended r.parser e new → IsFirst old e (stream_of (moved r new))
first_read r old e new i none is h =
    let items = r.bytes.items in
    let some : r.start < new.at = omega (arith, i.start, h.further) in
    let g = h.gives [] (λ t. refl) in
    let s = begin_at r.place (drop r.start items ++ []) in
    let from = state_at r.parser items [] in
    let leads = leads_more r.place s.bytes from.place from.bytes new.place (drop new.at items ++ []) (reads_front s from (i.reads []))
    (leads_more from.place from.bytes g.0.place g.0.bytes new.place (drop new.at items ++ []) (reads_front from g.0 g.1) (gives_front g.0 e new.place (drop new.at items ++ []) g.2)) in
    let rest : (more : List ℕ) → (old.ended ≡ true → more ≡ []) → commands_left old more ≡ put_first e (commands_left (stream_of (moved r new)) more) = λ more none'.
    let m = h.gives more (told_too r old more is none') in
    left_at r old i none is more
    ∙ reads_left (state_at r.parser items more) m.0 m.1
    ∙ gives_left m.0 e new.place (drop new.at items ++ more) m.2
    ∙ ap (λ o. put_first e (unless_refused (option_map refusal_of o) new.place (drop new.at items ++ more))) (sym none) in
    record {
      bytes = between items r.start new.at;
      taken = taken_to r old (moved r new) new.at new.place i is (omega (arith, some)) h.passed.within leads refl;
      spelled = λ more none'.
          let m = h.gives more (told_too r old more is none') in
          let b = begin_at r.place (drop r.start items ++ more) in
          let at = state_at r.parser items more in
          let built = built_reads r.place b.bytes at m.0 (built_reads r.place b.bytes b at (built_begin r.place b.bytes) (i.reads more)) m.1 in
          let g = built_gives r.place b.bytes m.0 e new.place (drop new.at items ++ more) built m.2 in
          subst (λ s. Spells e s.place (between items r.start new.at) (drop new.at items ++ more)) is
          (subst (λ w. Spells e r.place w (drop new.at items ++ more)) (front_between items r.start new.at more g.word (omega (arith, some)) h.passed.within g.split) g.spelled);
      rest = rest;
      kept = (
        ap (λ s. s.fed) is,
        ap (λ s. s.ended) is,
        ap (option_map refusal_of) none,
        omega (arith, ap (λ s. length s.rest) is, length-drop r.start items, length-drop new.at items, h.passed.within),
      );
      shallow = first_shallow old [] e (commands_left (stream_of (moved r new)) []) (rest [] (λ t. refl));
    }

-- more is wanted
pub waits_outside : (r : Inside) (old : Stream) (new : Parser) → ReaderInvariant r → r.refusal ≡ None → stream_of r ≡ old → Waits r.bytes.items r.ended r.parser new → is_outermost new ≡ true → IsWaiting old (stream_of (moved r new))
waits_outside r old new i none is h out =
    let items = r.bytes.items in
    let p = h.gone.passed in
    let le : r.start ≤ new.at = omega (arith, i.start, p.begin) in
    let s = begin_at r.place (drop r.start items ++ []) in
    let from = state_at r.parser items [] in
    let to = state_at new items [] in
    let leads = leads_more r.place s.bytes from.place from.bytes new.place (drop new.at items ++ []) (reads_front s from (i.reads [])) (reads_front from to (h.gone.reads [] (λ t. refl))) in
    record {
      bytes = between items r.start new.at;
      taken = taken_to r old (moved r new) new.at new.place i is le p.within leads refl;
      gap =
          let built = built_reads r.place s.bytes from to (built_reads r.place s.bytes s from (built_begin r.place s.bytes) (i.reads [])) (h.gone.reads [] (λ t. refl)) in
          let stack = outermost_stack new h.gone.parsing.items out in
          let inside = inside_none r.place s.bytes built.nesting to.opens to.items built.place (built.passed ++ to.bytes) built.inside (ap (λ x. reverse x.opened) stack) in
          subst IsGap (front_between items r.start new.at [] built.passed le p.within (sym inside.2)) (whole_gap built.passed (is_comment new.mode) (outermost_plain new out) built.passes);
      «open» = ap (λ s. s.ended) (sym is) ∙ h.untold;
      rest = λ more.
          left_at (moved r new) (stream_of (moved r new)) (kept_outermost r new i h out) none refl more
          ∙ sym (reads_left (state_at r.parser items more) (state_at new items more) (h.gone.reads more (untold r.ended more h.untold)))
          ∙ sym (left_at r old i none is more);
      kept = (ap (λ s. s.fed) is, ap (λ s. s.ended) is, ap (λ s. s.refusal) is, omega (arith, ap (λ s. length s.rest) is, length-drop r.start items, length-drop new.at items, le));
    }

pub waits_inside : (r : Inside) (old : Stream) (new : Parser) → stream_of r ≡ old → Waits r.bytes.items r.ended r.parser new → IsWaiting old (stream_of (record r { parser = new }))
waits_inside r old new is h = record {
  bytes = [];
  taken = record { split = ap (λ s. s.rest) (sym is); place = ap (λ s. s.place) is; fed = ap (λ s. s.fed) is; ended = ap (λ s. s.ended) is };
  gap = grammar.none;
  «open» = ap (λ s. s.ended) (sym is) ∙ h.untold;
  rest = λ more. ap (λ s. commands_left s more) is;
  kept = (ap (λ s. s.fed) is, ap (λ s. s.ended) is, ap (λ s. s.refusal) is, omega (arith, ap (λ s. length s.rest) is));
}

pub undecided_waits : (r : Inside) (old : Stream) (new : Parser) → ReaderInvariant r → r.refusal ≡ None → stream_of r ≡ old → Waits r.bytes.items r.ended r.parser new → IsUndecided old
undecided_waits r old new i none is h =
    let items = r.bytes.items in
    let rest = drop new.at items in
    let same = λ (more : List ℕ). left_at r old i none is more ∙ reads_left (state_at r.parser items more) (state_at new items more) (h.gone.reads more (untold r.ended more h.untold)) in
    let m = makes (reverse new.stack.opened) new.stack.items new.mode new.place rest h.gone.parsing.mode h.end in
    let b = bare (reverse new.stack.opened) new.stack.items new.mode new.place rest h.gone.parsing.mode h.end in
    record {
      «open» = ap (λ s. s.ended) (sym is) ∙ h.untold;
      begun = (m.0, m.1.0, ap first_command (same m.0) ∙ m.1.1);
      unfinished = (b.0, ap first_command (same b.0) ∙ b.1);
    }

-- the end
pub finished_read : (r : Inside) (old : Stream) (new : Parser) → ReaderInvariant r → r.refusal ≡ None → stream_of r ≡ old → IsAtLast r.bytes.items r.ended r.parser new →
    IsFinished old (stream_of (record r { start = new.at; place = new.place; parser = new_parser new.at new.place }))
finished_read r old new i none is h =
    let items = r.bytes.items in
    let p = h.gone.passed in
    let le : r.start ≤ new.at = omega (arith, i.start, p.begin) in
    let now : Inside = record r { start = new.at; place = new.place; parser = new_parser new.at new.place } in
    let s = begin_at r.place (drop r.start items ++ []) in
    let from = state_at r.parser items [] in
    let to = state_at new items [] in
    let leads = leads_more r.place s.bytes from.place from.bytes new.place (drop new.at items ++ []) (reads_front s from (i.reads [])) (reads_front from to (h.gone.reads [] (λ t. refl))) in
    let t = taken_to r old now new.at new.place i is le p.within leads refl in
    let all : old.rest ≡ between items r.start new.at = t.split ∙ ap (λ l. between items r.start new.at ++ l) h.end ∙ append_none (between items r.start new.at) in
    record {
      taken = subst (λ b. IsTaken old b (stream_of now)) (sym all) t;
      gap =
          let built = built_reads r.place s.bytes from to (built_reads r.place s.bytes s from (built_begin r.place s.bytes) (i.reads [])) (h.gone.reads [] (λ t. refl)) in
          subst IsLastGap (append_none (drop r.start items) ∙ ap (λ s. s.rest) is)
          (built_finished r.place s.bytes to built (ap (λ l. l ++ []) h.end) (ap (λ x. reverse x.opened) h.closed));
      ended = ap (λ s. s.ended) (sym is) ∙ h.is_told;
      rest = left_at r old i none is [] ∙ reads_left from to (h.gone.reads [] (λ t. refl)) ∙ finished_left to (ap (λ l. l ++ []) h.end) ∙ ap (λ s. ended (reverse s.opened)) h.closed;
      after = ap (λ o. unless_refused (option_map refusal_of o) new.place (drop new.at items ++ [])) none ∙ ap (λ l. reading_from new.place (l ++ [])) h.end;
      kept = (ap (λ s. s.fed) is, ap (λ s. s.ended) is, ap (λ s. s.refusal) is, omega (arith, ap (λ s. length s.rest) is, length-drop r.start items, length-drop new.at items, le));
    }

-- a fault
pub refused_read : (r : Inside) (old : Stream) (p : Place) (reason : Reason) → ReaderInvariant r → r.refusal ≡ None → stream_of r ≡ old → IsFaulty r.bytes.items r.ended r.parser p reason →
    IsRefused old p reason (stream_of (record r { parser = new_parser r.start r.place; refusal = Some (record { place = p; reason = reason }) }))
refused_read r old p reason i none is h = record {
  fault = λ fresh more none'.
      let g = h more (told_too r old more is none') in
      let b = begin_at r.place (drop r.start r.bytes.items ++ more) in
      let at = state_at r.parser r.bytes.items more in
      let built = built_reads r.place b.bytes at g.0 (built_reads r.place b.bytes b at (built_begin r.place b.bytes) (i.reads more)) g.1 in
      subst (λ s. IsFault s.place (s.rest ++ more) (record { place = p; reason = reason })) is (built_refuses r.place b.bytes g.0 p reason built g.2);
  rest = λ more none'.
      let g = h more (told_too r old more is none') in
      left_at r old i none is more ∙ reads_left (state_at r.parser r.bytes.items more) g.0 g.1 ∙ refuses_left g.0 p reason g.2;
  stands = let f : Stream → Stream = λ s. record s { refusal = Some (record { place = p; reason = reason }) } in ap f is;
}

-- an answer decides
pub first_decided : (old : Stream) (e : Sexpr) (new : Stream) → IsFirst old e new → ¬ (IsUndecided old)
first_decided old e new h u =
    let told = λ (t : old.ended ≡ true). absurd {A = u.unfinished.0 ≡ []} (different (sym t ∙ u.open)) in
    let is = sym u.unfinished.1 ∙ ap first_command (h.rest u.unfinished.0 told) in
    cc

pub refused_decided : (old : Stream) (place : Place) (reason : Reason) (new : Stream) → IsRefused old place reason new → ¬ (IsUndecided old)
refused_decided old place reason new h u =
    let told = λ (t : old.ended ≡ true). absurd {A = u.begun.0 ≡ []} (different (sym t ∙ u.open)) in
    let is = sym u.begun.2 ∙ ap first_command (h.rest u.begun.0 told) in
    cc

-- a reader that was fed nothing
pub kept_first : (r : Inside) → r.bytes.items ≡ [] → r.start ≡ 0 → r.place ≡ record { line = 1; column = 1 } → r.parser ≡ new_parser r.start r.place → r.fed ≡ 0 → ReaderInvariant r
kept_first r none start place parser fed =
    let line : r.place.line ≡ 1 = ap (λ p. p.line) place in
    let column : r.place.column ≡ 1 = ap (λ p. p.column) place in
    let n : length r.bytes.items ≡ 0 = ap length none in
    subst (λ p. ReaderInvariant (record r { parser = p })) (sym parser) (kept_anew r r.start r.place (omega (arith, start)) (omega (arith, fed)) (omega (arith, line, n)) (omega (arith, column, n)))
