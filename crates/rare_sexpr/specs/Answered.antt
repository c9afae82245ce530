-- What a reader answers.
use Rattle.std.specs.Prelude.{◌≡◌, ℕ, ◌<◌, ◌≤◌, true, false, List, [], ◌++◌, length, Some, None, Result, Ok, Err}
use Rattle.rare_base.specs.declared.answers.Place.{Place}
use Rattle.rare_base.specs.declared.answers.Reason.{Reason}
use Rattle.rare_base.specs.declared.answers.Fault.{Fault}
use Rattle.rare_base.specs.declared.answers.Fault.TheVariants as fault
use Rattle.rare_sexpr.specs.declared.tree.Sexpr.{Sexpr}
use Rattle.rare_sexpr.specs.declared.reader.Next.{Next}
use Rattle.rare_sexpr.specs.declared.reader.Next.TheVariants as next
use Rattle.rare_sexpr.specs.Tree.{depth}
use Rattle.rare_sexpr.specs.Bytes.{behind}
use Rattle.rare_sexpr.specs.Grammar.{IsGap, IsLastGap, Spells}
use Rattle.rare_sexpr.specs.Faults.{IsFault}
use Rattle.rare_sexpr.specs.Commands.{put_first, no_commands, refused, first_command}
use Rattle.rare_sexpr.specs.Streams.{Stream, commands_left}

-- these bytes were taken, and nothing else changed but the refusal
pub record IsTaken (old : Stream) (bytes : List ℕ) (new : Stream) : Type 0 where
  pub split : old.rest ≡ bytes ++ new.rest
  pub place : new.place ≡ behind old.place bytes
  pub fed : new.fed ≡ old.fed
  pub ended : new.ended ≡ old.ended

-- The first of the commands that are left, of depth at most 5,001 (an atom and an empty list have depth 1):
-- what was taken is a gap and its spelling, however the text goes on.
pub record IsFirst (old : Stream) (e : Sexpr) (new : Stream) : Type 0 where
  pub bytes : List ℕ
  pub taken : IsTaken old bytes new
  pub spelled : (more : List ℕ) → (old.ended ≡ true → more ≡ []) → Spells e old.place bytes (new.rest ++ more)
  pub rest : (more : List ℕ) → (old.ended ≡ true → more ≡ []) → commands_left old more ≡ put_first e (commands_left new more)
  pub kept : (new.fed ≡ old.fed) × (new.ended ≡ old.ended) × (new.refusal ≡ None) × (length new.rest < length old.rest)
  pub shallow : depth e ≤ 5001

-- none yet: at most a gap was taken
pub record IsWaiting (old new : Stream) : Type 0 where
  pub bytes : List ℕ
  pub taken : IsTaken old bytes new
  pub gap : IsGap bytes
  pub «open» : old.ended ≡ false
  pub rest : (more : List ℕ) → commands_left new more ≡ commands_left old more
  pub kept : (new.fed ≡ old.fed) × (new.ended ≡ old.ended) × (new.refusal ≡ old.refusal) × (length new.rest ≤ length old.rest)

-- no further command, and no fault: all bytes were a gap
pub record IsFinished (old new : Stream) : Type 0 where
  pub taken : IsTaken old old.rest new
  pub gap : IsLastGap old.rest
  pub ended : old.ended ≡ true
  pub rest : commands_left old [] ≡ no_commands
  pub after : commands_left new [] ≡ no_commands
  pub kept : (new.fed ≡ old.fed) × (new.ended ≡ old.ended) × (new.refusal ≡ old.refusal) × (length new.rest ≤ length old.rest)

-- the fault, which stands from then on
pub record IsRefused (old : Stream) (place : Place) (reason : Reason) (new : Stream) : Type 0 where
  pub fault : old.refusal ≡ None → (more : List ℕ) → (old.ended ≡ true → more ≡ []) → IsFault old.place (old.rest ++ more) (record { place = place; reason = reason })
  pub rest : (more : List ℕ) → (old.ended ≡ true → more ≡ []) → commands_left old more ≡ refused place reason
  pub stands : new ≡ record old { refusal = Some (record { place = place; reason = reason }) }

abbrev pub AnswersNext : Stream → Result Next Fault → Stream → Type 0
AnswersNext old (Ok (next.Command e)) new = IsFirst old e new
AnswersNext old (Ok next.NeedMore) new = IsWaiting old new
AnswersNext old (Ok next.Finished) new = IsFinished old new
AnswersNext old (Err (fault.Refused place reason)) new = IsRefused old place reason new
AnswersNext old (Err fault.Memory) new = new ≡ old

-- The bytes left are blanks and comments alone, or these and the front of a command that is not whole:
-- the text goes on, with some further bytes a command comes first, and with others none.
pub record IsUndecided (s : Stream) : Type 0 where
  pub «open» : s.ended ≡ false
  pub begun : (more : List ℕ) × (e : Sexpr) × (first_command (commands_left s more) ≡ Some e)
  pub unfinished : (more : List ℕ) × (first_command (commands_left s more) ≡ None)

-- more bytes are asked for exactly there, unless memory ran out
abbrev pub AsksForMore : Stream → Result Next Fault → Type 0
AsksForMore s (Ok next.NeedMore) = IsUndecided s
AsksForMore s (Ok (next.Command e)) = ¬ (IsUndecided s)
AsksForMore s (Ok next.Finished) = ¬ (IsUndecided s)
AsksForMore s (Err (fault.Refused place reason)) = ¬ (IsUndecided s)
AsksForMore s (Err fault.Memory) = Unit {0}
