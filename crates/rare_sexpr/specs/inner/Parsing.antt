-- What a parser stands for, and what it does.
use Rattle.std.specs.Prelude.{◌≡◌, ℕ, ◌+◌, ◌≤◌, ◌<◌, ◌^◌, ◌==◌, Bool, true, false, not, ◌&&◌, List, [], ◌∷◌, ◌++◌, length, drop, get_or, reverse, None}
use Rattle.rare_base.specs.declared.answers.Place.{Place}
use Rattle.rare_base.specs.declared.answers.Reason.{Reason}
use Rattle.rare_base.specs.declared.answers.Reason.TheVariants.{Unbalanced}
use Rattle.rare_sexpr.specs.declared.tree.Sexpr.{Sexpr}
use Rattle.rare_sexpr.specs.declared.stack.Opened.{Opened}
use Rattle.rare_sexpr.specs.declared.parser.Mode.{Mode}
use Rattle.rare_sexpr.specs.declared.parser.Mode.TheVariants as mode
use Rattle.rare_sexpr.specs.declared.parser.Parser.{Parser}
use Rattle.rare_sexpr.specs.declared.parser.Turn.{Turn}
use Rattle.rare_sexpr.specs.declared.parser.Turn.TheVariants as turn
use Rattle.rare_sexpr.specs.declared.parser.Read.{Read}
use Rattle.rare_sexpr.specs.declared.parser.Read.TheVariants as read
use Rattle.rare_sexpr.specs.Bytes.{after}
use Rattle.rare_sexpr.specs.inner.Words.{gap_step}
use Rattle.rare_sexpr.specs.inner.Wording.{Resumes}
use Rattle.rare_sexpr.specs.inner.Reading.{outermost}
use Rattle.rare_sexpr.specs.inner.Stacks.{empty_stack}
use Rattle.rare_sexpr.specs.inner.States.{TextState, Takes, Reads, GivesCommand, Refuses}

abbrev pub new_parser : ℕ → Place → Parser
new_parser n p = record { at = n; place = p; mode = mode.Between; stack = empty_stack }

abbrev pub is_comment : Mode → Bool
is_comment mode.Between = false
is_comment mode.Comment = true
is_comment (mode.Word q n) = false

abbrev pub behind_gap : Bool → Mode
behind_gap true = mode.Comment
behind_gap false = mode.Between

-- behind one more byte
abbrev pub passed_byte : List ℕ → Parser → Parser
passed_byte bytes r = record r { at = r.at + 1; place = after (get_or bytes r.at 0) r.place; mode = mode.Between }

-- what was read, before these bytes
abbrev pub text_state : Parser → List ℕ → TextState
text_state r rest = record { opens = reverse r.stack.opened; items = r.stack.items; in_comment = is_comment r.mode; place = r.place; bytes = rest }

-- the same in a buffer, behind which there are further bytes
abbrev pub state_at : Parser → List ℕ → List ℕ → TextState
state_at r bytes more = text_state r (drop r.at bytes ++ more)

-- no list is open, and no comment goes on
abbrev pub is_outermost : Parser → Bool
is_outermost r = (length r.stack.opened == 0) && not (is_comment r.mode)

-- the front of these bytes was read so far
abbrev pub FitsMode : List ℕ → Mode → Type 0
FitsMode rest mode.Between = Unit {0}
FitsMode rest mode.Comment = Unit {0}
FitsMode rest (mode.Word q n) = (0 < n) × (n ≤ length rest) × Resumes rest n q

-- before the items of the outermost open list stand none
abbrev pub AreItems : List Opened → List Sexpr → Type 0
AreItems [] items = items ≡ []
AreItems (o ∷ []) items = o.before ≡ 0
AreItems (o ∷ q ∷ os) items = AreItems (q ∷ os) items

pub record IsParsing (bytes : List ℕ) (r : Parser) : Type 0 where
  pub within : r.at ≤ length bytes
  pub line : r.place.line + length bytes < 2 ^ 32 + r.at
  pub column : r.place.column + length bytes < 2 ^ 32 + r.at
  pub mode : FitsMode (drop r.at bytes) r.mode
  pub items : AreItems (reverse r.stack.opened) r.stack.items

-- between two bytes of a buffer, how far the lines and columns have come
pub record HasPassed (bytes : List ℕ) (old new : Parser) : Type 0 where
  pub begin : old.at ≤ new.at
  pub within : new.at ≤ length bytes
  pub line : new.place.line + old.at ≤ old.place.line + new.at
  pub column : new.place.column + old.at ≤ old.place.column + new.at

-- blanks and comments were passed over
pub record IsSkipped (bytes : List ℕ) (old new : Parser) : Type 0 where
  pub parsing : IsParsing bytes new
  pub passed : HasPassed bytes old new
  pub takes : (more : List ℕ) → Takes (state_at old bytes more) (state_at new bytes more)
  pub stops : new.at < length bytes → (is_comment new.mode ≡ false) × (gap_step false (get_or bytes new.at 0) ≡ None)

-- words were read, and no command is whole
pub record HasGone (bytes : List ℕ) (told : Bool) (old new : Parser) : Type 0 where
  pub parsing : IsParsing bytes new
  pub passed : HasPassed bytes old new
  pub reads : (more : List ℕ) → (told ≡ true → more ≡ []) → Reads (state_at old bytes more) (state_at new bytes more)

-- a command was read, and no byte behind it
pub record HasCommand (bytes : List ℕ) (told : Bool) (old : Parser) (e : Sexpr) (new : Parser) : Type 0 where
  pub further : old.at < new.at
  pub passed : HasPassed bytes old new
  pub empty : new.stack ≡ empty_stack
  pub between : new.mode ≡ mode.Between
  pub gives : (more : List ℕ) → (told ≡ true → more ≡ []) → (t : TextState) × Reads (state_at old bytes more) t × GivesCommand t e new.place (drop new.at bytes ++ more)

-- a fault was met
abbrev pub IsFaulty : List ℕ → Bool → Parser → Place → Reason → Type 0
IsFaulty bytes told old p r = (more : List ℕ) → (told ≡ true → more ≡ []) → (t : TextState) × Reads (state_at old bytes more) t × Refuses t p r

-- all bytes were read
abbrev pub IsAtEnd : List ℕ → Mode → Type 0
IsAtEnd rest mode.Between = rest ≡ []
IsAtEnd rest mode.Comment = rest ≡ []
IsAtEnd rest (mode.Word q n) = n ≡ length rest

pub record Waits (bytes : List ℕ) (told : Bool) (old new : Parser) : Type 0 where
  pub untold : told ≡ false
  pub gone : HasGone bytes told old new
  pub end : IsAtEnd (drop new.at bytes) new.mode

abbrev pub IsTurn : List ℕ → Bool → Parser → Turn → Parser → Type 0
IsTurn bytes told old turn.Goes new = (old.at < new.at) × HasGone bytes told old new
IsTurn bytes told old (turn.Command e) new = HasCommand bytes told old e new
IsTurn bytes told old (turn.Refused p r) new = IsFaulty bytes told old p r
IsTurn bytes told old turn.Waits new = Waits bytes told old new

-- the text ends with these bytes, and has no command in them
pub record IsAtLast (bytes : List ℕ) (told : Bool) (old new : Parser) : Type 0 where
  pub is_told : told ≡ true
  pub gone : HasGone bytes told old new
  pub end : drop new.at bytes ≡ []
  pub closed : new.stack ≡ empty_stack

abbrev pub IsRead : List ℕ → Bool → Parser → Read → Parser → Type 0
IsRead bytes told old (read.Command e) new = HasCommand bytes told old e new
IsRead bytes told old (read.Refused p r) new = IsFaulty bytes told old p r
IsRead bytes told old read.NeedMore new = Waits bytes told old new
IsRead bytes told old read.Finished new = IsAtLast bytes told old new

-- what is answered where no byte is left
abbrev pub IsEnd : Bool → Parser → Read → Type 0
IsEnd told r (read.Command e) = ⊥
IsEnd told r (read.Refused p reason) = (told ≡ true) × (0 < length r.stack.opened) × (p ≡ outermost (reverse r.stack.opened) r.place) × (reason ≡ Unbalanced)
IsEnd told r read.NeedMore = told ≡ false
IsEnd told r read.Finished = (told ≡ true) × (r.stack.opened ≡ [])
