-- What the fields of a reader stand for.
use Rattle.std.specs.Prelude.{ℕ, ◌+◌, ◌-◌, ◌^◌, ◌≤◌, false, List, [], ◌++◌, length, drop, reverse}
use Rattle.std.specs.Option.{option_map}
use Rattle.rare_base.specs.declared.answers.Place.{Place}
use Rattle.rare_base.specs.Answers.{Refusal}
use Rattle.rare_sexpr.specs.declared.reader.Refused.{Refused}
use Rattle.rare_sexpr.specs.declared.reader.Reader.TheInside.{Inside}
use Rattle.rare_sexpr.specs.Streams.{Stream}
use Rattle.rare_sexpr.specs.inner.States.{TextState, Reads}
use Rattle.rare_sexpr.specs.inner.Parsing.{FitsMode, AreItems, state_at}

abbrev pub refusal_of : Refused → Refusal
refusal_of r = record { place = r.place; reason = r.reason }

abbrev pub stream_of : Inside → Stream
stream_of r = record { rest = drop r.start r.bytes.items; place = r.place; fed = r.fed; ended = r.ended; refusal = option_map refusal_of r.refusal }

-- before the first byte of a command
abbrev pub begin_at : Place → List ℕ → TextState
begin_at p bytes = record { opens = []; items = []; in_comment = false; place = p; bytes = bytes }

-- the parser has read the bytes from start on
pub record ReaderInvariant (r : Inside) : Type 0 where
  pub start : r.start ≤ r.parser.at
  pub at : r.parser.at ≤ length r.bytes.items
  pub fed : r.fed ≤ 2 ^ 32 - 2
  pub line : r.place.line + length r.bytes.items ≤ r.fed + 1 + r.start
  pub column : r.place.column + length r.bytes.items ≤ r.fed + 1 + r.start
  pub parser_line : r.parser.place.line + length r.bytes.items ≤ r.fed + 1 + r.parser.at
  pub parser_column : r.parser.place.column + length r.bytes.items ≤ r.fed + 1 + r.parser.at
  pub mode : FitsMode (drop r.parser.at r.bytes.items) r.parser.mode
  pub items : AreItems (reverse r.parser.stack.opened) r.parser.stack.items
  pub reads : (more : List ℕ) → Reads (begin_at r.place (drop r.start r.bytes.items ++ more)) (state_at r.parser r.bytes.items more)
