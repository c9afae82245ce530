-- What a library and a sink in memory hold.
use Rattle.std.specs.Prelude.{ℕ, ◌-◌, ◌^◌, min, nat_eq, ◌||◌, List, length, Option, Some, None, option_map, if◌then◌else◌}
use Rattle.rare_base.specs.declared.memory.NamedText.{NamedText}
use Rattle.rare_base.specs.declared.memory.MemoryLibrary.{MemoryLibrary}
use Rattle.rare_base.specs.declared.memory.MemorySink.{MemorySink}
use Rattle.rare_base.specs.MemoryTexts.{text_named, is_failing}

-- where a count of calls ends, and stays
abbrev pub most_calls : ℕ
most_calls = 2 ^ 64 - 1

-- the texts of a library
abbrev pub texts_of : MemoryLibrary → List NamedText
texts_of m = m.texts

-- the most bytes that a read gives
abbrev pub read_piece : MemoryLibrary → ℕ
read_piece m = m.piece

-- the numbers of the reads that fail
abbrev pub failing_reads : MemoryLibrary → List ℕ
failing_reads m = m.fail.items

-- how many reads were called
abbrev pub reads_of : MemoryLibrary → ℕ
reads_of m = m.calls

-- how many reads failed
abbrev pub faults_of : MemoryLibrary → ℕ
faults_of m = m.faults

-- the text that the call of this number finds: none where it fails, or no text has the name
abbrev pub text_read : MemoryLibrary → ℕ → List ℕ → Option (List ℕ)
text_read m call w = if is_failing m.fail.items call then None else text_named m.texts w

-- how many bytes the call of this number gives of a text at a place, into this much room: none where it fails, or no text has the name
abbrev pub read_count : MemoryLibrary → ℕ → List ℕ → ℕ → ℕ → Option ℕ
read_count m call w at room = option_map (λ t. min (min m.piece room) (length t - at)) (text_read m call w)

-- what a sink holds
abbrev pub held : MemorySink → List ℕ
held m = m.bytes.items

-- the most bytes that a sink holds
abbrev pub room_of : MemorySink → ℕ
room_of m = m.room

-- the most bytes that a put takes
abbrev pub put_piece : MemorySink → ℕ
put_piece m = m.piece

-- the numbers of the puts that fail
abbrev pub failing_puts : MemorySink → List ℕ
failing_puts m = m.fail.items

-- how many puts were called
abbrev pub puts_of : MemorySink → ℕ
puts_of m = m.calls

-- how many puts failed
abbrev pub put_faults : MemorySink → ℕ
put_faults m = m.faults

-- the bytes that a sink has room for
abbrev pub room_left : MemorySink → ℕ
room_left m = m.room - length m.bytes.items

-- how many of so many bytes the call of this number takes: none where it fails, or no room is left
abbrev pub put_count : MemorySink → ℕ → ℕ → Option ℕ
put_count m call n =
    if nat_eq (room_left m) 0 || is_failing m.fail.items call then None else Some (min (min m.piece (room_left m)) n)
