-- How what a function returned goes with a reading.
use Rattle.std.specs.Prelude.{◌≡◌, ℕ, List, Result, Ok, Err}
use Rattle.std.specs.Borrow.{Bor}
use Rattle.rare_base.specs.declared.answers.Fault.{Fault}
use Rattle.rare_base.specs.declared.answers.Fault.TheVariants as fault
use Rattle.rare_scope.specs.Reading.{Read}

-- the reading fails so; want of memory is free
abbrev pub Fails : {A : Type 0} → Fault → Read A → Type 0
Fails (fault.Refused place why) read = read ≡ Err (record { place = place; reason = why })
Fails fault.Memory read = Unit {0}

-- what was read, or the first fault
abbrev pub Answers : {A : Type 0} → Result A Fault → Read A → Type 0
Answers (Ok x) read = read ≡ Ok x
Answers (Err f) read = Fails f read

-- the bytes that were read, or the first fault
abbrev pub AnswersBytes : Result (Bor (List ℕ)) Fault → Read (List ℕ) → Type 0
AnswersBytes (Ok text) read = read ≡ Ok text.now
AnswersBytes (Err f) read = Fails f read
