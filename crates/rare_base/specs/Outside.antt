-- What a read and a put say of the bytes, and of the count of those that failed.
use Rattle.std.specs.Prelude.{◌≡◌, ℕ, zero, suc, ◌+◌, ◌-◌, ◌^◌, ◌≤◌, ◌↔◌, min, List, ◌++◌, length, take, drop, Option, Some, None, option_map, IfSome, Result, Ok, Err, IfOk, OnOk, OnErr}

-- where a count of faults ends, and stays
abbrev pub most_faults : ℕ
most_faults = 2 ^ 64 - 1

-- A count rose: it is greater, or stands at its end.
abbrev pub Rose : ℕ → ℕ → Type 0
Rose before now = min (before + 1) most_faults ≤ now

-- n bytes at this place of the text, and none exactly at its end or past it
pub record ReadsAt (text : List ℕ) (at n : ℕ) (buf : List ℕ) : Type 0 where
  pub bytes : take n buf ≡ take n (drop at text)
  pub within : n ≤ length text - at
  pub end : (n ≡ 0) ↔ (length text ≤ at)

-- how the count of faults goes with an answer: it rose exactly where the answer is a failure
pub record CountsFault {T E : Type 0} (before now : ℕ) (result : Result T E) : Type 0 where
  pub later : before ≤ now
  pub kept : OnOk result (now ≡ before)
  pub failed : OnErr result (Rose before now)

-- the number that a read or a put answers: none where it failed
abbrev pub ok_of : {E : Type 0} → Result ℕ E → Option ℕ
ok_of (Ok n) = Some n
ok_of (Err e) = None

-- that number, where it is above 0
abbrev pub ok_above_zero : {E : Type 0} → Result ℕ E → Option ℕ
ok_above_zero (Ok zero) = None
ok_above_zero (Ok (suc n)) = Some (suc n)
ok_above_zero (Err e) = None

-- what a read gave is the text at its place, where the text is told
abbrev pub GivesBytes : {E : Type 0} → Option (List ℕ) → ℕ → Result ℕ E → List ℕ → Type 0
GivesBytes told at result buf = IfOk result (λ n. IfSome told (λ all. ReadsAt all at n buf))

-- the bytes that a put took
abbrev pub taken : {E : Type 0} → Result ℕ E → List ℕ → List ℕ
taken (Ok n) bytes = take n bytes
taken (Err e) bytes = take 0 bytes

-- what is written, where it is told, with these bytes at its end
abbrev pub grown : Option (List ℕ) → List ℕ → Option (List ℕ)
grown was bytes = option_map (λ w. w ++ bytes) was
