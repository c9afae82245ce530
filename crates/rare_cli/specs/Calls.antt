-- A library and a sink in a call: what they told and how often their calls had failed, before and after.
use Rattle.std.specs.Prelude.{◌≡◌, ℕ, ◌<◌, List, length, take, Option, IfSome}
use Rattle.rare_base.specs.Outside.{Rose, grown}

-- a library in a call: the texts that it tells, and how often reads of each name had failed before and after
pub record Files : Type 0 where
  pub told : List ℕ → Option (List ℕ)
  pub before : List ℕ → ℕ
  pub after : List ℕ → ℕ

abbrev pub library : {L : Type 0} → (L → List ℕ → Option (List ℕ)) → (L → List ℕ → ℕ) → L → L → Files
library text faults old new = record { told = text old; before = faults old; after = faults new }

-- no count rose
abbrev pub IsQuiet : Files → Type 0
IsQuiet files = (w : List ℕ) → files.after w ≡ files.before w

-- the text of a file, where it is told
abbrev pub Tells : Option (List ℕ) → List ℕ → Type 0
Tells told text = IfSome told (λ all. all ≡ text)

-- a sink in a call: what was written before and after, where it is told, and how often puts had failed
pub record Written : Type 0 where
  pub was : Option (List ℕ)
  pub now : Option (List ℕ)
  pub before : ℕ
  pub after : ℕ

abbrev pub sink : {S : Type 0} → (S → Option (List ℕ)) → (S → ℕ) → S → S → Written
sink written faults old new = record { was = written old; now = written new; before = faults old; after = faults new }

-- the sink took the whole text
pub record Takes (out : Written) (text : List ℕ) : Type 0 where
  pub written : out.now ≡ grown out.was text
  pub quiet : out.after ≡ out.before

-- the sink took a proper front of the text, and a put failed
pub record Cuts (out : Written) (text : List ℕ) : Type 0 where
  pub count : ℕ
  pub proper : count < length text
  pub written : out.now ≡ grown out.was (take count text)
  pub failed : Rose out.before out.after
