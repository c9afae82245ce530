-- What the scanner of an atom found.
use Rattle.std.specs.Prelude.{◌≡◌, ℕ, ◌<◌, ◌≤◌, Bool, true, false, List, [], ◌++◌, length, drop}
use Rattle.rare_sexpr.specs.declared.scan.Part.{Part}
use Rattle.rare_sexpr.specs.declared.scan.Scanned.{Scanned}
use Rattle.rare_sexpr.specs.declared.scan.Scanned.TheVariants as scanned
use Rattle.rare_sexpr.specs.inner.Scan.{whole, bad, cut, scan, at_end}

-- what was read is what the rest gives, however the text goes on
abbrev pub IsScanned : List ℕ → ℕ → Part → Bool → Scanned → Type 0
IsScanned word at p ended (scanned.Whole k end) = (at ≤ end) × (end ≤ length word) × ((more : List ℕ) → (ended ≡ true → more ≡ []) → scan p at (drop at word ++ more) ≡ whole k end)
IsScanned word at p ended (scanned.Bad end) = (at ≤ end) × (end < length word) × ((more : List ℕ) → scan p at (drop at word ++ more) ≡ bad end)
IsScanned word at p ended (scanned.Cut r) = (ended ≡ true) × (scan p at (drop at word) ≡ cut r)
IsScanned word at p ended (scanned.More q) = (ended ≡ false) × ((more : List ℕ) → scan p at (drop at word ++ more) ≡ scan q (length word) more)

abbrev pub EndsWord : Part → ℕ → Scanned → Type 0
EndsWord p n (scanned.Whole k end) = (end ≡ n) × (at_end p n ≡ whole k n)
EndsWord p n (scanned.Bad end) = ⊥
EndsWord p n (scanned.Cut r) = at_end p n ≡ cut r
EndsWord p n (scanned.More q) = ⊥
