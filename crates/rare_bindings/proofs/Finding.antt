-- What is found among names over others.
use Rattle.std.proofs.Common.{◌≡◌, ℕ, Bool, true, false, List, [], ◌∷◌, ◌++◌, bytes_eq, Option, Some, None, refl, ap, sym, ◌∙◌, if◌then◌else◌}
use Rattle.rare_scope.specs.declared.meaning.Meaning.{Meaning}
use Rattle.rare_scope.specs.Names.{Held, found, found_from}

from_append : (text : List ℕ) (so : Option Meaning) (outer inner : Held) → found_from text so (outer ++ inner) ≡ found_from text (found_from text so outer) inner
from_append text so [] inner = refl
from_append text so (n ∷ outer) inner = from_append text (if bytes_eq text n.0 then Some n.1 else so) outer inner

-- what stood before counts where nothing is found
abbrev or_before : Option Meaning → Option Meaning → Option Meaning
or_before (Some m) so = Some m
or_before None so = so

from_before : (text : List ℕ) (so : Option Meaning) (inner : Held) (last : Option Meaning) → found_from text (or_before last so) inner ≡ or_before (found_from text last inner) so
from_before text so [] last = refl
from_before text so (n ∷ inner) last = at (bytes_eq text n.0) (λ k. from_before text so inner k)
  where
    at : (b : Bool) → ((k : Option Meaning) → found_from text (or_before k so) inner ≡ or_before (found_from text k inner) so) →
        found_from text (if b then Some n.1 else or_before last so) inner ≡ or_before (found_from text (if b then Some n.1 else last) inner) so
    at true go = go (Some n.1)
    at false go = go last

over : (text : List ℕ) (outer inner : Held) → found (outer ++ inner) text ≡ or_before (found inner text) (found outer text)
over text outer inner = from_append text None outer inner ∙ from_before text (found outer text) inner None

-- a name that is bound hides the others
pub found_bound : (text : List ℕ) (outer inner : Held) (m : Meaning) → Some m ≡ found inner text → Some m ≡ found (outer ++ inner) text
found_bound text outer inner m is = ap (λ k. or_before k (found outer text)) is ∙ sym (over text outer inner)

pub found_outside : (text : List ℕ) (outer inner : Held) → None ≡ found inner text → found outer text ≡ found (outer ++ inner) text
found_outside text outer inner is = ap (λ k. or_before k (found outer text)) is ∙ sym (over text outer inner)
