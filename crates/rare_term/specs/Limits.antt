-- The limits of a term.
use Rattle.std.specs.Prelude.{ℕ}

-- the most arguments of an application
abbrev pub MOST_ARGS : ℕ
MOST_ARGS = 256

-- the deepest nesting of a term
abbrev pub MOST_NESTED : ℕ
MOST_NESTED = 2000

-- the most nodes of a term, counted with repeats
abbrev pub MOST_NODES : ℕ
MOST_NODES = 1048576
