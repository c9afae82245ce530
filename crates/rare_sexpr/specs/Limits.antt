-- How deep lists may nest.
use Rattle.std.specs.Prelude.{ℕ}

abbrev pub most_nested_lists : ℕ
most_nested_lists = 5000
