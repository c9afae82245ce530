use Rattle.std.proofs.Common.{◌≡◌, ◌≤◌, [], true, length}
use Rattle.rare_sexpr.specs.Streams.{commands_left}
use Rattle.rare_book.specs.RuleFile.{book_of}
use Rattle.rare_book.proofs.Reading.{book_with}
use Rattle.rare_book.proofs.read.read_book.Given as goal

-- the book of the whole text is what the commands that are left make of the book so far
abbrev pub invariant-loop-e : goal.invariant-loop-e
invariant-loop-e l =
    record {
      ended : l.source.ended ≡ true;
      long : length l.fn.book ≤ length l.book;
      read : book_of l.fn.book l.bytes ≡ book_with l.book (commands_left l.source []);
    }

abbrev pub decreases-loop-e : goal.decreases-loop-e
decreases-loop-e l = length l.source.rest
