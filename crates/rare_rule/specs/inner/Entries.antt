-- The rules that the entries of a book stand for.
use Rattle.std.specs.Prelude.{List, map}
use Rattle.rare_rule.specs.Books.{BookRule, book_rule}
use Rattle.rare_rule.specs.declared.book.Entry.{Entry}

abbrev pub rules_of : List Entry → List BookRule
rules_of es = map (λ e. book_rule e.typed e.shipped) es
