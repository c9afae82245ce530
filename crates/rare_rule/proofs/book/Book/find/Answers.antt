use Rattle.std.proofs.Common.{◌∙◌}
use Rattle.rare_rule.specs.inner.Entries.{rules_of}
use Rattle.rare_rule.proofs.BookLemmas.{place}
use Rattle.rare_rule.proofs.book.Book.find.Goals as goal

pub returns : goal.returns
returns c = c.find.ensures ∙ place c.args.name.now c.self.inside.names (rules_of c.self.inside.entries) c.args.self.now c.self.invariant.0 c.self.view_is
