use Rattle.rare_sexpr.specs.Readings.{commands_of}
use Rattle.rare_cli.proofs.Shipping.{read_hold}
use Rattle.rare_cli.proofs.rules.rules_of_text.Goals as goal

pub returns-in-Ok-clause-shipped : goal.returns-in-Ok-clause-shipped
returns-in-Ok-clause-shipped c =
    let read = rw c.new-book.ensures at c.in-Ok.ensures in
    let commands = commands_of c.args.text.now in
    λ k. read_hold commands.list commands.fault c.read_book.new.book read.1 k
