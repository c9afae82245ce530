use Rattle.std.proofs.Common.{◌≤◌, ◌∙◌, ap, refl, [], length, arith}
use Rattle.std.proofs.lemmas.Result.{err_from_is_err_and}
use Rattle.rare_sexpr.specs.Readings.{commands_of}
use Rattle.rare_sexpr.specs.Streams.{commands_left}
use Rattle.rare_book.specs.RuleFile.{book_of}
use Rattle.rare_book.proofs.Reading.{book_with, front, stops, ends}
use Rattle.rare_book.proofs.read.read_book.Goals as goal

pub returns-in_default : goal.returns-in_default
returns-in_default c =
    let old = c.args.book.now in
    let same : length old ≤ length old = omega arith in
    front old old (book_of old c.args.bytes.now) (commands_of c.args.bytes.now) same refl

pub returns-in_err-add_rule-in-Ok-Command : goal.returns-in_err-add_rule-in-Ok-Command
returns-in_err-add_rule-in-Ok-Command c =
    let old = c.args.book.now in
    let bs = c.loop-e.book in
    let next = rw c.in-Ok-Command.field-0-is at c.in-Ok-Command.ensures.next in
    let failed = c.in_err-add_rule-in-Ok-Command.ensures in
    let p = err_from_is_err_and c.from_residual.result c.from_residual.ensures.1 in
    rw (p.1, p.2) (stops old bs c.add_rule.new.book (book_of old c.args.bytes.now) c.in-Ok-Command.e (commands_left c.next_command.new.self []) c.in_err-add_rule-in-Ok-Command.field-0.0 c.loop-e.invariant.long
    (c.loop-e.invariant.read ∙ ap (book_with bs) (next.rest [] (λ _. refl))) failed.0 failed.1)

pub returns-in-Err : goal.returns-in-Err
returns-in-Err c =
    ends c.args.book.now c.loop-e.book (book_of c.args.book.now c.args.bytes.now) c.loop-e.source c.next_command.new.self c.in-Err.fault c.loop-e.invariant.long c.loop-e.invariant.read c.in-Err.ensures.next
