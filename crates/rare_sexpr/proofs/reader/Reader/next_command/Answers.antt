use Rattle.std.proofs.Common.{Option, Some, sym, ◌∙◌, subst}
use Rattle.rare_sexpr.specs.declared.parser.Parser.{Parser}
use Rattle.rare_sexpr.specs.declared.parser.Read.TheVariants as read
use Rattle.rare_sexpr.specs.declared.reader.Refused.{Refused}
use Rattle.rare_sexpr.specs.declared.reader.Reader.TheInside.{Inside}
use Rattle.rare_sexpr.specs.Answered.{IsWaiting, IsRefused, IsFinished}
use Rattle.rare_sexpr.specs.inner.Kept.{stream_of, ReaderInvariant}
use Rattle.rare_sexpr.proofs.Readers.{kept_command, kept_again, kept_refused, kept_outermost, kept_inside, kept_finished, read_as, first_read, first_decided, refused_read, refused_decided, waits_outside, waits_inside, undecided_waits, finished_read}
use Rattle.rare_sexpr.proofs.reader.Reader.next_command.Goals as goal
use Rattle.rare_sexpr.proofs.reader.Reader.next_command.Goals.{then-is_outermost, else-is_outermost}

pub invariant_of-self : goal.invariant_of-self
invariant_of-self c =
    kept_command c.self.inside c.in-Ok-Command.command c.read.new.self c.self.invariant
    (read_as c.self.inside c.as_slice.result.now c.in-Ok-Command.field-0 (read.Command c.in-Ok-Command.command) c.read.new.self c.as_slice.ensures.value c.in-Ok-Command.field-0-is c.in-Ok-Command.ensures)

pub invariant_of-self-in-Ok-Refused : goal.invariant_of-self-in-Ok-Refused
invariant_of-self-in-Ok-Refused c =
    let reason : Option Refused = Some (record { place = c.in-Ok-Refused.place; reason = c.in-Ok-Refused.reason }) in
    let now : Parser → Inside = λ p. record c.self.inside { parser = p; refusal = reason } in
    subst (λ p. ReaderInvariant (now p)) (sym c.new.ensures) (kept_refused c.self.inside reason c.self.invariant)

pub invariant_of-self-then-is_outermost : goal.invariant_of-self-then-is_outermost
invariant_of-self-then-is_outermost c =
    kept_outermost c.self.inside c.read.new.self c.self.invariant
    (read_as c.self.inside c.as_slice.result.now c.in-Ok-NeedMore.field-0 read.NeedMore c.read.new.self c.as_slice.ensures.value c.in-Ok-NeedMore.field-0-is c.in-Ok-NeedMore.ensures)
    (sym c.is_outermost.ensures ∙ c.if-is_outermost.true)

pub invariant_of-self-else-is_outermost : goal.invariant_of-self-else-is_outermost
invariant_of-self-else-is_outermost c =
    kept_inside c.self.inside c.read.new.self c.self.invariant
    (read_as c.self.inside c.as_slice.result.now c.in-Ok-NeedMore.field-0 read.NeedMore c.read.new.self c.as_slice.ensures.value c.in-Ok-NeedMore.field-0-is c.in-Ok-NeedMore.ensures)

pub invariant_of-self-in-Ok-Finished : goal.invariant_of-self-in-Ok-Finished
invariant_of-self-in-Ok-Finished c =
    let now : Parser → Inside = λ p. record c.self.inside { start = c.read.new.self.at; place = c.read.new.self.place; parser = p } in
    subst (λ p. ReaderInvariant (now p)) (sym c.new-in-Ok-Finished.ensures)
    (kept_finished c.self.inside c.read.new.self c.self.invariant
    (read_as c.self.inside c.as_slice.result.now c.in-Ok-Finished.field-0 read.Finished c.read.new.self c.as_slice.ensures.value c.in-Ok-Finished.field-0-is c.in-Ok-Finished.ensures))

pub invariant_of-self-in-Err : goal.invariant_of-self-in-Err
invariant_of-self-in-Err c = subst (λ p. ReaderInvariant (record c.self.inside { parser = p })) (sym c.new-in-Err.ensures) (kept_again c.self.inside c.self.invariant)

pub returns-in-Ok-Command-clause-next : goal.returns-in-Ok-Command-clause-next
returns-in-Ok-Command-clause-next c =
    first_read c.self.inside c.args.self.now c.in-Ok-Command.command c.read.new.self c.self.invariant c.in_default.is c.self.view_is
    (read_as c.self.inside c.as_slice.result.now c.in-Ok-Command.field-0 (read.Command c.in-Ok-Command.command) c.read.new.self c.as_slice.ensures.value c.in-Ok-Command.field-0-is c.in-Ok-Command.ensures)

pub returns-in-Ok-Command-clause-more : goal.returns-in-Ok-Command-clause-more
returns-in-Ok-Command-clause-more c = first_decided _ _ _ (returns-in-Ok-Command-clause-next c)

pub returns-in-Ok-Refused-clause-next : goal.returns-in-Ok-Refused-clause-next
returns-in-Ok-Refused-clause-next c =
    let reason : Option Refused = Some (record { place = c.in-Ok-Refused.place; reason = c.in-Ok-Refused.reason }) in
    let now : Parser → Inside = λ p. record c.self.inside { parser = p; refusal = reason } in
    subst (λ p. IsRefused c.args.self.now c.in-Ok-Refused.place c.in-Ok-Refused.reason (stream_of (now p))) (sym c.new.ensures)
    (refused_read c.self.inside c.args.self.now c.in-Ok-Refused.place c.in-Ok-Refused.reason c.self.invariant c.in_default.is c.self.view_is
    (read_as c.self.inside c.as_slice.result.now c.in-Ok-Refused.field-0 (read.Refused c.in-Ok-Refused.place c.in-Ok-Refused.reason) c.read.new.self c.as_slice.ensures.value c.in-Ok-Refused.field-0-is c.in-Ok-Refused.ensures))

pub returns-in-Ok-Refused-clause-more : goal.returns-in-Ok-Refused-clause-more
returns-in-Ok-Refused-clause-more c = refused_decided _ _ _ _ (returns-in-Ok-Refused-clause-next c)

pub returns-after-is_outermost-clause-next : goal.returns-after-is_outermost-clause-next
returns-after-is_outermost-clause-next c =
    let h = read_as c.self.inside c.as_slice.result.now c.in-Ok-NeedMore.field-0 read.NeedMore c.read.new.self c.as_slice.ensures.value c.in-Ok-NeedMore.field-0-is c.in-Ok-NeedMore.ensures in
    elim c.if-is_outermost.branch [
      | then-is_outermost w ↦ subst (λ s. IsWaiting c.args.self.now s) (sym w.self-is)
          (waits_outside c.self.inside c.args.self.now c.read.new.self c.self.invariant c.in_default.is c.self.view_is h (sym c.is_outermost.ensures ∙ w.if-is_outermost.true))
      | else-is_outermost w ↦ subst (λ s. IsWaiting c.args.self.now s) (sym w.self-is) (waits_inside c.self.inside c.args.self.now c.read.new.self c.self.view_is h)
    ]

pub returns-after-is_outermost-clause-more : goal.returns-after-is_outermost-clause-more
returns-after-is_outermost-clause-more c =
    undecided_waits c.self.inside c.args.self.now c.read.new.self c.self.invariant c.in_default.is c.self.view_is
    (read_as c.self.inside c.as_slice.result.now c.in-Ok-NeedMore.field-0 read.NeedMore c.read.new.self c.as_slice.ensures.value c.in-Ok-NeedMore.field-0-is c.in-Ok-NeedMore.ensures)

pub returns-in-Ok-Finished-clause-next : goal.returns-in-Ok-Finished-clause-next
returns-in-Ok-Finished-clause-next c =
    let now : Parser → Inside = λ p. record c.self.inside { start = c.read.new.self.at; place = c.read.new.self.place; parser = p } in
    subst (λ p. IsFinished c.args.self.now (stream_of (now p))) (sym c.new-in-Ok-Finished.ensures)
    (finished_read c.self.inside c.args.self.now c.read.new.self c.self.invariant c.in_default.is c.self.view_is
    (read_as c.self.inside c.as_slice.result.now c.in-Ok-Finished.field-0 read.Finished c.read.new.self c.as_slice.ensures.value c.in-Ok-Finished.field-0-is c.in-Ok-Finished.ensures))
