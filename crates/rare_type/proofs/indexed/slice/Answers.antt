use Rattle.std.proofs.Common.{subst, sym}
use Rattle.std.specs.Prelude.{pos}
use Rattle.rare_type.specs.inner.Answering.{Reports}
use Rattle.rare_type.specs.inner.Steps.{bounded, word_typed}
use Rattle.rare_type.proofs.Shifts.{shift_same}
use Rattle.rare_type.proofs.indexed.slice.Goals as goal

pub returns : goal.returns
returns c =
    subst (λ e. Reports (word_typed (bounded e)) c.word.result) (sym (shift_same c.args.j.now c.args.i.now c.constant_of-j.ensures.normal c.constant_of-i.ensures.normal (pos 1)))
    (c.word.ensures _ c.shifted_difference.ensures)
