use Rattle.std.proofs.Common.{ap, ◌∙◌}
use Rattle.rare_check.specs.Checking.{answer}
use Rattle.rare_text.specs.Stated.{stated_problem}
use Rattle.rare_check.proofs.Starting.{answer_start, begun}
use Rattle.rare_check.proofs.checker.Checker.new.Goals as goal

pub returns-clause-whole : goal.returns-clause-whole
returns-clause-whole g c proof =
    let s = g.T.Terms.state c.args.terms in
    let none = c.new.ensures in
    ap (λ x. answer x proof) (begun s c.args.book c.len-known.result c.args.problem c.new.result c.new-2.result c.len-known.ensures none.ids none.places none.concluded none.named none.bad c.new-2.ensures)
    ∙ answer_start c.args.book (stated_problem s c.args.problem) proof
