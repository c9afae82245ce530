use Rattle.std.proofs.Common.{◌<◌, sym, subst, arith}
use Rattle.rare_sexpr.specs.inner.Parsing.{passed_byte, HasGone}
use Rattle.rare_sexpr.proofs.Moves.{open_goes, open_deep}
use Rattle.rare_sexpr.proofs.parser.Parser.open.Goals as goal

pub returns-then-len-ge-MOST_NESTED_LISTS : goal.returns-then-len-ge-MOST_NESTED_LISTS
returns-then-len-ge-MOST_NESTED_LISTS c = λ told. open_deep c.args.bytes.now told c.args.self.now c.requires.some c.requires.between c.requires.byte (omega arith)

pub returns : goal.returns
returns c =
    let old = c.args.self.now in
    λ told. subst (λ n. (old.at < n.at) × HasGone c.args.bytes.now told old n) (sym c.pass_byte.ensures) (
      omega arith,
      subst (λ s. HasGone c.args.bytes.now told old (passed_byte c.args.bytes.now (record old { stack = s }))) (sym c.in_ok-open.ensures)
          (open_goes c.args.bytes.now told old c.requires.parsing c.requires.some c.requires.between c.requires.byte (omega arith)),
    )
