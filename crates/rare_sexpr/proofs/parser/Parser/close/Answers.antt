use Rattle.std.proofs.Common.{◌<◌, sym, ◌∙◌, subst, arith}
use Rattle.rare_sexpr.specs.inner.Parsing.{HasGone, HasCommand}
use Rattle.rare_sexpr.proofs.Moves.{close_alone, close_command, close_goes, no_items, added_some, added_none}
use Rattle.rare_sexpr.proofs.parser.Parser.close.Goals as goal

pub returns-then-is_empty : goal.returns-then-is_empty
returns-then-is_empty c = λ told. close_alone c.args.bytes.now told c.args.self.now c.requires.some c.requires.between c.requires.byte (no_items c.args.self.now.stack.opened (sym c.is_empty.ensures ∙ c.if-is_empty.true))

pub returns-in-Some : goal.returns-in-Some
returns-in-Some c =
    let mid = c.close.new.self in
    let new = c.add.new.self in
    λ told. subst (λ n. HasCommand c.args.bytes.now told c.args.self.now c.in-Some.command n) (sym c.pass_byte.ensures)
    (close_command c.args.bytes.now told c.args.self.now c.in_ok-list.list c.in-Some.command mid new c.requires.parsing c.requires.some c.requires.between c.requires.byte c.in_ok-list.ensures
    (added_some mid c.in_ok-list.list c.in_ok-added.added c.in-Some.command new c.in_ok-added.ensures c.in-Some.is))

pub returns-in-None : goal.returns-in-None
returns-in-None c =
    let mid = c.close.new.self in
    let new = c.add.new.self in
    λ told. subst (λ n. (c.args.self.now.at < n.at) × HasGone c.args.bytes.now told c.args.self.now n) (sym c.pass_byte.ensures) (
      omega arith,
      close_goes c.args.bytes.now told c.args.self.now c.in_ok-list.list mid new c.requires.parsing c.requires.some c.requires.between c.requires.byte c.in_ok-list.ensures
          (added_none mid c.in_ok-list.list c.in_ok-added.added new c.in_ok-added.ensures c.in-None.is),
    )
