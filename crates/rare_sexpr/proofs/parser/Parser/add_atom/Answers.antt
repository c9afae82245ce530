use Rattle.std.proofs.Common.{◌+◌, take, sym, ap, ◌∙◌, subst, arith}
use Rattle.rare_base.specs.declared.answers.Place.{Place}
use Rattle.rare_sexpr.specs.declared.parser.Parser.{Parser}
use Rattle.rare_sexpr.specs.declared.parser.Mode.TheVariants.{Between}
use Rattle.rare_sexpr.specs.declared.word.Found.TheVariants.{Atom}
use Rattle.rare_sexpr.specs.Tree.{atom_of}
use Rattle.rare_sexpr.specs.Bytes.{behind}
use Rattle.rare_sexpr.specs.inner.Words.{text_of_word}
use Rattle.rare_sexpr.specs.inner.Wording.{IsWord}
use Rattle.rare_sexpr.specs.inner.Parsing.{HasGone, HasCommand}
use Rattle.rare_sexpr.proofs.Moves.{atom_command, atom_goes, added_some, added_none}
use Rattle.rare_sexpr.proofs.parser.Parser.add_atom.Goals as goal

pub place_behind_atom-self-requires-clause-atom : goal.place_behind_atom-self-requires-clause-atom
place_behind_atom-self-requires-clause-atom c =
    (c.args.ended, c.args.kind, subst (λ w. IsWord w c.args.ended (Atom c.args.kind c.args.end)) (sym c.bytes_from.ensures) c.requires.word)

pub returns-in-Some : goal.returns-in-Some
returns-in-Some c =
    let old = c.args.self.now in
    let new = c.add.new.self in
    let made : Place → Parser = λ p. record { at = old.at + c.args.end; place = p; mode = Between; stack = new } in
    subst (λ p. HasCommand c.args.bytes.now c.args.ended old c.in-Some.command (made p)) (sym (c.place_behind_atom-self.ensures ∙ ap (λ bs. behind old.place (take c.args.end bs)) c.bytes_from.ensures))
    (atom_command c.args.bytes.now c.args.ended old c.args.kind c.args.end c.in_ok-text.text c.in-Some.command new c.requires.parsing c.requires.between c.requires.word (c.in_ok-text.ensures ∙ ap (text_of_word c.args.kind) c.bytes_between.ensures)
    (added_some old.stack (atom_of old.place c.args.kind c.in_ok-text.text) c.in_ok-added.added c.in-Some.command new c.in_ok-added.ensures c.in-Some.is))

pub returns-in-None : goal.returns-in-None
returns-in-None c =
    let old = c.args.self.now in
    let new = c.add.new.self in
    let made : Place → Parser = λ p. record { at = old.at + c.args.end; place = p; mode = Between; stack = new } in (
      omega (arith, c.requires.word.0),
      subst (λ p. HasGone c.args.bytes.now c.args.ended old (made p)) (sym (c.place_behind_atom-self.ensures ∙ ap (λ bs. behind old.place (take c.args.end bs)) c.bytes_from.ensures))
          (atom_goes c.args.bytes.now c.args.ended old c.args.kind c.args.end c.in_ok-text.text new c.requires.parsing c.requires.between c.requires.word (c.in_ok-text.ensures ∙ ap (text_of_word c.args.kind) c.bytes_between.ensures)
          (added_none old.stack (atom_of old.place c.args.kind c.in_ok-text.text) c.in_ok-added.added new c.in_ok-added.ensures c.in-None.is)),
    )
