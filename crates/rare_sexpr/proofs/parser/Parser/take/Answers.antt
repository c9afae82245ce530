use Rattle.std.proofs.Common.{drop, sym, ap, ◌∙◌, subst}
use Rattle.rare_sexpr.specs.Bytes.{behind}
use Rattle.rare_sexpr.specs.inner.Classes.{class}
use Rattle.rare_sexpr.specs.inner.Wording.{IsWord}
use Rattle.rare_sexpr.proofs.Moves.{refused_first, refused_byte, refused_word, first_left}
use Rattle.rare_sexpr.proofs.Turns.{word_waits}
use Rattle.rare_sexpr.proofs.parser.Parser.take.Goals as goal

pub returns-in-NoWord : goal.returns-in-NoWord
returns-in-NoWord c =
    let old = c.args.self.now in
    let w = subst (λ f. IsWord (drop old.at c.args.bytes.now) c.args.ended f) c.in-NoWord.is c.requires.word in
    refused_first c.args.bytes.now c.args.ended old c.requires.some c.requires.between (ap class (sym (first_left c.args.bytes.now old.at c.requires.some)) ∙ w)

pub returns-in-Atom : goal.returns-in-Atom
returns-in-Atom c = c.add_atom.ensures

pub returns-in-Bad : goal.returns-in-Bad
returns-in-Bad c =
    let old = c.args.self.now in
    let w = subst (λ f. IsWord (drop old.at c.args.bytes.now) c.args.ended f) c.in-Bad.is c.requires.word in
    refused_byte c.args.bytes.now c.args.ended old c.in-Bad.end c.place_behind.result c.requires.between w (c.place_behind.ensures.place ∙ ap (behind old.place) c.bytes_between.ensures)

pub returns-in-Cut : goal.returns-in-Cut
returns-in-Cut c =
    let old = c.args.self.now in
    refused_word c.args.bytes.now c.args.ended old c.in-Cut.reason c.requires.some c.requires.between (subst (λ f. IsWord (drop old.at c.args.bytes.now) c.args.ended f) c.in-Cut.is c.requires.word)

pub returns-in-More : goal.returns-in-More
returns-in-More c =
    let old = c.args.self.now in
    word_waits c.args.bytes.now c.args.ended old c.in-More.part c.requires.parsing c.requires.some c.requires.between (subst (λ f. IsWord (drop old.at c.args.bytes.now) c.args.ended f) c.in-More.is c.requires.word)
