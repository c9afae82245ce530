use Rattle.std.proofs.Common.{◌≡◌, false, ◌||◌, ap, sym, ◌∙◌, bytes_eq}
use Rattle.std.specs.List.{list_any}
use Rattle.rare_scope.specs.Names.{Held, is_declared}
use Rattle.rare_scope.proofs.ScopeLemmas.{declared_is}
use Rattle.rare_scope.proofs.scope.Scope.declares.Goals as goal

pub returns-else-is_theory_word_name : goal.returns-else-is_theory_word_name
returns-else-is_theory_word_name c =
    c.contains.ensures ∙ declared_is c.args.name.now c.self.inside.names c.self.inside.meanings.items c.self.invariant.even (sym c.is_theory_word_name.ensures ∙ c.if-is_theory_word_name.false)
    ∙ ap (λ (held : Held). is_declared held c.args.name.now) c.self.view_is
