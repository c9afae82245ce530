use Rattle.std.proofs.Common.{sym, ◌∙◌, ap, bytes_eq, position}
use Rattle.std.proofs.lemmas.Iterator.Adapters.{position_from-zero}
use Rattle.rare_parse.proofs.names.RuleNames.find.Goals as goal

pub loop-k-init : goal.loop-k-init
loop-k-init c = sym (position_from-zero (λ p. bytes_eq c.args.name.now p.name) c.self.inside.params.now) ∙ ap (position (λ p. bytes_eq c.args.name.now p.name)) c.self.view_is
