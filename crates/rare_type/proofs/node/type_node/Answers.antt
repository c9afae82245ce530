use Rattle.std.proofs.Common.{subst, sym}
use Rattle.std.specs.Option.{option_map}
use Rattle.rare_type.specs.inner.Answering.{AnswersAs, sorting_in, spec_places}
use Rattle.rare_type.proofs.Nodes.{node_applies}
use Rattle.rare_type.proofs.node.type_node.Goals as goal

pub returns-in_default : goal.returns-in_default
returns-in_default c = let a = c.in_default.not-Param in let b = c.in_default.not-Hole in
    subst (λ t. AnswersAs sorting_in t c.application.result)
    (sym (node_applies c.args.params.now (option_map (λ s. s.now) c.args.hole) (option_map (λ s. s.now) c.args.root) c.args.head (λ k. a k) b c.args.indices.now (spec_places c.args.args.places) c.args.args.needs))
    c.application.ensures
