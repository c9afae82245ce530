use Rattle.std.proofs.Common.{refl, ◌+◌, sym, ◌∙◌}
use Rattle.rare_sort.specs.Trees.{node}
use Rattle.rare_parse.specs.declared.measured.ReadTerm.{ReadTerm}
use Rattle.rare_parse.proofs.MeasureLemmas.{node_measured}
use Rattle.rare_parse.proofs.measured.application.Goals as goal

pub returns-clause-measured : goal.returns-clause-measured
returns-clause-measured g c =
    let o = c.args.operator in
    let a = c.args.arguments in
    let t : ReadTerm = record { tree = node o.head o.indices a.trees; nesting = a.nesting + 1; nodes = a.nodes + 1 } in
    node_measured a t o.head o.indices c.requires (sym (c.is_beyond.ensures o.head o.indices) ∙ c.if-is_beyond.false) refl refl refl
