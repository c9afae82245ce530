use Rattle.std.proofs.Common.{◌∙◌, ap, sym, position, bytes_eq}
use Rattle.rare_names.proofs.Lookups.{position-map}
use Rattle.rare_names.proofs.table.NameTable.find.Goals as goal

pub returns : goal.returns
returns c =
    c.get_index_of.ensures.index ∙ sym (position-map (λ v. v.items) (bytes_eq c.args.name.now) c.self.inside.names.keys)
    ∙ ap (position (bytes_eq c.args.name.now)) c.self.view_is
