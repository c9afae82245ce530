use Rattle.std.proofs.Common.{◌∙◌, ap, sym, bytes_eq}
use Rattle.std.specs.List.{list_any}
use Rattle.rare_names.proofs.Lookups.{any-map}
use Rattle.rare_names.proofs.table.NameTable.contains.Goals as goal

pub returns : goal.returns
returns c =
    c.contains.ensures ∙ sym (any-map (λ v. v.items) (bytes_eq c.args.name.now) c.self.inside.names.keys)
    ∙ ap (list_any (bytes_eq c.args.name.now)) c.self.view_is
