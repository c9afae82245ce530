use Rattle.std.proofs.Common.{◌∙◌}
use Rattle.rare_sexpr.proofs.Tables.{class_table_is}
use Rattle.rare_sexpr.proofs.bytes.class_of.Goals as goal

pub returns : goal.returns
returns c = c.class_of_code.ensures ∙ class_table_is c.args.byte c.ranges.byte.fits
