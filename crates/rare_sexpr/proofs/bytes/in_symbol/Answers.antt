use Rattle.rare_sexpr.proofs.Tables.{in_symbol_table}
use Rattle.rare_sexpr.proofs.bytes.in_symbol.Goals as goal

pub returns : goal.returns
returns c = in_symbol_table c.args.byte c.ranges.byte.fits
