use Rattle.std.proofs.Common.{sym, arith}
use Rattle.rare_sexpr.proofs.Lines.{atom_along}
use Rattle.rare_sexpr.proofs.word.place_behind_atom.Goals as goal

pub returns : goal.returns
returns c = sym (atom_along c.args.bytes.now c.args.end c.args.place c.requires.atom (grind arith))
