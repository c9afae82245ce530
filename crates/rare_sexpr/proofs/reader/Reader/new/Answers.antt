use Rattle.std.proofs.Common.{refl}
use Rattle.rare_sexpr.proofs.Readers.{kept_first}
use Rattle.rare_sexpr.proofs.reader.Reader.new.Goals as goal

pub invariant_of-result : goal.invariant_of-result
invariant_of-result c = kept_first _ c.new.ensures.items refl refl c.new-2.ensures refl
