use Rattle.rare_reread.proofs.Sorts.{sort_reads}
use Rattle.rare_reread.proofs.laws.sort_texts_are_read_back.Goals as goal

pub returns : goal.returns
returns c = sort_reads
