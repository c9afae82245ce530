use Rattle.rare_reread.proofs.Sums.{linear_reads}
use Rattle.rare_reread.proofs.laws.linear_texts_are_read_back.Goals as goal

pub returns : goal.returns
returns c = linear_reads
