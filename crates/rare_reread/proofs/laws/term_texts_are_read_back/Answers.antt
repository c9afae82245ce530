use Rattle.rare_reread.proofs.Applications.{term_reads}
use Rattle.rare_reread.proofs.laws.term_texts_are_read_back.Goals as goal

pub returns : goal.returns
returns c = term_reads
