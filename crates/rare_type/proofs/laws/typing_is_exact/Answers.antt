use Rattle.rare_type.proofs.Complete.{complete}
use Rattle.rare_type.proofs.Sound.{sound}
use Rattle.rare_type.proofs.laws.typing_is_exact.Goals as goal

pub returns : goal.returns
returns c = record { sound = sound; complete = complete }
