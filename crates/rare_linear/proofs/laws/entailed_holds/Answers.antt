use Rattle.rare_linear.proofs.LinearLemmas.{entailed_holds_lem}
use Rattle.rare_linear.proofs.laws.entailed_holds.Goals as goal

pub returns : goal.returns
returns c = λ lows at have want above all entailed. entailed_holds_lem lows at above have want all entailed
