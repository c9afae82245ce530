use Rattle.rare_meaning.proofs.RewriteLemmas.{any_is_each, maps_are_models, counts_elsewhere}
use Rattle.rare_meaning.proofs.laws.function_classes_law.Goals as goal

pub returns-clause-any : goal.returns-clause-any
returns-clause-any c = any_is_each

pub returns-clause-maps : goal.returns-clause-maps
returns-clause-maps c = maps_are_models

pub returns-clause-elsewhere : goal.returns-clause-elsewhere
returns-clause-elsewhere c = counts_elsewhere
