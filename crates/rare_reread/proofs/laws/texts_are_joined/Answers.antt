use Rattle.std.proofs.Common.{◌++◌, refl}
use Rattle.rare_reread.proofs.Joining.{joined, spaced}
use Rattle.rare_reread.proofs.laws.texts_are_joined.Goals as goal

pub returns-clause-joined : goal.returns-clause-joined
returns-clause-joined c = λ d es fs p bytes more rest s t. joined d es fs p bytes more (more ++ rest) rest refl s t

pub returns-clause-spaced : goal.returns-clause-spaced
returns-clause-spaced c = spaced
