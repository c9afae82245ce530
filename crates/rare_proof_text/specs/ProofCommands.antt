-- The commands of a proof.
use Rattle.std.specs.Prelude.{ℕ, List, [], ◌∷◌, ◌++◌}
use Rattle.rare_sort.specs.declared.tree.Tree.{Tree}
use Rattle.rare_scope.specs.Names.{Names, a_term}
use Rattle.rare_proof.specs.Steps.{Equation}
use Rattle.rare_proof_text.specs.ArgumentText.{NamedRule}

-- a step: its id, the equation that it concludes, its rule, or why it names none, and the ids of its premises
pub record NamedStep : Type 0 where
  pub id : List ℕ
  pub concluded : Equation
  pub rule : NamedRule
  pub premises : List (List ℕ)

pub data ProofCommand : Type 0 where
  -- a name that stands for a term from here on
  Define : List ℕ → Tree → ProofCommand
  Step : NamedStep → ProofCommand
  -- the name of a rewrite, and the id of the step that concludes it
  Conclude : List ℕ → List ℕ → ProofCommand

-- the names behind a command
abbrev pub names_behind : Names → ProofCommand → Names
names_behind names (Define name t) = names ++ (name, a_term t) ∷ []
names_behind names (Step s) = names
names_behind names (Conclude name id) = names
