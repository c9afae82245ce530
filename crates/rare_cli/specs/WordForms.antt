-- The words after the program's name that are a form.
use Rattle.std.specs.Prelude.{ℕ, Bool, not, ◌&&◌, nat_eq, List, [], ◌∷◌, ◌++◌, codes, bytes_eq, Option, Some, None, if◌then◌else◌}
use Rattle.std.specs.List.{starts_with}
use Rattle.rare_cli.specs.declared.outcome.File.{File}
use Rattle.rare_cli.specs.declared.outcome.File.TheVariants.{Rules, Problem, Proof}

-- the names of the files of a check, where rules need no file
pub record FilesOfCheck : Type 0 where
  pub rules : Option (List ℕ)
  pub problem : List ℕ
  pub proof : List ℕ

-- a check of a proof, or the list of the rules of a file, if one is named
pub data Form : Type 0 where
  check : FilesOfCheck → Form
  types : (rules : Option (List ℕ)) → Form

-- the name of a file, where the form has it
abbrev pub name_in : Form → File → Option (List ℕ)
name_in (check names) Problem = Some names.problem
name_in (check names) Proof = Some names.proof
name_in (check names) Rules = names.rules
name_in (types rules) Rules = rules
name_in (types rules) Problem = None
name_in (types rules) Proof = None

-- a word that begins with -- is no file
abbrev pub is_file : List ℕ → Bool
is_file word = not (starts_with nat_eq word (codes "--"))

-- the word - means no file of rules
abbrev pub rules_named : List ℕ → Option (List ℕ)
rules_named word = if bytes_eq word (codes "-") then None else Some word

-- check RULES PROBLEM PROOF, or types RULES
abbrev pub asked_by : List (List ℕ) → Option Form
asked_by (command ∷ rules ∷ []) =
    if bytes_eq command (codes "types") && is_file rules then Some (types (rules_named rules)) else None
asked_by (command ∷ rules ∷ problem ∷ proof ∷ []) =
    if bytes_eq command (codes "check") && (is_file rules && (is_file problem && is_file proof))
    then Some (check (record { rules = rules_named rules; problem = problem; proof = proof })) else None
asked_by words = None

abbrev pub rules_files : Option (List ℕ) → List (List ℕ)
rules_files None = []
rules_files (Some rules) = rules ∷ []

abbrev pub files_of : Option Form → List (List ℕ)
files_of None = []
files_of (Some (check names)) = rules_files names.rules ++ names.problem ∷ names.proof ∷ []
files_of (Some (types rules)) = rules_files rules

-- the files that the words give, in their order
abbrev pub files_in : List (List ℕ) → List (List ℕ)
files_in words = files_of (asked_by words)
