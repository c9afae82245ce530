-- How the faults of steps are written.
use Rattle.std.specs.Prelude.{ℕ, List, [], codes, ◌++◌, Option, Some, None}
use Rattle.std.specs.Fmt.{decimal}
use Rattle.rare_proof.specs.declared.fault.StepFault.{StepFault}
use Rattle.rare_proof.specs.declared.fault.StepFault.TheVariants as fault

abbrev pub word_of : StepFault → List ℕ
word_of fault.IdUsed = codes "IdUsed"
word_of fault.NoSuchStep = codes "NoSuchStep"
word_of fault.PremiseCount = codes "PremiseCount"
word_of fault.NotEqual = codes "NotEqual"
word_of fault.OtherHead = codes "OtherHead"
word_of fault.OtherPremise = codes "OtherPremise"
word_of fault.NoValue = codes "NoValue"
word_of fault.OtherValue = codes "OtherValue"
word_of fault.NoSuchRule = codes "NoSuchRule"
word_of fault.ArgCount = codes "ArgCount"
word_of (fault.ArgMissorted k) = codes "ArgMissorted"
word_of (fault.Unentailed k) = codes "Unentailed"
word_of fault.LeftTooShort = codes "LeftTooShort"
word_of fault.EmptyConcat = codes "EmptyConcat"
word_of fault.Limit = codes "Limit"
word_of fault.OtherLeft = codes "OtherLeft"
word_of fault.OtherRight = codes "OtherRight"
word_of fault.NoSuchRewrite = codes "NoSuchRewrite"
word_of fault.OtherEquation = codes "OtherEquation"

-- the number of the argument or the constraint that fails, from 1
abbrev pub number_of : StepFault → Option ℕ
number_of (fault.ArgMissorted k) = Some k
number_of (fault.Unentailed k) = Some k
number_of f = None

abbrev pub number_text : Option ℕ → List ℕ
number_text None = []
number_text (Some k) = codes " " ++ decimal k

-- the word, and behind a blank the number, where there is one
abbrev pub fault_text : StepFault → List ℕ
fault_text f = word_of f ++ number_text (number_of f)
