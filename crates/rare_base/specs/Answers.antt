-- The numbers of statuses and the words of reasons.
use Rattle.std.specs.Prelude.{ℕ, List, codes}
use Rattle.rare_base.specs.declared.answers.Status.{Status}
use Rattle.rare_base.specs.declared.answers.Status.TheVariants.{AllGood, NotAll, BadWords, BadText, ReadFault, WriteFault, Memory, TooLong}
use Rattle.rare_base.specs.declared.answers.Reason.{Reason}
use Rattle.rare_base.specs.declared.answers.Reason.TheVariants.{Unbalanced, BadCharacter, OpenString, OpenSymbol, TooDeep, BadForm, UnknownCommand, UnknownSymbol, DeclaredTwice, ReservedSymbol, BadSort, IllSorted, LiteralTooWide, TermLimit, NonLinear, SampleFails, UnknownRule, DuplicateParam, RuleTooLarge, ContextForm, MisplacedList, LeftIndex, Unbound, Clash, NeverHolds, DuplicateName}
use Rattle.rare_base.specs.declared.answers.Place.{Place}

abbrev pub number_of : Status → ℕ
number_of AllGood = 0
number_of NotAll = 1
number_of BadWords = 2
number_of BadText = 3
number_of ReadFault = 4
number_of WriteFault = 5
number_of Memory = 6
number_of TooLong = 7

abbrev pub reason_word : Reason → List ℕ
reason_word Unbalanced = codes "Unbalanced"
reason_word BadCharacter = codes "BadCharacter"
reason_word OpenString = codes "OpenString"
reason_word OpenSymbol = codes "OpenSymbol"
reason_word TooDeep = codes "TooDeep"
reason_word BadForm = codes "BadForm"
reason_word UnknownCommand = codes "UnknownCommand"
reason_word UnknownSymbol = codes "UnknownSymbol"
reason_word DeclaredTwice = codes "DeclaredTwice"
reason_word ReservedSymbol = codes "ReservedSymbol"
reason_word BadSort = codes "BadSort"
reason_word IllSorted = codes "IllSorted"
reason_word LiteralTooWide = codes "LiteralTooWide"
reason_word TermLimit = codes "TermLimit"
reason_word NonLinear = codes "NonLinear"
reason_word SampleFails = codes "SampleFails"
reason_word UnknownRule = codes "UnknownRule"
reason_word DuplicateParam = codes "DuplicateParam"
reason_word RuleTooLarge = codes "RuleTooLarge"
reason_word ContextForm = codes "ContextForm"
reason_word MisplacedList = codes "MisplacedList"
reason_word LeftIndex = codes "LeftIndex"
reason_word Unbound = codes "Unbound"
reason_word Clash = codes "Clash"
reason_word NeverHolds = codes "NeverHolds"
reason_word DuplicateName = codes "DuplicateName"

-- where and why a text is refused
pub record Refusal : Type 0 where
  pub place : Place
  pub reason : Reason

-- the place of the first byte of a text
abbrev pub first_place : Place
first_place = record { line = 1; column = 1 }
