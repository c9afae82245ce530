-- Parameters as they are read, and the words that are kinds.
use Rattle.std.specs.Prelude.{◌≡◌, ℕ, List, [], ◌∷◌, codes, Option, Some, None, Result, Ok, Err, if◌then◌else◌}
use Rattle.rare_base.specs.declared.answers.Fault.{Fault}
use Rattle.rare_sort.specs.Sorting.{name}
use Rattle.rare_sort.specs.declared.sort.Sort.{BitVec, Named}
use Rattle.rare_scope.specs.Answers.{Fails}
use Rattle.rare_scope.specs.Entries.{entry}
use Rattle.rare_scope.specs.Reading.{Read, go_on, is_symbol_kind}
use Rattle.rare_sexpr.specs.declared.tree.Sexpr.{Sexpr}
use Rattle.rare_sexpr.specs.Tree.{kind_of, text_of}
use Rattle.rare_rule.specs.declared.param.Param.{Param}
use Rattle.rare_rule.specs.declared.param.ParamKind.TheVariants as kind
use Rattle.rare_parse.specs.ParamText.{WrittenKind, WrittenParam, bringing, kind_at, param_name, written}
use Rattle.rare_parse.specs.declared.params.KindWord.{KindWord}
use Rattle.rare_parse.specs.declared.params.KindWord.TheVariants as word
use Rattle.rare_parse.specs.declared.params.ReadKind.{ReadKind}
use Rattle.rare_parse.specs.declared.params.ReadParam.{ReadParam}

-- ---- kinds

abbrev pub words : List (List ℕ × KindWord)
words =
    (codes "Sort", word.SortName) ∷ (codes "Width", word.Width) ∷ (codes "Index", word.Index)
    ∷ (codes "?", word.FreshSort) ∷ (codes "?BitVec", word.FreshWidth) ∷ []

-- the kind of a word, where a fresh parameter has this number
abbrev pub kind_of_word : ℕ → KindWord → WrittenKind
kind_of_word fresh word.SortName = bringing kind.SortName None
kind_of_word fresh word.Width = bringing kind.Width None
kind_of_word fresh word.Index = bringing kind.Index None
kind_of_word fresh word.FreshSort = bringing (kind.Term (Named fresh)) (Some kind.SortName)
kind_of_word fresh word.FreshWidth = bringing (kind.Term (BitVec (name fresh))) (Some kind.Width)

-- the word of a kind that an expression is
abbrev pub kind_word_at : Sexpr → Option KindWord
kind_word_at s = if is_symbol_kind (kind_of s) then entry words (text_of s) else None

abbrev pub kind_read : ReadKind → WrittenKind
kind_read k = bringing k.kind k.brings

abbrev pub AnswersKind : Result ReadKind Fault → Read WrittenKind → Type 0
AnswersKind (Ok k) read = read ≡ Ok (kind_read k)
AnswersKind (Err f) read = Fails f read

-- ---- parameters

abbrev pub listed : Option Param → List Param
listed None = []
listed (Some p) = p ∷ []

abbrev pub param_read : ReadParam → WrittenParam
param_read r = record { param = r.param; brings = listed r.fresh }

abbrev pub AnswersParam : Result ReadParam Fault → Read WrittenParam → Type 0
AnswersParam (Ok r) read = read ≡ Ok (param_read r)
AnswersParam (Err f) read = Fails f read

-- `N K` or `N S`, the parts of a parameter
abbrev pub from_parts : ℕ → List Param → Sexpr → Sexpr → Read WrittenParam
from_parts fresh before n s = go_on (param_name before n) (λ text. go_on (kind_at fresh before s) (λ k. Ok (written text k)))
