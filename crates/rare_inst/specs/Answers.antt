-- How what a function answered goes with what the definitions say, and which arguments may be handed in.
use Rattle.std.specs.Prelude.{◌≡◌, ℕ, ◌<◌, Bool as Test, true, ◌&&◌, List, length, All, IsTrue, Option, Some, None, Result, Ok, Err}
use Rattle.rare_linear.specs.Linears.{NamesBelow}
use Rattle.rare_sort.specs.DeclaredSorts.{names_below, widths}
use Rattle.rare_sort.specs.Ids.{AreIds, tree_at}
use Rattle.rare_sort.specs.declared.sort.Sort.{Sort}
use Rattle.rare_sort.specs.declared.sort.Sort.TheOpen.{Sort-F}
use Rattle.rare_sort.specs.declared.sort.Sort.TheOpen as shape
use Rattle.rare_sort.specs.declared.sort.Sort.TheFolds.{fold-Sort}
use Rattle.rare_sort.specs.declared.tree.TermId.{TermId}
use Rattle.rare_sort.specs.declared.tree.Tree.{Tree}
use Rattle.rare_term.specs.State.{State}
use Rattle.rare_inst.specs.declared.arg.Arg.{Arg}
use Rattle.rare_inst.specs.declared.arg.Arg.TheVariants as given
use Rattle.rare_inst.specs.declared.fault.InstFault.{InstFault}
use Rattle.rare_inst.specs.declared.fault.InstFault.TheVariants.{Memory}

-- ---- arguments

abbrev pub is_named_step : ℕ → Sort-F Test → Test
is_named_step n (shape.BitVec w) = names_below n w.parts
is_named_step n (shape.Array a b) = a && b
is_named_step n s = true

-- whether each width name of the sort is below the bound
abbrev pub is_named_sort : ℕ → Sort → Test
is_named_sort n = fold-Sort Test (is_named_step n)

-- the ids of an argument are of these terms, and its width names are declared
abbrev pub IsGiven : State → Arg → Type 0
IsGiven s (given.Sort t) = IsTrue (is_named_sort (widths s.declared) t)
IsGiven s (given.Linear e) = NamesBelow (widths s.declared) e.parts
IsGiven s (given.Term id) = id.0 < length s.trees
IsGiven s (given.List ids) = AreIds (length s.trees) ids

abbrev pub AreGiven : State → List Arg → Type 0
AreGiven s args = All (IsGiven s) args

-- ---- answers

-- it is that fault; want of memory is free
abbrev pub IsFault : Option InstFault → InstFault → Type 0
IsFault o Memory = Unit {0}
IsFault o f = o ≡ Some f

-- there is none, or it is that fault
abbrev pub AnswersFault : {X : Type 0} → Option InstFault → Result X InstFault → Type 0
AnswersFault o (Ok x) = o ≡ None
AnswersFault o (Err f) = IsFault o f

abbrev pub Fails : InstFault → Result Tree InstFault → Type 0
Fails Memory part = Unit {0}
Fails f part = part ≡ Err f

-- the id of the part, or the fault for which there is none; want of memory is free
abbrev pub AnswersPart : List Tree → Result TermId InstFault → Result Tree InstFault → Type 0
AnswersPart ts (Ok id) part = (id.0 < length ts) × (part ≡ Ok (tree_at ts id.0))
AnswersPart ts (Err f) part = Fails f part
