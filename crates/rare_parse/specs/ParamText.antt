-- The parameters that a rule's text declares, with the fresh ones that their sorts bring.
use Rattle.std.specs.Prelude.{ℕ, ◌+◌, List, [], ◌∷◌, ◌++◌, map, length, codes, Option, Some, None, Ok, if◌then◌else◌}
use Rattle.rare_base.specs.declared.answers.Reason.TheVariants as reason
use Rattle.rare_sexpr.specs.declared.tree.Sexpr.{Sexpr}
use Rattle.rare_sexpr.specs.Tree.{kind_of, text_of, items_of}
use Rattle.rare_sort.specs.Sorting.{name}
use Rattle.rare_sort.specs.declared.sort.Sort.{Sort, BitVec, Named}
use Rattle.rare_scope.specs.Entries.{entry}
use Rattle.rare_scope.specs.Reading.{Read, refused, go_on, is_list_kind, is_symbol_kind, symbol_at}
use Rattle.rare_scope.specs.Reserved.{is_among}
use Rattle.rare_rule.specs.ParamForms.{NO_NAMES}
use Rattle.rare_rule.specs.Written.{declared_param, fresh_param}
use Rattle.rare_rule.specs.declared.param.Param.{Param}
use Rattle.rare_rule.specs.declared.param.ParamKind.{ParamKind}
use Rattle.rare_rule.specs.declared.param.ParamKind.TheVariants as kind
use Rattle.rare_parse.specs.RuleSortText.{rule_sort_at}

-- the kind of a parameter, and the kind of the fresh parameter that it brings
pub record WrittenKind : Type 0 where
  pub kind : ParamKind
  pub brings : Option ParamKind

abbrev pub bringing : ParamKind → Option ParamKind → WrittenKind
bringing k brings = record { kind = k; brings = brings }

-- the words that are kinds, where a fresh parameter has this number
abbrev pub kind_words : ℕ → List (List ℕ × WrittenKind)
kind_words fresh =
    (codes "Sort", bringing kind.SortName None)
    ∷ (codes "Width", bringing kind.Width None)
    ∷ (codes "Index", bringing kind.Index None)
    ∷ (codes "?", bringing (kind.Term (Named fresh)) (Some kind.SortName))
    ∷ (codes "?BitVec", bringing (kind.Term (BitVec (name fresh))) (Some kind.Width))
    ∷ []

abbrev pub kind_or : Option WrittenKind → Read Sort → Read WrittenKind
kind_or (Some k) sort = Ok k
kind_or None sort = go_on sort (λ s. Ok (bringing (kind.Term s) None))

-- a kind, or the sort of a term over the parameters declared before
abbrev pub kind_at : ℕ → List Param → Sexpr → Read WrittenKind
kind_at fresh before s = kind_or (if is_symbol_kind (kind_of s) then entry (kind_words fresh) (text_of s) else None) (rule_sort_at before s)

-- a name that none before it has, and none of those that no parameter has
abbrev pub new_name : List Param → Sexpr → List ℕ → Read (List ℕ)
new_name before n text = if is_among (NO_NAMES ++ map (λ p. p.name) before) text then refused n reason.DuplicateParam else Ok text

abbrev pub param_name : List Param → Sexpr → Read (List ℕ)
param_name before n = go_on (symbol_at n) (λ text. new_name before n text)

abbrev pub brought : List ℕ → Option ParamKind → List Param
brought text None = []
brought text (Some k) = fresh_param text k ∷ []

-- a parameter, and the fresh one that it brings
pub record WrittenParam : Type 0 where
  pub param : Param
  pub brings : List Param

abbrev pub written : List ℕ → WrittenKind → WrittenParam
written text k = record { param = declared_param text k.kind; brings = brought text k.brings }

-- `(N K)` or `(N S)`
abbrev pub param_of : ℕ → List Param → Sexpr → List Sexpr → Read WrittenParam
param_of fresh before e (n ∷ s ∷ []) = go_on (param_name before n) (λ text. go_on (kind_at fresh before s) (λ k. Ok (written text k)))
param_of fresh before e items = refused e reason.BadForm

abbrev pub param_at : ℕ → List Param → Sexpr → Read WrittenParam
param_at fresh before e = param_of fresh before e (items_of e)

-- the parameters so far, declared and fresh, and those that are left; the numbers of fresh ones begin behind all that are declared
abbrev pub params_from : ℕ → List Param → List Param → List Sexpr → Read (List Param)
params_from first declared fresh [] = Ok (declared ++ fresh)
params_from first declared fresh (x ∷ xs) =
    go_on (param_at (first + length fresh) declared x) (λ p. params_from first (declared ++ p.param ∷ []) (fresh ++ p.brings) xs)

-- the parameters of a list, with the fresh ones behind them
abbrev pub params_at : Sexpr → Read (List Param)
params_at e = if is_list_kind (kind_of e) then params_from (length (items_of e)) [] [] (items_of e) else refused e reason.BadForm
