-- How sorts and parameters of a rule are written.
use Rattle.std.specs.Prelude.{ℕ, ℤ, zero, suc, pos, Bool as Test, true, false, ◌&&◌, List, [], ◌∷◌, ◌++◌, bytes_eq, slice_get, codes, Option, Some, None, if◌then◌else◌}
use Rattle.rare_linear.specs.Linears.{Part, LinearExpression}
use Rattle.rare_sexpr.specs.Written.{written_symbol}
use Rattle.rare_sort.specs.declared.sort.Sort.{Sort, BitVec, Named}
use Rattle.rare_sort.specs.declared.sort.Sort.TheOpen.{Sort-F}
use Rattle.rare_sort.specs.declared.sort.Sort.TheOpen as shape
use Rattle.rare_sort.specs.declared.sort.Sort.TheFolds.{fold-Sort}
use Rattle.rare_scope.specs.Printing.{arrays_text, linear_text_by}
use Rattle.rare_term_printing.specs.OperatorTexts.{list_text}
use Rattle.rare_rule.specs.declared.param.Param.{Param}
use Rattle.rare_rule.specs.declared.param.ParamKind.{ParamKind}
use Rattle.rare_rule.specs.declared.param.ParamKind.TheVariants as kind
use Rattle.rare_rule_printing.specs.ConstraintPrinting.{number_text}

-- ---- sorts

abbrev pub name_or : Option Param → List ℕ
name_or (Some p) = written_symbol p.name
name_or None = []

-- the name of a sort
abbrev pub sort_name_text : List Param → ℕ → List ℕ
sort_name_text ps k = name_or (slice_get ps k)

abbrev pub sort_text_step : List Param → Sort-F (List ℕ) → List ℕ
sort_text_step ps shape.Bool = codes "Bool"
sort_text_step ps shape.Int = codes "Int"
sort_text_step ps (shape.BitVec w) = list_text (codes "BitVec" ∷ linear_text_by (number_text ps) w ∷ [])
sort_text_step ps (shape.Array keys entries) = arrays_text keys entries
sort_text_step ps (shape.Named k) = sort_name_text ps k

-- a sort over the parameters of a rule; bit vectors are `(BitVec E)`
abbrev pub rule_sort_text : List Param → Sort → List ℕ
rule_sort_text ps = fold-Sort (List ℕ) (sort_text_step ps)

-- ---- fresh parameters

-- an expression that is one name alone
abbrev pub alone_by : ℤ → List Part → Option ℕ
alone_by (pos zero) ((k, pos (suc zero)) ∷ []) = Some k
alone_by constant parts = None

abbrev pub alone : LinearExpression → Option ℕ
alone e = alone_by e.constant e.parts

-- the parameter is the fresh one of this name
abbrev pub is_fresh_of : List ℕ → Option Param → Test
is_fresh_of name (Some p) = p.fresh && bytes_eq name p.name
is_fresh_of name None = false

abbrev pub word_if_fresh : List Param → List ℕ → List ℕ → Option ℕ → Option (List ℕ)
word_if_fresh ps name word (Some k) = if is_fresh_of name (slice_get ps k) then Some word else None
word_if_fresh ps name word None = None

-- `?` or `?BitVec`, where the sort is that of the fresh parameter that this name brought
abbrev pub fresh_word : List Param → List ℕ → Sort → Option (List ℕ)
fresh_word ps name (Named k) = word_if_fresh ps name (codes "?") (Some k)
fresh_word ps name (BitVec w) = word_if_fresh ps name (codes "?BitVec") (alone w)
fresh_word ps name s = None

abbrev pub text_or : Option (List ℕ) → List ℕ → List ℕ
text_or (Some text) other = text
text_or None other = other

-- ---- parameters

abbrev pub kind_text : List Param → List ℕ → ParamKind → List ℕ
kind_text ps name kind.SortName = codes "Sort"
kind_text ps name kind.Width = codes "Width"
kind_text ps name kind.Index = codes "Index"
kind_text ps name (kind.Term s) = text_or (fresh_word ps name s) (rule_sort_text ps s)
kind_text ps name (kind.List s) = text_or (fresh_word ps name s) (rule_sort_text ps s)
kind_text ps name kind.WideList = codes "?BitVec"

abbrev pub constant_texts : Test → List (List ℕ)
constant_texts true = codes ":const" ∷ []
constant_texts false = []

abbrev pub list_texts : ParamKind → List (List ℕ)
list_texts (kind.List s) = codes ":list" ∷ []
list_texts kind.WideList = codes ":list" ∷ []
list_texts k = []

-- `(x S)`, with its attribute
abbrev pub declaration_text : List Param → Param → List ℕ
declaration_text ps p =
    list_text (written_symbol p.name ∷ kind_text ps p.name p.kind ∷ (constant_texts p.constant ++ list_texts p.kind))

-- those that are declared; the fresh ones are not written
abbrev pub declared_texts : List Param → List Param → List (List ℕ)
declared_texts ps [] = []
declared_texts ps (p ∷ qs) = if p.fresh then (declared_texts ps qs) else (declaration_text ps p ∷ declared_texts ps qs)

abbrev pub params_text : List Param → List ℕ
params_text ps = list_text (declared_texts ps ps)
