-- The rules that rows stand for.
use Rattle.std.specs.Prelude.{Bool as Test, true, false, List, map, Option, Some, None}
use denote.Bor.{Bor}
use Rattle.rare_linear.specs.declared.constraint.Constraint.{Constraint}
use Rattle.rare_sort.specs.Sorting.{name}
use Rattle.rare_sort.specs.declared.sort.Sort.{Sort, Bool, Int, BitVec, Named}
use Rattle.rare_sort.specs.declared.sort.Sort.TheVariants as sort
use Rattle.rare_sort.specs.declared.tree.Tree.{Tree}
use Rattle.rare_rule.specs.TypedRule.{TypedRule}
use Rattle.rare_rule.specs.declared.param.Param.{Param}
use Rattle.rare_rule.specs.declared.param.ParamKind.{ParamKind}
use Rattle.rare_rule.specs.declared.param.ParamKind.TheVariants as kind
use Rattle.rare_rule.specs.declared.rule.Rule.{Rule}
use Rattle.rare_law_parts.specs.RowTerms.{sum_of, term_of}
use Rattle.rare_law_parts.specs.declared.params.Kind.{Kind}
use Rattle.rare_law_parts.specs.declared.params.Kind.TheVariants as row_kind
use Rattle.rare_law_parts.specs.declared.params.ParamRow.{ParamRow}
use Rattle.rare_law_parts.specs.declared.params.SortRow.{SortRow}
use Rattle.rare_law_parts.specs.declared.params.SortRow.TheVariants as row_sort
use Rattle.rare_law_parts.specs.declared.row.Row.{Row}
use Rattle.rare_law_parts.specs.declared.row.Step.{Step}
use Rattle.rare_law_parts.specs.declared.row.Sum.{Sum}

abbrev pub sort_of_row : SortRow → Sort
sort_of_row row_sort.Truths = Bool
sort_of_row row_sort.Wholes = Int
sort_of_row (row_sort.Words k) = BitVec (name k)
sort_of_row (row_sort.Named k) = Named k
sort_of_row (row_sort.Arrays a b) = sort.Array (Named a) (Named b)

abbrev pub kind_of_row : Kind → ParamKind
kind_of_row row_kind.SortName = kind.SortName
kind_of_row row_kind.Width = kind.Width
kind_of_row row_kind.FreshWidth = kind.Width
kind_of_row row_kind.Index = kind.Index
kind_of_row (row_kind.Term s) = kind.Term (sort_of_row s)
kind_of_row (row_kind.List s) = kind.List (sort_of_row s)
kind_of_row row_kind.WideList = kind.WideList

abbrev pub is_fresh : Kind → Test
is_fresh row_kind.FreshWidth = true
is_fresh _ = false

abbrev pub param_of_row : ParamRow → Param
param_of_row p = record { name = p.name.now; kind = kind_of_row p.kind; constant = false; fresh = is_fresh p.kind }

abbrev pub constraints_of_rows : List Sum → List Constraint
constraints_of_rows ss = map (λ s. record { floor = sum_of s }) ss

abbrev pub context_of_row : Option (Bor (List Step)) → Option Tree
context_of_row None = None
context_of_row (Some c) = Some (term_of c.now)

abbrev pub rule_of_row : Row → Rule
rule_of_row r = record {
  name = r.name.now;
  kind = r.kind;
  params = map param_of_row r.params.now;
  bounds = constraints_of_rows r.bounds.now;
  premises = map (λ p. term_of p.now) r.premises.now;
  left = term_of r.left.now;
  right = term_of r.right.now;
  context = context_of_row r.context;
}

abbrev pub typed_of_row : Row → TypedRule
typed_of_row r = record { rule = rule_of_row r; constraints = constraints_of_rows r.constraints.now }
