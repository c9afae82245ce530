-- What is not in form: sides that use a name before they determine it, that leave one out, and others, each with the test that it fails.
use Rattle.std.specs.Prelude.{◌≡◌, Bool as Test, true, false, List, [], ◌∷◌, codes}
use Rattle.rare_sort.specs.Sorting.{name}
use Rattle.rare_sort.specs.Trees.{node}
use Rattle.rare_sort.specs.declared.head.Head.TheVariants as head
use Rattle.rare_sort.specs.declared.sort.Sort.{Bool, BitVec}
use Rattle.rare_sort.specs.declared.tree.Tree.{Tree}
use Rattle.rare_rule.specs.Determination.{mentions, are_in_order, are_all_determined}
use Rattle.rare_rule.specs.Nodes.{nodes_of, walk}
use Rattle.rare_rule.specs.ParamForms.{NO_NAMES, all_differ_from, are_last, are_brought}
use Rattle.rare_rule.specs.NodeForms.{all_nodes, is_placed, has_few_lists, hole_nodes}
use Rattle.rare_rule.specs.Rules.{are_premises}
use Rattle.rare_rule.specs.Written.{param, apply, declared_param, fresh_param}
use Rattle.rare_rule.specs.declared.param.Param.{Param}
use Rattle.rare_rule.specs.declared.param.ParamKind.TheVariants as kind

abbrev pub is_in_order : List Param → Tree → Test
is_in_order ps left = are_in_order [] (mentions ps left)

abbrev pub determines_all : List Param → Tree → Test
determines_all ps left = are_all_determined (mentions ps left) 0 ps

-- `(n Width) (us (BitVec n) :list)`: under `concat` alone nothing determines n
abbrev pub list_params : List Param
list_params = declared_param (codes "n") kind.Width ∷ declared_param (codes "us") (kind.List (BitVec (name 0))) ∷ []

-- `(us ?BitVec :list) (x ?BitVec)`: the third is the fresh width of x
abbrev pub wide_params : List Param
wide_params =
    declared_param (codes "us") kind.WideList ∷ declared_param (codes "x") (kind.Term (BitVec (name 2)))
    ∷ fresh_param (codes "x") kind.Width ∷ []

-- `(zero_extend (bvsize us) x)`
abbrev pub extended : Tree
extended = node head.ZeroExtend (name 0 ∷ []) (param 1 ∷ [])

-- `(p Bool) (q Bool) (ps Bool :list)`
abbrev pub truth_params : List Param
truth_params =
    declared_param (codes "p") (kind.Term Bool) ∷ declared_param (codes "q") (kind.Term Bool) ∷ declared_param (codes "ps") (kind.List Bool) ∷ []

pub record OutOfForm : Type 0 where
  -- `(concat us us)`, and beside it `(bvadd us us)`
  pub list_under_concat : is_in_order list_params (apply head.Concat (param 1 ∷ param 1 ∷ [])) ≡ false
  pub list_under_sum : is_in_order list_params (apply head.BvAdd (param 1 ∷ param 1 ∷ [])) ≡ true
  -- `(concat (zero_extend (bvsize us) x) us)`, and beside it `(concat us (zero_extend (bvsize us) x))`
  pub total_too_early : is_in_order wide_params (apply head.Concat (extended ∷ param 0 ∷ [])) ≡ false
  pub total_behind : is_in_order wide_params (apply head.Concat (param 0 ∷ extended ∷ [])) ≡ true
  -- q doesn't occur in `(and p ps)`
  pub left_out : determines_all truth_params (apply head.And (param 0 ∷ param 2 ∷ [])) ≡ false
  pub none_left_out : determines_all truth_params (apply head.And (param 0 ∷ param 1 ∷ param 2 ∷ [])) ≡ true
  -- `(not ps)`
  pub misplaced : all_nodes (is_placed truth_params) (nodes_of (apply head.Not (param 2 ∷ []))) ≡ false
  -- four list variables under one operator
  pub four_lists : all_nodes (has_few_lists truth_params) (nodes_of (apply head.And (param 2 ∷ param 2 ∷ param 2 ∷ param 2 ∷ []))) ≡ false
  pub three_lists : all_nodes (has_few_lists truth_params) (nodes_of (apply head.And (param 2 ∷ param 0 ∷ param 2 ∷ param 2 ∷ []))) ≡ true
  -- `(or _ _)` has two holes
  pub two_holes : hole_nodes (nodes_of (apply head.Or (apply head.Hole [] ∷ apply head.Hole [] ∷ []))) ≡ 2
  -- `(and p q)` would have been split, `(and p ps)` would not
  pub unsplit : are_premises truth_params (walk (apply head.And (param 0 ∷ param 1 ∷ [])) ∷ []) ≡ false
  pub with_list : are_premises truth_params (walk (apply head.And (param 0 ∷ param 2 ∷ [])) ∷ []) ≡ true
  -- names
  pub twice : all_differ_from NO_NAMES (codes "p" ∷ codes "q" ∷ codes "p" ∷ []) ≡ false
  pub constant_name : all_differ_from NO_NAMES (codes "p" ∷ codes "true" ∷ []) ≡ false
  -- a fresh name before a declared one, and one that nothing brought
  pub fresh_first : are_last (fresh_param (codes "x") kind.Width ∷ declared_param (codes "x") (kind.Term (BitVec (name 0))) ∷ []) ≡ false
  pub fresh_of_another : are_brought wide_params 0 2 (fresh_param (codes "us") kind.Width ∷ []) ≡ false
  pub fresh_of_x : are_brought wide_params 0 0 wide_params ≡ true
