-- Which names the left side of a rule determines, and in what order (this project's reading of rules as in the RARE paper, FMCAD 2022:
-- a match at a term gives each name of the rule its one value).
use Rattle.std.specs.Prelude.{ℕ, ℤ, pos, zero, suc, nat_eq, ◌+◌, Bool, true, false, ◌&&◌, List, [], ◌∷◌, ◌++◌, flat_map, Option, Some, if◌then◌else◌}
use Rattle.std.specs.List.{list_any}
use Rattle.rare_linear.specs.Linears.{Part, LinearExpression}
use Rattle.rare_sort.specs.SortRules.{width_needs}
use Rattle.rare_sort.specs.declared.head.Head.{Head}
use Rattle.rare_sort.specs.declared.head.Head.TheVariants as head
use Rattle.rare_sort.specs.declared.sort.Sort.{Sort, Bool as Truth, Int, BitVec, Array', Named, Row_of-Sort, end_of-Sort, more_of-Sort}
use Rattle.rare_sort.specs.declared.tree.Tree.{Tree}
use Rattle.rare_rule.specs.Params.{kind_at, is_alone_kind}
use Rattle.rare_rule.specs.Nodes.{Node, nodes_of, is_under_concat}
use Rattle.rare_rule.specs.declared.param.Param.{Param}
use Rattle.rare_rule.specs.declared.param.ParamKind.{ParamKind}
use Rattle.rare_rule.specs.declared.param.ParamKind.TheVariants as kind

-- a place that determines the parameter of a number, or one whose names are to be determined before
pub data Mention : Type 0 where
  Determines : ℕ → Mention
  Uses : List Part → Mention

-- one name alone, of a width or an index, is determined; every other expression uses its names
abbrev pub mention_of : List Param → ℤ → List Part → Mention
mention_of ps (pos zero) ((k, pos (suc zero)) ∷ []) = if is_alone_kind (kind_at ps k) then (Determines k) else (Uses ((k, pos 1) ∷ []))
mention_of ps constant parts = Uses parts

abbrev pub mention : List Param → LinearExpression → Mention
mention ps e = mention_of ps e.constant e.parts

-- the widths and the sort names in a sort, from the left
abbrev mutual
  pub sort_mentions : List Param → Sort → List Mention
  sort_mentions ps Truth = []
  sort_mentions ps Int = []
  sort_mentions ps (BitVec w) = mention ps w ∷ []
  sort_mentions ps (Array' p keys q entries) = boxed_mentions ps keys ++ boxed_mentions ps entries
  sort_mentions ps (Named k) = Determines k ∷ []

  pub boxed_mentions : List Param → {n : _} → Row_of-Sort n → List Mention
  boxed_mentions ps end_of-Sort = []
  boxed_mentions ps (more_of-Sort s rest) = sort_mentions ps s

-- a parameter's occurrence determines it, and what its sort says; the sort of a list under `concat` waits
abbrev pub occurrence : List Param → (under_concat : Bool) → ℕ → Option ParamKind → List Mention
occurrence ps under k (Some (kind.Term s)) = Determines k ∷ sort_mentions ps s
occurrence ps true k (Some (kind.List s)) = Determines k ∷ []
occurrence ps false k (Some (kind.List s)) = Determines k ∷ sort_mentions ps s
occurrence ps under k (Some kind.WideList) = Determines k ∷ []
occurrence ps under k _ = []

-- indices from the left; of a literal the width before the value
abbrev pub index_mentions : List Param → Head → List LinearExpression → List Mention
index_mentions ps head.Literal (v ∷ w ∷ []) = mention ps w ∷ mention ps v ∷ []
index_mentions ps h ix = flat_map (λ e. mention ps e ∷ []) ix

abbrev pub node_mentions_of : List Param → Option Head → Head → List LinearExpression → List Mention
node_mentions_of ps parent (head.Param k) ix = occurrence ps (is_under_concat parent) k (kind_at ps k)
node_mentions_of ps parent h ix = index_mentions ps h ix

abbrev pub node_mentions : List Param → Node → List Mention
node_mentions ps n = node_mentions_of ps n.parent n.head n.indices

-- what waits until the left side ends: the names in the sorts of lists are determined
abbrev pub list_uses_of : ParamKind → List Mention
list_uses_of (kind.List s) = flat_map (λ e. Uses e.parts ∷ []) (width_needs s)
list_uses_of _ = []

abbrev pub list_uses : Param → List Mention
list_uses p = list_uses_of p.kind

-- all that the left side mentions, in order
abbrev pub mentions : List Param → Tree → List Mention
mentions ps left = flat_map (node_mentions ps) (nodes_of left) ++ flat_map list_uses ps

abbrev pub are_among : List ℕ → List Part → Bool
are_among found [] = true
are_among found (p ∷ ps) = list_any (nat_eq p.0) found && are_among found ps

-- each name that is used is among those before it that are determined
abbrev pub are_in_order : (found : List ℕ) → List Mention → Bool
are_in_order found [] = true
are_in_order found (Determines k ∷ ms) = are_in_order (k ∷ found) ms
are_in_order found (Uses names ∷ ms) = are_among found names && are_in_order found ms

abbrev pub determines : ℕ → Mention → Bool
determines k (Determines n) = nat_eq k n
determines k (Uses names) = false

-- the parameters from number k on are determined
abbrev pub are_all_determined : List Mention → ℕ → List Param → Bool
are_all_determined ms k [] = true
are_all_determined ms k (p ∷ ps) = list_any (determines k) ms && are_all_determined ms (k + 1) ps
