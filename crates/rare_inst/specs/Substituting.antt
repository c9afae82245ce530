-- What stands for the names of a rule, and what it is to put it into expressions and sorts.
use Rattle.std.specs.Prelude.{ℕ, pos, Bool as Test, true, ◌&&◌, List, [], ◌∷◌, map, slice_get, unwrap_or, Option, Some}
use Rattle.rare_linear.specs.Linears.{Part, LinearExpression, number, add, scale, substitute}
use Rattle.rare_linear.specs.EntailmentTest.{is_within}
use Rattle.rare_sort.specs.Rulings.{all_within, sums_from, widths_of}
use Rattle.rare_sort.specs.SortOf.{sort_of}
use Rattle.rare_sort.specs.SortRules.{total}
use Rattle.rare_sort.specs.declared.sort.Signature.{Signature}
use Rattle.rare_sort.specs.declared.sort.Sort.{Sort, Bool, Int, BitVec, Array', Named, Row_of-Sort, end_of-Sort, more_of-Sort}
use Rattle.rare_sort.specs.declared.tree.Tree.{Tree}
use Rattle.rare_rule.specs.Params.{kind_at}
use Rattle.rare_rule.specs.declared.param.Param.{Param}
use Rattle.rare_rule.specs.declared.param.ParamKind.{ParamKind}
use Rattle.rare_rule.specs.declared.param.ParamKind.TheVariants as kind
use Rattle.rare_inst.specs.Arguments.{Argument, OfSort, OfLinear, OfTerm, OfList}

-- the terms that stand in one argument's place; the sort of the elements is read only where there are none
pub record TreeGroup : Type 0 where
  pub element : Sort
  pub trees : List Tree

abbrev pub tree_group : Sort → List Tree → TreeGroup
tree_group s ts = record { element = s; trees = ts }

abbrev pub one_tree : Tree → TreeGroup
one_tree t = tree_group Bool (t ∷ [])

-- what stands for each name, and for the hole of a context
pub record Substitution : Type 0 where
  -- for a width and an index, and the total width of a list
  pub number : ℕ → LinearExpression
  -- whether the partial sums of that total are within i128
  pub is_formed : ℕ → Test
  pub sort : ℕ → Sort
  pub group : ℕ → TreeGroup
  pub hole : TreeGroup

-- ---- expressions

-- each partial sum is within i128: the constant, and then with each product by rising names, whose totals are formed
abbrev pub sums_within : Substitution → LinearExpression → List Part → Test
sums_within a sum [] = is_within sum
sums_within a sum (p ∷ ps) = is_within sum && (a.is_formed p.0 && sums_within a (add sum (scale p.1 (a.number p.0))) ps)

-- whether the expression, with what stands for its names, stays within i128
abbrev pub is_put_within : Substitution → LinearExpression → Test
is_put_within a e = sums_within a (number e.constant) e.parts

-- ---- sorts

-- expressions in the place of width names, and sorts in the place of sort names
module _ (number : ℕ → LinearExpression) (sort : ℕ → Sort) where
  abbrev mutual
    pub put_sort : Sort → Sort
    put_sort Bool = Bool
    put_sort Int = Int
    put_sort (BitVec w) = BitVec (substitute number w)
    put_sort (Array' p keys q entries) = Array' p (put_boxed keys) q (put_boxed entries)
    put_sort (Named k) = sort k

    pub put_boxed : {n : _} → Row_of-Sort n → Row_of-Sort n
    put_boxed end_of-Sort = end_of-Sort
    put_boxed (more_of-Sort s rest) = more_of-Sort (put_sort s) (put_boxed rest)

-- whether each width of the sort stays within i128
abbrev mutual
  pub is_sort_within : Substitution → Sort → Test
  is_sort_within a Bool = true
  is_sort_within a Int = true
  is_sort_within a (BitVec w) = is_put_within a w
  is_sort_within a (Array' p keys q entries) = is_boxed_within a keys && is_boxed_within a entries
  is_sort_within a (Named k) = true

  pub is_boxed_within : Substitution → {n : _} → Row_of-Sort n → Test
  is_boxed_within a end_of-Sort = true
  is_boxed_within a (more_of-Sort s rest) = is_sort_within a s

-- ---- arguments

-- the sum of the widths of the terms, and 0 where they are no bit vectors
abbrev pub list_width : List Signature → List Tree → LinearExpression
list_width symbols ts = unwrap_or (total (map (sort_of symbols) ts)) (number (pos 0))

-- whether each partial sum of it is within i128, from the left
abbrev pub is_total_formed : List Signature → List Tree → Test
is_total_formed symbols ts = all_within (sums_from (number (pos 0)) (widths_of (map (sort_of symbols) ts)))

abbrev pub number_given : List Signature → Option Argument → LinearExpression
number_given symbols (Some (OfLinear e)) = e
number_given symbols (Some (OfList ts)) = list_width symbols ts
number_given symbols _ = number (pos 0)

abbrev pub is_formed_given : List Signature → Option Argument → Test
is_formed_given symbols (Some (OfList ts)) = is_total_formed symbols ts
is_formed_given symbols _ = true

abbrev pub sort_given : Option Argument → Sort
sort_given (Some (OfSort s)) = s
sort_given _ = Bool

-- the sort of a list's elements, which are of one
abbrev pub element_sort : Option ParamKind → Sort
element_sort (Some (kind.List s)) = s
element_sort _ = Bool

abbrev pub group_given : Sort → Option Argument → TreeGroup
group_given s (Some (OfTerm t)) = one_tree t
group_given s (Some (OfList ts)) = tree_group s ts
group_given s _ = tree_group s []

-- the arguments in the place of the parameters, and nothing in the hole
abbrev pub substitution : List Signature → List Param → List Argument → Substitution
substitution symbols ps args =
    let number = λ (k : ℕ). number_given symbols (slice_get args k) in
    let sort = λ (k : ℕ). sort_given (slice_get args k) in
    record {
      number = number;
      is_formed = λ k. is_formed_given symbols (slice_get args k);
      sort = sort;
      group = λ k. group_given (put_sort number sort (element_sort (kind_at ps k))) (slice_get args k);
      hole = tree_group Bool [];
    }
