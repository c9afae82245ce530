-- What stands for the numbers of names, as lists.
use Rattle.std.specs.Prelude.{◌≡◌, ℕ, ◌<◌, pos, Bool as Test, true, ◌&&◌, List, [], ◌∷◌, length, map, get_or, slice_get, unwrap_or, is_some, Option, Some, None, if◌then◌else◌}
use Rattle.std.specs.List.{list_all}
use Rattle.rare_linear.specs.Linears.{Part, LinearExpression, number, add, substitute, value_at}
use Rattle.rare_sort.specs.declared.sort.Signature.{Signature}
use Rattle.rare_sort.specs.SortOf.{sort_of}
use Rattle.rare_sort.specs.SortRules.{width}
use Rattle.rare_sort.specs.declared.sort.Sort.{Sort, Bool, BitVec}
use Rattle.rare_sort.specs.declared.sort.Sort.TheViews.{Array}
use Rattle.rare_sort.specs.declared.tree.Tree.{Tree}
use Rattle.rare_sort.specs.inner.Within.{within}
use Rattle.rare_inst.specs.Arguments.{Argument}
use Rattle.rare_inst.specs.Substituting.{Substitution, put_sort, is_put_within, is_sort_within, number_given, is_formed_given}
use Rattle.rare_inst.specs.declared.arg.Arg.{Arg}
use Rattle.rare_inst.specs.declared.arg.Arg.TheVariants as given
use Rattle.rare_inst.specs.declared.substitution.Numbers.{Numbers}

-- whether the total at name k is formed; past the end nothing stands
abbrev pub formed_at : List Test → ℕ → Test
formed_at formed k = get_or formed k true

-- whether what stands for each of the names is formed
abbrev pub all_formed : List Test → List Part → Test
all_formed formed [] = true
all_formed formed (p ∷ ps) = formed_at formed p.0 && all_formed formed ps

-- the expression with what stands for its names, where it stays within i128
abbrev pub put_within : Substitution → LinearExpression → Option LinearExpression
put_within a e = if is_put_within a e then (Some (substitute a.number e)) else None

-- the same of each expression
abbrev pub put_all_within : Substitution → List LinearExpression → Option (List LinearExpression)
put_all_within a es = if list_all (is_put_within a) es then (Some (map (substitute a.number) es)) else None

-- the lists say what stands for the names
pub record StandsFor (a : Substitution) (n : Numbers) : Type 0 where
  pub formed : (k : ℕ) → k < length n.values → a.is_formed k ≡ formed_at n.formed k
  pub number : (k : ℕ) → k < length n.values → formed_at n.formed k ≡ true → a.number k ≡ value_at n.values k

-- what stands for a name whose argument this is, where each partial sum is within i128
abbrev pub number_within : List Signature → Argument → Option LinearExpression
number_within symbols x = if is_formed_given symbols (Some x) then (Some (number_given symbols (Some x))) else None

-- the lists are those of the numbers of these arguments
pub record AreNumbersOf (symbols : List Signature) (xs : List Argument) (n : Numbers) : Type 0 where
  pub values : n.values ≡ map (λ x. unwrap_or (number_within symbols x) (number (pos 0))) xs
  pub formed : n.formed ≡ map (λ x. is_some (number_within symbols x)) xs

-- ---- totals

-- the sum with a width more, where both are formed; a term that is no bit vector adds nothing
abbrev pub plus_width : Option LinearExpression → Option LinearExpression → Option LinearExpression
plus_width (Some sum) (Some w) = within (add sum w)
plus_width (Some sum) None = Some sum
plus_width None w = None

-- the sum with these widths, where each partial sum from the left is within i128
abbrev pub plus_widths : Option LinearExpression → List (Option LinearExpression) → Option LinearExpression
plus_widths sum [] = sum
plus_widths sum (w ∷ ws) = plus_widths (plus_width sum w) ws

abbrev pub term_widths : List Signature → List Tree → List (Option LinearExpression)
term_widths symbols ts = map (λ t. width (sort_of symbols t)) ts

-- ---- sorts

abbrev pub sort_standing : Option Arg → Sort
sort_standing (Some (given.Sort s)) = s
sort_standing _ = Bool

-- the arguments say what sorts stand for the names
pub record HasSorts (a : Substitution) (args : List Arg) : Type 0 where
  pub sorts : (k : ℕ) → a.sort k ≡ sort_standing (slice_get args k)

-- the sort with what stands for its names, where each of its widths stays within i128
abbrev pub put_sort_within : Substitution → Sort → Option Sort
put_sort_within a s = if is_sort_within a s then (Some (put_sort a.number a.sort s)) else None

abbrev pub word_within : Option LinearExpression → Option Sort
word_within (Some w) = Some (BitVec w)
word_within None = None

abbrev pub array_within : Option Sort → Option Sort → Option Sort
array_within (Some keys) (Some entries) = Some (Array keys entries)
array_within k e = None
