-- Rules type, where the sorts of their parts, which compute, are found.
use Rattle.std.proofs.Common.{◌≡◌, ℕ, List, [], ◌∷◌, ◌++◌, map, refl, IsTrue}
use Rattle.std.specs.Prelude.{Some, None, Option}
use Rattle.rare_linear.specs.Linears.{LinearExpression}
use Rattle.rare_linear.specs.declared.constraint.Constraint.{Constraint}
use Rattle.rare_sort.specs.Each.{Each}
use Rattle.rare_sort.specs.Sorting.{One, Sorting, Scope, sorting, IsOne, IsShaped}
use Rattle.rare_sort.specs.declared.sort.Sort.{Sort, Bool}
use Rattle.rare_sort.specs.declared.tree.Tree.{Tree}
use Rattle.rare_rule.specs.Params.{rule_lows}
use Rattle.rare_rule.specs.RuleSorting.{Types, rule_scope, sorting_of, constraints_after, all_have_names}
use Rattle.rare_rule.specs.Written.{plain_rule, rule_if, rule_in}
use Rattle.rare_rule.specs.declared.param.Param.{Param}

-- the sort is found, the sorts that must be one are, and this is asked for
abbrev pub Finds : Option Sorting → Sort → List LinearExpression → Type 0
Finds None s ns = ⊥
Finds (Some x) s ns = (x.place ≡ One s) × Each IsOne x.alike × (x.needs ≡ ns)

abbrev pub alike_of : Option Sorting → List (Sort × Sort)
alike_of None = []
alike_of (Some x) = x.alike

pub found_of : (o : Option Sorting) (s : Sort) (ns : List LinearExpression) → Finds o s ns → o ≡ Some (record { place = One s; alike = alike_of o; needs = ns })
found_of None s ns h = absurd h
found_of (Some x) s ns h = λ i. Some (record { place = h.0 i; alike = x.alike; needs = h.2 i })

pub same_of : (o : Option Sorting) (s : Sort) (ns : List LinearExpression) → Finds o s ns → Each IsOne (alike_of o)
same_of None s ns h = absurd h
same_of (Some x) s ns h = h.1

pub every : {X : Type 0} (xs : List X) → Each (λ x. Unit {0}) xs
every [] = tt
every (x ∷ xs) = (tt, every xs)

-- a tree is shaped where its sorting finds its sort
abbrev pub shaped : (c : Scope) (t : Tree) (s : Sort) (ns : List LinearExpression) → Finds (sorting c t) s ns → IsShaped c t s
shaped c t s ns h = record { alike = alike_of (sorting c t); needs = ns; found = found_of (sorting c t) s ns h; same = same_of (sorting c t) s ns h; met = every ns }

-- ---- rules of each form

pub plain_types : (n : List ℕ) (ps : List Param) (bs : List Constraint) (l r : Tree) (s : Sort) (ls rs : List LinearExpression) (cs : List Constraint) →
    Finds (sorting (rule_scope ps None) l) s ls → Finds (sorting (rule_scope ps None) r) s rs →
    cs ≡ constraints_after (rule_lows ps) [] (map (λ c. c.floor) bs ++ (ls ++ (rs ++ []))) → IsTrue (all_have_names cs) → Types (plain_rule n ps bs l r) cs
plain_types n ps bs l r s ls rs cs left right same possible = record {
  typed = record { sort = s; left = shaped _ l s ls left; right = shaped _ r s rs right; context = tt; premises = tt };
  same = same;
  possible = possible;
}

pub types_if : (n : List ℕ) (ps : List Param) (p l r : Tree) (s : Sort) (ls ns rs : List LinearExpression) (cs : List Constraint) →
    Finds (sorting (rule_scope ps None) l) s ls → Finds (sorting (rule_scope ps None) p) Bool ns → Finds (sorting (rule_scope ps None) r) s rs →
    cs ≡ constraints_after (rule_lows ps) [] (ls ++ ((ns ++ []) ++ (rs ++ []))) → IsTrue (all_have_names cs) → Types (rule_if n ps p l r) cs
types_if n ps p l r s ls ns rs cs left premise right same possible = record {
  typed = record { sort = s; left = shaped _ l s ls left; right = shaped _ r s rs right; context = tt; premises = (shaped _ p Bool ns premise, tt) };
  same = same;
  possible = possible;
}

pub types_in : (n : List ℕ) (ps : List Param) (l r c : Tree) (s : Sort) (ls rs ns : List LinearExpression) (cs : List Constraint) →
    Finds (sorting (rule_scope ps None) l) s ls → Finds (sorting (rule_scope ps None) r) s rs → Finds (sorting (rule_scope ps (Some (sorting_of (One s) []))) c) s ns →
    cs ≡ constraints_after (rule_lows ps) [] (ls ++ (rs ++ ns)) → IsTrue (all_have_names cs) → Types (rule_in n ps l r c) cs
types_in n ps l r c s ls rs ns cs left right context same possible = record {
  typed = record { sort = s; left = shaped _ l s ls left; right = shaped _ r s rs right; context = shaped _ c s ns context; premises = tt };
  same = same;
  possible = possible;
}
