-- Shapes of rules over an operator whose arguments may be lists.
use Rattle.std.specs.Prelude.{ℕ, suc, ℤ, List, [], ◌∷◌, ◌++◌, codes}
use Rattle.rare_linear.specs.Linears.{number}
use Rattle.rare_sort.specs.Sorting.{name}
use Rattle.rare_sort.specs.declared.head.Head.{Head}
use Rattle.rare_sort.specs.declared.head.Head.TheVariants as head
use Rattle.rare_sort.specs.declared.sort.Sort.{Sort, Bool, Int, BitVec}
use Rattle.rare_sort.specs.declared.tree.Tree.{Tree}
use Rattle.rare_rule.specs.Written.{param, apply, literal, declared_param, plain_rule, rule_in}
use Rattle.rare_rule.specs.declared.param.Param.{Param}
use Rattle.rare_rule.specs.declared.param.ParamKind.TheVariants as kind
use Rattle.rare_rule.specs.declared.rule.Rule.{Rule}

-- the terms of a rule have one sort: the parameters before them, how many these are, and the names of terms and of lists
pub record Theme : Type 0 where
  pub before : List Param
  pub first : ℕ
  pub sort : Sort
  pub x : List ℕ
  pub y : List ℕ
  pub xs : List ℕ
  pub ys : List ℕ
  pub zs : List ℕ

abbrev pub words : Theme
words = record { before = declared_param (codes "n") kind.Width ∷ []; first = 1; sort = BitVec (name 0); x = codes "x"; y = codes "y"; xs = codes "xs"; ys = codes "ys"; zs = codes "zs" }

abbrev pub truths : Theme
truths = record { before = []; first = 0; sort = Bool; x = codes "p"; y = codes "q"; xs = codes "ps"; ys = codes "qs"; zs = codes "rs" }

abbrev pub wholes : Theme
wholes = record { before = []; first = 0; sort = Int; x = codes "i"; y = codes "j"; xs = codes "is"; ys = codes "js"; zs = codes "ks" }

abbrev pub hole : Tree
hole = apply head.Hole []

-- `(bv v n)`, where n is the first parameter
abbrev pub word : ℤ → Tree
word v = literal (number v) (name 0)

-- a term and a list of terms
abbrev pub term : Theme → List ℕ → Param
term θ n = declared_param n (kind.Term θ.sort)

abbrev pub terms : Theme → List ℕ → Param
terms θ n = declared_param n (kind.List θ.sort)

-- the parameters behind the first ones
abbrev pub p1 : Theme → Tree
p1 θ = param θ.first

abbrev pub p2 : Theme → Tree
p2 θ = param (suc θ.first)

abbrev pub p3 : Theme → Tree
p3 θ = param (suc (suc θ.first))

abbrev pub p4 : Theme → Tree
p4 θ = param (suc (suc (suc θ.first)))

abbrev pub rule_of : Theme → List ℕ → List Param → Tree → Tree → Rule
rule_of θ n ps l r = plain_rule n (θ.before ++ ps) [] l r

-- `(op xs v ys)` is `(op xs ys)`
abbrev pub unit_rule : Theme → List ℕ → Head → Tree → Rule
unit_rule θ n op v = rule_of θ n (terms θ θ.xs ∷ terms θ θ.ys ∷ []) (apply op (p1 θ ∷ v ∷ p2 θ ∷ [])) (apply op (p1 θ ∷ p2 θ ∷ []))

-- `(op xs v ys)` is v
abbrev pub absorbing_rule : Theme → List ℕ → Head → Tree → Rule
absorbing_rule θ n op v = rule_of θ n (terms θ θ.xs ∷ terms θ θ.ys ∷ []) (apply op (p1 θ ∷ v ∷ p2 θ ∷ [])) v

-- `(op xs (op ys) zs)` is `(op xs ys zs)`
abbrev pub flat_rule : Theme → List ℕ → Head → Rule
flat_rule θ n op =
    rule_of θ n (terms θ θ.xs ∷ terms θ θ.ys ∷ terms θ θ.zs ∷ []) (apply op (p1 θ ∷ apply op (p2 θ ∷ []) ∷ p3 θ ∷ []))
    (apply op (p1 θ ∷ p2 θ ∷ p3 θ ∷ []))

-- `(op xs x ys t zs)` is r, where x comes first among the parameters
abbrev pub pair_rule : Theme → List ℕ → Head → (t r : Tree) → Rule
pair_rule θ n op t r =
    rule_of θ n (term θ θ.x ∷ terms θ θ.xs ∷ terms θ θ.ys ∷ terms θ θ.zs ∷ []) (apply op (p2 θ ∷ p1 θ ∷ p3 θ ∷ t ∷ p4 θ ∷ [])) r

-- `(op xs x ys x zs)` is `(op xs x ys zs)`
abbrev pub dup_rule : Theme → List ℕ → Head → Rule
dup_rule θ n op = pair_rule θ n op (p1 θ) (apply op (p2 θ ∷ p1 θ ∷ p3 θ ∷ p4 θ ∷ []))

-- `(op xs x ys t zs)` is `(op xs ys zs)`
abbrev pub cancel_rule : Theme → List ℕ → Head → (t : Tree) → Rule
cancel_rule θ n op t = pair_rule θ n op t (apply op (p2 θ ∷ p3 θ ∷ p4 θ ∷ []))

-- `(op x y)` is `(op y x)`
abbrev pub swap_rule : Theme → List ℕ → Head → Rule
swap_rule θ n op = rule_of θ n (term θ θ.x ∷ term θ θ.y ∷ []) (apply op (p1 θ ∷ p2 θ ∷ [])) (apply op (p2 θ ∷ p1 θ ∷ []))

-- `(inverse (op x y xs))` is `(dual (inverse x) _)` with `(inverse (op y xs))` in the hole
abbrev pub de_morgan_rule : Theme → List ℕ → (inverse op dual : Head) → Rule
de_morgan_rule θ n inverse op dual =
    rule_in n (θ.before ++ (term θ θ.x ∷ term θ θ.y ∷ terms θ θ.xs ∷ [])) (apply inverse (apply op (p1 θ ∷ p2 θ ∷ p3 θ ∷ []) ∷ []))
    (apply inverse (apply op (p2 θ ∷ p3 θ ∷ []) ∷ [])) (apply dual (apply inverse (p1 θ ∷ []) ∷ hole ∷ []))
