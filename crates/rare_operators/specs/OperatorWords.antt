-- The words of operators (SMT-LIB 2.6, theories Core, Ints, ArraysEx and FixedSizeBitVectors with the operators of logic QF_BV).
use Rattle.std.specs.Prelude.{ℕ, List, [], ◌∷◌, codes, Option}
use Rattle.rare_sort.specs.declared.head.Head.TheVariants as head
use Rattle.rare_scope.specs.Entries.{entry}
use Rattle.rare_operators.specs.declared.words.WordUse.{WordUse}
use Rattle.rare_operators.specs.declared.words.WordUse.TheVariants.{Constant, Difference, Plain}
use Rattle.rare_operators.specs.declared.words.IndexedWord.{IndexedWord}

abbrev pub operator_words : List (List ℕ × WordUse)
operator_words =
    (codes "true", Constant head.True) ∷ (codes "false", Constant head.False) ∷ (codes "not", Plain head.Not)
    ∷ (codes "=>", Plain head.Implies) ∷ (codes "xor", Plain head.Xor) ∷ (codes "and", Plain head.And)
    ∷ (codes "or", Plain head.Or) ∷ (codes "=", Plain head.Equal) ∷ (codes "distinct", Plain head.Distinct)
    ∷ (codes "ite", Plain head.Ite) ∷ (codes "-", Difference) ∷ (codes "+", Plain head.Add) ∷ (codes "*", Plain head.Mul)
    ∷ (codes "div", Plain head.Div) ∷ (codes "mod", Plain head.Mod) ∷ (codes "abs", Plain head.Abs)
    ∷ (codes "<=", Plain head.Le) ∷ (codes "<", Plain head.Lt) ∷ (codes ">=", Plain head.Ge) ∷ (codes ">", Plain head.Gt)
    ∷ (codes "select", Plain head.Select) ∷ (codes "store", Plain head.Store)
    ∷ (codes "bvnot", Plain head.BvNot) ∷ (codes "bvneg", Plain head.BvNeg) ∷ (codes "bvadd", Plain head.BvAdd)
    ∷ (codes "bvmul", Plain head.BvMul) ∷ (codes "bvand", Plain head.BvAnd) ∷ (codes "bvor", Plain head.BvOr)
    ∷ (codes "bvxor", Plain head.BvXor) ∷ (codes "bvsub", Plain head.BvSub) ∷ (codes "bvudiv", Plain head.BvUdiv)
    ∷ (codes "bvurem", Plain head.BvUrem) ∷ (codes "bvsdiv", Plain head.BvSdiv) ∷ (codes "bvsrem", Plain head.BvSrem)
    ∷ (codes "bvsmod", Plain head.BvSmod) ∷ (codes "bvshl", Plain head.BvShl) ∷ (codes "bvlshr", Plain head.BvLshr)
    ∷ (codes "bvashr", Plain head.BvAshr) ∷ (codes "bvnand", Plain head.BvNand) ∷ (codes "bvnor", Plain head.BvNor)
    ∷ (codes "bvxnor", Plain head.BvXnor) ∷ (codes "bvult", Plain head.BvUlt) ∷ (codes "bvule", Plain head.BvUle)
    ∷ (codes "bvugt", Plain head.BvUgt) ∷ (codes "bvuge", Plain head.BvUge) ∷ (codes "bvslt", Plain head.BvSlt)
    ∷ (codes "bvsle", Plain head.BvSle) ∷ (codes "bvsgt", Plain head.BvSgt) ∷ (codes "bvsge", Plain head.BvSge)
    ∷ (codes "bvcomp", Plain head.BvComp) ∷ (codes "concat", Plain head.Concat) ∷ []

-- how a word is used as an operator
abbrev pub operator_of_word : List ℕ → Option WordUse
operator_of_word text = entry operator_words text

-- the operators that stand behind `_`, with their numbers of indices
abbrev pub indexed_words : List (List ℕ × IndexedWord)
indexed_words =
    (codes "extract", record { head = head.Extract; indices = 2 }) ∷ (codes "zero_extend", record { head = head.ZeroExtend; indices = 1 })
    ∷ (codes "sign_extend", record { head = head.SignExtend; indices = 1 }) ∷ (codes "rotate_left", record { head = head.RotateLeft; indices = 1 })
    ∷ (codes "rotate_right", record { head = head.RotateRight; indices = 1 }) ∷ (codes "repeat", record { head = head.Repeat; indices = 1 }) ∷ []
