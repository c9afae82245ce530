-- Which names a text may declare (SMT-LIB 2.6, sections on symbols and reserved words).
use Rattle.std.specs.Prelude.{ℕ, Bool, false, ◌||◌, nat_eq, List, [], ◌∷◌, map, codes, bytes_eq}
use Rattle.std.specs.List.{list_any}

-- whether a name is one of these
abbrev pub is_among : List (List ℕ) → List ℕ → Bool
is_among names name = list_any (bytes_eq name) names

-- the words of the theories and of sorts
abbrev pub theory_words : List (List ℕ)
theory_words = map codes (
    "true" ∷ "false" ∷ "not" ∷ "=>" ∷ "xor" ∷ "and" ∷ "or" ∷ "=" ∷ "distinct" ∷ "ite" ∷ "-" ∷ "+" ∷ "*" ∷ "div" ∷
    "mod" ∷ "abs" ∷ "<=" ∷ "<" ∷ ">=" ∷ ">" ∷ "select" ∷ "store" ∷ "bvnot" ∷ "bvneg" ∷ "bvadd" ∷ "bvmul" ∷ "bvand" ∷
    "bvor" ∷ "bvxor" ∷ "bvsub" ∷ "bvudiv" ∷ "bvurem" ∷ "bvsdiv" ∷ "bvsrem" ∷ "bvsmod" ∷ "bvshl" ∷ "bvlshr" ∷
    "bvashr" ∷ "bvnand" ∷ "bvnor" ∷ "bvxnor" ∷ "bvult" ∷ "bvule" ∷ "bvugt" ∷ "bvuge" ∷ "bvslt" ∷ "bvsle" ∷ "bvsgt" ∷
    "bvsge" ∷ "bvcomp" ∷ "concat" ∷ "Bool" ∷ "Int" ∷ "Array" ∷ "BitVec" ∷ "bv" ∷ [])

-- the reserved words that stand in terms
abbrev pub reserved_words : List (List ℕ)
reserved_words = map codes (
    "_" ∷ "!" ∷ "as" ∷ "let" ∷ "exists" ∷ "forall" ∷ "match" ∷ "par" ∷ [])

-- @ and .
abbrev pub begins_reserved : List ℕ → Bool
begins_reserved [] = false
begins_reserved (b ∷ bs) = nat_eq b 64 || nat_eq b 46

abbrev pub is_reserved : List ℕ → Bool
is_reserved name = begins_reserved name || is_among reserved_words name

abbrev pub is_theory_word : List ℕ → Bool
is_theory_word name = is_among theory_words name
