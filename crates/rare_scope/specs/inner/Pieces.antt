-- Texts put together of pieces.
use Rattle.std.specs.Prelude.{ℕ, ℤ, pos, List, [], ◌∷◌, ◌++◌, flat_map, codes, if◌then◌else◌}
use Rattle.std.specs.Ordering.{int_eq}
use Rattle.rare_linear.specs.Linears.{Part, LinearExpression}
use Rattle.rare_scope.specs.declared.pieces.Piece.{Piece}
use Rattle.rare_scope.specs.Pieces.{piece_text}
use Rattle.rare_scope.specs.Printing.{joined_texts, number_text, part_text_by}

abbrev pub pieces_text : List Piece → List ℕ
pieces_text pieces = flat_map piece_text pieces

-- a part behind a space
abbrev pub spaced_part : (ℕ → List ℕ) → Part → List ℕ
spaced_part text p = codes " " ++ part_text_by text p

-- the constant where it is not 0, and the end of a sum
abbrev pub end_text : ℤ → List ℕ
end_text c = if int_eq c (pos 0) then codes ")" else joined_texts (codes " " ∷ number_text c ∷ codes ")" ∷ [])

abbrev pub whole_sum : (ℕ → List ℕ) → LinearExpression → List ℕ
whole_sum text e = codes "(+" ++ (flat_map (spaced_part text) e.parts ++ end_text e.constant)
