-- Pieces of a text: bytes as they are, names, numbers, and sizes of names.
use Rattle.std.specs.Prelude.{ℕ, List, [], ◌∷◌, codes}
use Rattle.rare_sexpr.specs.Written.{written_symbol}
use Rattle.rare_scope.specs.declared.pieces.Piece.{Piece}
use Rattle.rare_scope.specs.declared.pieces.Piece.TheVariants.{Bytes, Symbol, Size, Number}
use Rattle.rare_scope.specs.Printing.{joined_texts, number_text}

-- `(bvsize x)`
abbrev pub size_text : List ℕ → List ℕ
size_text name = joined_texts (codes "(bvsize " ∷ written_symbol name ∷ codes ")" ∷ [])

abbrev pub piece_text : Piece → List ℕ
piece_text (Bytes bytes) = bytes.now
piece_text (Symbol name) = written_symbol name.now
piece_text (Size name) = size_text name.now
piece_text (Number n) = number_text n.now
