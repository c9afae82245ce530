use Rattle.std.proofs.Common.{◌≡◌, ◌++◌, take}
use Rattle.rare_scope.specs.inner.Pieces.{pieces_text}
use Rattle.rare_scope.proofs.pieces.write_pieces.Given as goal

abbrev pub invariant-loop-piece : goal.invariant-loop-piece
invariant-loop-piece l = l.out ≡ l.fn.out ++ pieces_text (take l.piece-index l.pieces)
