use Rattle.std.proofs.Common.{[]}
use Rattle.rare_sexpr.specs.Written.{IsCut}
use Rattle.rare_scope.specs.declared.pieces.Piece.TheVariants.{Bytes}
use Rattle.rare_scope.specs.Pieces.{piece_text}
use Rattle.rare_scope.specs.inner.Pieces.{pieces_text}
use Rattle.rare_scope.proofs.Cutting.{cut_item, in_any}
use Rattle.rare_scope.proofs.pieces.write_pieces.Goals as goal

pub returns-in_err-write_piece-clause-err : goal.returns-in_err-write_piece-clause-err
returns-in_err-write_piece-clause-err c =
    in_any c.from_residual.result (IsCut c.args.out.now (pieces_text c.args.pieces.now) c.write_piece.new.out)
    (cut_item piece_text c.args.pieces.now c.loop-piece.piece-index (Bytes (record { ref_ptr = (0, 0); now = [] })) c.args.out.now c.loop-piece.out c.write_piece.new.out c.loop-piece-test.true c.loop-piece.invariant
    c.in_err-write_piece.ensures.err)
