use Rattle.std.proofs.Common.{◌≡◌, ◌++◌, ◌∷◌, [], sym, ◌∙◌}
use Rattle.std.specs.Prelude.{codes}
use Rattle.rare_scope.specs.Pieces.{piece_text}
use Rattle.rare_scope.specs.Printing.{joined_texts, number_text, part_text_by}
use Rattle.rare_scope.proofs.PrintingSteps.{one_part, other_part, ok_text, err_text}
use Rattle.rare_scope.proofs.write.write_part.Goals as goal

pub returns-then-is_one-clause-ok : goal.returns-then-is_one-clause-ok
returns-then-is_one-clause-ok g c =
    ok_text c.write_pieces.result c.args.out.now (c.args.lead.now ++ (piece_text c.piece-name.result ++ [])) (c.args.lead.now ++ part_text_by (g.N.WrittenNames.text c.args.names.now) c.args.part.now) c.write_pieces.new.out
    (one_part (g.N.WrittenNames.text c.args.names.now) c.args.lead.now c.args.part.now.0 c.args.part.now.1 (piece_text c.piece-name.result) c.piece-name.ensures (sym c.is_one.ensures ∙ c.if-is_one.true)) c.write_pieces.ensures.ok

pub returns-then-is_one-clause-err : goal.returns-then-is_one-clause-err
returns-then-is_one-clause-err g c =
    err_text c.write_pieces.result c.args.out.now (c.args.lead.now ++ (piece_text c.piece-name.result ++ [])) (c.args.lead.now ++ part_text_by (g.N.WrittenNames.text c.args.names.now) c.args.part.now) c.write_pieces.new.out
    (one_part (g.N.WrittenNames.text c.args.names.now) c.args.lead.now c.args.part.now.0 c.args.part.now.1 (piece_text c.piece-name.result) c.piece-name.ensures (sym c.is_one.ensures ∙ c.if-is_one.true)) c.write_pieces.ensures.err

pub returns-else-is_one-clause-ok : goal.returns-else-is_one-clause-ok
returns-else-is_one-clause-ok g c =
    ok_text c.write_pieces-else-is_one.result c.args.out.now (c.args.lead.now ++ joined_texts (codes "(* " ∷ number_text c.args.part.now.1 ∷ codes " " ∷ piece_text c.piece-name.result ∷ codes ")" ∷ [])) (c.args.lead.now ++ part_text_by (g.N.WrittenNames.text c.args.names.now) c.args.part.now) c.write_pieces-else-is_one.new.out
    (other_part (g.N.WrittenNames.text c.args.names.now) c.args.lead.now c.args.part.now.0 c.args.part.now.1 (piece_text c.piece-name.result) c.piece-name.ensures (sym c.is_one.ensures ∙ c.if-is_one.false)) c.write_pieces-else-is_one.ensures.ok

pub returns-else-is_one-clause-err : goal.returns-else-is_one-clause-err
returns-else-is_one-clause-err g c =
    err_text c.write_pieces-else-is_one.result c.args.out.now (c.args.lead.now ++ joined_texts (codes "(* " ∷ number_text c.args.part.now.1 ∷ codes " " ∷ piece_text c.piece-name.result ∷ codes ")" ∷ [])) (c.args.lead.now ++ part_text_by (g.N.WrittenNames.text c.args.names.now) c.args.part.now) c.write_pieces-else-is_one.new.out
    (other_part (g.N.WrittenNames.text c.args.names.now) c.args.lead.now c.args.part.now.0 c.args.part.now.1 (piece_text c.piece-name.result) c.piece-name.ensures (sym c.is_one.ensures ∙ c.if-is_one.false)) c.write_pieces-else-is_one.ensures.err
