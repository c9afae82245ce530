use Rattle.std.proofs.Common.{◌≡◌, ◌++◌, ◌<◌, ℕ, List, refl, length, sym, ap, ◌∙◌, subst, take}
use Rattle.std.specs.Prelude.{pos, codes, flat_map}
use Rattle.rare_linear.specs.Linears.{Part, NamesBelow}
use Rattle.rare_sexpr.specs.Written.{IsCut}
use Rattle.rare_scope.specs.inner.Pieces.{spaced_part, end_text, whole_sum}
use Rattle.rare_scope.proofs.Cutting.{through, cut_front, cut_behind, cut_item, in_any, on_err}
use Rattle.rare_scope.proofs.PrintingSteps.{part_below}
use Rattle.rare_scope.proofs.write.write_sum.Goals as goal

pub write_part-requires : goal.write_part-requires
write_part-requires g c =
    part_below (g.N.WrittenNames.count c.args.names.now) c.parts-parts.result.now c.loop-part.part-index (0, pos 0) (subst (λ (ps : List Part). NamesBelow (g.N.WrittenNames.count c.args.names.now) ps) (sym c.parts-parts.ensures.parts) c.requires) c.loop-part-test.true

pub returns-in_err-write_part-clause-err : goal.returns-in_err-write_part-clause-err
returns-in_err-write_part-clause-err g c =
    let names = g.N.WrittenNames.text c.args.names.now in
    let e = c.args.linear.now in
    let old = c.args.out.now in
    let new = c.write_part.new.out in
    let all = flat_map (spaced_part names) c.parts-parts.result.now in
    let P : List Part → Type 0 = λ ps. IsCut old (codes "(+" ++ (flat_map (spaced_part names) ps ++ end_text e.constant)) new in
    in_any c.from_residual-in_err-write_part.result (IsCut old (whole_sum names e) new)
    (subst P c.parts-parts.ensures.parts
    (cut_behind old (codes "(+") (all ++ end_text e.constant) (old ++ codes "(+") new refl
    (cut_front (old ++ codes "(+") all (end_text e.constant) new
    (cut_item (spaced_part names) c.parts-parts.result.now c.loop-part.part-index (0, pos 0) (old ++ codes "(+") c.loop-part.out new c.loop-part-test.true c.loop-part.invariant c.in_err-write_part.ensures.err))))

pub returns-clause-err : goal.returns-clause-err
returns-clause-err g c =
    let names = g.N.WrittenNames.text c.args.names.now in
    let e = c.args.linear.now in
    let old = c.args.out.now in
    let new = c.write_end.new.out in
    let all = flat_map (spaced_part names) c.parts-parts.result.now in
    let P : List Part → Type 0 = λ ps. IsCut old (codes "(+" ++ (flat_map (spaced_part names) ps ++ end_text e.constant)) new in
    on_err c.write_end.result (IsCut c.loop-part.out (end_text e.constant) new) (IsCut old (whole_sum names e) new) c.write_end.ensures.err
    (λ h. subst P c.parts-parts.ensures.parts
    (cut_behind old (codes "(+") (all ++ end_text e.constant) (old ++ codes "(+") new refl
    (cut_behind (old ++ codes "(+") all (end_text e.constant) c.loop-part.out new (through (spaced_part names) (old ++ codes "(+") c.loop-part.out c.parts-parts.result.now c.loop-part.part-index c.loop-part-test.false c.loop-part.invariant) h)))
