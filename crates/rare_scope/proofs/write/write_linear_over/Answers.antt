use Rattle.std.proofs.Common.{◌≡◌, ◌++◌, [], ◌<◌, ℕ, List, length, sym, ap, ◌∙◌, subst}
use Rattle.std.specs.Prelude.{pos, slice_index_or}
use Rattle.std.specs.Ordering.{int_eq}
use Rattle.rare_linear.specs.Linears.{Part}
use Rattle.rare_scope.specs.Printing.{linear_text_by, number_text, part_text_by}
use Rattle.rare_scope.specs.inner.Pieces.{whole_sum}
use Rattle.rare_scope.proofs.PrintingSteps.{number_only, part_only, sum_long, sum_constant, ok_text, err_text}
use Rattle.std.proofs.lemmas.List.{append-nil}
use Rattle.std.proofs.Common.{◌≤◌, arith}
use Rattle.rare_scope.proofs.write.write_linear_over.Goals as goal

one_only : (ps : List Part) → ¬ (length ps ≡ 0) → length ps ≤ 1 → length ps ≡ 1
one_only ps some le = omega arith

pub returns-then-parts-eq0-clause-ok : goal.returns-then-parts-eq0-clause-ok
returns-then-parts-eq0-clause-ok g c =
    ok_text c.write_constant.result c.args.out.now (number_text c.args.linear.now.constant) (linear_text_by (g.N.WrittenNames.text c.args.names.now) c.args.linear.now) c.write_constant.new.out
    (sym (append-nil (number_text c.args.linear.now.constant)) ∙ number_only (g.N.WrittenNames.text c.args.names.now) c.args.linear.now (sym (ap (λ (ps : List Part). length ps) c.parts-parts.ensures.parts) ∙ c.if-parts-eq0.true)) c.write_constant.ensures.ok

pub returns-then-parts-gt1-clause-ok : goal.returns-then-parts-gt1-clause-ok
returns-then-parts-gt1-clause-ok g c =
    ok_text c.write_sum.result c.args.out.now (whole_sum (g.N.WrittenNames.text c.args.names.now) c.args.linear.now) (linear_text_by (g.N.WrittenNames.text c.args.names.now) c.args.linear.now) c.write_sum.new.out
    (sym (sum_long (g.N.WrittenNames.text c.args.names.now) c.args.linear.now (subst (λ (n : ℕ). 1 < n) (ap (λ (ps : List Part). length ps) c.parts-parts.ensures.parts) c.if-parts-gt1.true))) c.write_sum.ensures.ok

pub returns-then-not-has_no_constant-clause-ok : goal.returns-then-not-has_no_constant-clause-ok
returns-then-not-has_no_constant-clause-ok g c =
    ok_text c.write_sum-then-not-has_no_constant.result c.args.out.now (whole_sum (g.N.WrittenNames.text c.args.names.now) c.args.linear.now) (linear_text_by (g.N.WrittenNames.text c.args.names.now) c.args.linear.now) c.write_sum-then-not-has_no_constant.new.out
    (sym (sum_constant (g.N.WrittenNames.text c.args.names.now) c.args.linear.now (λ none. c.if-parts-eq0.false ((ap (λ (ps : List Part). length ps) c.parts-parts.ensures.parts) ∙ none)) (sym c.has_no_constant.ensures ∙ c.if-not-has_no_constant.true))) c.write_sum-then-not-has_no_constant.ensures.ok

pub returns-clause-ok : goal.returns-clause-ok
returns-clause-ok g c =
    ok_text c.write_part.result c.args.out.now (part_text_by (g.N.WrittenNames.text c.args.names.now) (slice_index_or c.parts-parts.result.now 0 (0, pos 0))) (linear_text_by (g.N.WrittenNames.text c.args.names.now) c.args.linear.now) c.write_part.new.out
    (ap (λ (ps : List Part). part_text_by (g.N.WrittenNames.text c.args.names.now) (slice_index_or ps 0 (0, pos 0))) c.parts-parts.ensures.parts
    ∙ part_only (g.N.WrittenNames.text c.args.names.now) c.args.linear.now (0, pos 0) (sym (ap (λ (ps : List Part). length ps) c.parts-parts.ensures.parts) ∙ one_only c.parts-parts.result.now c.if-parts-eq0.false c.if-parts-gt1.false) (sym c.has_no_constant.ensures ∙ c.if-not-has_no_constant.false)) c.write_part.ensures.ok

pub returns-then-parts-eq0-clause-err : goal.returns-then-parts-eq0-clause-err
returns-then-parts-eq0-clause-err g c =
    err_text c.write_constant.result c.args.out.now (number_text c.args.linear.now.constant) (linear_text_by (g.N.WrittenNames.text c.args.names.now) c.args.linear.now) c.write_constant.new.out
    (sym (append-nil (number_text c.args.linear.now.constant)) ∙ number_only (g.N.WrittenNames.text c.args.names.now) c.args.linear.now (sym (ap (λ (ps : List Part). length ps) c.parts-parts.ensures.parts) ∙ c.if-parts-eq0.true)) c.write_constant.ensures.err

pub returns-then-parts-gt1-clause-err : goal.returns-then-parts-gt1-clause-err
returns-then-parts-gt1-clause-err g c =
    err_text c.write_sum.result c.args.out.now (whole_sum (g.N.WrittenNames.text c.args.names.now) c.args.linear.now) (linear_text_by (g.N.WrittenNames.text c.args.names.now) c.args.linear.now) c.write_sum.new.out
    (sym (sum_long (g.N.WrittenNames.text c.args.names.now) c.args.linear.now (subst (λ (n : ℕ). 1 < n) (ap (λ (ps : List Part). length ps) c.parts-parts.ensures.parts) c.if-parts-gt1.true))) c.write_sum.ensures.err

pub returns-then-not-has_no_constant-clause-err : goal.returns-then-not-has_no_constant-clause-err
returns-then-not-has_no_constant-clause-err g c =
    err_text c.write_sum-then-not-has_no_constant.result c.args.out.now (whole_sum (g.N.WrittenNames.text c.args.names.now) c.args.linear.now) (linear_text_by (g.N.WrittenNames.text c.args.names.now) c.args.linear.now) c.write_sum-then-not-has_no_constant.new.out
    (sym (sum_constant (g.N.WrittenNames.text c.args.names.now) c.args.linear.now (λ none. c.if-parts-eq0.false ((ap (λ (ps : List Part). length ps) c.parts-parts.ensures.parts) ∙ none)) (sym c.has_no_constant.ensures ∙ c.if-not-has_no_constant.true))) c.write_sum-then-not-has_no_constant.ensures.err

pub returns-clause-err : goal.returns-clause-err
returns-clause-err g c =
    err_text c.write_part.result c.args.out.now (part_text_by (g.N.WrittenNames.text c.args.names.now) (slice_index_or c.parts-parts.result.now 0 (0, pos 0))) (linear_text_by (g.N.WrittenNames.text c.args.names.now) c.args.linear.now) c.write_part.new.out
    (ap (λ (ps : List Part). part_text_by (g.N.WrittenNames.text c.args.names.now) (slice_index_or ps 0 (0, pos 0))) c.parts-parts.ensures.parts
    ∙ part_only (g.N.WrittenNames.text c.args.names.now) c.args.linear.now (0, pos 0) (sym (ap (λ (ps : List Part). length ps) c.parts-parts.ensures.parts) ∙ one_only c.parts-parts.result.now c.if-parts-eq0.false c.if-parts-gt1.false) (sym c.has_no_constant.ensures ∙ c.if-not-has_no_constant.false)) c.write_part.ensures.err
