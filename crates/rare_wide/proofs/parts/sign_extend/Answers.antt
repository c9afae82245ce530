use Rattle.std.proofs.Common.{◌+◌, ◌^◌, ◌≤◌, sym, ◌∙◌, arith}
use Rattle.std.proofs.Math.Nat.{pow-le-pow_right, le-add_right}
use Rattle.std.proofs.lemmas.Nat.{pow_pos}
use Rattle.rare_bits.proofs.PartsLemmas.{sign_extend-negative, sign_extend-positive}
use Rattle.rare_wide.proofs.parts.sign_extend.Goals as goal

pub overflow_sub-result : goal.overflow_sub-result
overflow_sub-result c =
    let more : 2 ^ c.args.width ≤ 2 ^ (c.args.width + c.args.by) = pow-le-pow_right (omega arith) (le-add_right _ _) in
    omega arith

pub returns-then-is_negative : goal.returns-then-is_negative
returns-then-is_negative c =
    let negative = sym c.is_negative.ensures ∙ c.if-is_negative.true in
    let extended = sign_extend-negative c.args.width c.args.by c.args.a negative c.requires.word.below in
    let some = pow_pos c.args.width in
    rw extended (omega arith)

pub returns-else-is_negative : goal.returns-else-is_negative
returns-else-is_negative c =
    let positive = sym c.is_negative.ensures ∙ c.if-is_negative.false in
    sym (sign_extend-positive c.args.width c.args.by c.args.a positive c.requires.word.below)
