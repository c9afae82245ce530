use Rattle.std.proofs.Common.{◌≡◌, ◌∙◌, ◌+◌, ◌<◌, ◌||◌, ◌++◌, ◌∷◌, [], ℕ, Bool, List, false, length, nat_eq, drop, sym, ap, arith, if◌then◌else◌}
use Rattle.std.specs.List.{list_any}
use Rattle.rare_check.specs.Verdicts.{trusted_by}
use Rattle.rare_check.proofs.Answering.{trusted_further}
use Rattle.rare_check.proofs.reporting.trusted_of.Goals as goal
use Rattle.rare_check.proofs.reporting.trusted_of.Goals.{then-is_trusted+in_ok-push, else-is_trusted}

pub loop-k-preserved : goal.loop-k-preserved
loop-k-preserved c =
    let k = c.loop-k.k in
    let book = c.args.book.now in
    let named : ℕ → Bool = λ k. list_any (nat_eq k) c.args.named.now.keys || false in
    let longer : Bool → List ℕ = λ b. if b then c.loop-k.trusted ++ k ∷ [] else c.loop-k.trusted in
    let lt : k < length book = omega arith in
    let grown : c.if-is_trusted.trusted ≡ longer c.is_trusted.result =
    elim c.if-is_trusted.branch [
      | then-is_trusted+in_ok-push w ↦ w.trusted-is ∙ w.in_ok-push.ensures.ok ∙ sym (ap longer w.if-is_trusted.true)
      | else-is_trusted w ↦ w.trusted-is ∙ sym (ap longer w.if-is_trusted.false)
    ] in
    ap (λ ks. ks ++ trusted_by named (k + 1) (drop (k + 1) book)) grown ∙ sym (trusted_further named book k c.loop-k.trusted c.is_trusted.result lt c.is_trusted.ensures) ∙ c.loop-k.invariant
