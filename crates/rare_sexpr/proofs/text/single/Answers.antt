use Rattle.std.proofs.Common.{◌≡◌, ◌+◌, ap, nat_eq, ◌++◌, drop, get_or, IfOk, Ok, Err, Result, List, ℕ, sym, ◌∙◌, arith}
use Rattle.rare_sexpr.specs.inner.Words.{single}
use Rattle.rare_sexpr.proofs.Pairs.{single_none, is_no_quote, turn_byte, turn_last, turn_pair}
use Rattle.rare_sexpr.proofs.text.single.Goals as goal
use Rattle.rare_sexpr.proofs.text.single.Goals.{then-byte-eq34+then-at-inside, else-byte-eq34, else-byte-eq34-via-then-byte-eq34+else-at-inside, else-byte-eq34-via-else-byte-eq34}

same : {E : Type 0} → (r : Result (List ℕ) E) (xs : List ℕ) → single xs ≡ xs → IfOk r (λ t. t ≡ xs) → IfOk r (λ t. t ≡ single xs)
same (Ok t) xs e h = h ∙ sym e
same (Err x) xs e h = h

pub returns-then-string_run-inside : goal.returns-then-string_run-inside
returns-then-string_run-inside c = same c.of.result c.args.inside.now (single_none c.args.inside.now c.string_run.result c.string_run.ensures c.if-string_run-inside.true) c.of.ensures

pub pairs-preserved : goal.pairs-preserved
pairs-preserved c =
    let xs = c.args.inside.now in
    let at = c.pairs.at in
    let now = c.push.new.self in
    let pushed = c.in_ok-push.ensures.ok in
    elim c.if-byte-eq34.branch [
      | then-byte-eq34+then-at-inside w ↦ record {
        within = omega (arith, w.at-is, w.if-at-inside.true);
        same = ap (λ n. now ++ single (drop (at + n) xs)) w.at-is ∙ turn_pair c.pairs.text xs at now w.if-at-inside.true (ap (λ b. nat_eq b 34) w.if-byte-eq34.true) pushed c.pairs.invariant.same;
      }
      | else-byte-eq34 w ↦ elim w.else-byte-eq34.branch [
        | else-byte-eq34-via-then-byte-eq34+else-at-inside v ↦ record {
          within = omega (arith, w.at-is);
          same = ap (λ n. now ++ single (drop (at + n) xs)) w.at-is ∙ turn_last c.pairs.text xs at now c.pairs-test.true v.if-at-inside.false pushed c.pairs.invariant.same;
        }
        | else-byte-eq34-via-else-byte-eq34 v ↦ record {
          within = omega (arith, w.at-is);
          same = ap (λ n. now ++ single (drop (at + n) xs)) w.at-is ∙ turn_byte c.pairs.text xs at now c.pairs-test.true (is_no_quote (get_or xs at 0) v.if-byte-eq34.false) pushed c.pairs.invariant.same;
        }
      ]
    ]
