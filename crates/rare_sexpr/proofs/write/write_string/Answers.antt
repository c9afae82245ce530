use Rattle.std.proofs.Common.{◌≡◌, ◌++◌, ◌∷◌, take, List, ℕ, Result, Ok, Err, OnErr, ◌∙◌}
use Rattle.rare_sexpr.specs.Written.{doubled, written_string, IsCut}
use Rattle.rare_sexpr.proofs.Strings.{one_more, cut_inside}
use Rattle.rare_sexpr.proofs.write.write_string.Goals as goal

-- whatever the answer
in_any : {A E : Type 0} (r : Result A E) (old text new : List ℕ) → IsCut old text new → OnErr r (IsCut old text new)
in_any (Ok x) old text new h = tt
in_any (Err e) old text new h = h

cut_last : {A E : Type 0} (r : Result A E) (old bytes : List ℕ) (i : ℕ) (mid new : List ℕ) → mid ≡ old ++ 34 ∷ doubled (take i bytes) → OnErr r (new ≡ mid) → OnErr r (IsCut old (written_string bytes) new)
cut_last (Ok x) old bytes i mid new is h = tt
cut_last (Err e) old bytes i mid new is h = cut_inside old bytes i new (h ∙ is)

pub loop-byte-preserved : goal.loop-byte-preserved
loop-byte-preserved c = one_more c.args.out.now c.args.bytes.now c.loop-byte.byte-index c.loop-byte.out c.push_in_string.new.out c.loop-byte-test.true c.loop-byte.invariant c.in_ok-push_in_string.ensures.ok

pub returns-clause-err : goal.returns-clause-err
returns-clause-err c = cut_last c.push-2.result c.args.out.now c.args.bytes.now c.loop-byte.byte-index c.loop-byte.out c.push-2.new.self c.loop-byte.invariant c.push-2.ensures.err

pub returns-in_err-push_in_string-clause-err : goal.returns-in_err-push_in_string-clause-err
returns-in_err-push_in_string-clause-err c =
    in_any c.from_residual-in_err-push_in_string.result c.args.out.now (written_string c.args.bytes.now) c.push_in_string.new.out
    (cut_inside c.args.out.now c.args.bytes.now c.loop-byte.byte-index c.push_in_string.new.out (c.in_err-push_in_string.ensures.err ∙ c.loop-byte.invariant))
