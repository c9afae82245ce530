use Rattle.std.proofs.Common.{◌≡◌, ℕ, suc, List, [], ◌∷◌, ◌++◌, length, take, Result, Ok, Err, OnErr, false, if◌then◌else◌, ap, sym, ◌∙◌, arith}
use Rattle.std.proofs.lemmas.Grind.{common_steps}
use Rattle.rare_sexpr.specs.Written.{is_simple, written_symbol, IsCut}
use Rattle.rare_sexpr.proofs.write.write_symbol.Goals as goal

cut_last : (old symbol : List ℕ) → (old ++ 124 ∷ []) ++ symbol ≡ old ++ take (suc (length symbol)) (124 ∷ symbol ++ 124 ∷ [])
cut_last old symbol = grind (arith, common_steps)

cut_at : {A E : Type 0} (r : Result A E) (old symbol middle new : List ℕ) → is_simple symbol ≡ false → middle ≡ (old ++ 124 ∷ []) ++ symbol →
    OnErr r (new ≡ middle) → OnErr r (IsCut old (written_symbol symbol) new)
cut_at (Ok x) old symbol middle new bars is h = tt
cut_at (Err e) old symbol middle new bars is h =
    (suc (length symbol), h ∙ is ∙ cut_last old symbol ∙ ap (λ b. old ++ take (suc (length symbol)) (if b then symbol else 124 ∷ symbol ++ 124 ∷ [])) (sym bars))

pub returns-clause-err : goal.returns-clause-err
returns-clause-err c =
    cut_at c.push-2.result c.args.out.now c.args.symbol.now c.append-2.new.self c.push-2.new.self (sym c.is_simple_symbol.ensures ∙ c.if-is_simple_symbol.false)
    (c.in_ok-append.ensures.ok ∙ ap (λ s. s ++ c.args.symbol.now) c.in_ok-push.ensures.ok) c.push-2.ensures.err
