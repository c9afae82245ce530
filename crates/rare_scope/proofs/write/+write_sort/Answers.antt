use Rattle.std.proofs.Common.{◌≡◌, ◌++◌, ◌∷◌, [], ℕ, List, ◌∙◌, sym, ap, subst, IsTrue, Result, Ok, Err, OnOk, append_assoc}
use Rattle.std.specs.Prelude.{codes}
use Rattle.rare_sexpr.specs.Written.{written_symbol, IsCut}
use Rattle.rare_sort.specs.declared.sort.Sort.{Sort}
use Rattle.rare_scope.specs.Names.{sort_names}
use Rattle.rare_scope.specs.Printing.{arrays_text, is_named, sort_text}
use Rattle.rare_scope.proofs.Cutting.{cut_front, cut_behind, cut_here, in_any, on_err}
use Rattle.rare_scope.proofs.PrintingSteps.{word_named, array_text, named_text, ok_text, err_text}
use Rattle.rare_scope.proofs.write.+write_sort.Goals as goal

-- the five pieces of an array's text
written : {A E : Type 0} (r : Result A E) (old k v one two three four new : List ℕ) → one ≡ old ++ codes "(Array " → two ≡ one ++ k → three ≡ two ++ (32 ∷ []) → four ≡ three ++ v → OnOk r (new ≡ four ++ (41 ∷ [])) →
    OnOk r (new ≡ old ++ arrays_text k v)
written (Ok x) old k v one two three four new a b c d e =
    e ∙ ap (λ t. t ++ (41 ∷ [])) d ∙ ap (λ t. (t ++ v) ++ (41 ∷ [])) c ∙ ap (λ t. ((t ++ (32 ∷ [])) ++ v) ++ (41 ∷ [])) b ∙ ap (λ t. (((t ++ k) ++ (32 ∷ [])) ++ v) ++ (41 ∷ [])) a ∙ simp append_assoc
written (Err x) old k v one two three four new a b c d e = tt

pub write_bit_vectors-requires : goal.write_bit_vectors-requires
write_bit_vectors-requires t c =
    word_named c.args.scope.now c.in-BitVec.width (subst (λ (s : Sort). IsTrue (is_named c.args.scope.now s)) c.in-BitVec.is c.requires)

pub returns-in_err-write_sort-in-Array-clause-err : goal.returns-in_err-write_sort-in-Array-clause-err
returns-in_err-write_sort-in-Array-clause-err t c =
    let old = c.args.out.now in
    let new = c.write_sort.new.out in
    let k = sort_text c.args.scope.now c.get.result.now in
    let v = sort_text c.args.scope.now c.in-Array.entries in
    let same : sort_text c.args.scope.now c.args.sort.now ≡ arrays_text k v =
    ap (sort_text c.args.scope.now) c.in-Array.is ∙ array_text c.args.scope.now c.in-Array.keys c.in-Array.entries ∙ ap (λ (s : Sort). arrays_text (sort_text c.args.scope.now s) (sort_text c.args.scope.now c.in-Array.entries)) (sym c.get.ensures) in
    in_any c.from_residual-in_err-write_sort-in-Array.result (IsCut old (sort_text c.args.scope.now c.args.sort.now) new)
    (subst (λ (t : List ℕ). IsCut old t new) (sym same)
    (cut_behind old (codes "(Array ") (k ++ (codes " " ++ (v ++ (41 ∷ [])))) c.append-in-Array.new.self new c.in_ok-append-in-Array.ensures.ok
    (cut_front c.append-in-Array.new.self k (codes " " ++ (v ++ (41 ∷ []))) new c.in_err-write_sort-in-Array.ensures.err)))

pub returns-in_err-push-in-Array-clause-err : goal.returns-in_err-push-in-Array-clause-err
returns-in_err-push-in-Array-clause-err t c =
    let old = c.args.out.now in
    let new = c.push.new.self in
    let k = sort_text c.args.scope.now c.get.result.now in
    let v = sort_text c.args.scope.now c.in-Array.entries in
    let same : sort_text c.args.scope.now c.args.sort.now ≡ arrays_text k v =
    ap (sort_text c.args.scope.now) c.in-Array.is ∙ array_text c.args.scope.now c.in-Array.keys c.in-Array.entries ∙ ap (λ (s : Sort). arrays_text (sort_text c.args.scope.now s) (sort_text c.args.scope.now c.in-Array.entries)) (sym c.get.ensures) in
    in_any c.from_residual-in_err-push-in-Array.result (IsCut old (sort_text c.args.scope.now c.args.sort.now) new)
    (subst (λ (t : List ℕ). IsCut old t new) (sym same)
    (cut_behind old (codes "(Array ") (k ++ (codes " " ++ (v ++ (41 ∷ [])))) c.append-in-Array.new.self new c.in_ok-append-in-Array.ensures.ok
    (cut_here c.append-in-Array.new.self k (codes " " ++ (v ++ (41 ∷ []))) new (c.in_err-push-in-Array.ensures.err ∙ c.in_ok-write_sort-in-Array.ensures.ok))))

pub returns-in_err-write_sort-in-Array-2-clause-err : goal.returns-in_err-write_sort-in-Array-2-clause-err
returns-in_err-write_sort-in-Array-2-clause-err t c =
    let old = c.args.out.now in
    let new = c.write_sort-in-Array.new.out in
    let k = sort_text c.args.scope.now c.get.result.now in
    let v = sort_text c.args.scope.now c.get-in-Array.result.now in
    let same : sort_text c.args.scope.now c.args.sort.now ≡ arrays_text k v =
    ap (sort_text c.args.scope.now) c.in-Array.is ∙ array_text c.args.scope.now c.in-Array.keys c.in-Array.entries ∙ ap (λ (s : Sort). arrays_text (sort_text c.args.scope.now s) (sort_text c.args.scope.now c.in-Array.entries)) (sym c.get.ensures) ∙ ap (λ (s : Sort). arrays_text (sort_text c.args.scope.now c.get.result.now) (sort_text c.args.scope.now s)) (sym c.get-in-Array.ensures) in
    in_any c.from_residual-in_err-write_sort-in-Array-2.result (IsCut old (sort_text c.args.scope.now c.args.sort.now) new)
    (subst (λ (t : List ℕ). IsCut old t new) (sym same)
    (cut_behind old (codes "(Array ") (k ++ (codes " " ++ (v ++ (41 ∷ [])))) c.append-in-Array.new.self new c.in_ok-append-in-Array.ensures.ok
    (cut_behind c.append-in-Array.new.self k (codes " " ++ (v ++ (41 ∷ []))) c.write_sort.new.out new c.in_ok-write_sort-in-Array.ensures.ok
    (cut_behind c.write_sort.new.out (codes " ") (v ++ (41 ∷ [])) c.push.new.self new c.in_ok-push-in-Array.ensures.ok
    (cut_front c.push.new.self v (41 ∷ []) new c.in_err-write_sort-in-Array-2.ensures.err)))))

pub returns-in_ok-write_sort-in-Array-2-clause-err : goal.returns-in_ok-write_sort-in-Array-2-clause-err
returns-in_ok-write_sort-in-Array-2-clause-err t c =
    let old = c.args.out.now in
    let new = c.push-in-Array.new.self in
    let k = sort_text c.args.scope.now c.get.result.now in
    let v = sort_text c.args.scope.now c.get-in-Array.result.now in
    let same : sort_text c.args.scope.now c.args.sort.now ≡ arrays_text k v =
    ap (sort_text c.args.scope.now) c.in-Array.is ∙ array_text c.args.scope.now c.in-Array.keys c.in-Array.entries ∙ ap (λ (s : Sort). arrays_text (sort_text c.args.scope.now s) (sort_text c.args.scope.now c.in-Array.entries)) (sym c.get.ensures) ∙ ap (λ (s : Sort). arrays_text (sort_text c.args.scope.now c.get.result.now) (sort_text c.args.scope.now s)) (sym c.get-in-Array.ensures) in
    on_err c.push-in-Array.result (new ≡ c.write_sort-in-Array.new.out) (IsCut old (sort_text c.args.scope.now c.args.sort.now) new) c.push-in-Array.ensures.err
    (λ h. subst (λ (t : List ℕ). IsCut old t new) (sym same)
    (cut_behind old (codes "(Array ") (k ++ (codes " " ++ (v ++ (41 ∷ [])))) c.append-in-Array.new.self new c.in_ok-append-in-Array.ensures.ok
    (cut_behind c.append-in-Array.new.self k (codes " " ++ (v ++ (41 ∷ []))) c.write_sort.new.out new c.in_ok-write_sort-in-Array.ensures.ok
    (cut_behind c.write_sort.new.out (codes " ") (v ++ (41 ∷ [])) c.push.new.self new c.in_ok-push-in-Array.ensures.ok
    (cut_here c.push.new.self v (41 ∷ []) new (h ∙ c.in_ok-write_sort-in-Array-2.ensures.ok))))))

pub returns-in_ok-write_sort-in-Array-2-clause-ok : goal.returns-in_ok-write_sort-in-Array-2-clause-ok
returns-in_ok-write_sort-in-Array-2-clause-ok t c =
    let old = c.args.out.now in
    let new = c.push-in-Array.new.self in
    let k = sort_text c.args.scope.now c.get.result.now in
    let v = sort_text c.args.scope.now c.get-in-Array.result.now in
    let same : sort_text c.args.scope.now c.args.sort.now ≡ arrays_text k v =
    ap (sort_text c.args.scope.now) c.in-Array.is ∙ array_text c.args.scope.now c.in-Array.keys c.in-Array.entries ∙ ap (λ (s : Sort). arrays_text (sort_text c.args.scope.now s) (sort_text c.args.scope.now c.in-Array.entries)) (sym c.get.ensures) ∙ ap (λ (s : Sort). arrays_text (sort_text c.args.scope.now c.get.result.now) (sort_text c.args.scope.now s)) (sym c.get-in-Array.ensures) in
    ok_text c.push-in-Array.result old (arrays_text k v) (sort_text c.args.scope.now c.args.sort.now) new (sym same)
    (written c.push-in-Array.result old k v c.append-in-Array.new.self c.write_sort.new.out c.push.new.self c.write_sort-in-Array.new.out new c.in_ok-append-in-Array.ensures.ok c.in_ok-write_sort-in-Array.ensures.ok c.in_ok-push-in-Array.ensures.ok
    c.in_ok-write_sort-in-Array-2.ensures.ok c.push-in-Array.ensures.ok)

pub returns-in-Named-clause-ok : goal.returns-in-Named-clause-ok
returns-in-Named-clause-ok t c =
    ok_text c.write_symbol.result c.args.out.now (written_symbol c.sort_name.result.now) (sort_text c.args.scope.now c.args.sort.now) c.write_symbol.new.out
    (named_text c.args.scope.now c.in-Named.k c.sort_name.result.now c.sort_name.ensures ∙ sym (ap (sort_text c.args.scope.now) c.in-Named.is)) c.write_symbol.ensures.ok

pub returns-in-Named-clause-err : goal.returns-in-Named-clause-err
returns-in-Named-clause-err t c =
    err_text c.write_symbol.result c.args.out.now (written_symbol c.sort_name.result.now) (sort_text c.args.scope.now c.args.sort.now) c.write_symbol.new.out
    (named_text c.args.scope.now c.in-Named.k c.sort_name.result.now c.sort_name.ensures ∙ sym (ap (sort_text c.args.scope.now) c.in-Named.is)) c.write_symbol.ensures.err
