use Rattle.std.proofs.Common.{rules, ◌≡◌, ◌<◌, ◌-◌, ◌++◌, [], ℕ, List, length, drop, Ok, true, false, ap, sym, ◌∙◌, subst, arith, refl}
use Rattle.std.proofs.lemmas.List.Elements.{All-nil}
use Rattle.std.proofs.lemmas.Result.{err_from_is_err_and}
use Rattle.rare_sexpr.specs.Tree.{items_of, kind_of}
use Rattle.rare_sexpr.proofs.Counting.{depth_falls}
use Rattle.rare_sort.specs.Ids.{tree_at, trees_at}
use Rattle.rare_sort.specs.declared.tree.Tree.{Tree}
use Rattle.rare_sort.specs.declared.tree.TermId.{TermId}
use Rattle.rare_scope.specs.Answers.{Fails}
use Rattle.rare_scope.specs.LinearText.{widths_of}
use Rattle.rare_scope.specs.declared.meaning.Meaning.{Meaning}
use Rattle.rare_scope.specs.Names.{Held, a_term, names_of, IsMeant, AreMeant}
use Rattle.rare_scope.specs.Reading.{Read, is_list_kind}
use Rattle.rare_scope.proofs.InOrder.{fails_on, goes_on}
use Rattle.rare_operators.specs.AtomText.{atom_at}
use Rattle.rare_operators.specs.HeadText.{head_at}
use Rattle.rare_operators.specs.LiteralText.{linear_literal}
use Rattle.rare_operators.specs.TermAnswers.{AnswersTerm}
use Rattle.rare_term_text.specs.TermText.{term_at, application_of, arguments_from, begins_literal, roles_at}
use Rattle.rare_term_text.specs.inner.Parts.{all_names, with_roles}
use Rattle.rare_term_text.proofs.Naming.{are_kept, are_over, are_more, grows_on, grows_not, ids_more}
use Rattle.rare_term_text.proofs.TermSteps.{atom_read, empty_read, let_read, indexed_read, literal_read, application_read, operator_read, turn, stops, binding_bad, name_fails, named_read, bindings_empty, bindings_begin, binds, binding_stops, let_stops, bound_read, let_body}
use Rattle.rare_term_text.proofs.term.+read_terms.Goals as goal

-- ---- the forms of a term

pub read-returns-then-not-is_list-clause-read : goal.read-returns-then-not-is_list-clause-read
read-returns-then-not-is_list-clause-read g t c =
    let s = g.T.Terms.state c.args.terms.now in
    let e = g.E.Expr.tree c.args.e.now in
    let P : Read Tree → Type 0 = λ r. AnswersTerm (g.T.Terms.state c.read_atom.new.terms).trees c.read_atom.result r in
    let is : is_list_kind (kind_of e) ≡ false = sym c.is_list.ensures ∙ c.if-not-is_list.true in
    subst P (sym (atom_read s.declared (all_names s c.args.scope.now c.args.bound.now) e is))
    (subst (λ (held : Held). P (atom_at s.declared (names_of s.trees held) e)) c.new.ensures c.read_atom.ensures.read)

pub read-returns-then-len-eq0-clause-read : goal.read-returns-then-len-eq0-clause-read
read-returns-then-len-eq0-clause-read g t c =
    let s = g.T.Terms.state c.args.terms.now in
    let e = g.E.Expr.tree c.args.e.now in
    let is : is_list_kind (kind_of e) ≡ true = sym c.is_list.ensures ∙ c.if-not-is_list.false in
    rw c.refusal_at.ensures (empty_read s.declared (all_names s c.args.scope.now c.args.bound.now) e is (omega (arith, c.len.ensures, c.if-len-eq0.true)))

pub read-returns-then-is_word_at-clause-read : goal.read-returns-then-is_word_at-clause-read
read-returns-then-is_word_at-clause-read g t c =
    let s = g.T.Terms.state c.args.terms.now in
    let e = g.E.Expr.tree c.args.e.now in
    let h = g.E.Expr.tree c.item-head.result.now in
    let P : Read Tree → Type 0 = λ r. AnswersTerm (g.T.Terms.state c.read_let.new.terms).trees c.read_let.result r in
    let is : is_list_kind (kind_of e) ≡ true = sym c.is_list.ensures ∙ c.if-not-is_list.false in
    subst P (sym (let_read s.declared (all_names s c.args.scope.now c.args.bound.now) e h is c.item-head.ensures (sym c.is_word_at.ensures ∙ c.if-is_word_at.true))) c.read_let.ensures.read

pub read-returns-then-is_word_at-2-clause-read : goal.read-returns-then-is_word_at-2-clause-read
read-returns-then-is_word_at-2-clause-read g t c =
    let s = g.T.Terms.state c.args.terms.now in
    let e = g.E.Expr.tree c.args.e.now in
    let h = g.E.Expr.tree c.item-head.result.now in
    let P : Read Tree → Type 0 = λ r. AnswersTerm (g.T.Terms.state c.read_decimal_literal.new.terms).trees c.read_decimal_literal.result r in
    let is : is_list_kind (kind_of e) ≡ true = sym c.is_list.ensures ∙ c.if-not-is_list.false in
    subst P (sym (indexed_read s.declared (all_names s c.args.scope.now c.args.bound.now) e h is c.item-head.ensures (sym c.is_word_at.ensures ∙ c.if-is_word_at.false) (sym c.is_word_at-2.ensures ∙ c.if-is_word_at-2.true)))
    c.read_decimal_literal.ensures.read

pub read-returns-then-is_literal_word-clause-read : goal.read-returns-then-is_literal_word-clause-read
read-returns-then-is_literal_word-clause-read g t c =
    let s = g.T.Terms.state c.args.terms.now in
    let e = g.E.Expr.tree c.args.e.now in
    let h = g.E.Expr.tree c.item-head.result.now in
    let P : Read Tree → Type 0 = λ r. AnswersTerm (g.T.Terms.state c.read_linear_literal.new.terms).trees c.read_linear_literal.result r in
    let is : is_list_kind (kind_of e) ≡ true = sym c.is_list.ensures ∙ c.if-not-is_list.false in
    let begins = ap (λ (held : Held). begins_literal (names_of s.trees held) h) (sym c.new-names.ensures) ∙ sym (c.is_literal_word.ensures s.trees) ∙ c.if-is_literal_word.true in
    subst P (sym (literal_read s.declared (all_names s c.args.scope.now c.args.bound.now) e h is c.item-head.ensures (sym c.is_word_at.ensures ∙ c.if-is_word_at.false) (sym c.is_word_at-2.ensures ∙ c.if-is_word_at-2.false) begins))
    (subst (λ (held : Held). P (linear_literal s.declared (widths_of (names_of s.trees held)) e (items_of e))) c.new-names.ensures c.read_linear_literal.ensures.read)

pub read-returns-clause-read : goal.read-returns-clause-read
read-returns-clause-read g t c =
    let s = g.T.Terms.state c.args.terms.now in
    let e = g.E.Expr.tree c.args.e.now in
    let h = g.E.Expr.tree c.item-head.result.now in
    let P : Read Tree → Type 0 = λ r. AnswersTerm (g.T.Terms.state c.read_application.new.terms).trees c.read_application.result r in
    let is : is_list_kind (kind_of e) ≡ true = sym c.is_list.ensures ∙ c.if-not-is_list.false in
    let begins = ap (λ (held : Held). begins_literal (names_of s.trees held) h) (sym c.new-names.ensures) ∙ sym (c.is_literal_word.ensures s.trees) ∙ c.if-is_literal_word.false in
    subst P (sym (application_read s.declared (all_names s c.args.scope.now c.args.bound.now) e h is c.item-head.ensures (sym c.is_word_at.ensures ∙ c.if-is_word_at.false) (sym c.is_word_at-2.ensures ∙ c.if-is_word_at-2.false) begins))
    c.read_application.ensures.read

-- ---- applications

pub read_application-returns-in_err-operator-clause-read : goal.read_application-returns-in_err-operator-clause-read
read_application-returns-in_err-operator-clause-read g t c =
    let s = g.T.Terms.state c.args.terms.now in
    let e = g.E.Expr.tree c.args.e.now in
    let h = g.E.Expr.tree c.args.head.now in
    let names = all_names s c.args.scope.now c.args.bound.now in
    let rest = with_roles s.declared (drop 1 (items_of e)) in
    let p = err_from_is_err_and c.from_residual.result c.from_residual.ensures.1 in
    rw (p.1, p.2) (fails_on c.in_err-operator.field-0.0 (head_at s.declared names e h (c.len.result - 1)) (λ o. arguments_from s.declared names e o [] rest) (application_of s.declared names e h rest)
    (operator_read s.declared names e h c.len.result c.len.ensures)
    (subst (λ (held : Held). Fails c.in_err-operator.field-0.0 (head_at s.declared (names_of s.trees held) e h (c.len.result - 1))) c.new.ensures c.in_err-operator.ensures.read))

pub read_application-loop-k-init : goal.read_application-loop-k-init
read_application-loop-k-init g t c =
    let s = g.T.Terms.state c.args.terms.now in
    let now = g.T.Terms.state c.read_head.new.terms in
    let e = g.E.Expr.tree c.args.e.now in
    let h = g.E.Expr.tree c.args.head.now in
    let names = all_names s c.args.scope.now c.args.bound.now in
    let rest = with_roles s.declared (drop 1 (items_of e)) in
    rw c.new-ids.ensures (record {
      ids = All-nil (λ (id : TermId). id.0 < length now.trees);
      grows = c.in_ok-operator.ensures.grows;
      bound = refl;
      are = are_kept s now (c.args.scope.now ++ c.args.bound.now) c.in_ok-operator.ensures.grows c.requires.names;
      rest = sym (goes_on (head_at s.declared names e h (c.len.result - 1)) c.in_ok-operator.operator (λ o. arguments_from s.declared names e o [] rest) (application_of s.declared names e h rest)
          (operator_read s.declared names e h c.len.result c.len.ensures)
          (ap (λ (held : Held). head_at s.declared (names_of s.trees held) e h (c.len.result - 1)) (sym c.new.ensures) ∙ c.in_ok-operator.ensures.read));
    })

pub read_application-read-requires : goal.read_application-read-requires
read_application-read-requires g t c κs within =
    let now = c.decreases in
    let less = depth_falls (g.E.Expr.tree c.args.e.now) _ (g.E.Expr.tree c.item.result.now) c.item.ensures in
    (omega (arith, less, now), (search rules, (search rules, c.loop-k.invariant.are)))

pub read_application-returns-in_err-id-clause-read : goal.read_application-returns-in_err-id-clause-read
read_application-returns-in_err-id-clause-read g t c =
    let old = g.T.Terms.state c.args.terms.now in
    let now = g.T.Terms.state c.loop-k.terms in
    let i = c.loop-k.invariant in
    let e = g.E.Expr.tree c.args.e.now in
    let x = g.E.Expr.tree c.item.result.now in
    let rest = with_roles old.declared (drop 1 (items_of e)) in
    let p = err_from_is_err_and c.from_residual-in_err-id.result c.from_residual-in_err-id.ensures.1 in
    rw (p.1, p.2) (stops old now (c.args.scope.now ++ c.args.bound.now) i.grows c.requires.names c.in_err-id.field-0.0 e x c.in_ok-operator.operator (trees_at now.trees c.loop-k.ids)
    (application_of old.declared (all_names old c.args.scope.now c.args.bound.now) e (g.E.Expr.tree c.args.head.now) rest) c.loop-k.k c.item.ensures
    (subst (λ (held : Held). Fails c.in_err-id.field-0.0 (term_at now.declared (names_of now.trees (c.args.scope.now ++ held)) x)) i.bound c.in_err-id.ensures.read) i.rest)

pub read_application-loop-k-preserved : goal.read_application-loop-k-preserved
read_application-loop-k-preserved g t c =
    let old = g.T.Terms.state c.args.terms.now in
    let now = g.T.Terms.state c.loop-k.terms in
    let next = g.T.Terms.state c.read.new.terms in
    let i = c.loop-k.invariant in
    let got = c.in_ok-id.ensures in
    let e = g.E.Expr.tree c.args.e.now in
    let x = g.E.Expr.tree c.item.result.now in
    let scope = c.args.scope.now in
    let whole = application_of old.declared (all_names old scope c.args.bound.now) e (g.E.Expr.tree c.args.head.now) (with_roles old.declared (drop 1 (items_of e))) in
    rw c.in-Ok.ensures.ok (record {
      ids = ids_more now.trees next.trees c.loop-k.ids c.in_ok-id.id got.grows.trees i.ids got.read.0;
      grows = grows_on old now next i.grows got.grows;
      bound = got.bound ∙ i.bound;
      are = are_kept now next (scope ++ c.read.new.bound) got.grows (subst (λ (held : Held). AreMeant now (scope ++ held)) (sym got.bound) i.are);
      rest = turn old now (scope ++ c.args.bound.now) i.grows c.requires.names next e x c.in_ok-operator.operator c.loop-k.ids c.in_ok-id.id whole c.loop-k.k got.grows i.ids c.item.ensures
          (ap (λ (held : Held). term_at now.declared (names_of now.trees (scope ++ held)) x) (sym i.bound) ∙ got.read.1) i.rest;
    })

-- ---- bindings

pub read_binding-returns-then-len-ne2-clause-read : goal.read_binding-returns-then-len-ne2-clause-read
read_binding-returns-then-len-ne2-clause-read g t c =
    let s = g.T.Terms.state c.args.terms.now in
    rw c.refusal_at.ensures (binding_bad s.declared (all_names s c.args.scope.now c.args.outside.now) (names_of s.trees c.args.bound.now) (g.E.Expr.tree c.args.e.now) (λ two. c.if-len-ne2.true (c.len.ensures ∙ two)))

pub read_binding-returns-in_err-name-clause-read : goal.read_binding-returns-in_err-name-clause-read
read_binding-returns-in_err-name-clause-read g t c =
    let s = g.T.Terms.state c.args.terms.now in
    let e = g.E.Expr.tree c.args.e.now in
    let n = g.E.Expr.tree c.item.result.now in
    let names = all_names s c.args.scope.now c.args.outside.now in
    let bound = names_of s.trees c.args.bound.now in
    let p = err_from_is_err_and c.from_residual.result c.from_residual.ensures.1 in
    let two = sym c.len.ensures ∙ c.if-len-ne2.false in
    rw (p.1, p.2) (name_fails s.declared names bound e n c.in_err-name.field-0.0 two c.item.ensures (c.in_err-name.ensures s.trees))

pub read_binding-returns-in_err-term-clause-read : goal.read_binding-returns-in_err-term-clause-read
read_binding-returns-in_err-term-clause-read g t c =
    let s = g.T.Terms.state c.args.terms.now in
    let e = g.E.Expr.tree c.args.e.now in
    let n = g.E.Expr.tree c.item.result.now in
    let x = g.E.Expr.tree c.item-2.result.now in
    let names = all_names s c.args.scope.now c.args.outside.now in
    let bound = names_of s.trees c.args.bound.now in
    let p = err_from_is_err_and c.from_residual-in_err-term.result c.from_residual-in_err-term.ensures.1 in
    let two = sym c.len.ensures ∙ c.if-len-ne2.false in
    rw (p.1, p.2) (fails_on c.in_err-term.field-0.0 (term_at s.declared names x) (λ t. Ok (c.in_ok-name.name, a_term t)) ((roles_at s.declared e).binding names bound)
    (named_read s.declared names bound e n x c.in_ok-name.name two c.item.ensures c.item-2.ensures (c.in_ok-name.ensures s.trees)) c.in_err-term.ensures.read)

pub read_binding-returns-clause-read : goal.read_binding-returns-clause-read
read_binding-returns-clause-read g t c =
    let s = g.T.Terms.state c.args.terms.now in
    let new = g.T.Terms.state c.read.new.terms in
    let e = g.E.Expr.tree c.args.e.now in
    let n = g.E.Expr.tree c.item.result.now in
    let x = g.E.Expr.tree c.item-2.result.now in
    let names = all_names s c.args.scope.now c.args.outside.now in
    let bound = names_of s.trees c.args.bound.now in
    let two = sym c.len.ensures ∙ c.if-len-ne2.false in
    let got = c.in_ok-term.ensures.read in (
      got.0,
      goes_on (term_at s.declared names x) (tree_at new.trees c.in_ok-term.term.0) (λ t. Ok (c.in_ok-name.name, a_term t)) ((roles_at s.declared e).binding names bound)
          (named_read s.declared names bound e n x c.in_ok-name.name two c.item.ensures c.item-2.ensures (c.in_ok-name.ensures s.trees)) got.1,
    )

pub read_bindings-returns-then-count-eq0-clause-read : goal.read_bindings-returns-then-count-eq0-clause-read
read_bindings-returns-then-count-eq0-clause-read g t c =
    let s = g.T.Terms.state c.args.terms.now in
    rw c.refusal_at.ensures (bindings_empty s.declared (all_names s c.args.scope.now c.args.outside.now) (g.E.Expr.tree c.args.e.now) (omega (arith, c.len-count.ensures, c.if-count-eq0.true)))

pub read_bindings-loop-k-init : goal.read_bindings-loop-k-init
read_bindings-loop-k-init g t c =
    let s = g.T.Terms.state c.args.terms.now in
    let e = g.E.Expr.tree c.args.e.now in
    rw c.new-bound.ensures (record {
      are = All-nil (λ (n : List ℕ × Meaning). IsMeant s n.1);
      grows = grows_not s;
      outside = refl;
      are_outside = c.requires;
      rest = bindings_begin s.declared (all_names s c.args.scope.now c.args.outside.now) e (omega (arith, c.len-count.ensures, c.if-count-eq0.false));
    })

pub read_bindings-returns-in_err-binding-clause-read : goal.read_bindings-returns-in_err-binding-clause-read
read_bindings-returns-in_err-binding-clause-read g t c =
    let old = g.T.Terms.state c.args.terms.now in
    let now = g.T.Terms.state c.loop-k.terms in
    let i = c.loop-k.invariant in
    let e = g.E.Expr.tree c.args.e.now in
    let x = g.E.Expr.tree c.item.result.now in
    let scope = c.args.scope.now in
    let bound = names_of now.trees c.loop-k.bound in
    let whole = (roles_at old.declared e).bindings (all_names old scope c.args.outside.now) in
    let p = err_from_is_err_and c.from_residual.result c.from_residual.ensures.1 in
    rw (p.1, p.2) (binding_stops old now (scope ++ c.args.outside.now) i.grows c.requires c.in_err-binding.field-0.0 e x bound whole c.loop-k.k c.item.ensures
    (subst (λ (held : Held). Fails c.in_err-binding.field-0.0 ((roles_at now.declared x).binding (names_of now.trees (scope ++ held)) bound)) i.outside c.in_err-binding.ensures.read) i.rest)

pub read_bindings-loop-k-preserved : goal.read_bindings-loop-k-preserved
read_bindings-loop-k-preserved g t c =
    let old = g.T.Terms.state c.args.terms.now in
    let now = g.T.Terms.state c.loop-k.terms in
    let next = g.T.Terms.state c.read_binding.new.terms in
    let i = c.loop-k.invariant in
    let got = c.in_ok-binding.ensures in
    let b = c.in_ok-binding.binding in
    let e = g.E.Expr.tree c.args.e.now in
    let x = g.E.Expr.tree c.item.result.now in
    let scope = c.args.scope.now in
    let bound = names_of now.trees c.loop-k.bound in
    let whole = (roles_at old.declared e).bindings (all_names old scope c.args.outside.now) in
    rw c.in-Ok.ensures.ok (record {
      are = are_more now next c.loop-k.bound b.name b.term got.grows i.are got.read.0;
      grows = grows_on old now next i.grows got.grows;
      outside = got.outside ∙ i.outside;
      are_outside = are_kept now next (scope ++ c.read_binding.new.outside) got.grows (subst (λ (held : Held). AreMeant now (scope ++ held)) (sym got.outside) i.are_outside);
      rest = binds old now (scope ++ c.args.outside.now) i.grows c.requires next e x c.loop-k.bound b.name b.term whole c.loop-k.k got.grows i.are c.item.ensures
          (ap (λ (held : Held). (roles_at now.declared x).binding (names_of now.trees (scope ++ held)) bound) (sym i.outside) ∙ got.read.1) i.rest;
    })

-- ---- `let`

pub read_let-returns-in_err-more-clause-read : goal.read_let-returns-in_err-more-clause-read
read_let-returns-in_err-more-clause-read g t c =
    let s = g.T.Terms.state c.args.terms.now in
    let e = g.E.Expr.tree c.args.e.now in
    let b = g.E.Expr.tree c.item.result.now in
    let names = all_names s c.args.scope.now c.args.bound.now in
    let p = err_from_is_err_and c.from_residual.result c.from_residual.ensures.1 in
    let three = sym c.len.ensures ∙ c.if-len-ne3.false in
    rw (p.1, p.2) (let_stops s.declared names e b c.in_err-more.field-0.0 three c.item.ensures c.in_err-more.ensures.read)

pub read_let-read-requires : goal.read_let-read-requires
read_let-read-requires g t c κs within =
    let old = g.T.Terms.state c.args.terms.now in
    let new = g.T.Terms.state c.read_bindings.new.terms in
    let got = c.in_ok-more.ensures in
    let more = c.in_ok-more.more in
    let now = c.decreases in
    let less = depth_falls (g.E.Expr.tree c.args.e.now) 2 (g.E.Expr.tree c.item-2.result.now) c.item-2.ensures in
    let same : c.append.new.self ≡ c.args.bound.now ++ more = c.in-Ok.ensures.ok ∙ ap (λ (held : Held). held ++ more) got.outside in (
      omega (arith, less, now),
      (
        search rules,
        (
          search rules,
          subst (λ (held : Held). AreMeant new (c.args.scope.now ++ held)) (sym same) (are_over old new c.args.scope.now c.args.bound.now more got.grows c.requires got.read.0),
        ),
      ),
    )

pub read_let-returns-in_err-id-clause-read : goal.read_let-returns-in_err-id-clause-read
read_let-returns-in_err-id-clause-read g t c =
    let old = g.T.Terms.state c.args.terms.now in
    let now = g.T.Terms.state c.read_bindings.new.terms in
    let e = g.E.Expr.tree c.args.e.now in
    let b = g.E.Expr.tree c.item.result.now in
    let x = g.E.Expr.tree c.item-2.result.now in
    let got = c.in_ok-more.ensures in
    let more = c.in_ok-more.more in
    let scope = c.args.scope.now in
    let names = all_names old scope c.args.bound.now in
    let same : c.append.new.self ≡ c.args.bound.now ++ more = c.in-Ok.ensures.ok ∙ ap (λ (held : Held). held ++ more) got.outside in
    let three = sym c.len.ensures ∙ c.if-len-ne3.false in
    let P : Read Tree → Type 0 = λ r. Fails c.in_err-id.field-0.0 r in
    let p = err_from_is_err_and c.from_residual-in_err-id.result c.from_residual-in_err-id.ensures.1 in
    rw (p.1, p.2) (subst P (sym (bound_read old.declared names (names_of now.trees more) e b x three c.item.ensures c.item-2.ensures got.read.1))
    (subst P (let_body old now scope c.args.bound.now more c.append.new.self x got.grows c.requires same) c.in_err-id.ensures.read))

pub read_let-returns-clause-read : goal.read_let-returns-clause-read
read_let-returns-clause-read g t c =
    let old = g.T.Terms.state c.args.terms.now in
    let now = g.T.Terms.state c.read_bindings.new.terms in
    let e = g.E.Expr.tree c.args.e.now in
    let b = g.E.Expr.tree c.item.result.now in
    let x = g.E.Expr.tree c.item-2.result.now in
    let got = c.in_ok-more.ensures in
    let more = c.in_ok-more.more in
    let scope = c.args.scope.now in
    let names = all_names old scope c.args.bound.now in
    let same : c.append.new.self ≡ c.args.bound.now ++ more = c.in-Ok.ensures.ok ∙ ap (λ (held : Held). held ++ more) got.outside in
    let three = sym c.len.ensures ∙ c.if-len-ne3.false in
    let id = c.in_ok-id.ensures.read in (
      id.0,
      bound_read old.declared names (names_of now.trees more) e b x three c.item.ensures c.item-2.ensures got.read.1
          ∙ sym (let_body old now scope c.args.bound.now more c.append.new.self x got.grows c.requires same) ∙ id.1,
    )
