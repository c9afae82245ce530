use Rattle.std.proofs.Common.{◌+◌, [], length, drop, sym, ◌∙◌, refl, arith}
use Rattle.std.proofs.lemmas.List.Elements.{All-nil, All-push}
use Rattle.std.proofs.lemmas.Option.{slice_get_read}
use Rattle.std.proofs.lemmas.Result.{err_from_is_err_and}
use Rattle.rare_sexpr.specs.Tree.{items_of}
use Rattle.rare_scope.specs.Names.{names_of}
use Rattle.rare_term_text.proofs.Naming.{are_kept}
use Rattle.rare_inst.specs.Answers.{IsGiven}
use Rattle.rare_inst.specs.Arguments.{arguments_of}
use Rattle.rare_proof.proofs.Growing.{are_given, grows_on, grows_not}
use Rattle.rare_proof_text.specs.ArgumentText.{arguments_from}
use Rattle.rare_proof_text.proofs.Turns.{argument_stops, argument_turn, last_argument}
use Rattle.rare_proof_text.proofs.arguments.read_arguments.Goals as goal

pub loop-k-init : goal.loop-k-init
loop-k-init g c =
    let s = g.T.Terms.state c.args.terms.now in
    rw c.new-args.ensures (record {
      given = All-nil (IsGiven s);
      grows = grows_not s;
      are = c.requires.names;
      rest = refl;
    })

pub returns-in_err-arg-clause-read : goal.returns-in_err-arg-clause-read
returns-in_err-arg-clause-read g c =
    let old = g.T.Terms.state c.args.terms.now in
    let now = g.T.Terms.state c.loop-k.terms in
    let i = c.loop-k.invariant in
    let k = c.loop-k.k in
    let ps = c.args.params.now in
    let xs = items_of (g.E.Expr.tree c.args.e.now) in
    let whole = arguments_from old.declared (names_of old.trees c.args.scope.now) [] ps (drop 1 xs) in
    let p = err_from_is_err_and c.from_residual.result c.from_residual.ensures.1 in
    rw (p.1, p.2) (argument_stops old now c.args.scope.now i.grows c.requires.names c.in_err-arg.field-0.0 ps xs c.index-params-k.result (g.E.Expr.tree c.item.result.now) (arguments_of now.trees c.loop-k.args) whole k (k + 1)
    (slice_get_read ps (length ps) k c.index-params-k.result refl c.loop-k-test.true c.index-params-k.is) c.item.ensures c.in_err-arg.ensures.read i.rest)

pub loop-k-preserved : goal.loop-k-preserved
loop-k-preserved g c =
    let old = g.T.Terms.state c.args.terms.now in
    let now = g.T.Terms.state c.loop-k.terms in
    let next = g.T.Terms.state c.read_argument.new.terms in
    let i = c.loop-k.invariant in
    let got = c.in_ok-arg.ensures in
    let k = c.loop-k.k in
    let ps = c.args.params.now in
    let xs = items_of (g.E.Expr.tree c.args.e.now) in
    let whole = arguments_from old.declared (names_of old.trees c.args.scope.now) [] ps (drop 1 xs) in
    rw c.in-Ok.ensures.ok (record {
      given = All-push (IsGiven next) c.loop-k.args c.in_ok-arg.arg (are_given now next got.grows c.loop-k.args i.given) got.given;
      grows = grows_on old now next i.grows got.grows;
      are = are_kept now next c.args.scope.now got.grows i.are;
      rest = argument_turn old now c.args.scope.now i.grows c.requires.names next ps xs c.index-params-k.result (g.E.Expr.tree c.item.result.now) c.loop-k.args c.in_ok-arg.arg whole k (k + 1) got.grows i.given
          (slice_get_read ps (length ps) k c.index-params-k.result refl c.loop-k-test.true c.index-params-k.is) c.item.ensures got.read i.rest;
    })

pub returns-clause-read : goal.returns-clause-read
returns-clause-read g c =
    let old = g.T.Terms.state c.args.terms.now in
    let now = g.T.Terms.state c.loop-k.terms in
    let xs = items_of (g.E.Expr.tree c.args.e.now) in
    sym c.loop-k.invariant.rest
    ∙ last_argument old.declared (names_of old.trees c.args.scope.now) (arguments_of now.trees c.loop-k.args) c.args.params.now (drop (c.loop-k.k + 1) xs) c.loop-k.k (omega (arith, c.loop-k-test.false))
