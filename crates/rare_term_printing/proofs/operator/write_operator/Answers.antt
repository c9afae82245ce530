use Rattle.std.proofs.Common.{◌<◌, ◌∙◌, [], length, sym, ap, subst, arith}
use Rattle.std.proofs.lemmas.Option.{get_or_from_slice_get}
use Rattle.rare_sexpr.specs.Written.{written_symbol}
use Rattle.rare_scope.specs.Names.{symbol_names}
use Rattle.rare_sort.specs.DeclaredSorts.{IsSymbol}
use Rattle.rare_sort.specs.Families.{family}
use Rattle.rare_sort.specs.Ids.{tree_at}
use Rattle.rare_sort.specs.Trees.{head_of, indices_of}
use Rattle.rare_sort.specs.declared.head.Head.{Head}
use Rattle.rare_term_printing.specs.OperatorTexts.{operator_text}
use Rattle.rare_term_printing.proofs.Texts.{ok_text, err_text}
use Rattle.rare_term_printing.proofs.operator.write_operator.Goals as goal

pub symbol_name-requires : goal.symbol_name-requires
symbol_name-requires g c =
    let s = g.T.Terms.state c.args.terms.now in
    let kept = (g.met.T.Terms.lawful c.args.terms.now).terms c.args.id.0 c.requires.id in
    let below : c.in-Free.k < length s.declared.symbols = subst (λ (h : Head). IsSymbol (length s.declared.symbols) (family h)) (sym c.head.ensures ∙ c.in-Free.is) kept.symbol in
    omega (arith, below, c.requires.symbols)

pub returns-in-Free-clause-ok : goal.returns-in-Free-clause-ok
returns-in-Free-clause-ok g c =
    let held = c.args.scope.now in
    let t = tree_at (g.T.Terms.state c.args.terms.now).trees c.args.id.0 in
    ok_text c.write_symbol.result c.args.out.now (written_symbol c.symbol_name.result.now) (operator_text held (head_of t) (indices_of t)) c.write_symbol.new.out
    (ap written_symbol (sym (get_or_from_slice_get (symbol_names held) c.in-Free.k c.symbol_name.result.now [] c.symbol_name.ensures)) ∙ sym (ap (λ (h : Head). operator_text held h (indices_of t)) (sym c.head.ensures ∙ c.in-Free.is)))
    c.write_symbol.ensures.ok

pub returns-in-Free-clause-err : goal.returns-in-Free-clause-err
returns-in-Free-clause-err g c =
    let held = c.args.scope.now in
    let t = tree_at (g.T.Terms.state c.args.terms.now).trees c.args.id.0 in
    err_text c.write_symbol.result c.args.out.now (written_symbol c.symbol_name.result.now) (operator_text held (head_of t) (indices_of t)) c.write_symbol.new.out
    (ap written_symbol (sym (get_or_from_slice_get (symbol_names held) c.in-Free.k c.symbol_name.result.now [] c.symbol_name.ensures)) ∙ sym (ap (λ (h : Head). operator_text held h (indices_of t)) (sym c.head.ensures ∙ c.in-Free.is)))
    c.write_symbol.ensures.err
