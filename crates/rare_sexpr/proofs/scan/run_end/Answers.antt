use Rattle.rare_sexpr.proofs.Scans.{stays_symbol, stays_keyword, stays_numeral, stays_fraction, stays_bars, stays_inside}
use Rattle.rare_sexpr.proofs.scan.run_end.Goals as goal

pub returns-in-Symbol-clause-same : goal.returns-in-Symbol-clause-same
returns-in-Symbol-clause-same c = stays_symbol c.args.word.now c.args.at c.symbol_run.result c.args.part c.in-Symbol.is c.symbol_run.ensures

pub returns-in-Keyword-clause-same : goal.returns-in-Keyword-clause-same
returns-in-Keyword-clause-same c = stays_keyword c.args.word.now c.args.at c.symbol_run-in-Keyword.result c.args.part c.in-Keyword.is c.symbol_run-in-Keyword.ensures

pub returns-in-Numeral-clause-same : goal.returns-in-Numeral-clause-same
returns-in-Numeral-clause-same c = stays_numeral c.args.word.now c.args.at c.digit_run.result c.args.part c.in-Numeral.is c.digit_run.ensures

pub returns-in-Fraction-clause-same : goal.returns-in-Fraction-clause-same
returns-in-Fraction-clause-same c = stays_fraction c.args.word.now c.args.at c.digit_run-in-Fraction.result c.args.part c.in-Fraction.is c.digit_run-in-Fraction.ensures

pub returns-in-Bars-clause-same : goal.returns-in-Bars-clause-same
returns-in-Bars-clause-same c = stays_bars c.args.word.now c.args.at c.bars_run.result c.args.part c.in-Bars.is c.bars_run.ensures

pub returns-in-Inside-clause-same : goal.returns-in-Inside-clause-same
returns-in-Inside-clause-same c = stays_inside c.args.word.now c.args.at c.string_run.result c.args.part c.in-Inside.is c.string_run.ensures
