use Rattle.rare_term_text.proofs.tests.+show_term.Given as goal

abbrev pub decreases-show_term : goal.decreases-show_term
decreases-show_term g l = l.left
