use Rattle.std.proofs.Common.{◌≡◌, map, drop}
use Rattle.rare_term_printing.specs.OperatorTexts.{is_use_of, word_with}
use Rattle.rare_term_printing.proofs.words.word_in.Given as goal

abbrev pub invariant-loop-word : goal.invariant-loop-word
invariant-loop-word l = word_with (is_use_of l.head) (map (λ w. (w.0.now, w.1)) (drop l.word-index l.table)) ≡ word_with (is_use_of l.head) (map (λ w. (w.0.now, w.1)) l.table)
