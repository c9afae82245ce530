use Rattle.std.proofs.Common.{◌≡◌, map, drop}
use Rattle.rare_sort.specs.Sameness.{head_eq}
use Rattle.rare_term_printing.specs.OperatorTexts.{word_with}
use Rattle.rare_term_printing.proofs.words.indexed_word_in.Given as goal

abbrev pub invariant-loop-word : goal.invariant-loop-word
invariant-loop-word l = word_with (λ i. head_eq l.head i.head) (map (λ w. (w.0.now, w.1)) (drop l.word-index l.table)) ≡ word_with (λ i. head_eq l.head i.head) (map (λ w. (w.0.now, w.1)) l.table)
