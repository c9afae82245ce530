-- The reads of a file of rules, if one is named, and those of the files behind it.
use Rattle.std.proofs.Common.{ℕ, List, [], ◌∷◌, ◌++◌, Option, Some, None, subst}
use Rattle.rare_base.specs.Reads.{Read, InTurn, ReadInTurn}
use Rattle.rare_base.proofs.ReadsLemmas.{one_in_turn, then_in_turn}
use Rattle.rare_cli.specs.WordForms.{rules_files}
use Rattle.rare_cli.specs.inner.Prepared.{AreReadTo}

no_reads : (names : List (List ℕ)) (reads : List Read) → InTurn [] 0 reads → InTurn names 0 reads
no_reads names [] h = tt
no_reads names (r ∷ reads) h = absurd h

pub rules_in_turn : (before after : Option (List Read)) (rules : Option (List ℕ)) (more : List (List ℕ)) → ReadInTurn before after (rules_files rules) → ReadInTurn before after (rules_files rules ++ more)
rules_in_turn before after None more h = record { reads = h.reads; told = h.told; turn = no_reads more h.reads h.turn }
rules_in_turn before after (Some name) more h = one_in_turn before after name more h

pub then_behind_rules : (before between after : Option (List Read)) (rules : Option (List ℕ)) (more : List (List ℕ)) → AreReadTo before between rules → ReadInTurn between after more →
    ReadInTurn before after (rules_files rules ++ more)
then_behind_rules before between after None more same h = subst (λ (b : Option (List Read)). ReadInTurn b after more) same h
then_behind_rules before between after (Some name) more end h = then_in_turn before between after name more end h
