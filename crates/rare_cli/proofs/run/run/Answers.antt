use Rattle.rare_cli.proofs.Clauses.{says, clause_no_form, clause_told, not_rose}
use Rattle.rare_cli.proofs.run.run.Goals as goal

pub returns-clause-says : goal.returns-clause-says
returns-clause-says g c = let r = c.run_all.ensures.ran in says _ _ _ r.0 _ r.1 r.2

pub returns-clause-bad_words : goal.returns-clause-bad_words
returns-clause-bad_words g c none same = let r = c.run_all.ensures.ran in clause_no_form _ _ _ r.0 _ r.1 r.2 c.requires.out none same

pub returns-clause-told : goal.returns-clause-told
returns-clause-told g c form t is_form told still same mem =
    let r = c.run_all.ensures.ran in
    clause_told _ _ _ r.0 _ r.1 r.2 form t is_form told (λ w. not_rose _ _ (c.requires.files w) (still w)) (not_rose _ _ c.requires.out same) mem
