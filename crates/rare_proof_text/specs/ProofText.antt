-- The proof that a text gives, over the declarations and the names of a problem (the form of commands is after the proof format
-- Alethe). Commands come in order, their forms are read from the left, and the first fault is the answer.
use Rattle.std.specs.Prelude.{ℕ, nat_eq, Bool, false, List, [], ◌∷◌, ◌++◌, codes, Option, Some, None, Ok, Err, if◌then◌else◌}
use Rattle.rare_base.specs.Answers.{Refusal}
use Rattle.rare_base.specs.declared.answers.Reason.TheVariants as reason
use Rattle.rare_sexpr.specs.Readings.{commands_of}
use Rattle.rare_sexpr.specs.declared.tree.Sexpr.{Sexpr}
use Rattle.rare_sexpr.specs.Tree.{items_of, kind_of, text_of}
use Rattle.rare_sort.specs.declared.declarations.Declarations.{Declarations}
use Rattle.rare_sort.specs.declared.tree.Tree.{Tree}
use Rattle.rare_scope.specs.Entries.{entry}
use Rattle.rare_scope.specs.Names.{Names}
use Rattle.rare_scope.specs.Reading.{Read, refused, go_on, is_keyword_word, is_list_kind, is_symbol_kind, is_word, symbol_at}
use Rattle.rare_scope.specs.Reserved.{is_reserved}
use Rattle.rare_term_text.specs.TermText.{term_at}
use Rattle.rare_text.specs.ProblemText.{defined_term, sides_of_one_sort}
use Rattle.rare_text.specs.CommandParts.{is_taken}
use Rattle.rare_text.specs.Problems.{StatedProblem}
use Rattle.rare_rule.specs.Books.{BookRule}
use Rattle.rare_proof.specs.Steps.{StatedRule, Refl, Cong, Trans, Evaluate, equation}
use Rattle.rare_proof_text.specs.declared.words.ProofWord.{ProofWord}
use Rattle.rare_proof_text.specs.declared.words.ProofWord.TheVariants as word
use Rattle.rare_proof_text.specs.declared.words.RuleWord.{RuleWord}
use Rattle.rare_proof_text.specs.declared.words.RuleWord.TheVariants as rule
use Rattle.rare_proof_text.specs.ArgumentText.{NamedRule, instance_at}
use Rattle.rare_proof_text.specs.ProofCommands.{Conclude, Define, ProofCommand, Step, names_behind}

-- ---- `(define-fun @K () S t)`

abbrev pub begins_at_sign : List ℕ → Bool
begins_at_sign [] = false
begins_at_sign (b ∷ bs) = nat_eq b 64

-- a new name that begins with @
abbrev pub free_definition_name : Names → Sexpr → List ℕ → Read (List ℕ)
free_definition_name names e name =
    if is_taken names name then refused e reason.DeclaredTwice
    else if begins_at_sign name then Ok name
    else if is_reserved name then refused e reason.ReservedSymbol
    else refused e reason.BadForm

abbrev pub definition_name : Names → Sexpr → Read (List ℕ)
definition_name names e = go_on (symbol_at e) (λ name. free_definition_name names e name)

abbrev pub definition_command : Declarations → Names → Sexpr → Sexpr → Sexpr → Sexpr → Read ProofCommand
definition_command d names n l s t =
    go_on (definition_name names n) (λ name. go_on (defined_term d names l s t) (λ tree. Ok (Define name tree)))

-- ---- `(step ID (cl (= a b)) :rule R [:premises (ID ..)] [:args (A ..)])`

-- `(= a b)`, two terms
abbrev pub equation_by : Declarations → Names → Sexpr → List Sexpr → Read (Tree × Tree)
equation_by d names e (q ∷ a ∷ b ∷ []) =
    if is_word (codes "=") q then go_on (term_at d names a) (λ s. go_on (term_at d names b) (λ t. Ok (s, t))) else refused q reason.BadForm
equation_by d names e items = refused e reason.BadForm

-- `(cl (= a b))`
abbrev pub clause_by : Declarations → Names → Sexpr → List Sexpr → Read (Tree × Tree)
clause_by d names e (c ∷ q ∷ []) = if is_word (codes "cl") c then equation_by d names q (items_of q) else refused c reason.BadForm
clause_by d names e items = refused e reason.BadForm

abbrev pub rule_words : List (List ℕ × RuleWord)
rule_words =
    (codes "refl", rule.Refl) ∷ (codes "cong", rule.Cong) ∷ (codes "trans", rule.Trans) ∷ (codes "evaluate", rule.Evaluate)
    ∷ (codes "rare_rewrite", rule.RareRewrite) ∷ []

abbrev pub rule_or : Sexpr → Option RuleWord → Read RuleWord
rule_or e (Some r) = Ok r
rule_or e None = refused e reason.UnknownRule

abbrev pub rule_at : Sexpr → Read RuleWord
rule_at e = if is_symbol_kind (kind_of e) then rule_or e (entry rule_words (text_of e)) else refused e reason.BadForm

-- `:rule R`
abbrev pub rule_behind : Sexpr → Sexpr → Read RuleWord
rule_behind k r = if is_keyword_word (codes "rule") k then rule_at r else refused k reason.BadForm

abbrev pub ids_from : List (List ℕ) → List Sexpr → Read (List (List ℕ))
ids_from ids [] = Ok ids
ids_from ids (x ∷ xs) = go_on (symbol_at x) (λ id. ids_from (ids ++ id ∷ []) xs)

-- a list of ids
abbrev pub ids_at : Sexpr → Read (List (List ℕ))
ids_at e = if is_list_kind (kind_of e) then ids_from [] (items_of e) else refused e reason.BadForm

-- nothing may follow the last part
abbrev pub unless_more : {A : Type 0} → A → List Sexpr → Read A
unless_more x [] = Ok x
unless_more x (e ∷ es) = refused e reason.BadForm

-- the premises, where they stand, and nothing more
abbrev pub premises_by : List Sexpr → Read (List (List ℕ))
premises_by (k ∷ ids ∷ more) =
    if is_keyword_word (codes "premises") k then go_on (ids_at ids) (λ is. unless_more is more) else refused k reason.BadForm
premises_by items = Ok []

-- what stands behind the word of a rule
pub record StepEnd : Type 0 where
  pub rule : NamedRule
  pub premises : List (List ℕ)

abbrev pub step_end : NamedRule → List (List ℕ) → StepEnd
step_end r ids = record { rule = r; premises = ids }

-- a rule without arguments
abbrev pub plain_end : StatedRule → List Sexpr → Read StepEnd
plain_end r more = go_on (premises_by more) (λ ids. Ok (step_end (Ok r) ids))

-- the sides, which have one sort
abbrev pub sides_at : Declarations → Names → Sexpr → Sexpr → Read (Tree × Tree)
sides_at d names e c = go_on (clause_by d names c (items_of c)) (λ sides. sides_of_one_sort d e sides.0 sides.1)

module _ (d : Declarations) (names : Names) (book : List BookRule) where
  -- `:args ("NAME" A ..)`, which a rule of the book needs, and nothing more
  abbrev pub args_by : Sexpr → List Sexpr → Read NamedRule
  args_by e (k ∷ a ∷ more) =
      if is_keyword_word (codes "args") k then go_on (instance_at d names book a) (λ r. unless_more r more) else refused k reason.BadForm
  args_by e items = refused e reason.BadForm

  -- `[:premises (ID ..)] :args (..)`
  abbrev pub instance_end : Sexpr → List Sexpr → Read StepEnd
  instance_end e (k ∷ ids ∷ more) =
      if is_keyword_word (codes "premises") k
      then go_on (ids_at ids) (λ is. go_on (args_by e more) (λ r. Ok (step_end r is)))
      else go_on (args_by e (k ∷ ids ∷ more)) (λ r. Ok (step_end r []))
  instance_end e items = refused e reason.BadForm

  abbrev pub end_by : Sexpr → List Sexpr → RuleWord → Read StepEnd
  end_by e more rule.Refl = plain_end Refl more
  end_by e more rule.Cong = plain_end Cong more
  end_by e more rule.Trans = plain_end Trans more
  end_by e more rule.Evaluate = plain_end Evaluate more
  end_by e more rule.RareRewrite = instance_end e more

  abbrev pub step_command : Sexpr → Sexpr → Sexpr → Sexpr → Sexpr → List Sexpr → Read ProofCommand
  step_command e i c k r more =
      go_on (symbol_at i) (λ id. go_on (sides_at d names e c) (λ sides. go_on (rule_behind k r) (λ word. go_on (end_by e more word) (λ x.
      Ok (Step (record { id = id; concluded = equation sides.0 sides.1; rule = x.rule; premises = x.premises }))))))

-- ---- `(conclude NAME ID)`

abbrev pub conclusion_command : Sexpr → Sexpr → Read ProofCommand
conclusion_command n i = go_on (symbol_at n) (λ name. go_on (symbol_at i) (λ id. Ok (Conclude name id)))

-- ---- commands

abbrev pub proof_words : List (List ℕ × ProofWord)
proof_words = (codes "define-fun", word.DefineFun) ∷ (codes "step", word.Step) ∷ (codes "conclude", word.Conclude) ∷ []

-- a command by its word and the items behind it; with another number of items it is refused before they are read: a step has 4, with
-- premises or arguments 6, with both 8
module _ (d : Declarations) (names : Names) (book : List BookRule) where
  abbrev pub proof_command_by : Sexpr → ProofWord → List Sexpr → Read ProofCommand
  proof_command_by e word.DefineFun (n ∷ l ∷ s ∷ t ∷ []) = definition_command d names n l s t
  proof_command_by e word.Step (i ∷ c ∷ k ∷ r ∷ []) = step_command d names book e i c k r []
  proof_command_by e word.Step (i ∷ c ∷ k ∷ r ∷ p ∷ ps ∷ []) = step_command d names book e i c k r (p ∷ ps ∷ [])
  proof_command_by e word.Step (i ∷ c ∷ k ∷ r ∷ p ∷ ps ∷ a ∷ args ∷ []) = step_command d names book e i c k r (p ∷ ps ∷ a ∷ args ∷ [])
  proof_command_by e word.Conclude (n ∷ i ∷ []) = conclusion_command n i
  proof_command_by e w items = refused e reason.BadForm

  abbrev pub proof_command_or : Sexpr → List Sexpr → Option ProofWord → Read ProofCommand
  proof_command_or e items (Some w) = proof_command_by e w items
  proof_command_or e items None = refused e reason.UnknownCommand

  abbrev pub proof_command_of : Sexpr → List Sexpr → Read ProofCommand
  proof_command_of e [] = refused e reason.BadForm
  proof_command_of e (h ∷ items) =
      if is_symbol_kind (kind_of h) then proof_command_or e items (entry proof_words (text_of h)) else refused e reason.BadForm

-- the command of a proof that an expression spells, or its first fault; rules of a book are found by their names
unfoldable pub proof_command : Declarations → Names → List BookRule → Sexpr → Read ProofCommand
proof_command d names book e = proof_command_of d names book e (items_of e)

-- the commands of a proof, behind which a fault may stand; or the first fault
abbrev pub proof_from : Declarations → Names → List BookRule → List Sexpr → Option Refusal → Read (List ProofCommand)
proof_from d names book [] None = Ok []
proof_from d names book [] (Some fault) = Err fault
proof_from d names book (e ∷ es) fault =
    go_on (proof_command d names book e) (λ c. go_on (proof_from d (names_behind names c) book es fault) (λ cs. Ok (c ∷ cs)))

-- the proof of a whole text for this problem by the rules of a book, or its first fault
abbrev pub proof_of : StatedProblem → List BookRule → List ℕ → Read (List ProofCommand)
proof_of p book bytes = proof_from p.declared p.names book (commands_of bytes).list (commands_of bytes).fault
