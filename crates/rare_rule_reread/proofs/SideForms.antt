-- What reads as a term in a rule is neither a keyword nor a list of definitions.
use Rattle.std.proofs.Common.{◌≡◌, ℕ, Bool, true, false, ◌&&◌, List, [], ◌∷◌, map, length, bytes_eq, None, Ok, refl, sym, ap, ◌∙◌}
use Rattle.std.specs.Prelude.{codes, if◌then◌else◌}
use Rattle.std.proofs.lemmas.Slice.Eq.{bytes_eq-Decides}
use Rattle.rare_sexpr.specs.declared.tree.Kind.{Kind}
use Rattle.rare_sexpr.specs.declared.tree.Kind.TheVariants as kind
use Rattle.rare_sexpr.specs.declared.tree.Sexpr.{Sexpr, Atom, List'}
use Rattle.rare_sexpr.specs.Tree.{kind_of, text_of, items_of}
use Rattle.rare_sort.specs.declared.tree.Tree.{Tree}
use Rattle.rare_sort.proofs.NeedsLemmas.{both}
use Rattle.rare_scope.specs.Entries.{entry}
use Rattle.rare_scope.specs.Reading.{go_on, is_keyword_kind, is_keyword_word, is_symbol_kind, is_word}
use Rattle.rare_operators.specs.HeadText.{word_head}
use Rattle.rare_operators.specs.OperatorWords.{operator_of_word, indexed_words}
use Rattle.rare_rule.specs.declared.param.Param.{Param}
use Rattle.rare_parse.specs.RuleTermText.{arguments_from, word_application, application_by, term_by, rule_term_at}
use Rattle.rare_parse.specs.RuleText.{begins_definitions}
use Rattle.rare_reread.proofs.Heads.{if_no}
use Rattle.rare_rule_reread.proofs.Applications.{term_out, list_out}
use Rattle.rare_rule_reread.proofs.Arguments.{pair, IsTree}

-- a list has items, and an atom has none
items_list : (e h : Sexpr) (xs : List Sexpr) → items_of e ≡ h ∷ xs → kind_of e ≡ kind.List
unfolding items_of kind_of Rattle.rare_sexpr.specs.declared.tree.Sexpr.TheViews.out-Sexpr Rattle.rare_sexpr.specs.declared.tree.Sexpr.TheBlock.shown-the_row-Sexpr-0 denote.Hole.Carrier.out denote.Hole.Carrier.shown
items_list (Atom place k text) h xs is = absurd cc
items_list (List' place shape row) h xs is = refl

symbol_kind : (k : Kind) → is_symbol_kind k ≡ true → k ≡ kind.Symbol
symbol_kind kind.Symbol is = refl
symbol_kind k is = absurd cc

module _ (ps : List Param) (t : Tree) (e : Sexpr) (reads : IsTree ps t e) where
  pub no_keyword : is_keyword_word (codes "where") e ≡ false
  no_keyword = go (kind_of e) refl (sym (term_out ps e) ∙ reads)
    where
      go : (k : Kind) → kind_of e ≡ k → term_by ps e k (map (pair ps) (items_of e)) ≡ Ok t → (is_keyword_kind (kind_of e) && bytes_eq (text_of e) (codes "where")) ≡ false
      go kind.Keyword same is = absurd cc
      go k same is = ap (λ q. is_keyword_kind q && bytes_eq (text_of e) (codes "where")) same

  -- no operator has the word of definitions
  no_definition : (h : Sexpr) (xs : List Sexpr) → items_of e ≡ h ∷ xs → is_word (codes "def") h ≡ true → ⊥
  no_definition h xs items word =
      let w = both (is_symbol_kind (kind_of h)) (bytes_eq (text_of h) (codes "def")) word in
      let symbol : kind_of h ≡ kind.Symbol = symbol_kind (kind_of h) w.0 in
      let text : text_of h ≡ codes "def" = (bytes_eq-Decides (text_of h) (codes "def")).0 w.1 in
      let other : (word : List ℕ) → is_word word h ≡ bytes_eq (codes "def") word = λ word. ap (λ k. is_symbol_kind k && bytes_eq (text_of h) word) symbol ∙ ap (λ u. bytes_eq u word) text in
      let refuses : rule_term_at ps e ≡ go_on (word_head e h (length (map (pair ps) xs)) None) (λ o. arguments_from e o [] (map (pair ps) xs)) =
      list_out ps e h xs (items_list e h xs items) items
      ∙ if_no (is_word (codes "_") h) _ _ (other (codes "_")) ∙ if_no (is_word (codes "bv") h) _ _ (other (codes "bv"))
      ∙ ap (application_by ps e h (map (pair ps) xs)) symbol
      ∙ ap (word_application ps e h (map (pair ps) xs)) (ap (λ k. if is_symbol_kind k then entry indexed_words (text_of h) else None) symbol ∙ ap (entry indexed_words) text)
      ∙ ap (λ u. go_on (word_head e h (length (map (pair ps) xs)) (operator_of_word u)) (λ o. arguments_from e o [] (map (pair ps) xs))) text in
      refused_not (sym refuses ∙ reads)
    where
      refused_not : go_on (word_head e h (length (map (pair ps) xs)) None) (λ o. arguments_from e o [] (map (pair ps) xs)) ≡ Ok t → ⊥
      refused_not is = cc

  pub no_definitions : begins_definitions (items_of e) ≡ false
  no_definitions = go (items_of e) refl
    where
      by_word : (h : Sexpr) (xs : List Sexpr) (b : Bool) → items_of e ≡ h ∷ xs → is_word (codes "def") h ≡ b → b ≡ false
      by_word h xs true items word = absurd (no_definition h xs items word)
      by_word h xs false items word = refl

      go : (xs : List Sexpr) → items_of e ≡ xs → begins_definitions (items_of e) ≡ false
      go [] items = ap begins_definitions items
      go (h ∷ xs) items = ap begins_definitions items ∙ by_word h xs (is_word (codes "def") h) items refl
