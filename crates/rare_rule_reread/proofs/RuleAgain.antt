-- The text of a rule in its parts, read as the rule.
use Rattle.std.proofs.Common.{◌≡◌, ℕ, ◌+◌, true, ◌&&◌, List, [], ◌∷◌, ◌++◌, map, bytes_eq, Ok, refl, sym, ap, ◌∙◌, subst, arith}
use Rattle.std.specs.Prelude.{codes, if◌then◌else◌}
use Rattle.rare_base.specs.declared.answers.Reason.TheVariants as reason
use Rattle.rare_linear.specs.Linears.{LinearExpression}
use Rattle.rare_linear.specs.declared.constraint.Constraint.{Constraint}
use Rattle.rare_sexpr.specs.Grammar as grammar
use Rattle.rare_sexpr.specs.Written.{written_symbol}
use Rattle.rare_sexpr.specs.declared.tree.AtomKind.TheVariants as atom
use Rattle.rare_sexpr.specs.declared.tree.Sexpr.{Sexpr}
use Rattle.rare_sexpr.specs.Tree.{kind_of, text_of, items_of}
use Rattle.rare_sort.specs.Trees.{nesting}
use Rattle.rare_scope.specs.Reading.{refused, go_on, is_keyword_kind, is_keyword_word, is_symbol_kind, is_word, symbol_at}
use Rattle.rare_rule.specs.Written.{plain_rule}
use Rattle.rare_rule.specs.declared.rule.Rule.{Rule}
use Rattle.rare_parse.specs.ParamText.{params_at}
use Rattle.rare_parse.specs.RuleTermText.{rule_term_at}
use Rattle.rare_parse.specs.RuleText.{bounds_of, bounds_at, whole_rule, rule_head, ended, with_sides, behind_bounds, behind_params, has_rule_items, rule_of, rule_at}
use Rattle.rare_term_printing.specs.OperatorTexts.{list_text}
use Rattle.rare_rule_printing.specs.ConstraintPrinting.{constraint_text}
use Rattle.rare_rule_printing.specs.RulePrinting.{rule_term_text, rule_text}
use Rattle.rare_rule_printing.specs.SortPrinting.{params_text}
use Rattle.rare_rule_printing.specs.inner.RulePieces.{all_spaced}
use Rattle.rare_reread.specs.ReadsAs.{ReadsAs, RunsAs, IsListOf}
use Rattle.rare_reread.proofs.Atoms.{IsAtom, kind_is, text_is, list_items, atom_reads, word_reads, symbol_reads}
use Rattle.rare_reread.proofs.Heads.{if_no, if_yes}
use Rattle.rare_reread.proofs.Joining.{Begins, nothing_runs, more_runs, list_reads}
use Rattle.rare_reread.proofs.Linears.{so_reads}
use Rattle.rare_reread.proofs.Lists.{IsEnd, symbol_is, word_is}
use Rattle.rare_rule_reread.specs.Spelled.{IsSpelled}
use Rattle.rare_rule_reread.specs.RereadRules.{MOST_RULE_LISTS}
use Rattle.rare_rule_reread.proofs.Arguments.{IsTree}
use Rattle.rare_rule_reread.proofs.RuleBounds.{bounds_reads}
use Rattle.rare_rule_reread.proofs.SideForms.{no_keyword, no_definitions}
use Rattle.rare_rule_reread.proofs.Spoken.{AllSpeak}
use Rattle.rare_rule_reread.proofs.WholeRules.{HasParts, rule_parts}

module _ (r : Rule) (h : HasParts r) where
  abbrev IsRule : Sexpr → Type 0
  IsRule x = rule_at x ≡ Ok r

  abbrev IsParams : Sexpr → Type 0
  IsParams x = params_at x ≡ Ok h.params

  abbrev AreSides : List Sexpr → Type 0
  AreSides = Begins (IsTree h.params h.left) (Begins (IsTree h.params h.right) IsEnd)

  abbrev left_text : List ℕ
  left_text = rule_term_text h.params h.left

  abbrev right_text : List ℕ
  right_text = rule_term_text h.params h.right

  -- ---- the sides

  sides_run : RunsAs 1006 (all_spaced (left_text ∷ right_text ∷ [])) AreSides
  sides_run =
      let l = h.shallow.left_nests in
      let q = h.shallow.right_nests in
      more_runs 1006 left_text (32 ∷ (right_text ++ [])) (IsTree h.params h.left) (Begins (IsTree h.params h.right) IsEnd)
      (so_reads (nesting h.left + 4) 1006 left_text left_text (IsTree h.params h.left) (IsTree h.params h.left) (omega (arith, l)) refl (λ e g. g) h.left_back)
      (more_runs 1006 right_text [] (IsTree h.params h.right) IsEnd
      (so_reads (nesting h.right + 4) 1006 right_text right_text (IsTree h.params h.right) (IsTree h.params h.right) (omega (arith, q)) refl (λ e g. g) h.right_back) (nothing_runs 1006))

  sides_again : (x : Sexpr) (bs : List Constraint) (xs : List Sexpr) → whole_rule x (plain_rule h.name h.params bs h.left h.right) ≡ Ok r → AreSides xs → behind_bounds x (rule_head h.name h.params bs) xs ≡ Ok r
  sides_again x bs xs whole b =
      let l = b.first in
      let q = b.are.first in
      let items : xs ≡ l ∷ q ∷ [] = b.both ∙ ap (λ ys. l ∷ ys) (b.are.both ∙ ap (λ ys. q ∷ ys) b.are.are) in
      ap (behind_bounds x (rule_head h.name h.params bs)) items
      ∙ ap (λ t. if t then refused l reason.BadForm else with_sides x (rule_head h.name h.params bs) (l ∷ q ∷ [])) (no_definitions h.params h.left l b.is)
      ∙ ap (λ s. go_on s (λ left. go_on (rule_term_at h.params q) (λ right. ended [] (whole_rule x (plain_rule h.name h.params bs left right))))) b.is
      ∙ ap (λ s. go_on s (λ right. ended [] (whole_rule x (plain_rule h.name h.params bs h.left right)))) b.are.is
      ∙ whole

  -- ---- the list

  name_again : (n : Sexpr) → IsAtom atom.Symbol h.name n → symbol_at n ≡ Ok h.name
  name_again n a = ap (λ b. if b then Ok (text_of n) else refused n reason.BadForm) (symbol_is h.name n a) ∙ ap Ok (text_is atom.Symbol h.name n a)

  -- name, parameters, and what stands behind
  abbrev Items : (List Sexpr → Type 0) → Sexpr → Type 0
  Items Are = IsListOf (IsAtom atom.Symbol (codes "define-rule")) (Begins (IsAtom atom.Symbol h.name) (Begins IsParams Are))

  abbrev opening : List (List ℕ) → List ℕ
  opening ts = list_text (codes "define-rule" ∷ written_symbol h.name ∷ params_text h.params ∷ ts)

  opens : (ts : List (List ℕ)) (Are : List Sexpr → Type 0) → RunsAs 1006 (all_spaced ts) Are → ReadsAs 1007 (opening ts) (Items Are)
  opens ts Are run =
      list_reads 1006 (codes "define-rule") (32 ∷ (written_symbol h.name ++ (32 ∷ (params_text h.params ++ all_spaced ts)))) (IsAtom atom.Symbol (codes "define-rule")) (Begins (IsAtom atom.Symbol h.name) (Begins IsParams Are)) (word_reads 1006 (codes "define-rule") refl)
      (more_runs 1006 (written_symbol h.name) (32 ∷ (params_text h.params ++ all_spaced ts)) (IsAtom atom.Symbol h.name) (Begins IsParams Are) (symbol_reads 1006 h.name h.bars)
      (more_runs 1006 (params_text h.params) (all_spaced ts) IsParams Are h.back.reads run))

  -- a rule is read from its items where they are as many as a rule has
  by_items : (x w n p : Sexpr) (xs : List Sexpr) → has_rule_items (w ∷ n ∷ p ∷ xs) ≡ true → IsAtom atom.Symbol (codes "define-rule") w → IsAtom atom.Symbol h.name n → IsParams p → rule_of x (w ∷ n ∷ p ∷ xs) ≡ behind_params x h.name h.params xs
  by_items x w n p xs many a name params =
      if_yes (is_symbol_kind (kind_of w)) _ _ (symbol_is (codes "define-rule") w a)
      ∙ if_yes (is_word (codes "define-rule") w) _ _ (word_is (codes "define-rule") (codes "define-rule") w a)
      ∙ if_yes (has_rule_items (w ∷ n ∷ p ∷ xs)) _ _ many
      ∙ ap (λ s. go_on s (λ name. go_on (params_at p) (λ ps. behind_params x name ps xs))) (name_again n name)
      ∙ ap (λ s. go_on s (λ ps. behind_params x h.name ps xs)) params

  items_are : (Are : List Sexpr → Type 0) (x : Sexpr) (i : Items Are x) → items_of x ≡ i.first ∷ i.are.first ∷ i.are.are.first ∷ i.are.are.items
  items_are Are x i = ap items_of i.list ∙ list_items i.place (i.first ∷ i.items) ∙ ap (λ es. i.first ∷ es) (i.are.both ∙ ap (λ es. i.are.first ∷ es) i.are.are.both)

  -- ---- without bounds

  short_many : (w n p : Sexpr) (xs : List Sexpr) → AreSides xs → has_rule_items (w ∷ n ∷ p ∷ xs) ≡ true
  short_many w n p xs b = ap (λ ys. has_rule_items (w ∷ n ∷ p ∷ ys)) (b.both ∙ ap (λ ys. b.first ∷ ys) (b.are.both ∙ ap (λ ys. b.are.first ∷ ys) b.are.are))

  short_behind : (x : Sexpr) (xs : List Sexpr) → h.floors ≡ [] → AreSides xs → behind_params x h.name h.params xs ≡ behind_bounds x (rule_head h.name h.params []) xs
  short_behind x xs none b =
      let l = b.first in
      let q = b.are.first in
      let items : xs ≡ l ∷ q ∷ [] = b.both ∙ ap (λ ys. l ∷ ys) (b.are.both ∙ ap (λ ys. q ∷ ys) b.are.are) in
      ap (behind_params x h.name h.params) items
      ∙ if_no (is_keyword_word (codes "where") l) _ _ (no_keyword h.params h.left l b.is)
      ∙ ap (behind_bounds x (rule_head h.name h.params [])) (sym items)

  short_again : (x : Sexpr) → h.floors ≡ [] → Items AreSides x → IsRule x
  short_again x none i =
      let b = i.are.are in
      ap (rule_of x) (items_are AreSides x i) ∙ by_items x i.first i.are.first b.first b.items (short_many i.first i.are.first b.first b.items b.are) i.is i.are.is b.is
      ∙ short_behind x b.items none b.are ∙ sides_again x [] b.items (ap (λ fs. whole_rule x (plain_rule h.name h.params (bounds_of fs) h.left h.right)) (sym none) ∙ h.again x) b.are

  -- ---- with bounds

  abbrev IsWhere : Sexpr → Type 0
  IsWhere = IsAtom atom.Keyword (codes "where")

  abbrev AreBounds : List Constraint → List Sexpr → Type 0
  AreBounds bs = Begins IsWhere (Begins (λ x. bounds_at h.params x ≡ Ok bs) AreSides)

  where_reads : ReadsAs 1006 (codes ":where") IsWhere
  where_reads = atom_reads 1006 atom.Keyword (codes "where") (codes ":where") (λ rest ok. grammar.bare atom.Keyword (codes "where") (codes ":where") rest (grammar.keyword (codes "where") (record { some = omega arith; each = refl })) ok)

  is_where : (k : Sexpr) → IsWhere k → is_keyword_word (codes "where") k ≡ true
  is_where k a = ap (λ q. is_keyword_kind q && bytes_eq (text_of k) (codes "where")) (kind_is atom.Keyword (codes "where") k a) ∙ ap (λ t. bytes_eq t (codes "where")) (text_is atom.Keyword (codes "where") k a)

  long_many : (bs : List Constraint) (w n p : Sexpr) (xs : List Sexpr) → AreBounds bs xs → has_rule_items (w ∷ n ∷ p ∷ xs) ≡ true
  long_many bs w n p xs b =
      let s = b.are.are in
      ap (λ ys. has_rule_items (w ∷ n ∷ p ∷ ys)) (b.both ∙ ap (λ ys. b.first ∷ ys) (b.are.both ∙ ap (λ ys. b.are.first ∷ ys) (s.both ∙ ap (λ ys. s.first ∷ ys) (s.are.both ∙ ap (λ ys. s.are.first ∷ ys) s.are.are))))

  long_behind : (bs : List Constraint) (x : Sexpr) (xs : List Sexpr) (b : AreBounds bs xs) → behind_params x h.name h.params xs ≡ behind_bounds x (rule_head h.name h.params bs) b.are.items
  long_behind bs x xs b =
      let k = b.first in
      let c = b.are.first in
      ap (behind_params x h.name h.params) (b.both ∙ ap (λ ys. k ∷ ys) b.are.both)
      ∙ if_yes (is_keyword_word (codes "where") k) _ _ (is_where k b.is)
      ∙ ap (λ s. go_on s (λ bs. behind_bounds x (rule_head h.name h.params bs) b.are.items)) b.are.is

  long_again : (x : Sexpr) → Items (AreBounds (bounds_of h.floors)) x → IsRule x
  long_again x i =
      let b = i.are.are in
      let bs = bounds_of h.floors in
      ap (rule_of x) (items_are (AreBounds bs) x i) ∙ by_items x i.first i.are.first b.first b.items (long_many bs i.first i.are.first b.first b.items b.are) i.is i.are.is b.is
      ∙ long_behind bs x b.items b.are ∙ sides_again x bs b.are.are.items (h.again x) b.are.are.are

  -- ---- the rule

  abbrev Reads : Rule → Type 0
  Reads s = ReadsAs MOST_RULE_LISTS (rule_text s) IsRule

  abbrev made : Rule
  made = plain_rule h.name h.params (bounds_of h.floors) h.left h.right

  by_floors : (fs : List LinearExpression) → h.floors ≡ fs → Reads (plain_rule h.name h.params (bounds_of fs) h.left h.right)
  by_floors [] none =
      so_reads 1007 MOST_RULE_LISTS (opening (left_text ∷ right_text ∷ [])) (rule_text (plain_rule h.name h.params [] h.left h.right)) (Items AreSides) IsRule (omega arith) refl (λ x i. short_again x none i)
      (opens (left_text ∷ right_text ∷ []) AreSides sides_run)
  by_floors (l ∷ ls) some =
      let bs = bounds_of (l ∷ ls) in
      let text = list_text (map (constraint_text h.params) bs) in
      let speak : AllSpeak h.params h.params (l ∷ ls) = subst (AllSpeak h.params h.params) some h.speak in
      so_reads 1007 MOST_RULE_LISTS (opening (codes ":where" ∷ text ∷ left_text ∷ right_text ∷ [])) (rule_text (plain_rule h.name h.params bs h.left h.right)) (Items (AreBounds bs)) IsRule (omega arith) refl
      (λ x i. long_again x (subst (λ (fs : List LinearExpression). Items (AreBounds (bounds_of fs)) x) (sym some) i))
      (opens (codes ":where" ∷ text ∷ left_text ∷ right_text ∷ []) (AreBounds bs)
      (more_runs 1006 (codes ":where") (32 ∷ (text ++ all_spaced (left_text ∷ right_text ∷ []))) IsWhere (Begins (λ x. bounds_at h.params x ≡ Ok bs) AreSides) where_reads
      (more_runs 1006 text (all_spaced (left_text ∷ right_text ∷ [])) (λ x. bounds_at h.params x ≡ Ok bs) AreSides
      (so_reads 6 1006 text text (λ x. bounds_at h.params x ≡ Ok bs) (λ x. bounds_at h.params x ≡ Ok bs) (omega arith) refl (λ e g. g) (bounds_reads h.params l ls speak)) sides_run)))

  rule_reads : Reads r
  rule_reads = subst Reads h.same (by_floors h.floors refl)

-- what is written of a rule that a spelled expression reads as is read back as that rule
pub rule_back : (e : Sexpr) (r : Rule) → IsSpelled e → rule_at e ≡ Ok r → ReadsAs MOST_RULE_LISTS (rule_text r) (λ x. rule_at x ≡ Ok r)
rule_back e r spelled is = rule_reads r (rule_parts e r spelled is)
