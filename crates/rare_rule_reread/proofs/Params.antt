-- The parameters of a rule: what is written of those that were read is read back.
use Rattle.std.proofs.Common.{◌≡◌, ℕ, Bool, true, false, List, [], ◌∷◌, ◌++◌, map, Ok, refl, sym, ap, ◌∙◌, subst, arith}
use Rattle.std.specs.Prelude.{if◌then◌else◌}
use Rattle.std.specs.List.{list_all}
use Rattle.rare_base.specs.declared.answers.Reason.TheVariants as reason
use Rattle.rare_sexpr.specs.Bytes.{is_in_bars}
use Rattle.rare_sexpr.specs.Written.{written_symbol}
use Rattle.rare_sexpr.specs.declared.tree.AtomKind.TheVariants as atom
use Rattle.rare_sexpr.specs.declared.tree.Sexpr.{Sexpr}
use Rattle.rare_sexpr.specs.Tree.{kind_of, text_of, items_of}
use Rattle.rare_scope.specs.Reading.{refused, go_on, is_symbol_kind, symbol_at}
use Rattle.rare_scope.specs.Reserved.{is_among}
use Rattle.rare_scope.proofs.InOrder.{went, same_Ok}
use Rattle.rare_rule.specs.ParamForms.{NO_NAMES}
use Rattle.rare_rule.specs.Written.{declared_param}
use Rattle.rare_rule.specs.declared.param.Param.{Param}
use Rattle.rare_rule.specs.declared.param.ParamKind.{ParamKind}
use Rattle.rare_parse.specs.ParamText.{WrittenKind, new_name, param_name, WrittenParam, written, param_of, param_at}
use Rattle.rare_parse.specs.ParamText as spelled
use Rattle.rare_term_printing.specs.OperatorTexts.{list_text}
use Rattle.rare_rule_printing.specs.SortPrinting.{kind_text, list_texts, declaration_text}
use Rattle.rare_reread.specs.ReadsAs.{ReadsAs}
use Rattle.rare_reread.proofs.Atoms.{IsAtom, text_is, symbol_reads}
use Rattle.rare_reread.proofs.Linears.{so_reads}
use Rattle.rare_reread.proofs.Lists.{symbol_is}
use Rattle.rare_rule_reread.specs.Spelled.{IsSpelled}
use Rattle.rare_rule_reread.proofs.ParamKinds.{MOST_KIND_LISTS}
use Rattle.rare_rule_reread.proofs.Pairs.{HasTwo, pair_read}
use Rattle.rare_rule_reread.proofs.Spelled.{AllSpelled, items_spelled, symbol_in_bars}

-- ---- one parameter

-- what a parameter was read from
pub record IsGiven (n : ℕ) (before : List Param) (p : WrittenParam) : Type 0 where
  pub text : List ℕ
  pub kind : WrittenKind
  pub sort : Sexpr
  pub is : written text kind ≡ p
  pub bars : list_all is_in_bars text ≡ true
  pub new : is_among (NO_NAMES ++ map (λ p. p.name) before) text ≡ false
  pub read : spelled.kind_at n before sort ≡ Ok kind

module _ (n : ℕ) (before : List Param) where
  -- the name is a symbol of this text, which is new
  record IsName (e : Sexpr) (text : List ℕ) : Type 0 where
    bars : list_all is_in_bars text ≡ true
    new : is_among (NO_NAMES ++ map (λ p. p.name) before) text ≡ false

  name_is : (e : Sexpr) (text : List ℕ) → IsSpelled e → param_name before e ≡ Ok text → IsName e text
  name_is e text spelled is =
      let word = went (symbol_at e) (λ word. new_name before e word) text is in
      go (is_symbol_kind (kind_of e)) refl word.0 word.1 word.2
    where
      by_new : (word : List ℕ) (b : Bool) → list_all is_in_bars word ≡ true → is_among (NO_NAMES ++ map (λ p. p.name) before) word ≡ b → (if b then refused e reason.DuplicateParam else Ok word) ≡ Ok text → IsName e text
      by_new word true bars found is = absurd cc
      by_new word false bars found is = subst (IsName e) (same_Ok word text is) (record { bars = bars; new = found })

      go : (b : Bool) → is_symbol_kind (kind_of e) ≡ b → (word : List ℕ) → (if b then Ok (text_of e) else refused e reason.BadForm) ≡ Ok word → new_name before e word ≡ Ok text → IsName e text
      go true symbol word found is =
          let same = same_Ok (text_of e) word found in
          by_new word (is_among (NO_NAMES ++ map (λ p. p.name) before) word) (ap (list_all is_in_bars) (sym same) ∙ symbol_in_bars e spelled symbol) refl is
      go false symbol word found is = absurd cc

  given_by : (e : Sexpr) (items : List Sexpr) (p : WrittenParam) → AllSpelled items → param_of n before e items ≡ Ok p → IsGiven n before p
  given_by e [] p spelled is = absurd cc
  given_by e (a ∷ []) p spelled is = absurd cc
  given_by e (a ∷ s ∷ []) p spells is =
      let t = went (param_name before a) (λ t. go_on (spelled.kind_at n before s) (λ k. Ok (written t k))) p is in
      let k = went (spelled.kind_at n before s) (λ k. Ok (written t.0 k)) p t.2 in
      let m = name_is a t.0 spells.0 t.1 in
      record { text = t.0; kind = k.0; sort = s; is = same_Ok (written t.0 k.0) p k.2; bars = m.bars; new = m.new; read = k.1 }
  given_by e (a ∷ s ∷ x ∷ xs) p spelled is = absurd cc

  pub given : (e : Sexpr) (p : WrittenParam) → IsSpelled e → param_at n before e ≡ Ok p → IsGiven n before p
  given e p spelled is = given_by e (items_of e) p (items_spelled e spelled) is

  -- read again
  param_again : (text : List ℕ) (k : WrittenKind) (y : Sexpr) → is_among (NO_NAMES ++ map (λ p. p.name) before) text ≡ false → HasTwo (IsAtom atom.Symbol text) (λ x. spelled.kind_at n before x ≡ Ok k) y → param_at n before y ≡ Ok (written text k)
  param_again text k y new h =
      ap (param_of n before y) h.items
      ∙ ap (λ b. go_on (go_on (if b then Ok (text_of h.first) else refused h.first reason.BadForm) (λ t. new_name before h.first t)) (λ t. go_on (spelled.kind_at n before h.second) (λ k. Ok (written t k)))) (symbol_is text h.first h.is_first)
      ∙ ap (λ u. go_on (new_name before h.first u) (λ t. go_on (spelled.kind_at n before h.second) (λ k. Ok (written t k)))) (text_is atom.Symbol text h.first h.is_first)
      ∙ ap (λ b. go_on (if b then refused h.first reason.DuplicateParam else Ok text) (λ t. go_on (spelled.kind_at n before h.second) (λ k. Ok (written t k)))) new
      ∙ ap (λ q. go_on q (λ k. Ok (written text k))) h.is_second

  declaration_is : (all : List Param) (text : List ℕ) (k : ParamKind) → list_texts k ≡ [] → list_text (written_symbol text ∷ kind_text all text k ∷ []) ≡ declaration_text all (declared_param text k)
  declaration_is all text k single = ap (λ ts. list_text (written_symbol text ∷ kind_text all text k ∷ ts)) (sym single)

  pub param_reads : (all : List Param) (text : List ℕ) (k : WrittenKind) → list_all is_in_bars text ≡ true → is_among (NO_NAMES ++ map (λ p. p.name) before) text ≡ false → list_texts k.kind ≡ [] →
      ReadsAs MOST_KIND_LISTS (kind_text all text k.kind) (λ x. spelled.kind_at n before x ≡ Ok k) → ReadsAs 1005 (declaration_text all (declared_param text k.kind)) (λ y. param_at n before y ≡ Ok (written text k))
  param_reads all text k bars new single reads =
      so_reads 1005 1005 (list_text (written_symbol text ∷ kind_text all text k.kind ∷ [])) (declaration_text all (declared_param text k.kind)) (HasTwo (IsAtom atom.Symbol text) (λ x. spelled.kind_at n before x ≡ Ok k)) (λ y. param_at n before y ≡ Ok (written text k)) (omega arith)
      (declaration_is all text k.kind single) (λ y h. param_again text k y new h)
      (pair_read MOST_KIND_LISTS (written_symbol text) (kind_text all text k.kind) (IsAtom atom.Symbol text) (λ x. spelled.kind_at n before x ≡ Ok k) (symbol_reads MOST_KIND_LISTS text bars) reads)
