-- The texts of parameters by their parts.
use Rattle.std.proofs.Common.{◌≡◌, ℕ, suc, ◌+◌, ◌<◌, ◌≤◌, Bool, true, false, List, [], ◌∷◌, ◌++◌, length, get_or, drop, drop-cons, refl, sym, ap, ◌∙◌, arith, append_assoc, if◌then◌else◌}
use Rattle.std.specs.Prelude.{codes}
use Rattle.rare_sexpr.specs.Written.{written_symbol}
use Rattle.rare_scope.proofs.Listing.{drop_all}
use Rattle.rare_term_printing.specs.OperatorTexts.{list_text}
use Rattle.rare_rule.specs.declared.param.Param.{Param}
use Rattle.rare_rule_printing.specs.SortPrinting.{kind_text, constant_texts, list_texts, declaration_text, declared_texts, params_text}
use Rattle.rare_rule_printing.specs.inner.RulePieces.{all_spaced, declaration_end, declared_text, next_lead, declared_rest}

module _ (ps : List Param) where
  declaration_parts : (p : Param) → codes "(" ++ (written_symbol p.name ++ (codes " " ++ (kind_text ps p.name p.kind ++ declaration_end p))) ≡ declaration_text ps p
  declaration_parts p =
      ap (λ t. 40 ∷ (written_symbol p.name ++ (32 ∷ t))) (sym (append_assoc (kind_text ps p.name p.kind) (all_spaced (constant_texts p.constant ++ list_texts p.kind)) (codes ")")))

  pub declaration_of : (p : Param) (first second end : List ℕ) → first ≡ p.name → second ≡ p.name → end ≡ declaration_end p →
      codes "(" ++ (written_symbol first ++ (codes " " ++ (kind_text ps second p.kind ++ end))) ≡ declaration_text ps p
  declaration_of p first second end is same last =
      ap (λ n. codes "(" ++ (written_symbol n ++ (codes " " ++ (kind_text ps second p.kind ++ end)))) is
      ∙ ap (λ n. codes "(" ++ (written_symbol p.name ++ (codes " " ++ (kind_text ps n p.kind ++ end)))) same
      ∙ ap (λ t. codes "(" ++ (written_symbol p.name ++ (codes " " ++ (kind_text ps p.name p.kind ++ t)))) last ∙ declaration_parts p

  pub declared_of : (lead : List ℕ) (p : Param) → p.fresh ≡ false → lead ++ declaration_text ps p ≡ declared_text ps lead p
  declared_of lead p e = ap (λ b. if b then [] else (lead ++ declaration_text ps p)) (sym e)

  -- the rest behind one that is written
  rest_spaced : (qs : List Param) → declared_rest ps (codes " ") qs ≡ all_spaced (declared_texts ps qs) ++ codes ")"
  rest_spaced [] = refl
  rest_spaced (p ∷ qs) = go p.fresh (rest_spaced qs)
    where
      go : (fresh : Bool) → declared_rest ps (codes " ") qs ≡ all_spaced (declared_texts ps qs) ++ codes ")" →
          (if fresh then [] else (codes " " ++ declaration_text ps p)) ++ declared_rest ps (if fresh then codes " " else codes " ") qs
          ≡ all_spaced (if fresh then (declared_texts ps qs) else (declaration_text ps p ∷ declared_texts ps qs)) ++ codes ")"
      go true more = more
      go false more =
          ap (λ t. (codes " " ++ declaration_text ps p) ++ t) more
          ∙ sym (append_assoc (codes " " ++ declaration_text ps p) (all_spaced (declared_texts ps qs)) (codes ")"))

  -- and the rest where nothing was written
  rest_first : (qs : List Param) → codes "(" ++ declared_rest ps [] qs ≡ list_text (declared_texts ps qs)
  rest_first [] = refl
  rest_first (p ∷ qs) = go p.fresh (rest_first qs)
    where
      go : (fresh : Bool) → codes "(" ++ declared_rest ps [] qs ≡ list_text (declared_texts ps qs) →
          codes "(" ++ ((if fresh then [] else ([] ++ declaration_text ps p)) ++ declared_rest ps (if fresh then [] else codes " ") qs)
          ≡ list_text (if fresh then (declared_texts ps qs) else (declaration_text ps p ∷ declared_texts ps qs))
      go true more = more
      go false more = ap (λ t. 40 ∷ (declaration_text ps p ++ t)) (rest_spaced qs)

  pub params_parts : codes "(" ++ declared_rest ps [] ps ≡ params_text ps
  params_parts = rest_first ps

  rest_next : (lead : List ℕ) (qs : List Param) (k : ℕ) (d : Param) → k < length qs →
      declared_rest ps lead (drop k qs) ≡ declared_text ps lead (get_or qs k d) ++ declared_rest ps (next_lead lead (get_or qs k d)) (drop (k + 1) qs)
  rest_next lead qs k d lt =
      let e : suc k ≡ k + 1 = omega arith in
      ap (λ xs. declared_rest ps lead xs) (drop-cons qs k d lt)
      ∙ ap (λ n. declared_text ps lead (get_or qs k d) ++ declared_rest ps (next_lead lead (get_or qs k d)) (drop n qs)) e

  -- one parameter more
  pub front_more : (front lead next : List ℕ) (k : ℕ) (p : Param) → k < length ps → p ≡ get_or ps k p → next ≡ next_lead lead p →
      front ++ declared_rest ps lead (drop k ps) ≡ params_text ps → (front ++ declared_text ps lead p) ++ declared_rest ps next (drop (k + 1) ps) ≡ params_text ps
  front_more front lead next k p lt is moved whole =
      append_assoc front (declared_text ps lead p) (declared_rest ps next (drop (k + 1) ps))
      ∙ ap (λ l. front ++ (declared_text ps lead p ++ declared_rest ps l (drop (k + 1) ps))) moved
      ∙ ap (λ q. front ++ (declared_text ps lead q ++ declared_rest ps (next_lead lead q) (drop (k + 1) ps))) is
      ∙ ap (λ t. front ++ t) (sym (rest_next lead ps k p lt)) ∙ whole

  pub front_all : (front lead : List ℕ) (k : ℕ) → length ps ≤ k → front ++ declared_rest ps lead (drop k ps) ≡ params_text ps → front ++ codes ")" ≡ params_text ps
  front_all front lead k le whole = ap (λ qs. front ++ declared_rest ps lead qs) (sym (drop_all ps k le)) ∙ whole
