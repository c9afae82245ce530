-- Texts one behind the other, and between parentheses.
use Rattle.std.proofs.Common.{◌≡◌, ℕ, zero, suc, ◌≤◌, true, List, [], ◌∷◌, ◌++◌, refl, sym, ap, ◌∙◌, subst, arith, append_assoc}
use Rattle.rare_base.specs.declared.answers.Place.{Place}
use Rattle.rare_sexpr.specs.declared.tree.Sexpr.{Sexpr}
use Rattle.rare_sexpr.specs.Bytes.{after, behind}
use Rattle.rare_sexpr.specs.Tree.{atom_of, list_of}
use Rattle.rare_sexpr.specs.Grammar.{IsGap, Atom, Bare, may_follow_bare, Spell}
use Rattle.rare_sexpr.specs.Grammar as grammar
use Rattle.rare_sexpr.proofs.Lists.{behind_append}
use Rattle.rare_reread.specs.ReadsAs.{ReadsAs, RunsAs, IsListOf}

abbrev Bytes : Type 0
Bytes = List ℕ

-- ---- one behind the other

list_bytes : (gap inside last more rest : Bytes) → gap ++ (40 ∷ (inside ++ (last ++ 41 ∷ (more ++ rest)))) ≡ (gap ++ (40 ∷ (inside ++ (last ++ 41 ∷ more)))) ++ rest
list_bytes gap inside last more rest = sym (simp append_assoc)

atom_bytes : (gap word more rest : Bytes) → gap ++ (word ++ (more ++ rest)) ≡ (gap ++ (word ++ more)) ++ rest
atom_bytes gap word more rest = sym (simp append_assoc)

behind_atom : (p : Place) (gap word more : Bytes) → behind p (gap ++ (word ++ more)) ≡ behind (behind p (gap ++ word)) more
behind_atom p gap word more = ap (behind p) (sym (append_assoc gap word more)) ∙ behind_append p (gap ++ word) more

behind_list : (p : Place) (gap inside last more : Bytes) → behind p (gap ++ (40 ∷ (inside ++ (last ++ 41 ∷ more)))) ≡ behind (behind p (gap ++ (40 ∷ (inside ++ (last ++ 41 ∷ []))))) more
behind_list p gap inside last more = ap (behind p) (list_bytes gap inside last [] more) ∙ behind_append p (gap ++ (40 ∷ (inside ++ (last ++ 41 ∷ [])))) more

pub joined : (d : ℕ) (es fs : List Sexpr) (p : Place) (bytes more r rest : Bytes) → r ≡ more ++ rest → Spell d es p bytes r → Spell d fs (behind p bytes) more rest → Spell d (es ++ fs) p (bytes ++ more) rest
joined d es fs p bytes more r rest is (grammar.none _ _ _) s = s
joined d es fs p bytes more r rest is (grammar.atom _ k text es' _ gap word inner _ g a h) s =
    subst (λ (x : Bytes). Spell d (atom_of (behind p gap) k text ∷ (es' ++ fs)) p x rest) (atom_bytes gap word inner more)
    (grammar.atom d k text (es' ++ fs) p gap word (inner ++ more) rest g
    (subst (λ (x : Bytes). Atom k text word x) (ap (λ x. inner ++ x) is ∙ sym (append_assoc inner more rest)) a)
    (joined d es' fs (behind p (gap ++ word)) inner more r rest is h (subst (λ (q : Place). Spell d fs q more rest) (behind_atom p gap word inner) s)))
joined d es fs p bytes more r rest is (grammar.list d' items es' _ gap inside last inner _ g i l h) s =
    subst (λ (x : Bytes). Spell d (list_of (behind p gap) items ∷ (es' ++ fs)) p x rest) (list_bytes gap inside last inner more)
    (grammar.list d' items (es' ++ fs) p gap inside last (inner ++ more) rest g
    (subst (λ (x : Bytes). Spell d' items (behind p (gap ++ 40 ∷ [])) inside (last ++ 41 ∷ x)) (ap (λ x. inner ++ x) is ∙ sym (append_assoc inner more rest)) i) l
    (joined d es' fs (behind p (gap ++ (40 ∷ (inside ++ (last ++ 41 ∷ []))))) inner more r rest is h (subst (λ (q : Place). Spell d fs q more rest) (behind_list p gap inside last inner) s)))

-- ---- a gap before an expression

gaps : (g h : Bytes) → IsGap g → IsGap h → IsGap (g ++ h)
gaps g h grammar.none i = i
gaps g h (grammar.blank b bs is more) i = grammar.blank b (bs ++ h) is (gaps bs h more i)
gaps g h (grammar.comment text b bs line ends more) i = subst IsGap (ap (λ x. 59 ∷ x) (sym (append_assoc text (b ∷ bs) h))) (grammar.comment text b (bs ++ h) line ends (gaps bs h more i))

pub spaced : (d : ℕ) (e : Sexpr) (es : List Sexpr) (p : Place) (g bytes rest : Bytes) → IsGap g → Spell d (e ∷ es) (behind p g) bytes rest → Spell d (e ∷ es) p (g ++ bytes) rest
spaced d e es p g bytes rest is (grammar.atom _ k text _ _ gap word more _ i a h) =
    subst (λ (x : Bytes). Spell d (atom_of (behind (behind p g) gap) k text ∷ es) p x rest) (append_assoc g gap (word ++ more))
    (subst (λ (q : Place). Spell d (atom_of q k text ∷ es) p ((g ++ gap) ++ (word ++ more)) rest) (behind_append p g gap)
    (grammar.atom d k text es p (g ++ gap) word more rest (gaps g gap is i) a
    (subst (λ (q : Place). Spell d es q more rest) (sym (ap (behind p) (append_assoc g gap word) ∙ behind_append p g (gap ++ word))) h)))
spaced d e es p g bytes rest is (grammar.list d' items _ _ gap inside last more _ i s l h) =
    let tail = 40 ∷ (inside ++ (last ++ 41 ∷ [])) in
    subst (λ (x : Bytes). Spell d (list_of (behind (behind p g) gap) items ∷ es) p x rest) (append_assoc g gap (40 ∷ (inside ++ (last ++ 41 ∷ more))))
    (subst (λ (q : Place). Spell d (list_of q items ∷ es) p ((g ++ gap) ++ (40 ∷ (inside ++ (last ++ 41 ∷ more)))) rest) (behind_append p g gap)
    (grammar.list d' items es p (g ++ gap) inside last more rest (gaps g gap is i)
    (subst (λ (q : Place). Spell d' items q inside (last ++ 41 ∷ (more ++ rest))) (sym (ap (behind p) (append_assoc g gap (40 ∷ [])) ∙ behind_append p g (gap ++ 40 ∷ []))) s) l
    (subst (λ (q : Place). Spell d es q more rest) (sym (ap (behind p) (append_assoc g gap tail) ∙ behind_append p g (gap ++ tail))) h)))

-- ---- lists

one_blank : IsGap (32 ∷ [])
one_blank = grammar.blank 32 [] refl grammar.none

pub nothing_runs : (n : ℕ) → RunsAs n [] (λ es. es ≡ [])
nothing_runs n = record {
  expressions = λ p. [];
  are = λ p. refl;
  spells = λ d p rest le ok. grammar.none d p rest;
  follows = λ rest ok. ok;
}

-- items that begin with this one
pub record Begins (Is : Sexpr → Type 0) (Are : List Sexpr → Type 0) (es : List Sexpr) : Type 0 where
  pub first : Sexpr
  pub items : List Sexpr
  pub is : Is first
  pub are : Are items
  pub both : es ≡ first ∷ items

pub more_runs : (n : ℕ) (bytes more : Bytes) (Is : Sexpr → Type 0) (Are : List Sexpr → Type 0) → ReadsAs n bytes Is → RunsAs n more Are → RunsAs n (32 ∷ (bytes ++ more)) (Begins Is Are)
more_runs n bytes more Is Are r s = record {
  expressions = λ p. r.expression (after 32 p) ∷ s.expressions (behind (after 32 p) bytes);
  are = λ p. record { first = r.expression (after 32 p); items = s.expressions (behind (after 32 p) bytes); is = r.is (after 32 p); are = s.are (behind (after 32 p) bytes); both = refl };
  spells = λ d p rest le ok.
      spaced d (r.expression (after 32 p)) (s.expressions (behind (after 32 p) bytes)) p (32 ∷ []) (bytes ++ more) rest one_blank
      (joined d (r.expression (after 32 p) ∷ []) (s.expressions (behind (after 32 p) bytes)) (after 32 p) bytes more (more ++ rest) rest refl
      (r.spells d (after 32 p) (more ++ rest) le (s.follows rest ok)) (s.spells d (behind (after 32 p) bytes) rest le ok));
  follows = λ rest ok. refl;
}

pub list_reads : (n : ℕ) (bytes more : Bytes) (Is : Sexpr → Type 0) (Are : List Sexpr → Type 0) → ReadsAs n bytes Is → RunsAs n more Are → ReadsAs (suc n) (40 ∷ (bytes ++ (more ++ 41 ∷ []))) (IsListOf Is Are)
list_reads n bytes more Is Are r s = record {
  expression = λ p. list_of p (r.expression (after 40 p) ∷ s.expressions (behind (after 40 p) bytes));
  is = λ p. record { place = p; first = r.expression (after 40 p); items = s.expressions (behind (after 40 p) bytes); is = r.is (after 40 p); are = s.are (behind (after 40 p) bytes); list = refl };
  spells = λ d p rest le ok. go d p rest le ok;
}
  where
    go : (d : ℕ) (p : Place) (rest : Bytes) → suc n ≤ d → may_follow_bare rest ≡ true →
        Spell d (list_of p (r.expression (after 40 p) ∷ s.expressions (behind (after 40 p) bytes)) ∷ []) p (40 ∷ (bytes ++ (more ++ 41 ∷ []))) rest
    go zero p rest le ok = absurd (omega (arith, le))
    go (suc d) p rest le ok =
        subst (λ (x : Bytes). Spell (suc d) (list_of p (r.expression (after 40 p) ∷ s.expressions (behind (after 40 p) bytes)) ∷ []) p x rest) (ap (λ x. 40 ∷ x) (append_assoc bytes more (41 ∷ [])))
        (grammar.list d (r.expression (after 40 p) ∷ s.expressions (behind (after 40 p) bytes)) [] p [] (bytes ++ more) [] [] rest grammar.none
        (joined d (r.expression (after 40 p) ∷ []) (s.expressions (behind (after 40 p) bytes)) (after 40 p) bytes more (more ++ 41 ∷ rest) (41 ∷ rest) refl
        (r.spells d (after 40 p) (more ++ 41 ∷ rest) (omega (arith, le)) (s.follows (41 ∷ rest) refl)) (s.spells d (behind (after 40 p) bytes) (41 ∷ rest) (omega (arith, le)) refl)) grammar.none (grammar.none (suc d) _ rest))
