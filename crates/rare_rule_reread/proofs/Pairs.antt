-- Lists of two items and of three, and of items that are read one behind the other.
use Rattle.std.proofs.Common.{◌≡◌, ℕ, zero, suc, ◌≤◌, true, List, [], ◌∷◌, ◌++◌, refl, sym, ap, ◌∙◌, subst, arith, append_assoc}
use Rattle.rare_sexpr.specs.declared.tree.Kind.TheVariants as kind
use Rattle.rare_sexpr.specs.declared.tree.Sexpr.{Sexpr}
use Rattle.rare_sexpr.specs.Tree.{kind_of, items_of, list_of}
use Rattle.rare_term_printing.specs.OperatorTexts.{list_text}
use Rattle.rare_reread.specs.ReadsAs.{ReadsAs, RunsAs, IsListOf}
use Rattle.rare_reread.proofs.Atoms.{list_kind, list_items}
use Rattle.rare_reread.proofs.Joining.{Begins, nothing_runs, more_runs, list_reads, joined}
use Rattle.rare_reread.proofs.Linears.{so_reads}
use Rattle.rare_reread.proofs.Lists.{HasThree, IsEnd, has_three}
use Rattle.rare_sexpr.specs.Bytes.{after, behind}
use Rattle.rare_sexpr.specs.Grammar.{may_follow_bare, Spell}
use Rattle.rare_sexpr.specs.Grammar as grammar
use Rattle.rare_base.specs.declared.answers.Place.{Place}

-- a list of two such items
pub record HasTwo (A B : Sexpr → Type 0) (e : Sexpr) : Type 0 where
  pub first : Sexpr
  pub second : Sexpr
  pub is_first : A first
  pub is_second : B second
  pub items : items_of e ≡ first ∷ second ∷ []
  pub list : kind_of e ≡ kind.List

has_two : (A B : Sexpr → Type 0) (e : Sexpr) → IsListOf A (Begins B IsEnd) e → HasTwo A B e
has_two A B e i =
    let s = i.are in
    let items : i.items ≡ s.first ∷ [] = s.both ∙ ap (λ es. s.first ∷ es) s.are in
    record {
      first = i.first;
      second = s.first;
      is_first = i.is;
      is_second = s.is;
      items = ap items_of i.list ∙ list_items i.place (i.first ∷ i.items) ∙ ap (λ es. i.first ∷ es) items;
      list = ap kind_of i.list ∙ list_kind i.place (i.first ∷ i.items);
    }

two_text : (a b : List ℕ) → 40 ∷ (a ++ ((32 ∷ (b ++ [])) ++ 41 ∷ [])) ≡ 40 ∷ (a ++ (32 ∷ (b ++ 41 ∷ [])))
two_text a b = ap (λ t. 40 ∷ (a ++ 32 ∷ t)) (append_assoc b [] (41 ∷ []))

pub two_read : (n : ℕ) (a b : List ℕ) (A B : Sexpr → Type 0) → ReadsAs n a A → ReadsAs n b B → ReadsAs (suc n) (40 ∷ (a ++ (32 ∷ (b ++ 41 ∷ [])))) (HasTwo A B)
two_read n a b A B ra rb =
    so_reads (suc n) (suc n) (40 ∷ (a ++ ((32 ∷ (b ++ [])) ++ 41 ∷ []))) (40 ∷ (a ++ (32 ∷ (b ++ 41 ∷ [])))) (IsListOf A (Begins B IsEnd)) (HasTwo A B) (omega arith) (two_text a b)
    (has_two A B) (list_reads n a (32 ∷ (b ++ [])) A (Begins B IsEnd) ra (more_runs n b [] B IsEnd rb (nothing_runs n)))

-- the same, as lists are written
pub pair_read : (n : ℕ) (a b : List ℕ) (A B : Sexpr → Type 0) → ReadsAs n a A → ReadsAs n b B → ReadsAs (suc n) (list_text (a ∷ b ∷ [])) (HasTwo A B)
pair_read n a b A B ra rb =
    so_reads (suc n) (suc n) (list_text (a ∷ b ∷ [])) (list_text (a ∷ b ∷ [])) (IsListOf A (Begins B IsEnd)) (HasTwo A B) (omega arith) refl
    (has_two A B) (list_reads n a (32 ∷ (b ++ [])) A (Begins B IsEnd) ra (more_runs n b [] B IsEnd rb (nothing_runs n)))

pub list_of_three : (n : ℕ) (a b c : List ℕ) (A B C : Sexpr → Type 0) → ReadsAs n a A → ReadsAs n b B → ReadsAs n c C → ReadsAs (suc n) (list_text (a ∷ b ∷ c ∷ [])) (HasThree A B C)
list_of_three n a b c A B C ra rb rc =
    so_reads (suc n) (suc n) (list_text (a ∷ b ∷ c ∷ [])) (list_text (a ∷ b ∷ c ∷ [])) (IsListOf A (Begins B (Begins C IsEnd))) (HasThree A B C) (omega arith) refl
    (has_three A B C) (list_reads n a (32 ∷ (b ++ (32 ∷ (c ++ [])))) A (Begins B (Begins C IsEnd)) ra (more_runs n b (32 ∷ (c ++ [])) B (Begins C IsEnd) rb (more_runs n c [] C IsEnd rc (nothing_runs n))))

-- ---- items, and behind them others

pub record AreBoth (Are Bre : List Sexpr → Type 0) (es : List Sexpr) : Type 0 where
  pub front : List Sexpr
  pub back : List Sexpr
  pub are : Are front
  pub bre : Bre back
  pub both : es ≡ front ++ back

pub both_run : (n : ℕ) (a b : List ℕ) (Are Bre : List Sexpr → Type 0) → RunsAs n a Are → RunsAs n b Bre → RunsAs n (a ++ b) (AreBoth Are Bre)
both_run n a b Are Bre r s = record {
  expressions = λ p. r.expressions p ++ s.expressions (behind p a);
  are = λ p. record { front = r.expressions p; back = s.expressions (behind p a); are = r.are p; bre = s.are (behind p a); both = refl };
  spells = λ d p rest le ok.
      joined d (r.expressions p) (s.expressions (behind p a)) p a b (b ++ rest) rest refl (r.spells d p (b ++ rest) le (s.follows rest ok)) (s.spells d (behind p a) rest le ok);
  follows = λ rest ok. ap may_follow_bare (append_assoc a b rest) ∙ r.follows (b ++ rest) (s.follows rest ok);
}

-- ---- items of a list, of which the first stands behind no blank

pub record ItemsAs (n : ℕ) (bytes : List ℕ) (Are : List Sexpr → Type 0) : Type 0 where
  pub expressions : Place → List Sexpr
  pub are : (p : Place) → Are (expressions p)
  pub spells : (d : ℕ) (p : Place) (rest : List ℕ) → n ≤ d → may_follow_bare rest ≡ true → Spell d (expressions p) p bytes rest

pub no_items : (n : ℕ) → ItemsAs n [] IsEnd
no_items n = record { expressions = λ p. []; are = λ p. refl; spells = λ d p rest le ok. grammar.none d p rest }

pub first_items : (n : ℕ) (a more : List ℕ) (Is : Sexpr → Type 0) (Are : List Sexpr → Type 0) → ReadsAs n a Is → RunsAs n more Are → ItemsAs n (a ++ more) (Begins Is Are)
first_items n a more Is Are r s = record {
  expressions = λ p. r.expression p ∷ s.expressions (behind p a);
  are = λ p. record { first = r.expression p; items = s.expressions (behind p a); is = r.is p; are = s.are (behind p a); both = refl };
  spells = λ d p rest le ok.
      joined d (r.expression p ∷ []) (s.expressions (behind p a)) p a more (more ++ rest) rest refl (r.spells d p (more ++ rest) le (s.follows rest ok)) (s.spells d (behind p a) rest le ok);
}

-- the same items, read as something that follows
pub so_items : (n : ℕ) (bytes text : List ℕ) (Are Bre : List Sexpr → Type 0) → bytes ≡ text → ((es : List Sexpr) → Are es → Bre es) → ItemsAs n bytes Are → ItemsAs n text Bre
so_items n bytes text Are Bre same f r = subst (λ (t : List ℕ). ItemsAs n t Bre) same (record { expressions = r.expressions; are = λ p. f (r.expressions p) (r.are p); spells = r.spells })

-- a list of such items
pub record HasItems (Are : List Sexpr → Type 0) (e : Sexpr) : Type 0 where
  pub list : kind_of e ≡ kind.List
  pub are : Are (items_of e)

pub items_read : (n : ℕ) (bytes : List ℕ) (Are : List Sexpr → Type 0) → ItemsAs n bytes Are → ReadsAs (suc n) (40 ∷ (bytes ++ 41 ∷ [])) (HasItems Are)
items_read n bytes Are r = record {
  expression = λ p. list_of p (r.expressions (after 40 p));
  is = λ p. record { list = list_kind p (r.expressions (after 40 p)); are = subst Are (sym (list_items p (r.expressions (after 40 p)))) (r.are (after 40 p)) };
  spells = λ d p rest le ok. go d p rest le ok;
}
  where
    go : (d : ℕ) (p : Place) (rest : List ℕ) → suc n ≤ d → may_follow_bare rest ≡ true → Spell d (list_of p (r.expressions (after 40 p)) ∷ []) p (40 ∷ (bytes ++ 41 ∷ [])) rest
    go zero p rest le ok = absurd (omega (arith, le))
    go (suc d) p rest le ok = grammar.list d (r.expressions (after 40 p)) [] p [] bytes [] [] rest grammar.none (r.spells d (after 40 p) (41 ∷ rest) (omega (arith, le)) refl) grammar.none (grammar.none (suc d) _ rest)
