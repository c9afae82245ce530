-- Lists of three items.
use Rattle.std.proofs.Common.{◌≡◌, ℕ, suc, Bool, true, false, ◌&&◌, List, [], ◌∷◌, ◌++◌, length, bytes_eq, get_or, ap, ◌∙◌, arith, append_assoc, ◌<◌, zero}
use Rattle.std.specs.List.{list_any}
use Rattle.rare_sexpr.specs.declared.tree.AtomKind.TheVariants as atom
use Rattle.rare_sexpr.specs.declared.tree.Kind.TheVariants as kind
use Rattle.rare_sexpr.specs.declared.tree.Sexpr.{Sexpr}
use Rattle.rare_sexpr.specs.Tree.{kind_of, text_of, items_of}
use Rattle.rare_scope.specs.Reading.{is_symbol_kind, is_word}
use Rattle.rare_scope.proofs.ScopeLemmas.{either}
use Rattle.rare_reread.specs.ReadsAs.{ReadsAs, IsListOf}
use Rattle.rare_reread.proofs.Atoms.{IsAtom, kind_is, text_is, list_kind, list_items}
use Rattle.rare_reread.proofs.Joining.{Begins, nothing_runs, more_runs, list_reads}
use Rattle.rare_reread.proofs.Linears.{so_reads}

-- a list of three such items
pub record HasThree (A B C : Sexpr → Type 0) (e : Sexpr) : Type 0 where
  pub first : Sexpr
  pub second : Sexpr
  pub third : Sexpr
  pub is_first : A first
  pub is_second : B second
  pub is_third : C third
  pub items : items_of e ≡ first ∷ second ∷ third ∷ []
  pub list : kind_of e ≡ kind.List

abbrev pub IsEnd : List Sexpr → Type 0
IsEnd es = es ≡ []

pub has_three : (A B C : Sexpr → Type 0) (e : Sexpr) → IsListOf A (Begins B (Begins C IsEnd)) e → HasThree A B C e
has_three A B C e i =
    let s = i.are in
    let t = s.are in
    let items : i.items ≡ s.first ∷ t.first ∷ [] = s.both ∙ ap (λ es. s.first ∷ es) (t.both ∙ ap (λ es. t.first ∷ es) t.are) in
    record {
      first = i.first;
      second = s.first;
      third = t.first;
      is_first = i.is;
      is_second = s.is;
      is_third = t.is;
      items = ap items_of i.list ∙ list_items i.place (i.first ∷ i.items) ∙ ap (λ es. i.first ∷ es) items;
      list = ap kind_of i.list ∙ list_kind i.place (i.first ∷ i.items);
    }

three_text : (a b c : List ℕ) → 40 ∷ (a ++ ((32 ∷ (b ++ (32 ∷ (c ++ [])))) ++ 41 ∷ [])) ≡ 40 ∷ (a ++ (32 ∷ (b ++ (32 ∷ (c ++ 41 ∷ [])))))
three_text a b c =
    ap (λ t. 40 ∷ (a ++ 32 ∷ t)) (append_assoc b (32 ∷ (c ++ [])) (41 ∷ []) ∙ ap (λ t. b ++ 32 ∷ t) (append_assoc c [] (41 ∷ [])))

pub three_read : (n : ℕ) (a b c : List ℕ) (A B C : Sexpr → Type 0) → ReadsAs n a A → ReadsAs n b B → ReadsAs n c C → ReadsAs (suc n) (40 ∷ (a ++ (32 ∷ (b ++ (32 ∷ (c ++ 41 ∷ [])))))) (HasThree A B C)
three_read n a b c A B C ra rb rc =
    so_reads (suc n) (suc n) (40 ∷ (a ++ ((32 ∷ (b ++ (32 ∷ (c ++ [])))) ++ 41 ∷ []))) (40 ∷ (a ++ (32 ∷ (b ++ (32 ∷ (c ++ 41 ∷ [])))))) (IsListOf A (Begins B (Begins C IsEnd))) (HasThree A B C) (omega arith) (three_text a b c)
    (has_three A B C) (list_reads n a (32 ∷ (b ++ (32 ∷ (c ++ [])))) A (Begins B (Begins C IsEnd)) ra (more_runs n b (32 ∷ (c ++ [])) B (Begins C IsEnd) rb (more_runs n c [] C IsEnd rc (nothing_runs n))))

-- ---- words

pub symbol_is : (text : List ℕ) (e : Sexpr) → IsAtom atom.Symbol text e → is_symbol_kind (kind_of e) ≡ true
symbol_is text e a = ap is_symbol_kind (kind_is atom.Symbol text e a)

pub word_is : (word text : List ℕ) (e : Sexpr) → IsAtom atom.Symbol text e → is_word word e ≡ bytes_eq text word
word_is word text e a = ap (λ b. b && bytes_eq (text_of e) word) (symbol_is text e a) ∙ ap (λ t. bytes_eq t word) (text_is atom.Symbol text e a)

-- what is none of them is not the one at a place
pub none_at : (p : List ℕ → Bool) (xs : List (List ℕ)) (i : ℕ) → list_any p xs ≡ false → i < length xs → p (get_or xs i []) ≡ false
none_at p [] i none lt = absurd (omega (arith, lt))
none_at p (x ∷ xs) zero none lt = (either (p x) (list_any p xs) none).0
none_at p (x ∷ xs) (suc i) none lt = none_at p xs i (either (p x) (list_any p xs) none).1 (omega arith)
