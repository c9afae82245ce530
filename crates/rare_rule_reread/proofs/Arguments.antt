-- The arguments of an application in a rule: what is read of them, and that what is written of them is read back.
use Rattle.std.proofs.Common.{◌≡◌, ℕ, suc, ◌+◌, ◌≤◌, Bool, true, false, List, [], ◌∷◌, ◌++◌, map, length, Ok, refl, sym, ap, ◌∙◌, subst, arith, append_assoc}
use Rattle.std.specs.Prelude.{if◌then◌else◌}
use Rattle.std.proofs.lemmas.List.{append-nil}
use Rattle.rare_base.specs.declared.answers.Reason.TheVariants as reason
use Rattle.rare_linear.specs.Linears.{LinearExpression}
use Rattle.rare_sexpr.specs.declared.tree.Sexpr.{Sexpr}
use Rattle.rare_sort.specs.Trees.{node, nesting, greatest}
use Rattle.rare_sort.specs.declared.head.Head.{Head}
use Rattle.rare_sort.specs.declared.tree.Tree.{Tree, fold-roll-Tree}
use Rattle.rare_scope.specs.Reading.{Read, refused, go_on}
use Rattle.rare_scope.proofs.InOrder.{went, same_Ok}
use Rattle.rare_operators.specs.declared.head.IndexedHead.{IndexedHead}
use Rattle.rare_rule.specs.declared.param.Param.{Param}
use Rattle.rare_parse.specs.RuleTermText.{is_large, application_at, arguments_from, rule_term_at}
use Rattle.rare_rule_printing.specs.RulePrinting.{node_text, term_text_step, rule_term_text}
use Rattle.rare_rule_printing.specs.inner.RulePieces.{all_spaced}
use Rattle.rare_reread.specs.ReadsAs.{ReadsAs, RunsAs}
use Rattle.rare_reread.proofs.Joining.{Begins, nothing_runs, more_runs}
use Rattle.rare_reread.proofs.Linears.{so_reads, so_runs}

module _ (ps : List Param) where
  abbrev pub pair : Sexpr → Sexpr × Read Tree
  pair x = (x, rule_term_at ps x)

  -- it reads as the term
  abbrev pub IsTree : Tree → Sexpr → Type 0
  IsTree t x = rule_term_at ps x ≡ Ok t

  abbrev pub AreTrees : List Tree → List Sexpr → Type 0
  AreTrees [] [] = Unit {0}
  AreTrees [] (x ∷ xs) = ⊥
  AreTrees (t ∷ ts) [] = ⊥
  AreTrees (t ∷ ts) (x ∷ xs) = IsTree t x × AreTrees ts xs

  pub as_many : (ts : List Tree) (xs : List Sexpr) → AreTrees ts xs → length xs ≡ length ts
  as_many [] [] g = refl
  as_many [] (x ∷ xs) g = absurd g
  as_many (t ∷ ts) [] g = absurd g
  as_many (t ∷ ts) (x ∷ xs) g = ap suc (as_many ts xs g.1)

  pub node_is : (h : Head) (ix : List LinearExpression) (ts : List Tree) → rule_term_text ps (node h ix ts) ≡ node_text ps h ix (map (rule_term_text ps) ts)
  node_is h ix ts = fold-roll-Tree (List ℕ) (term_text_step ps) (record { head = h; indices = ix; args = ts })

  -- ---- what was read

  -- the arguments of an application that was read, none of which is beyond a limit
  pub record IsApplied (o : IndexedHead) (done : List Tree) (xs : List Sexpr) (t : Tree) : Type 0 where
    pub trees : List Tree
    pub are : AreTrees trees xs
    pub small : is_large o.head o.indices (done ++ trees) ≡ false
    pub is : node o.head o.indices (done ++ trees) ≡ t

  none_left : (e : Sexpr) (o : IndexedHead) (done : List Tree) (t : Tree) → application_at e o done ≡ Ok t → IsApplied o done [] t
  none_left e o done t is = go (is_large o.head o.indices done) refl is
    where
      go : (b : Bool) → is_large o.head o.indices done ≡ b → (if b then refused e reason.TermLimit else Ok (node o.head o.indices done)) ≡ Ok t → IsApplied o done [] t
      go true large is = absurd cc
      go false large is = record {
        trees = [];
        are = tt;
        small = ap (is_large o.head o.indices) (append-nil done) ∙ large;
        is = ap (node o.head o.indices) (append-nil done) ∙ same_Ok (node o.head o.indices done) t is;
      }

  pub arguments_read : (e : Sexpr) (o : IndexedHead) (done : List Tree) (xs : List Sexpr) (t : Tree) → arguments_from e o done (map pair xs) ≡ Ok t → IsApplied o done xs t
  arguments_read e o done [] t is = none_left e o done t is
  arguments_read e o done (x ∷ xs) t is =
      let u = went (rule_term_at ps x) (λ u. arguments_from e o (done ++ u ∷ []) (map pair xs)) t is in
      one_before u.0 u.1 (arguments_read e o (done ++ u.0 ∷ []) xs t u.2)
    where
      one_before : (u : Tree) → IsTree u x → IsApplied o (done ++ u ∷ []) xs t → IsApplied o done (x ∷ xs) t
      one_before u first r = record {
        trees = u ∷ r.trees;
        are = (first, r.are);
        small = ap (is_large o.head o.indices) (sym (append_assoc done (u ∷ []) r.trees)) ∙ r.small;
        is = ap (node o.head o.indices) (sym (append_assoc done (u ∷ []) r.trees)) ∙ r.is;
      }

  -- ---- read again

  pub arguments_again : (e : Sexpr) (o : IndexedHead) (done ts : List Tree) (xs : List Sexpr) → AreTrees ts xs → is_large o.head o.indices (done ++ ts) ≡ false → arguments_from e o done (map pair xs) ≡ Ok (node o.head o.indices (done ++ ts))
  arguments_again e o done [] [] g small =
      let n = append-nil done in
      ap (λ b. if b then refused e reason.TermLimit else Ok (node o.head o.indices done)) (ap (is_large o.head o.indices) (sym n) ∙ small) ∙ ap (λ ts. Ok (node o.head o.indices ts)) (sym n)
  arguments_again e o done [] (x ∷ xs) g small = absurd g
  arguments_again e o done (t ∷ ts) [] g small = absurd g
  arguments_again e o done (t ∷ ts) (x ∷ xs) g small =
      ap (λ q. go_on q (λ u. arguments_from e o (done ++ u ∷ []) (map pair xs))) g.0
      ∙ arguments_again e o (done ++ t ∷ []) ts xs g.1 (ap (is_large o.head o.indices) (append_assoc done (t ∷ []) ts) ∙ small)
      ∙ ap (λ us. Ok (node o.head o.indices us)) (append_assoc done (t ∷ []) ts)

  -- ---- written

  -- what is written of a term is read back
  abbrev pub IsBack : Tree → Type 0
  IsBack t = ReadsAs (nesting t + 4) (rule_term_text ps t) (IsTree t)

  abbrev pub AllBack : List Tree → Type 0
  AllBack [] = Unit {0}
  AllBack (t ∷ ts) = IsBack t × AllBack ts

  none_are : (xs : List Sexpr) → xs ≡ [] → AreTrees [] xs
  none_are xs is = subst (AreTrees []) (sym is) tt

  more_are : (t : Tree) (ts : List Tree) (xs : List Sexpr) → Begins (IsTree t) (AreTrees ts) xs → AreTrees (t ∷ ts) xs
  more_are t ts xs b = subst (AreTrees (t ∷ ts)) (sym b.both) (b.is, b.are)

  pub arguments_run : (m : ℕ) (ts : List Tree) → greatest (map nesting ts) + 4 ≤ m → AllBack ts → RunsAs m (all_spaced (map (rule_term_text ps) ts)) (AreTrees ts)
  arguments_run m [] le all = so_runs m m [] [] (λ es. es ≡ []) (AreTrees []) (omega arith) refl none_are (nothing_runs m)
  arguments_run m (t ∷ ts) le all =
      let whole : List ℕ = 32 ∷ (rule_term_text ps t ++ all_spaced (map (rule_term_text ps) ts)) in
      so_runs m m whole whole (Begins (IsTree t) (AreTrees ts)) (AreTrees (t ∷ ts)) (omega arith) refl (more_are t ts)
      (more_runs m (rule_term_text ps t) (all_spaced (map (rule_term_text ps) ts)) (IsTree t) (AreTrees ts)
      (so_reads (nesting t + 4) m (rule_term_text ps t) (rule_term_text ps t) (IsTree t) (IsTree t) (omega arith) refl (λ e g. g) all.0) (arguments_run m ts (omega arith) all.1))
