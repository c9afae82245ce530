-- Commands keep the names of a problem readable, and numbered in order.
use Rattle.std.proofs.Common.{◌≡◌, ℕ, Bool, true, false, List, [], ◌∷◌, ◌++◌, map, length, Option, Some, None, All, Ok, refl, sym, subst, arith}
use Rattle.std.specs.Prelude.{if◌then◌else◌}
use Rattle.std.proofs.lemmas.List.{length_push, map-append}
use Rattle.std.proofs.lemmas.List.Elements.{All-push}
use Rattle.rare_base.specs.Answers.{Refusal}
use Rattle.rare_base.specs.declared.answers.Reason.TheVariants as reason
use Rattle.rare_linear.specs.Linears.{LinearExpression}
use Rattle.rare_sexpr.specs.declared.tree.Sexpr.{Sexpr}
use Rattle.rare_sexpr.specs.Tree.{items_of}
use Rattle.rare_sort.specs.DeclaredSorts.{widths}
use Rattle.rare_sort.specs.declared.sort.Signature.{Signature}
use Rattle.rare_sort.specs.declared.sort.Sort.{Sort}
use Rattle.rare_sort.specs.declared.tree.Tree.{Tree}
use Rattle.rare_scope.specs.ConstraintText.{constraints_at}
use Rattle.rare_scope.specs.LinearText.{widths_of}
use Rattle.rare_scope.specs.Names.{AllDiffer, Meant, Names, a_sort, a_symbol, a_term, a_width}
use Rattle.rare_scope.specs.Reading.{Read, refused, go_on, symbol_at}
use Rattle.rare_scope.specs.Reserved.{begins_reserved, is_among, is_reserved, is_theory_word, reserved_words}
use Rattle.rare_scope.specs.SortText.{sort_at}
use Rattle.rare_scope.proofs.InOrder.{went, same_Ok}
use Rattle.rare_scope.proofs.ScopeLemmas.{either}
use Rattle.rare_term_text.specs.TermText.{term_at}
use Rattle.rare_text.specs.CommandParts.{free_name, is_taken, is_zero_numeral, new_name, sample_at, sorts_at}
use Rattle.rare_text.specs.Problems.{StatedProblem, no_problem, with_floors, with_name, with_rewrite, with_sort, with_symbol, with_width}
use Rattle.rare_text.specs.ProblemText.{assumption_of_widths, command_by, command_of, command_word, constant_declaration, defined_term, definition, function_declaration, is_keyword_at, is_symbol_at, passed_over, problem_from, rewrite_name, rewrite_statement, sides_of_one_sort, sort_declaration, tested, width_declaration, with_command}
use Rattle.rare_text.specs.Samples.{fit_samples, hold_at_samples}
use Rattle.rare_text.specs.declared.commands.CommandWord.{CommandWord}
use Rattle.rare_text.specs.declared.commands.CommandWord.TheVariants.{SetLogic, SetInfo, SetOption, DeclareSort, DeclareConst, DeclareFun, DefineFun, DeclareWidth, AssumeWidth, Rewrite}
use Rattle.rare_problem_reread.proofs.Growing.{AreNumbered, differ_push, one_more, other_more}

-- ---- the numbers of what names stand for

abbrev pub sort_meant_by : Meant → List ℕ
sort_meant_by (a_sort k) = k ∷ []
sort_meant_by m = []

abbrev pub symbol_meant_by : Meant → List ℕ
symbol_meant_by (a_symbol k) = k ∷ []
symbol_meant_by m = []

abbrev pub width_meant_by : Meant → List ℕ
width_meant_by (a_width k) = k ∷ []
width_meant_by m = []

-- by what else is so of the names that expressions read as
module _ (IsSo : List ℕ → Type 0) where
  pub record IsFine (name : List ℕ) : Type 0 where
    pub so : IsSo name
    pub word : is_theory_word name ≡ false
    pub reserved : is_among reserved_words name ≡ false

  -- so many sorts, symbols and widths have names, each kind numbered from 0 on; the names differ and are fine
  pub record AreKept (names : Names) (sort_count symbol_count width_count : ℕ) : Type 0 where
    pub differ : AllDiffer (map (λ n. n.0) names)
    pub fine : All (λ n. IsFine n.0) names
    pub sorts : AreNumbered sort_meant_by names sort_count
    pub symbols : AreNumbered symbol_meant_by names symbol_count
    pub widths : AreNumbered width_meant_by names width_count

  abbrev pub IsKept : StatedProblem → Type 0
  IsKept p = AreKept p.names p.declared.sorts (length p.declared.symbols) (widths p.declared)

  -- a symbol that the expression is reads as such a name
  abbrev pub NamesSo : Sexpr → Type 0
  NamesSo e = (name : List ℕ) → symbol_at e ≡ Ok name → IsSo name

  abbrev pub AllNameSo : List Sexpr → Type 0
  AllNameSo [] = Unit {0}
  AllNameSo (e ∷ es) = NamesSo e × AllNameSo es

  -- ---- a name that may be declared

  record IsNew (names : Names) (name : List ℕ) : Type 0 where
    fine : IsFine name
    absent : is_among (map (λ n. n.0) names) name ≡ false

  new_is : (names : Names) (e : Sexpr) (name : List ℕ) → NamesSo e → new_name names e ≡ Ok name → IsNew names name
  new_is names e name so is =
      let text = went (symbol_at e) (λ t. free_name names e t) name is in
      free text.0 (so text.0 text.1) (is_taken names text.0) refl (is_reserved text.0) refl text.2
    where
      free : (t : List ℕ) → IsSo t → (a : Bool) → is_taken names t ≡ a → (b : Bool) → is_reserved t ≡ b →
          (if a then refused e reason.DeclaredTwice else if b then refused e reason.ReservedSymbol else Ok t) ≡ Ok name → IsNew names name
      free t s true taken b reserved is = absurd cc
      free t s false taken true reserved is = absurd cc
      free t s false taken false reserved is =
          let parts = either (is_theory_word t) (is_among (map (λ n. n.0) names) t) taken in
          let no = either (begins_reserved t) (is_among reserved_words t) reserved in
          subst (IsNew names) (same_Ok t name is) (record { fine = record { so = s; word = parts.0; reserved = no.1 }; absent = parts.1 })

  -- ---- problems with one more

  module _ (p : StatedProblem) (kept : IsKept p) where
    differ_more : (name : List ℕ) (m : Meant) → IsNew p.names name → AllDiffer (map (λ n. n.0) (p.names ++ (name, m) ∷ []))
    differ_more name m new = subst AllDiffer (sym (map-append (λ n. n.0) p.names ((name, m) ∷ []))) (differ_push (map (λ n. n.0) p.names) name kept.differ new.absent)

    fine_more : (name : List ℕ) (m : Meant) → IsNew p.names name → All (λ n. IsFine n.0) (p.names ++ (name, m) ∷ [])
    fine_more name m new = All-push (λ n. IsFine n.0) p.names (name, m) kept.fine new.fine

    sort_kept : (name : List ℕ) → IsNew p.names name → IsKept (with_sort name p)
    sort_kept name new =
        let m = a_sort p.declared.sorts in record {
          differ = differ_more name m new;
          fine = fine_more name m new;
          sorts = one_more sort_meant_by p.names p.declared.sorts kept.sorts name m refl;
          symbols = other_more symbol_meant_by p.names (length p.declared.symbols) kept.symbols name m refl;
          widths = other_more width_meant_by p.names (widths p.declared) kept.widths name m refl;
        }

    symbol_kept : (name : List ℕ) (args : List Sort) (gives : Sort) → IsNew p.names name → IsKept (with_symbol name args gives p)
    symbol_kept name args gives new =
        let m = a_symbol (length p.declared.symbols) in
        let g : Signature = record { args = args; gives = gives } in record {
          differ = differ_more name m new;
          fine = fine_more name m new;
          sorts = other_more sort_meant_by p.names p.declared.sorts kept.sorts name m refl;
          symbols = subst (AreNumbered symbol_meant_by (p.names ++ (name, m) ∷ [])) (sym (length_push p.declared.symbols g)) (one_more symbol_meant_by p.names (length p.declared.symbols) kept.symbols name m refl);
          widths = other_more width_meant_by p.names (widths p.declared) kept.widths name m refl;
        }

    width_kept : (name : List ℕ) (sample : ℕ) → IsNew p.names name → IsKept (with_width name sample p)
    width_kept name sample new =
        let m = a_width (widths p.declared) in record {
          differ = differ_more name m new;
          fine = fine_more name m new;
          sorts = other_more sort_meant_by p.names p.declared.sorts kept.sorts name m refl;
          symbols = other_more symbol_meant_by p.names (length p.declared.symbols) kept.symbols name m refl;
          widths = subst (AreNumbered width_meant_by (p.names ++ (name, m) ∷ [])) (sym (length_push p.declared.lows 1)) (one_more width_meant_by p.names (widths p.declared) kept.widths name m refl);
        }

    term_kept : (name : List ℕ) (t : Tree) → IsNew p.names name → IsKept (with_name name (a_term t) p)
    term_kept name t new =
        let m = a_term t in record {
          differ = differ_more name m new;
          fine = fine_more name m new;
          sorts = other_more sort_meant_by p.names p.declared.sorts kept.sorts name m refl;
          symbols = other_more symbol_meant_by p.names (length p.declared.symbols) kept.symbols name m refl;
          widths = other_more width_meant_by p.names (widths p.declared) kept.widths name m refl;
        }

  -- constraints add no names
  floors_kept : (fs : List LinearExpression) (p : StatedProblem) → IsKept p → IsKept (with_floors fs p)
  floors_kept [] p kept = kept
  floors_kept (f ∷ fs) p kept = floors_kept fs (with_floors (f ∷ []) p) kept

  -- ---- commands

  module _ (p q : StatedProblem) (kept : IsKept p) where
    is_kept : (r : StatedProblem) → IsKept r → ◌≡◌ {A = Read StatedProblem} (Ok r) (Ok q) → IsKept q
    is_kept r h is = subst IsKept (same_Ok r q is) h

    over_kept : (is_form : Sexpr → Bool) (e : Sexpr) → passed_over is_form p e ≡ Ok q → IsKept q
    over_kept is_form e is = go (is_form e) is
      where
        go : (b : Bool) → (if b then Ok p else refused e reason.BadForm) ≡ Ok q → IsKept q
        go true is = is_kept p kept is
        go false is = absurd cc

    sort_declared : (n z : Sexpr) → NamesSo n → sort_declaration p n z ≡ Ok q → IsKept q
    sort_declared n z so is =
        let name = went (new_name p.names n) (λ name. if is_zero_numeral z then Ok (with_sort name p) else refused z reason.BadForm) q is in
        go name.0 (new_is p.names n name.0 so name.1) (is_zero_numeral z) name.2
      where
        go : (name : List ℕ) → IsNew p.names name → (b : Bool) → (if b then Ok (with_sort name p) else refused z reason.BadForm) ≡ Ok q → IsKept q
        go name new true is = is_kept (with_sort name p) (sort_kept p kept name new) is
        go name new false is = absurd cc

    constant_declared : (n s : Sexpr) → NamesSo n → constant_declaration p n s ≡ Ok q → IsKept q
    constant_declared n s so is =
        let name = went (new_name p.names n) (λ name. go_on (sort_at p.declared p.names s) (λ gives. Ok (with_symbol name [] gives p))) q is in
        let gives = went (sort_at p.declared p.names s) (λ gives. Ok (with_symbol name.0 [] gives p)) q name.2 in
        is_kept (with_symbol name.0 [] gives.0 p) (symbol_kept p kept name.0 [] gives.0 (new_is p.names n name.0 so name.1)) gives.2

    function_declared : (n ss s : Sexpr) → NamesSo n → function_declaration p n ss s ≡ Ok q → IsKept q
    function_declared n ss s so is =
        let name = went (new_name p.names n) (λ name. go_on (sorts_at p.declared p.names ss) (λ args. go_on (sort_at p.declared p.names s) (λ gives. Ok (with_symbol name args gives p)))) q is in
        let args = went (sorts_at p.declared p.names ss) (λ args. go_on (sort_at p.declared p.names s) (λ gives. Ok (with_symbol name.0 args gives p))) q name.2 in
        let gives = went (sort_at p.declared p.names s) (λ gives. Ok (with_symbol name.0 args.0 gives p)) q args.2 in
        is_kept (with_symbol name.0 args.0 gives.0 p) (symbol_kept p kept name.0 args.0 gives.0 (new_is p.names n name.0 so name.1)) gives.2

    defined : (n l s t : Sexpr) → NamesSo n → definition p n l s t ≡ Ok q → IsKept q
    defined n l s t so is =
        let name = went (new_name p.names n) (λ name. go_on (defined_term p.declared p.names l s t) (λ tree. Ok (with_name name (a_term tree) p))) q is in
        let tree = went (defined_term p.declared p.names l s t) (λ tree. Ok (with_name name.0 (a_term tree) p)) q name.2 in
        is_kept (with_name name.0 (a_term tree.0) p) (term_kept p kept name.0 tree.0 (new_is p.names n name.0 so name.1)) tree.2

    width_declared : (n v : Sexpr) → NamesSo n → width_declaration p n v ≡ Ok q → IsKept q
    width_declared n v so is =
        let name = went (new_name p.names n) (λ name. go_on (sample_at v) (λ sample. Ok (with_width name sample p))) q is in
        let sample = went (sample_at v) (λ sample. Ok (with_width name.0 sample p)) q name.2 in
        is_kept (with_width name.0 sample.0 p) (width_kept p kept name.0 sample.0 (new_is p.names n name.0 so name.1)) sample.2

    widths_assumed : (e c : Sexpr) → assumption_of_widths p e c ≡ Ok q → IsKept q
    widths_assumed e c is =
        let fs = went (constraints_at (widths_of p.names) c) (λ floors. tested p e c floors) q is in
        go fs.0 (fit_samples p.samples fs.0) (hold_at_samples p.samples fs.0) fs.2
      where
        go : (fs : List LinearExpression) (a b : Bool) → (if a then (if b then Ok (with_floors fs p) else refused e reason.SampleFails) else refused c reason.TermLimit) ≡ Ok q → IsKept q
        go fs true true is = is_kept (with_floors fs p) (floors_kept fs p kept) is
        go fs true false is = absurd cc
        go fs false b is = absurd cc

    rewrite_stated : (e n t s : Sexpr) → rewrite_statement p e n t s ≡ Ok q → IsKept q
    rewrite_stated e n t s is =
        let last = λ (name : List ℕ) (sides : Tree × Tree). Ok (with_rewrite (record { name = name; left = sides.0; right = sides.1 }) p) in
        let name = went (rewrite_name p.rewrites n) (λ name. go_on (term_at p.declared p.names t) (λ a. go_on (term_at p.declared p.names s) (λ b. go_on (sides_of_one_sort p.declared e a b) (last name)))) q is in
        let a = went (term_at p.declared p.names t) (λ a. go_on (term_at p.declared p.names s) (λ b. go_on (sides_of_one_sort p.declared e a b) (last name.0))) q name.2 in
        let b = went (term_at p.declared p.names s) (λ b. go_on (sides_of_one_sort p.declared e a.0 b) (last name.0)) q a.2 in
        let sides = went (sides_of_one_sort p.declared e a.0 b.0) (last name.0) q b.2 in
        is_kept (with_rewrite (record { name = name.0; left = sides.0.0; right = sides.0.1 }) p) kept sides.2

    by_word : (e : Sexpr) (word : CommandWord) (xs : List Sexpr) → AllNameSo xs → command_by p e word xs ≡ Ok q → IsKept q
    by_word e SetLogic (s ∷ []) so is = over_kept is_symbol_at s is
    by_word e SetInfo (k ∷ []) so is = over_kept is_keyword_at k is
    by_word e SetInfo (k ∷ v ∷ []) so is = over_kept is_keyword_at k is
    by_word e SetOption (k ∷ v ∷ []) so is = over_kept is_keyword_at k is
    by_word e DeclareSort (n ∷ z ∷ []) so is = sort_declared n z so.0 is
    by_word e DeclareConst (n ∷ s ∷ []) so is = constant_declared n s so.0 is
    by_word e DeclareFun (n ∷ ss ∷ s ∷ []) so is = function_declared n ss s so.0 is
    by_word e DefineFun (n ∷ l ∷ s ∷ t ∷ []) so is = defined n l s t so.0 is
    by_word e DeclareWidth (n ∷ v ∷ []) so is = width_declared n v so.0 is
    by_word e AssumeWidth (c ∷ []) so is = widths_assumed e c is
    by_word e Rewrite (n ∷ t ∷ s ∷ []) so is = rewrite_stated e n t s is
    by_word e word xs so is = absurd cc

    by_items : (e : Sexpr) (xs : List Sexpr) → AllNameSo xs → command_of p e xs ≡ Ok q → IsKept q
    by_items e [] so is = absurd cc
    by_items e (h ∷ xs) so is = let word = went (command_word e h) (λ word. command_by p e word xs) q is in by_word e word.0 xs so.1 word.2

    one_kept : (e : Sexpr) → AllNameSo (items_of e) → with_command p e ≡ Ok q → IsKept q
    unfolding with_command
    one_kept e so is = by_items e (items_of e) so is

  -- ---- all commands

  -- the items of each command
  abbrev pub CommandsNameSo : List Sexpr → Type 0
  CommandsNameSo [] = Unit {0}
  CommandsNameSo (e ∷ es) = AllNameSo (items_of e) × CommandsNameSo es

  from_kept : (es : List Sexpr) (fault : Option Refusal) (p q : StatedProblem) → CommandsNameSo es → IsKept p → problem_from p es fault ≡ Ok q → IsKept q
  from_kept [] None p q so kept is = is_kept p q kept p kept is
  from_kept [] (Some r) p q so kept is = absurd cc
  from_kept (e ∷ es) fault p q so kept is =
      let next = went (with_command p e) (λ r. problem_from r es fault) q is in
      from_kept es fault next.0 q so.1 (one_kept p next.0 kept e so.0 next.1) next.2

  none_kept : IsKept no_problem
  none_kept = record {
    differ = tt;
    fine = λ k d lt. absurd (omega (arith, lt));
    sorts = record { order = λ k lt. absurd (omega (arith, lt)); counted = refl };
    symbols = record { order = λ k lt. absurd (omega (arith, lt)); counted = refl };
    widths = record { order = λ k lt. absurd (omega (arith, lt)); counted = refl };
  }

  pub commands_kept : (es : List Sexpr) (fault : Option Refusal) (q : StatedProblem) → CommandsNameSo es → problem_from no_problem es fault ≡ Ok q → IsKept q
  commands_kept es fault q so is = from_kept es fault no_problem q so none_kept is
