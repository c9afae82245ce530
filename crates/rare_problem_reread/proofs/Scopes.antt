-- Scopes that hold the names of a problem that was read.
use Rattle.std.proofs.Common.{◌≡◌, ℕ, ◌≤◌, true, false, List, [], ◌∷◌, ◌++◌, map, length, All, Ok, refl, sym, ap, ◌∙◌, subst, arith}
use Rattle.std.specs.List.{list_all}
use Rattle.std.proofs.lemmas.List.{get_or-map, length-map}
use Rattle.rare_sexpr.specs.Bytes.{is_in_bars}
use Rattle.rare_sort.specs.declared.tree.Tree.{Tree}
use Rattle.rare_scope.specs.declared.meaning.Meaning.{Meaning}
use Rattle.rare_scope.specs.declared.meaning.Meaning.TheVariants as meaning
use Rattle.rare_scope.specs.Names.{AllDiffer, AreInOrder, Held, Meant, Names, meant, names_of, names_with, numbers_with, sort_number, symbol_number, width_number}
use Rattle.rare_scope.specs.Reserved.{is_among, is_theory_word, reserved_words}
use Rattle.rare_scope.proofs.ScopeLemmas.{as_many}
use Rattle.rare_text.specs.ProblemText.{problem_of}
use Rattle.rare_text.specs.Problems.{StatedProblem}
use Rattle.rare_reread.specs.Readable.{IsReadable}
use Rattle.rare_problem_reread.specs.ReadNames.{HaveNames, IsReadableName, Reads}
use Rattle.rare_problem_reread.proofs.Commands.{sort_meant_by, symbol_meant_by, width_meant_by}
use Rattle.rare_problem_reread.proofs.Growing.{AreNumbered, numbers_in}
use Rattle.rare_problem_reread.proofs.Texts.{problem_in_bars, problem_kept}

-- ---- names

pub names_readable : (bytes : List ℕ) (p : StatedProblem) → Reads bytes p → All (λ n. IsReadableName n.0) p.names
names_readable bytes p r k d lt =
    let n = (problem_in_bars bytes p r).fine k d lt in
    record { symbol = n.so; word = n.word; reserved = n.reserved }

pub names_differ : (bytes : List ℕ) (p : StatedProblem) → problem_of bytes ≡ Ok p → AllDiffer (map (λ n. n.0) p.names)
names_differ bytes p is = (problem_kept bytes p is).differ

-- ---- what a scope holds

module _ (ts : List Tree) where
  same_names : (held : Held) → map (λ n. n.0) (names_of ts held) ≡ map (λ n. n.0) held
  same_names [] = refl
  same_names (n ∷ ns) = ap (λ xs. n.0 ∷ xs) (same_names ns)

  -- what holds of the names of a problem holds of those of its scope
  all_held : (P : List ℕ → Type 0) (held : Held) → All (λ n. P n.0) (names_of ts held) → All (λ n. P n.0) held
  all_held P held all k d lt =
      let f : (List ℕ × Meaning) → List ℕ × Meant = λ n. (n.0, meant ts n.1) in
      subst (λ n. P n.0) (get_or-map f held k d (f d) lt) (all k (f d) (omega (arith, lt, length-map held f)))

  module _ (number : Meaning → List ℕ) (meant_by : Meant → List ℕ) (same : (m : Meaning) → number m ≡ meant_by (meant ts m)) where
    same_numbers : (held : Held) → numbers_with number held ≡ numbers_in meant_by (names_of ts held)
    same_numbers [] = refl
    same_numbers (n ∷ ns) = ap (λ ks. ks ++ numbers_with number ns) (same n.1) ∙ ap (λ ks. meant_by (meant ts n.1) ++ ks) (same_numbers ns)

    numbered : (held : Held) (names : Names) (count : ℕ) → names_of ts held ≡ names → AreNumbered meant_by names count → AreInOrder (numbers_with number held) × (count ≤ length (names_with number held))
    numbered held names count is n =
        let one = same_numbers held ∙ ap (numbers_in meant_by) is in
        let size = ap length one in
        (subst AreInOrder (sym one) n.order, omega (arith, size, n.counted, as_many number held))

  same_sort : (m : Meaning) → sort_number m ≡ sort_meant_by (meant ts m)
  same_sort (meaning.Sort k) = refl
  same_sort (meaning.Width k) = refl
  same_sort (meaning.Symbol k) = refl
  same_sort (meaning.Term id) = refl

  same_symbol : (m : Meaning) → symbol_number m ≡ symbol_meant_by (meant ts m)
  same_symbol (meaning.Sort k) = refl
  same_symbol (meaning.Width k) = refl
  same_symbol (meaning.Symbol k) = refl
  same_symbol (meaning.Term id) = refl

  same_width : (m : Meaning) → width_number m ≡ width_meant_by (meant ts m)
  same_width (meaning.Sort k) = refl
  same_width (meaning.Width k) = refl
  same_width (meaning.Symbol k) = refl
  same_width (meaning.Term id) = refl

-- ---- the laws

module _ (bytes : List ℕ) (p : StatedProblem) (ts : List Tree) (held : Held) (is : names_of ts held ≡ p.names) where
  pub scope_readable : Reads bytes p → IsReadable held
  scope_readable r =
      let k = problem_in_bars bytes p r in
      let names = subst (All (λ n. IsReadableName n.0)) (sym is) (names_readable bytes p r) in record {
        scope = record {
          differ = subst AllDiffer (sym (ap (map (λ n. n.0)) is) ∙ same_names ts held) k.differ;
          sorts = (numbered ts sort_number sort_meant_by (same_sort ts) held p.names p.declared.sorts is k.sorts).0;
          symbols = (numbered ts symbol_number symbol_meant_by (same_symbol ts) held p.names _ is k.symbols).0;
          widths = (numbered ts width_number width_meant_by (same_width ts) held p.names _ is k.widths).0;
        };
        symbols = all_held ts (λ n. list_all is_in_bars n ≡ true) held (λ i d lt. (names i d lt).symbol);
        words = all_held ts (λ n. is_theory_word n ≡ false) held (λ i d lt. (names i d lt).word);
        reserved = all_held ts (λ n. is_among reserved_words n ≡ false) held (λ i d lt. (names i d lt).reserved);
      }

  pub each_named : problem_of bytes ≡ Ok p → HaveNames p.declared held
  each_named read =
      let k = problem_kept bytes p read in record {
        sorts = (numbered ts sort_number sort_meant_by (same_sort ts) held p.names p.declared.sorts is k.sorts).1;
        symbols = (numbered ts symbol_number symbol_meant_by (same_symbol ts) held p.names _ is k.symbols).1;
        widths = (numbered ts width_number width_meant_by (same_width ts) held p.names _ is k.widths).1;
      }
