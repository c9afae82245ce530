-- The steps of readings of parts of commands.
use Rattle.std.proofs.Common.{◌≡◌, ℕ, ◌+◌, ◌≤◌, true, false, ◌||◌, List, [], ◌∷◌, ◌++◌, map, length, drop, slice_get, Some, Ok, refl, sym, ap, ◌∙◌, if◌then◌else◌}
use Rattle.rare_base.specs.declared.answers.Reason.TheVariants as reason
use Rattle.rare_sexpr.specs.declared.tree.Sexpr.{Sexpr}
use Rattle.rare_sexpr.specs.Tree.{items_of}
use Rattle.rare_sort.specs.declared.declarations.Declarations.{Declarations}
use Rattle.rare_sort.specs.declared.sort.Sort.{Sort}
use Rattle.rare_sort.specs.declared.tree.Tree.{Tree}
use Rattle.rare_scope.specs.Names.{Names, Held, names_of, is_declared}
use Rattle.rare_scope.specs.Reading.{refused, go_on, symbol_at}
use Rattle.rare_scope.specs.Reserved.{is_among, is_reserved, is_theory_word}
use Rattle.rare_scope.specs.SortText.{sort_at}
use Rattle.rare_scope.proofs.Listing.{drop_at, drop_all}
use Rattle.rare_text.specs.CommandParts.{free_name, new_name, sorts_from, sorts_at}

-- ---- names

same_names : (ts : List Tree) (held : Held) → map (λ n. n.0) (names_of ts held) ≡ map (λ n. n.0) held
same_names ts [] = refl
same_names ts (n ∷ ns) = ap (λ xs. n.0 ∷ xs) (same_names ts ns)

module _ (ts : List Tree) (held : Held) (e : Sexpr) (name : List ℕ) (is : symbol_at e ≡ Ok name) where
  named : new_name (names_of ts held) e ≡ (if is_declared held name then refused e reason.DeclaredTwice else (if is_reserved name then refused e reason.ReservedSymbol else Ok name))
  named =
      ap (λ r. go_on r (λ n. free_name (names_of ts held) e n)) is
      ∙ ap (λ ns. if is_theory_word name || is_among ns name then refused e reason.DeclaredTwice else (if is_reserved name then refused e reason.ReservedSymbol else Ok name)) (same_names ts held)

  pub name_taken : is_declared held name ≡ true → new_name (names_of ts held) e ≡ refused e reason.DeclaredTwice
  name_taken t = named ∙ ap (λ b. if b then refused e reason.DeclaredTwice else (if is_reserved name then refused e reason.ReservedSymbol else Ok name)) t

  free : is_declared held name ≡ false → new_name (names_of ts held) e ≡ (if is_reserved name then refused e reason.ReservedSymbol else Ok name)
  free f = named ∙ ap (λ b. if b then refused e reason.DeclaredTwice else (if is_reserved name then refused e reason.ReservedSymbol else Ok name)) f

  pub name_reserved : is_declared held name ≡ false → is_reserved name ≡ true → new_name (names_of ts held) e ≡ refused e reason.ReservedSymbol
  name_reserved f t = free f ∙ ap (λ b. if b then refused e reason.ReservedSymbol else Ok name) t

  pub name_free : is_declared held name ≡ false → is_reserved name ≡ false → new_name (names_of ts held) e ≡ Ok name
  name_free f g = free f ∙ ap (λ b. if b then refused e reason.ReservedSymbol else Ok name) g

-- ---- sorts

module _ (d : Declarations) (names : Names) (e : Sexpr) (k : ℕ) (ss : List Sort) (left : sorts_from d names ss (drop k (items_of e)) ≡ sorts_at d names e) where
  pub next_sort : (x : Sexpr) → slice_get (items_of e) k ≡ Some x →
      sorts_at d names e ≡ go_on (sort_at d names x) (λ s. sorts_from d names (ss ++ s ∷ []) (drop (k + 1) (items_of e)))
  next_sort x at = sym left ∙ ap (sorts_from d names ss) (drop_at (items_of e) k x at)

  pub last_sort : length (items_of e) ≤ k → sorts_at d names e ≡ Ok ss
  last_sort le = sym left ∙ ap (sorts_from d names ss) (drop_all (items_of e) k le)
