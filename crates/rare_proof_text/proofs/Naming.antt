-- The names that a proof may define.
use Rattle.std.proofs.Common.{◌≡◌, ℕ, Bool, true, false, ◌||◌, List, [], ◌∷◌, map, Ok, refl, ap, ◌∙◌, if◌then◌else◌}
use Rattle.rare_base.specs.declared.answers.Reason.TheVariants as reason
use Rattle.rare_sexpr.specs.declared.tree.Sexpr.{Sexpr}
use Rattle.rare_sort.specs.declared.tree.Tree.{Tree}
use Rattle.rare_scope.specs.Names.{Held, is_declared, names_of}
use Rattle.rare_scope.specs.Reading.{Read, refused}
use Rattle.rare_scope.specs.Reserved.{is_among, is_reserved, is_theory_word}
use Rattle.rare_text.specs.CommandParts.{is_taken}
use Rattle.rare_proof_text.specs.ProofText.{begins_at_sign, free_definition_name}

same_words : (ts : List Tree) (held : Held) → map (λ n. n.0) (names_of ts held) ≡ map (λ n. n.0) held
same_words ts [] = refl
same_words ts (n ∷ held) = ap (λ words. n.0 ∷ words) (same_words ts held)

-- a name is taken where the scope declares it
pub taken_held : (ts : List Tree) (held : Held) (name : List ℕ) → is_taken (names_of ts held) name ≡ is_declared held name
taken_held ts held name = ap (λ words. is_theory_word name || is_among words name) (same_words ts held)

module _ (ts : List Tree) (held : Held) (e : Sexpr) (name : List ℕ) where
  abbrev by_tests : Bool → Bool → Bool → Read (List ℕ)
  by_tests taken sign reserved =
      if taken then refused e reason.DeclaredTwice else if sign then Ok name else if reserved then refused e reason.ReservedSymbol else refused e reason.BadForm

  tests : free_definition_name (names_of ts held) e name ≡ by_tests (is_declared held name) (begins_at_sign name) (is_reserved name)
  tests = ap (λ b. by_tests b (begins_at_sign name) (is_reserved name)) (taken_held ts held name)

  pub name_taken : is_declared held name ≡ true → free_definition_name (names_of ts held) e name ≡ refused e reason.DeclaredTwice
  name_taken t = tests ∙ ap (λ b. by_tests b (begins_at_sign name) (is_reserved name)) t

  pub name_free : is_declared held name ≡ false → begins_at_sign name ≡ true → free_definition_name (names_of ts held) e name ≡ Ok name
  name_free t s = tests ∙ (λ i. by_tests (t i) (s i) (is_reserved name))

  pub name_reserved : is_declared held name ≡ false → begins_at_sign name ≡ false → is_reserved name ≡ true → free_definition_name (names_of ts held) e name ≡ refused e reason.ReservedSymbol
  name_reserved t s r = tests ∙ (λ i. by_tests (t i) (s i) (r i))

  pub name_plain : is_declared held name ≡ false → begins_at_sign name ≡ false → is_reserved name ≡ false → free_definition_name (names_of ts held) e name ≡ refused e reason.BadForm
  name_plain t s r = tests ∙ (λ i. by_tests (t i) (s i) (r i))
