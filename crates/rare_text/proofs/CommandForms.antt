-- Which numbers of items the commands have.
use Rattle.std.proofs.Common.{◌≡◌, List, [], ◌∷◌, drop, length, slice_get, Some, refl, ap, arith}
use Rattle.std.proofs.lemmas.Option.{none-some, same_Some}
use Rattle.rare_base.specs.declared.answers.Reason.TheVariants as reason
use Rattle.rare_sexpr.specs.declared.tree.Sexpr.{Sexpr}
use Rattle.rare_sexpr.specs.Tree.{items_of}
use Rattle.rare_scope.specs.Reading.{refused, go_on}
use Rattle.rare_text.specs.declared.commands.CommandWord.TheVariants.{SetLogic, SetInfo, SetOption, DeclareSort, DeclareConst, DeclareFun, DefineFun, DeclareWidth, AssumeWidth, Rewrite}
use Rattle.rare_text.specs.ProblemText.{command_by, command_of, command_word, with_command}
use Rattle.rare_text.specs.Problems.{StatedProblem}

-- ---- the items behind the first

module _ {A : Type 0} where
  pub one_behind : (xs : List A) (a : A) → length xs ≡ 2 → slice_get xs 1 ≡ Some a → drop 1 xs ≡ a ∷ []
  one_behind [] a n ga = absurd (omega (arith, n))
  one_behind (h ∷ []) a n ga = absurd (omega (arith, n))
  one_behind (h ∷ x ∷ []) a n ga =
      let ea = same_Some x a ga in λ i. ea i ∷ []
  one_behind (h ∷ x ∷ w ∷ ws) a n ga = absurd (omega (arith, n))

  pub two_behind : (xs : List A) (a b : A) → length xs ≡ 3 → slice_get xs 1 ≡ Some a → slice_get xs 2 ≡ Some b → drop 1 xs ≡ a ∷ b ∷ []
  two_behind [] a b n ga gb = absurd (omega (arith, n))
  two_behind (h ∷ []) a b n ga gb = absurd (omega (arith, n))
  two_behind (h ∷ x ∷ []) a b n ga gb = absurd (omega (arith, n))
  two_behind (h ∷ x ∷ y ∷ []) a b n ga gb =
      let ea = same_Some x a ga in let eb = same_Some y b gb in λ i. ea i ∷ eb i ∷ []
  two_behind (h ∷ x ∷ y ∷ w ∷ ws) a b n ga gb = absurd (omega (arith, n))

  pub three_behind : (xs : List A) (a b c : A) → length xs ≡ 4 → slice_get xs 1 ≡ Some a → slice_get xs 2 ≡ Some b → slice_get xs 3 ≡ Some c → drop 1 xs ≡ a ∷ b ∷ c ∷ []
  three_behind [] a b c n ga gb gc = absurd (omega (arith, n))
  three_behind (h ∷ []) a b c n ga gb gc = absurd (omega (arith, n))
  three_behind (h ∷ x ∷ []) a b c n ga gb gc = absurd (omega (arith, n))
  three_behind (h ∷ x ∷ y ∷ []) a b c n ga gb gc = absurd (omega (arith, n))
  three_behind (h ∷ x ∷ y ∷ z ∷ []) a b c n ga gb gc =
      let ea = same_Some x a ga in let eb = same_Some y b gb in let ec = same_Some z c gc in λ i. ea i ∷ eb i ∷ ec i ∷ []
  three_behind (h ∷ x ∷ y ∷ z ∷ w ∷ ws) a b c n ga gb gc = absurd (omega (arith, n))

  pub four_behind : (xs : List A) (a b c d : A) → length xs ≡ 5 → slice_get xs 1 ≡ Some a → slice_get xs 2 ≡ Some b → slice_get xs 3 ≡ Some c → slice_get xs 4 ≡ Some d → drop 1 xs ≡ a ∷ b ∷ c ∷ d ∷ []
  four_behind [] a b c d n ga gb gc gd = absurd (omega (arith, n))
  four_behind (h ∷ []) a b c d n ga gb gc gd = absurd (omega (arith, n))
  four_behind (h ∷ x ∷ []) a b c d n ga gb gc gd = absurd (omega (arith, n))
  four_behind (h ∷ x ∷ y ∷ []) a b c d n ga gb gc gd = absurd (omega (arith, n))
  four_behind (h ∷ x ∷ y ∷ z ∷ []) a b c d n ga gb gc gd = absurd (omega (arith, n))
  four_behind (h ∷ x ∷ y ∷ z ∷ u ∷ []) a b c d n ga gb gc gd =
      let ea = same_Some x a ga in let eb = same_Some y b gb in let ec = same_Some z c gc in let ed = same_Some u d gd in λ i. ea i ∷ eb i ∷ ec i ∷ ed i ∷ []
  four_behind (h ∷ x ∷ y ∷ z ∷ u ∷ w ∷ ws) a b c d n ga gb gc gd = absurd (omega (arith, n))

-- ---- other numbers of items

module _ (p : StatedProblem) (e : Sexpr) where
  pub other_logic : (xs : List Sexpr) → ¬ (length xs ≡ 2) → command_by p e SetLogic (drop 1 xs) ≡ refused e reason.BadForm
  other_logic [] n2 = refl
  other_logic (h ∷ []) n2 = refl
  other_logic (h ∷ x ∷ []) n2 = absurd (n2 refl)
  other_logic (h ∷ x ∷ k ∷ ks) n2 = refl

  pub other_info : (xs : List Sexpr) → ¬ (length xs ≡ 2) → ¬ (length xs ≡ 3) → command_by p e SetInfo (drop 1 xs) ≡ refused e reason.BadForm
  other_info [] n2 n3 = refl
  other_info (h ∷ []) n2 n3 = refl
  other_info (h ∷ x ∷ []) n2 n3 = absurd (n2 refl)
  other_info (h ∷ x ∷ y ∷ []) n2 n3 = absurd (n3 refl)
  other_info (h ∷ x ∷ y ∷ k ∷ ks) n2 n3 = refl

  pub other_option : (xs : List Sexpr) → ¬ (length xs ≡ 3) → command_by p e SetOption (drop 1 xs) ≡ refused e reason.BadForm
  other_option [] n3 = refl
  other_option (h ∷ []) n3 = refl
  other_option (h ∷ x ∷ []) n3 = refl
  other_option (h ∷ x ∷ y ∷ []) n3 = absurd (n3 refl)
  other_option (h ∷ x ∷ y ∷ k ∷ ks) n3 = refl

  pub other_sort : (xs : List Sexpr) → ¬ (length xs ≡ 3) → command_by p e DeclareSort (drop 1 xs) ≡ refused e reason.BadForm
  other_sort [] n3 = refl
  other_sort (h ∷ []) n3 = refl
  other_sort (h ∷ x ∷ []) n3 = refl
  other_sort (h ∷ x ∷ y ∷ []) n3 = absurd (n3 refl)
  other_sort (h ∷ x ∷ y ∷ k ∷ ks) n3 = refl

  pub other_constant : (xs : List Sexpr) → ¬ (length xs ≡ 3) → command_by p e DeclareConst (drop 1 xs) ≡ refused e reason.BadForm
  other_constant [] n3 = refl
  other_constant (h ∷ []) n3 = refl
  other_constant (h ∷ x ∷ []) n3 = refl
  other_constant (h ∷ x ∷ y ∷ []) n3 = absurd (n3 refl)
  other_constant (h ∷ x ∷ y ∷ k ∷ ks) n3 = refl

  pub other_function : (xs : List Sexpr) → ¬ (length xs ≡ 4) → command_by p e DeclareFun (drop 1 xs) ≡ refused e reason.BadForm
  other_function [] n4 = refl
  other_function (h ∷ []) n4 = refl
  other_function (h ∷ x ∷ []) n4 = refl
  other_function (h ∷ x ∷ y ∷ []) n4 = refl
  other_function (h ∷ x ∷ y ∷ z ∷ []) n4 = absurd (n4 refl)
  other_function (h ∷ x ∷ y ∷ z ∷ k ∷ ks) n4 = refl

  pub other_definition : (xs : List Sexpr) → ¬ (length xs ≡ 5) → command_by p e DefineFun (drop 1 xs) ≡ refused e reason.BadForm
  other_definition [] n5 = refl
  other_definition (h ∷ []) n5 = refl
  other_definition (h ∷ x ∷ []) n5 = refl
  other_definition (h ∷ x ∷ y ∷ []) n5 = refl
  other_definition (h ∷ x ∷ y ∷ z ∷ []) n5 = refl
  other_definition (h ∷ x ∷ y ∷ z ∷ u ∷ []) n5 = absurd (n5 refl)
  other_definition (h ∷ x ∷ y ∷ z ∷ u ∷ k ∷ ks) n5 = refl

  pub other_width : (xs : List Sexpr) → ¬ (length xs ≡ 3) → command_by p e DeclareWidth (drop 1 xs) ≡ refused e reason.BadForm
  other_width [] n3 = refl
  other_width (h ∷ []) n3 = refl
  other_width (h ∷ x ∷ []) n3 = refl
  other_width (h ∷ x ∷ y ∷ []) n3 = absurd (n3 refl)
  other_width (h ∷ x ∷ y ∷ k ∷ ks) n3 = refl

  pub other_assumption : (xs : List Sexpr) → ¬ (length xs ≡ 2) → command_by p e AssumeWidth (drop 1 xs) ≡ refused e reason.BadForm
  other_assumption [] n2 = refl
  other_assumption (h ∷ []) n2 = refl
  other_assumption (h ∷ x ∷ []) n2 = absurd (n2 refl)
  other_assumption (h ∷ x ∷ k ∷ ks) n2 = refl

  pub other_rewrite : (xs : List Sexpr) → ¬ (length xs ≡ 4) → command_by p e Rewrite (drop 1 xs) ≡ refused e reason.BadForm
  other_rewrite [] n4 = refl
  other_rewrite (h ∷ []) n4 = refl
  other_rewrite (h ∷ x ∷ []) n4 = refl
  other_rewrite (h ∷ x ∷ y ∷ []) n4 = refl
  other_rewrite (h ∷ x ∷ y ∷ z ∷ []) n4 = absurd (n4 refl)
  other_rewrite (h ∷ x ∷ y ∷ z ∷ k ∷ ks) n4 = refl

-- ---- a command by its first item

module _ (p : StatedProblem) (e : Sexpr) where
  none_of : (xs : List Sexpr) → length xs ≡ 0 → command_of p e xs ≡ refused e reason.BadForm
  none_of [] n = refl
  none_of (x ∷ xs) n = absurd (omega (arith, n))

  pub no_items : length (items_of e) ≡ 0 → with_command p e ≡ refused e reason.BadForm
  unfolding with_command
  no_items n = none_of (items_of e) n

  some_of : (xs : List Sexpr) (h : Sexpr) → slice_get xs 0 ≡ Some h → command_of p e xs ≡ go_on (command_word e h) (λ word. command_by p e word (drop 1 xs))
  some_of [] h at = absurd (none-some h at)
  some_of (x ∷ xs) h at = ap (λ y. go_on (command_word e y) (λ word. command_by p e word xs)) (same_Some x h at)

  pub by_word : (h : Sexpr) → slice_get (items_of e) 0 ≡ Some h → with_command p e ≡ go_on (command_word e h) (λ word. command_by p e word (drop 1 (items_of e)))
  unfolding with_command
  by_word h at = some_of (items_of e) h at
