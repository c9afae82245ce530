-- The steps of readings of definitions, rewrites and constraints.
use Rattle.std.proofs.Common.{◌≡◌, ℕ, ◌+◌, ℤ, ◌≤ℤ◌, pos, T, Bool, true, false, ◌&&◌, List, [], ◌∷◌, map, drop, length, get_or, ◌<◌, refl, sym, ap, ◌∙◌, subst, Ok, All, int_le, if◌then◌else◌}
use Rattle.std.specs.Int.Signed.{le_z_yes}
use Rattle.std.specs.List.{list_all}
use Rattle.std.proofs.lemmas.List.{drop_more}
use Rattle.std.proofs.lemmas.List.Elements.{All-cons, All-nil}
use Rattle.rare_base.specs.declared.answers.Reason.TheVariants as reason
use Rattle.rare_linear.specs.Linears.{LinearExpression, linear_value}
use Rattle.rare_sexpr.specs.declared.tree.Sexpr.{Sexpr}
use Rattle.rare_sort.specs.Sameness.{sort_eq}
use Rattle.rare_sort.specs.SortOf.{sort_of}
use Rattle.rare_sort.specs.declared.tree.Tree.{Tree}
use Rattle.rare_scope.specs.Names.{a_term}
use Rattle.rare_scope.specs.Reading.{Read, refused, go_on, symbol_at}
use Rattle.rare_scope.specs.Reserved.{is_among}
use Rattle.rare_term_text.specs.TermText.{term_at}
use Rattle.rare_text.specs.declared.problem.Rewrite.{Rewrite}
use Rattle.rare_text.specs.ProblemText.{defined_term, definition, rewrite_name, rewrite_statement, sides_of_one_sort, tested}
use Rattle.rare_text.specs.CommandParts.{new_name}
use Rattle.rare_text.specs.Problems.{StatedProblem, with_name, with_rewrite, with_floors}
use Rattle.rare_text.specs.Samples.{fit_samples, hold_at_samples}
use Rattle.rare_text.specs.Stated.{stated_rewrite}

-- ---- definitions

pub defined : (p : StatedProblem) (n l s t : Sexpr) (name : List ℕ) (tree : Tree) → new_name p.names n ≡ Ok name → defined_term p.declared p.names l s t ≡ Ok tree →
    definition p n l s t ≡ Ok (with_name name (a_term tree) p)
defined p n l s t name tree is read =
    ap (λ r. go_on r (λ x. go_on (defined_term p.declared p.names l s t) (λ y. Ok (with_name x (a_term y) p)))) is
    ∙ ap (λ r. go_on r (λ y. Ok (with_name name (a_term y) p))) read

-- ---- rewrites

same_names : (ts : List Tree) (rs : List Rewrite) → map (λ r. r.name) (map (stated_rewrite ts) rs) ≡ map (λ r. r.name) rs
same_names ts [] = refl
same_names ts (r ∷ rs) = ap (λ ns. r.name ∷ ns) (same_names ts rs)

module _ (ts : List Tree) (rs : List Rewrite) (n : Sexpr) (name : List ℕ) (is : symbol_at n ≡ Ok name) where
  named : rewrite_name (map (stated_rewrite ts) rs) n ≡ (if is_among (map (λ r. r.name) rs) name then refused n reason.DeclaredTwice else Ok name)
  named =
      ap (λ r. go_on r (λ x. if is_among (map (λ r. r.name) (map (stated_rewrite ts) rs)) x then refused n reason.DeclaredTwice else Ok x)) is
      ∙ ap (λ ns. if is_among ns name then refused n reason.DeclaredTwice else Ok name) (same_names ts rs)

  pub rewrite_twice : is_among (map (λ r. r.name) rs) name ≡ true → rewrite_name (map (stated_rewrite ts) rs) n ≡ refused n reason.DeclaredTwice
  rewrite_twice t = named ∙ ap (λ b. if b then refused n reason.DeclaredTwice else Ok name) t

  pub rewrite_new : is_among (map (λ r. r.name) rs) name ≡ false → rewrite_name (map (stated_rewrite ts) rs) n ≡ Ok name
  rewrite_new f = named ∙ ap (λ b. if b then refused n reason.DeclaredTwice else Ok name) f

-- what follows on a name and two sides
abbrev pub from_sides : StatedProblem → Sexpr → List ℕ → Tree → Tree → Read StatedProblem
from_sides p e x y z = go_on (sides_of_one_sort p.declared e y z) (λ sides. Ok (with_rewrite (record { name = x; left = sides.0; right = sides.1 }) p))

module _ (p : StatedProblem) (e n t s : Sexpr) (name : List ℕ) (is : rewrite_name p.rewrites n ≡ Ok name) (a : Tree) (left : term_at p.declared p.names t ≡ Ok a) where
  pub after_left : rewrite_statement p e n t s ≡ go_on (term_at p.declared p.names s) (from_sides p e name a)
  after_left =
      ap (λ r. go_on r (λ x. go_on (term_at p.declared p.names t) (λ y. go_on (term_at p.declared p.names s) (from_sides p e x y)))) is
      ∙ ap (λ r. go_on r (λ y. go_on (term_at p.declared p.names s) (from_sides p e name y))) left

  module _ (b : Tree) (right : term_at p.declared p.names s ≡ Ok b) where
    after_right : rewrite_statement p e n t s ≡ from_sides p e name a b
    after_right = after_left ∙ ap (λ r. go_on r (from_sides p e name a)) right

    pub unlike : sort_eq (sort_of p.declared.symbols a) (sort_of p.declared.symbols b) ≡ false → rewrite_statement p e n t s ≡ refused e reason.IllSorted
    unlike f =
        after_right
        ∙ ap (λ c. go_on {A = Tree × Tree} (if c then Ok (a, b) else refused e reason.IllSorted) (λ sides. Ok (with_rewrite (record { name = name; left = sides.0; right = sides.1 }) p))) f

    pub alike : sort_eq (sort_of p.declared.symbols a) (sort_of p.declared.symbols b) ≡ true →
        rewrite_statement p e n t s ≡ Ok (with_rewrite (record { name = name; left = a; right = b }) p)
    alike t =
        after_right
        ∙ ap (λ c. go_on {A = Tree × Tree} (if c then Ok (a, b) else refused e reason.IllSorted) (λ sides. Ok (with_rewrite (record { name = name; left = sides.0; right = sides.1 }) p))) t

-- ---- constraints

module _ (p : StatedProblem) (e c : Sexpr) (floors : List LinearExpression) where
  pub too_large : fit_samples p.samples floors ≡ false → tested p e c floors ≡ refused c reason.TermLimit
  too_large f = ap (λ b. if b then (if hold_at_samples p.samples floors then Ok (with_floors floors p) else refused e reason.SampleFails) else refused c reason.TermLimit) f

  module _ (fit : fit_samples p.samples floors ≡ true) where
    fitting : tested p e c floors ≡ (if hold_at_samples p.samples floors then Ok (with_floors floors p) else refused e reason.SampleFails)
    fitting = ap (λ b. if b then (if hold_at_samples p.samples floors then Ok (with_floors floors p) else refused e reason.SampleFails) else refused c reason.TermLimit) fit

    pub sample_fails : hold_at_samples p.samples floors ≡ false → tested p e c floors ≡ refused e reason.SampleFails
    sample_fails f = fitting ∙ ap (λ b. if b then Ok (with_floors floors p) else refused e reason.SampleFails) f

    pub samples_hold : hold_at_samples p.samples floors ≡ true → tested p e c floors ≡ Ok (with_floors floors p)
    samples_hold t = fitting ∙ ap (λ b. if b then Ok (with_floors floors p) else refused e reason.SampleFails) t

both : (b c : Bool) → (b && c) ≡ true → (b ≡ true) × (c ≡ true)
both true c e = (refl, e)
both false c e = cc

-- each is at least 0 where the test is true
pub all_hold : (at : ℕ → ℤ) (fs : List LinearExpression) → list_all (λ e. int_le (pos 0) (linear_value at e)) fs ≡ true → All (λ f. pos 0 ≤ℤ linear_value at f) fs
all_hold at [] t = All-nil (λ f. pos 0 ≤ℤ linear_value at f)
all_hold at (f ∷ fs) t =
    let x = both _ _ t in
    All-cons (λ g. pos 0 ≤ℤ linear_value at g) f fs (le_z_yes (subst T (sym x.0) tt)) (all_hold at fs x.1)

pub next_floor : (p : StatedProblem) (fs : List LinearExpression) (k : ℕ) (f : LinearExpression) → k < length fs → f ≡ get_or fs k f → with_floors (drop k fs) p ≡ with_floors (drop (k + 1) fs) (with_floors (f ∷ []) p)
next_floor p fs k f lt is = ap (λ gs. with_floors gs p) (drop_more fs k f lt ∙ ap (λ g. g ∷ drop (k + 1) fs) (sym is))
