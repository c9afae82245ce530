-- The steps of a reading of a rule.
use Rattle.std.proofs.Common.{◌≡◌, ℕ, ◌+◌, ◌-◌, ◌≤◌, Bool, true, false, List, [], ◌∷◌, drop, length, slice_get, Some, Ok, Err, refl, sym, ap, ◌∙◌, subst, arith, if◌then◌else◌}
use Rattle.std.specs.Prelude.{codes}
use Rattle.std.proofs.lemmas.Option.{none-some, same_Some}
use Rattle.rare_base.specs.declared.answers.Fault.{Fault}
use Rattle.rare_base.specs.declared.answers.Reason.TheVariants as reason
use Rattle.rare_linear.specs.declared.constraint.Constraint.{Constraint}
use Rattle.rare_sexpr.specs.declared.tree.Sexpr.{Sexpr}
use Rattle.rare_sexpr.specs.Tree.{items_of, kind_of}
use Rattle.rare_sort.specs.declared.tree.Tree.{Tree}
use Rattle.rare_scope.specs.Answers.{Fails}
use Rattle.rare_scope.specs.Reading.{Read, refused, go_on, is_symbol_kind, is_word, is_keyword_word, symbol_at}
use Rattle.rare_scope.proofs.InOrder.{fails_on, goes_on}
use Rattle.rare_scope.proofs.Listing.{drop_at, drop_all}
use Rattle.rare_rule.specs.declared.param.Param.{Param}
use Rattle.rare_rule.specs.declared.rule.Rule.{Rule}
use Rattle.rare_rule.specs.Written.{plain_rule}
use Rattle.rare_parse.specs.ParamText.{params_at}
use Rattle.rare_parse.specs.RuleTermText.{rule_term_at}
use Rattle.rare_parse.specs.RuleText.{RuleHead, rule_head, begins_definitions, bounds_at, behind_bounds, behind_params, ended, with_sides, whole_rule, rule_at, rule_of, plain_rule_of, has_rule_items}
use Rattle.rare_parse.specs.inner.RuleReading.{Bounded, bounded, bounded_at, ended_sides, sides_at, two_sides}

pub no_definitions : (xs : List Sexpr) → length xs ≡ 0 → begins_definitions xs ≡ false
no_definitions [] none = refl
no_definitions (x ∷ xs) none = absurd (omega (arith, none))

pub definitions_by : (xs : List Sexpr) (h : Sexpr) → slice_get xs 0 ≡ Some h → begins_definitions xs ≡ is_word (codes "def") h
definitions_by [] h is = absurd (none-some h is)
definitions_by (x ∷ xs) h is = ap (is_word (codes "def")) (same_Some x h is)

-- ---- sides

module _ (ps : List Param) (e : Sexpr) (xs : List Sexpr) (from : ℕ) where
  pub no_sides : from ≡ length xs → sides_at ps e (drop from xs) ≡ refused e reason.BadForm
  no_sides is = ap (sides_at ps e) (drop_all xs from (omega (arith, is)))

  module _ (x : Sexpr) (at : slice_get xs from ≡ Some x) where
    first : sides_at ps e (drop from xs) ≡ (if begins_definitions (items_of x) then (refused x reason.BadForm) else two_sides ps e (drop from xs))
    first = ap (sides_at ps e) (drop_at xs from x at) ∙ ap (λ ys. if begins_definitions (items_of x) then (refused x reason.BadForm) else two_sides ps e ys) (sym (drop_at xs from x at))

    pub defined : begins_definitions (items_of x) ≡ true → sides_at ps e (drop from xs) ≡ refused x reason.BadForm
    defined is = first ∙ ap (λ b. if b then (refused x reason.BadForm) else two_sides ps e (drop from xs)) is

    pub undefined : begins_definitions (items_of x) ≡ false → sides_at ps e (drop from xs) ≡ two_sides ps e (drop from xs)
    undefined is = first ∙ ap (λ b. if b then (refused x reason.BadForm) else two_sides ps e (drop from xs)) is

    -- `x` is the left side
    pub left_fails : (f : Fault) → Fails f (rule_term_at ps x) → Fails f (two_sides ps e (drop from xs))
    left_fails f bad = subst (λ (ys : List Sexpr). Fails f (two_sides ps e ys)) (sym (drop_at xs from x at)) (go (drop (from + 1) xs))
      where
        go : (ys : List Sexpr) → Fails f (two_sides ps e (x ∷ ys))
        go [] = fails_on f (rule_term_at ps x) (λ left. refused e reason.BadForm) (two_sides ps e (x ∷ [])) refl bad
        go (y ∷ ys) = fails_on f (rule_term_at ps x) (λ left. go_on (rule_term_at ps y) (λ right. ended_sides ys (left, right))) (two_sides ps e (x ∷ y ∷ ys)) refl bad

    module _ (left : Tree) (read : rule_term_at ps x ≡ Ok left) where
      pub lone_left : (n : ℕ) → n ≡ length xs → n - from ≡ 1 → two_sides ps e (drop from xs) ≡ refused e reason.BadForm
      lone_left n is one =
          ap (two_sides ps e) (drop_at xs from x at ∙ ap (λ ys. x ∷ ys) (drop_all xs (from + 1) (omega (arith, is, one))))
          ∙ ap (λ r. go_on r (λ left. refused e reason.BadForm)) read

      module _ (y : Sexpr) (next : slice_get xs (from + 1) ≡ Some y) where
        both : drop from xs ≡ x ∷ y ∷ drop (from + 1 + 1) xs
        both = drop_at xs from x at ∙ ap (λ ys. x ∷ ys) (drop_at xs (from + 1) y next)

        behind_left : two_sides ps e (drop from xs) ≡ go_on (rule_term_at ps y) (λ right. ended_sides (drop (from + 1 + 1) xs) (left, right))
        behind_left = ap (two_sides ps e) both ∙ ap (λ r. go_on r (λ left. go_on (rule_term_at ps y) (λ right. ended_sides (drop (from + 1 + 1) xs) (left, right)))) read

        pub right_fails : (f : Fault) → Fails f (rule_term_at ps y) → Fails f (two_sides ps e (drop from xs))
        right_fails f bad = fails_on f (rule_term_at ps y) (λ right. ended_sides (drop (from + 1 + 1) xs) (left, right)) (two_sides ps e (drop from xs)) behind_left bad

        module _ (right : Tree) (also : rule_term_at ps y ≡ Ok right) where
          behind_both : two_sides ps e (drop from xs) ≡ ended_sides (drop (from + 1 + 1) xs) (left, right)
          behind_both = goes_on (rule_term_at ps y) right (λ right. ended_sides (drop (from + 1 + 1) xs) (left, right)) (two_sides ps e (drop from xs)) behind_left also

          pub more_sides : (z : Sexpr) → slice_get xs (from + 2) ≡ Some z → two_sides ps e (drop from xs) ≡ refused z reason.BadForm
          more_sides z third = behind_both ∙ (let k : from + 1 + 1 ≡ from + 2 = omega arith in ap (λ n. ended_sides (drop n xs) (left, right)) k) ∙ ap (λ ys. ended_sides ys (left, right)) (drop_at xs (from + 2) z third)

          pub sides_read : (n : ℕ) → n ≡ length xs → n - from ≤ 2 → two_sides ps e (drop from xs) ≡ Ok (left, right)
          sides_read n is few = behind_both ∙ ap (λ ys. ended_sides ys (left, right)) (drop_all xs (from + 1 + 1) (omega (arith, is, few)))

-- ---- the parts of a rule

-- what stands behind the bounds, by its sides
module _ (e : Sexpr) (a : RuleHead) where
  abbrev made : Tree × Tree → Read Rule
  made s = whole_rule e (plain_rule a.name a.params a.bounds s.0 s.1)

  lone : (r : Read Tree) → go_on r (λ left. refused e reason.BadForm) ≡ go_on (go_on r (λ left. refused e reason.BadForm)) made
  lone (Ok t) = refl
  lone (Err f) = refl

  ends : (rest : List Sexpr) (left right : Tree) → ended rest (made (left, right)) ≡ go_on (ended_sides rest (left, right)) made
  ends [] left right = refl
  ends (x ∷ xs) left right = refl

  pair_of : (p q : Read Tree) (rest : List Sexpr) → go_on p (λ left. go_on q (λ right. ended rest (made (left, right)))) ≡ go_on (go_on p (λ left. go_on q (λ right. ended_sides rest (left, right)))) made
  pair_of (Ok left) (Ok right) rest = ends rest left right
  pair_of (Ok left) (Err f) rest = refl
  pair_of (Err f) q rest = refl

  sided : (xs : List Sexpr) → with_sides e a xs ≡ go_on (two_sides a.params e xs) made
  sided [] = refl
  sided (l ∷ []) = lone (rule_term_at a.params l)
  sided (l ∷ r ∷ rest) = pair_of (rule_term_at a.params l) (rule_term_at a.params r) rest

  behind : (xs : List Sexpr) → behind_bounds e a xs ≡ go_on (sides_at a.params e xs) made
  behind [] = refl
  behind (x ∷ xs) = go (begins_definitions (items_of x))
    where
      go : (b : Bool) → (if b then (refused x reason.BadForm) else with_sides e a (x ∷ xs)) ≡ go_on (if b then (refused x reason.BadForm) else two_sides a.params e (x ∷ xs)) made
      go true = refl
      go false = sided (x ∷ xs)

module _ (e : Sexpr) (name : List ℕ) (ps : List Param) (k c : Sexpr) (p : slice_get (items_of e) 3 ≡ Some k) (q : slice_get (items_of e) 4 ≡ Some c) where
  abbrev from_bounds : Bounded → Read Rule
  from_bounds b = go_on (sides_at ps e (drop b.behind (items_of e))) (λ s. whole_rule e (plain_rule name ps b.bounds s.0 s.1))

  five_items : drop 3 (items_of e) ≡ k ∷ c ∷ drop 5 (items_of e)
  five_items = drop_at (items_of e) 3 k p ∙ ap (λ ys. k ∷ ys) (drop_at (items_of e) 4 c q)

  by_where : (b : Bool) →
      (if b then go_on (bounds_at ps c) (λ bs. behind_bounds e (rule_head name ps bs) (drop 5 (items_of e))) else behind_bounds e (rule_head name ps []) (k ∷ c ∷ drop 5 (items_of e)))
      ≡ go_on (if b then go_on (bounds_at ps c) (λ bs. Ok (bounded 5 bs)) else Ok (bounded 3 [])) from_bounds
  by_where false = ap (behind_bounds e (rule_head name ps [])) (sym five_items) ∙ behind e (rule_head name ps []) (drop 3 (items_of e))
  by_where true = go (bounds_at ps c)
    where
      go : (r : Read (List Constraint)) → go_on r (λ bs. behind_bounds e (rule_head name ps bs) (drop 5 (items_of e))) ≡ go_on (go_on r (λ bs. Ok (bounded 5 bs))) from_bounds
      go (Ok bs) = behind e (rule_head name ps bs) (drop 5 (items_of e))
      go (Err f) = refl

  by_bounds : behind_params e name ps (drop 3 (items_of e)) ≡ go_on (bounded_at ps k c) from_bounds
  by_bounds = ap (behind_params e name ps) five_items ∙ by_where (is_keyword_word (codes "where") k)

  pub bounds_fail : (f : Fault) → Fails f (bounded_at ps k c) → Fails f (behind_params e name ps (drop 3 (items_of e)))
  bounds_fail f bad = fails_on f (bounded_at ps k c) from_bounds (behind_params e name ps (drop 3 (items_of e))) by_bounds bad

  module _ (n : ℕ) (bs : List Constraint) (is : bounded_at ps k c ≡ Ok (bounded n bs)) where
    behind_where : behind_params e name ps (drop 3 (items_of e)) ≡ go_on (sides_at ps e (drop n (items_of e))) (λ s. whole_rule e (plain_rule name ps bs s.0 s.1))
    behind_where = goes_on (bounded_at ps k c) (bounded n bs) from_bounds (behind_params e name ps (drop 3 (items_of e))) by_bounds is

    pub sides_fail : (f : Fault) → Fails f (sides_at ps e (drop n (items_of e))) → Fails f (behind_params e name ps (drop 3 (items_of e)))
    sides_fail f bad = fails_on f (sides_at ps e (drop n (items_of e))) (λ s. whole_rule e (plain_rule name ps bs s.0 s.1)) (behind_params e name ps (drop 3 (items_of e))) behind_where bad

    pub parts_read : (left right : Tree) → sides_at ps e (drop n (items_of e)) ≡ Ok (left, right) → behind_params e name ps (drop 3 (items_of e)) ≡ whole_rule e (plain_rule name ps bs left right)
    parts_read left right read = goes_on (sides_at ps e (drop n (items_of e))) (left, right) (λ s. whole_rule e (plain_rule name ps bs s.0 s.1)) (behind_params e name ps (drop 3 (items_of e))) behind_where read

-- ---- the head of a rule

module _ (e n p : Sexpr) (second : slice_get (items_of e) 1 ≡ Some n) (third : slice_get (items_of e) 2 ≡ Some p) where
  abbrev from_params : List ℕ → List Param → Read Rule
  from_params name ps = behind_params e name ps (drop 3 (items_of e))

  by_head : plain_rule_of e (items_of e) ≡ go_on (symbol_at n) (λ name. go_on (params_at p) (from_params name))
  by_head = go (items_of e) second third
    where
      go : (xs : List Sexpr) → slice_get xs 1 ≡ Some n → slice_get xs 2 ≡ Some p → plain_rule_of e xs ≡ go_on (symbol_at n) (λ name. go_on (params_at p) (λ ps. behind_params e name ps (drop 3 xs)))
      go [] second third = absurd (none-some n second)
      go (a ∷ []) second third = absurd (none-some n second)
      go (a ∷ b ∷ []) second third = absurd (none-some p third)
      go (a ∷ b ∷ c ∷ rest) second third =
          ap (λ z. go_on (symbol_at z) (λ name. go_on (params_at c) (λ ps. behind_params e name ps rest))) (same_Some b n second)
          ∙ ap (λ z. go_on (symbol_at n) (λ name. go_on (params_at z) (λ ps. behind_params e name ps rest))) (same_Some c p third)

  pub name_fails : (f : Fault) → Fails f (symbol_at n) → Fails f (plain_rule_of e (items_of e))
  name_fails f bad = fails_on f (symbol_at n) (λ name. go_on (params_at p) (from_params name)) (plain_rule_of e (items_of e)) by_head bad

  module _ (name : List ℕ) (is : symbol_at n ≡ Ok name) where
    behind_name : plain_rule_of e (items_of e) ≡ go_on (params_at p) (from_params name)
    behind_name = goes_on (symbol_at n) name (λ name. go_on (params_at p) (from_params name)) (plain_rule_of e (items_of e)) by_head is

    pub params_fail : (f : Fault) → Fails f (params_at p) → Fails f (plain_rule_of e (items_of e))
    params_fail f bad = fails_on f (params_at p) (from_params name) (plain_rule_of e (items_of e)) behind_name bad

    pub head_read : (ps : List Param) → params_at p ≡ Ok ps → plain_rule_of e (items_of e) ≡ behind_params e name ps (drop 3 (items_of e))
    head_read ps read = goes_on (params_at p) ps (from_params name) (plain_rule_of e (items_of e)) behind_name read

-- ---- the command

pub no_items : (e : Sexpr) → length (items_of e) ≡ 0 → rule_at e ≡ refused e reason.BadForm
no_items e none = go (items_of e) none
  where
    go : (xs : List Sexpr) → length xs ≡ 0 → rule_of e xs ≡ refused e reason.BadForm
    go [] none = refl
    go (x ∷ xs) none = absurd (omega (arith, none))

module _ (e w : Sexpr) (first : slice_get (items_of e) 0 ≡ Some w) where
  abbrev counted : Read Rule
  counted = if has_rule_items (items_of e) then plain_rule_of e (items_of e) else (refused e reason.BadForm)

  begun : rule_at e ≡ (if is_symbol_kind (kind_of w) then (if is_word (codes "define-rule") w then counted else (refused e reason.UnknownCommand)) else (refused e reason.BadForm))
  begun = go (items_of e) first
    where
      go : (xs : List Sexpr) → slice_get xs 0 ≡ Some w →
          rule_of e xs
          ≡ (if is_symbol_kind (kind_of w) then (if is_word (codes "define-rule") w then (if has_rule_items xs then plain_rule_of e xs else (refused e reason.BadForm)) else (refused e reason.UnknownCommand)) else (refused e reason.BadForm))
      go [] first = absurd (none-some w first)
      go (x ∷ xs) first =
          ap (λ z. if is_symbol_kind (kind_of z) then (if is_word (codes "define-rule") z then (if has_rule_items (x ∷ xs) then plain_rule_of e (x ∷ xs) else (refused e reason.BadForm)) else (refused e reason.UnknownCommand)) else (refused e reason.BadForm)) (same_Some x w first)

  pub no_symbol : is_symbol_kind (kind_of w) ≡ false → rule_at e ≡ refused e reason.BadForm
  no_symbol no_word = begun ∙ ap (λ b. if b then (if is_word (codes "define-rule") w then counted else (refused e reason.UnknownCommand)) else (refused e reason.BadForm)) no_word

  module _ (symbol : is_symbol_kind (kind_of w) ≡ true) where
    worded : rule_at e ≡ (if is_word (codes "define-rule") w then counted else (refused e reason.UnknownCommand))
    worded = begun ∙ ap (λ b. if b then (if is_word (codes "define-rule") w then counted else (refused e reason.UnknownCommand)) else (refused e reason.BadForm)) symbol

    pub other_word : is_word (codes "define-rule") w ≡ false → rule_at e ≡ refused e reason.UnknownCommand
    other_word fails = worded ∙ ap (λ b. if b then counted else (refused e reason.UnknownCommand)) fails

    module _ (word : is_word (codes "define-rule") w ≡ true) where
      defined_rule : rule_at e ≡ counted
      defined_rule = worded ∙ ap (λ b. if b then counted else (refused e reason.UnknownCommand)) word

      pub other_count : has_rule_items (items_of e) ≡ false → rule_at e ≡ refused e reason.BadForm
      other_count fails = defined_rule ∙ ap (λ b. if b then plain_rule_of e (items_of e) else (refused e reason.BadForm)) fails

      pub items_read : has_rule_items (items_of e) ≡ true → rule_at e ≡ plain_rule_of e (items_of e)
      items_read fits = defined_rule ∙ ap (λ b. if b then plain_rule_of e (items_of e) else (refused e reason.BadForm)) fits
