-- Mentions one after another.
use Rattle.std.proofs.Common.{◌≡◌, ℕ, zero, suc, Bool, true, false, ◌&&◌, ◌||◌, List, [], ◌∷◌, ◌++◌, length, get_or, Result, Ok, Err, IfOk, slice_get, take, drop, flat_map, ◌+◌, ◌≤◌, refl, sym, ap, ◌∙◌, arith, subst, append_assoc, append-nil, if◌then◌else◌}
use Rattle.std.specs.Prelude.{ℤ, pos, negsuc, nat_eq, reverse, Some, None}
use Rattle.std.specs.List.{list_any}
use Rattle.std.proofs.lemmas.List.{reverse-append}
use Rattle.std.specs.Ordering.{int_eq}
use Rattle.std.proofs.lemmas.Bool.Decides.{Decides-int_eq}
use Rattle.std.proofs.lemmas.Option.{none-some, same_Some}
use Rattle.rare_sort.specs.declared.sort.Sort.{Sort}
use Rattle.rare_sort.specs.declared.sort.Sort.TheBlock.{hidden-the_row-Sort-0}
use Rattle.rare_sort.specs.declared.sort.Sort.TheViews.{Array}
use Rattle.rare_linear.specs.Linears.{Part, LinearExpression}
use Rattle.rare_rule.specs.Determination.{Mention, Determines, Uses, are_in_order, are_among, determines, index_mentions, mention, mention_of, sort_mentions}
use Rattle.rare_rule.specs.Params.{is_alone_kind, kind_at}
use Rattle.rare_rule.specs.declared.param.Param.{Param}
use Rattle.rare_sort.specs.declared.head.Head.TheVariants as head
use denote.Hole.Carrier
use Rattle.rare_parse.specs.inner.Following.{in_order, is_lone, mention_by, Follows}

-- ---- one expression

not_true : (b : Bool) → (b ≡ true → ⊥) → b ≡ false
not_true true h = absurd (h refl)
not_true false h = refl

not_one : (n : ℕ) → int_eq (pos (suc (suc n))) (pos 1) ≡ false
not_one n = not_true (int_eq (pos (suc (suc n))) (pos 1)) (λ t. let e : pos (suc (suc n)) ≡ pos 1 = (Decides-int_eq (pos (suc (suc n))) (pos 1)).0 t in let s : suc (suc n) ≡ 1 = cc in omega (arith, s))

not_nothing : (n : ℕ) → int_eq (pos (suc n)) (pos 0) ≡ false
not_nothing n = not_true (int_eq (pos (suc n)) (pos 0)) (λ t. let e : pos (suc n) ≡ pos 0 = (Decides-int_eq (pos (suc n)) (pos 0)).0 t in let s : suc n ≡ 0 = cc in omega (arith, s))

module _ (ps : List Param) where
  lone : (c : ℤ) (p : Part) → mention_of ps c (p ∷ []) ≡ (if is_lone ps c p then Determines p.0 else (Uses (p ∷ [])))
  lone (pos zero) (k, pos zero) = refl
  lone (pos zero) (k, pos (suc zero)) = refl
  lone (pos zero) (k, pos (suc (suc n))) = ap (λ b. if b && is_alone_kind (kind_at ps k) then Determines k else (Uses ((k, pos (suc (suc n))) ∷ []))) (sym (not_one n))
  lone (pos zero) (k, negsuc n) = refl
  lone (pos (suc c)) (k, f) = ap (λ b. if b && (int_eq f (pos 1) && is_alone_kind (kind_at ps k)) then Determines k else (Uses ((k, f) ∷ []))) (sym (not_nothing c))
  lone (negsuc c) (k, f) = refl

  one : (xs : List Part) (d : Part) → length xs ≡ 1 → xs ≡ get_or xs 0 d ∷ []
  one [] d is = absurd (omega (arith, is))
  one (x ∷ []) d is = refl
  one (x ∷ y ∷ xs) d is = absurd (omega (arith, is))

  pub mention_one : (e : LinearExpression) (d : Part) → length e.parts ≡ 1 → mention ps e ≡ (if is_lone ps e.constant (get_or e.parts 0 d) then Determines (get_or e.parts 0 d).0 else (Uses e.parts))
  mention_one e d is =
      let p = get_or e.parts 0 d in
      ap (mention_of ps e.constant) (one e.parts d is) ∙ lone e.constant p ∙ ap (λ xs. if is_lone ps e.constant p then Determines p.0 else (Uses xs)) (sym (one e.parts d is))

  other : (c : ℤ) (xs : List Part) → ¬ (length xs ≡ 1) → mention_of ps c xs ≡ Uses xs
  other (pos zero) [] ne = refl
  other (pos zero) ((k, pos zero) ∷ xs) ne = refl
  other (pos zero) ((k, pos (suc zero)) ∷ []) ne = absurd (ne refl)
  other (pos zero) ((k, pos (suc zero)) ∷ x ∷ xs) ne = refl
  other (pos zero) ((k, pos (suc (suc n))) ∷ xs) ne = refl
  other (pos zero) ((k, negsuc n) ∷ xs) ne = refl
  other (pos (suc c)) xs ne = refl
  other (negsuc c) xs ne = refl

  pub mention_other : (e : LinearExpression) → ¬ (length e.parts ≡ 1) → mention ps e ≡ Uses e.parts
  mention_other e ne = other e.constant e.parts ne

-- ---- what is found

reverse_more : (xs : List ℕ) (k : ℕ) → reverse (xs ++ k ∷ []) ≡ k ∷ reverse xs
reverse_more xs k = reverse-append xs (k ∷ [])

any_append : (xs ys : List ℕ) (test : ℕ → Bool) → list_any test (xs ++ ys) ≡ (list_any test xs || list_any test ys)
any_append [] ys test = refl
any_append (x ∷ xs) ys test = go (test x) (any_append xs ys test)
  where
    go : (b : Bool) → list_any test (xs ++ ys) ≡ (list_any test xs || list_any test ys) → (b || list_any test (xs ++ ys)) ≡ ((b || list_any test xs) || list_any test ys)
    go true rest = refl
    go false rest = rest

mentioned : (xs ys : List Mention) (test : Mention → Bool) → list_any test (xs ++ ys) ≡ (list_any test xs || list_any test ys)
mentioned [] ys test = refl
mentioned (x ∷ xs) ys test = go (test x) (mentioned xs ys test)
  where
    go : (b : Bool) → list_any test (xs ++ ys) ≡ (list_any test xs || list_any test ys) → (b || list_any test (xs ++ ys)) ≡ ((b || list_any test xs) || list_any test ys)
    go true rest = refl
    go false rest = rest

or_swap : (a b : Bool) → (a || (b || false)) ≡ (b || a)
or_swap true true = refl
or_swap true false = refl
or_swap false true = refl
or_swap false false = refl

any_reverse : (xs : List ℕ) (test : ℕ → Bool) → list_any test (reverse xs) ≡ list_any test xs
any_reverse [] test = refl
any_reverse (x ∷ xs) test =
    ap (list_any test) (reverse-append (x ∷ []) xs) ∙ any_append (reverse xs) (x ∷ []) test
    ∙ ap (λ b. b || (test x || false)) (any_reverse xs test) ∙ or_swap (list_any test xs) (test x)

or_nothing : (a : Bool) → a ≡ (a || false)
or_nothing true = refl
or_nothing false = refl

pub follow_nothing : (found : List ℕ) → Follows [] found found true
follow_nothing found = record { order = λ rest. refl; found = λ ok k. or_nothing (list_any (nat_eq k) found) }

-- one number is found
pub follow_one : (k : ℕ) (old new : List ℕ) → new ≡ old ++ k ∷ [] → Follows (Determines k ∷ []) old new true
follow_one k old new is = record {
  order = λ rest. ap (λ xs. are_in_order xs rest) (sym (ap reverse is ∙ reverse_more old k));
  found = λ ok j. ap (list_any (nat_eq j)) is ∙ any_append old (k ∷ []) (nat_eq j);
}

among_same : (old : List ℕ) (parts : List Part) → are_among (reverse old) parts ≡ are_among old parts
among_same old [] = refl
among_same old (p ∷ parts) = ap (λ b. b && are_among (reverse old) parts) (any_reverse old (nat_eq p.0)) ∙ ap (λ b. list_any (nat_eq p.0) old && b) (among_same old parts)

-- names are used
pub uses : (parts : List Part) (found : List ℕ) (ok : Bool) → ok ≡ are_among found parts → Follows (Uses parts ∷ []) found found ok
uses parts found ok is = record {
  order = λ rest. ap (λ b. b && in_order found rest) (among_same found parts ∙ sym is);
  found = λ ok k. or_nothing (list_any (nat_eq k) found);
}

pub follow_found : (m : Mention) (parts : List Part) (k : ℕ) (old new : List ℕ) → m ≡ mention_by parts (Some k) → new ≡ old ++ k ∷ [] → Follows (m ∷ []) old new true
follow_found m parts k old new is push = subst (λ (n : Mention). Follows (n ∷ []) old new true) (sym is) (follow_one k old new push)

pub follow_uses : (m : Mention) (parts : List Part) (found : List ℕ) (ok : Bool) → m ≡ mention_by parts None → ok ≡ are_among found parts → Follows (m ∷ []) found found ok
follow_uses m parts found ok is same = subst (λ (n : Mention). Follows (n ∷ []) found found ok) (sym is) (uses parts found ok same)

-- ---- one after another

and_assoc : (a b c : Bool) → a ≡ true → (a && (b && c)) ≡ (b && c)
and_assoc true b c is = refl
and_assoc false b c is = absurd cc

or_assoc : (a b c : Bool) → ((a || b) || c) ≡ (a || (b || c))
or_assoc true b c = refl
or_assoc false b c = refl

pub follow_both : (ms ns : List Mention) (a b c : List ℕ) (ok : Bool) → Follows ms a b true → Follows ns b c ok → Follows (ms ++ ns) a c ok
follow_both ms ns a b c ok f g = record {
  order = λ rest. ap (in_order a) (append_assoc ms ns rest) ∙ f.order (ns ++ rest) ∙ g.order rest;
  found = λ is k.
      g.found is k ∙ ap (λ t. t || list_any (determines k) ns) (f.found refl k)
      ∙ or_assoc (list_any (nat_eq k) a) (list_any (determines k) ms) (list_any (determines k) ns)
      ∙ ap (λ t. list_any (nat_eq k) a || t) (sym (mentioned ms ns (determines k)));
}

-- what fails at first fails
pub follow_not : (ms ns : List Mention) (a b : List ℕ) → Follows ms a b false → Follows (ms ++ ns) a b false
follow_not ms ns a b f = record {
  order = λ rest. ap (in_order a) (append_assoc ms ns rest) ∙ f.order (ns ++ rest);
  found = λ is k. absurd cc;
}

-- ---- sorts

module _ (ps : List Param) where
  array_mentions : (a b : Sort) → sort_mentions ps (Array a b) ≡ sort_mentions ps a ++ sort_mentions ps b
  unfolding hidden-the_row-Sort-0 denote.Hole.Carrier.hidden
  array_mentions a b = refl

  module _ (s a b : Sort) (is : s ≡ Array a b) (x y : List ℕ) where
    pub follow_array : (z : List ℕ) (ok : Bool) → Follows (sort_mentions ps a) x y true → Follows (sort_mentions ps b) y z ok → Follows (sort_mentions ps s) x z ok
    follow_array z ok f g = subst (λ (ms : List Mention). Follows ms x z ok) (sym (ap (sort_mentions ps) is ∙ array_mentions a b)) (follow_both (sort_mentions ps a) (sort_mentions ps b) x y z ok f g)

    pub follow_no_array : Follows (sort_mentions ps a) x y false → Follows (sort_mentions ps s) x y false
    follow_no_array f = subst (λ (ms : List Mention). Follows ms x y false) (sym (ap (sort_mentions ps) is ∙ array_mentions a b)) (follow_not (sort_mentions ps a) (sort_mentions ps b) x y f)

-- ---- lists of mentions one after another

-- what is behind an item, for items that mention one after another
pub follow_item : {X : Type 0} (f : X → List Mention) (xs : List X) (k : ℕ) (x : X) (a b c : List ℕ) (ok : Bool) → slice_get xs k ≡ Some x →
    Follows (flat_map f (take k xs)) a b true → Follows (f x) b c ok → Follows (flat_map f (take (k + 1) xs)) a c ok
follow_item f xs k x a b c ok at before here =
    subst (λ (ms : List Mention). Follows ms a c ok) (sym (ap (flat_map f) (take_at xs k x at) ∙ flat_more f (take k xs) x)) (follow_both (flat_map f (take k xs)) (f x) a b c ok before here)
  where
    flat_more : {X : Type 0} (f : X → List Mention) (xs : List X) (x : X) → flat_map f (xs ++ x ∷ []) ≡ flat_map f xs ++ f x
    flat_more f [] x = append-nil (f x)
    flat_more f (y ∷ ys) x = ap (λ zs. f y ++ zs) (flat_more f ys x) ∙ sym (append_assoc (f y) (flat_map f ys) (f x))

    take_at : {X : Type 0} (xs : List X) (k : ℕ) (x : X) → slice_get xs k ≡ Some x → take (k + 1) xs ≡ take k xs ++ x ∷ []
    take_at xs k x at = let e : k + 1 ≡ suc k = omega arith in ap (λ n. take n xs) e ∙ go xs k at
      where
        go : (xs : List _) (k : ℕ) → slice_get xs k ≡ Some x → take (suc k) xs ≡ take k xs ++ x ∷ []
        go [] k at = absurd (none-some x at)
        go (y ∷ ys) zero at = ap (λ z. z ∷ []) (same_Some y x at)
        go (y ∷ ys) (suc k) at = ap (λ zs. y ∷ zs) (go ys k at)

-- an item fails, and so do all
pub follow_stops : {X : Type 0} (f : X → List Mention) (xs : List X) (k : ℕ) (a b : List ℕ) → Follows (flat_map f (take k xs)) a b false → Follows (flat_map f xs) a b false
follow_stops f xs k a b stops =
    subst (λ (ms : List Mention). Follows ms a b false) (sym (ap (flat_map f) (sym (take_drop xs k)) ∙ flat_both f (take k xs) (drop k xs))) (follow_not (flat_map f (take k xs)) (flat_map f (drop k xs)) a b stops)
  where
    take_drop : {X : Type 0} (xs : List X) (k : ℕ) → take k xs ++ drop k xs ≡ xs
    take_drop [] zero = refl
    take_drop [] (suc k) = refl
    take_drop (x ∷ xs) zero = refl
    take_drop (x ∷ xs) (suc k) = ap (λ ys. x ∷ ys) (take_drop xs k)

    flat_both : {X : Type 0} (f : X → List Mention) (xs ys : List X) → flat_map f (xs ++ ys) ≡ flat_map f xs ++ flat_map f ys
    flat_both f [] ys = refl
    flat_both f (x ∷ xs) ys = ap (λ zs. f x ++ zs) (flat_both f xs ys) ∙ sym (append_assoc (f x) (flat_map f xs) (flat_map f ys))

-- a number, and what is behind it
pub follow_behind : (k : ℕ) (ms : List Mention) (a b c : List ℕ) (ok : Bool) → b ≡ a ++ k ∷ [] → Follows ms b c ok → Follows (Determines k ∷ ms) a c ok
follow_behind k ms a b c ok is f = follow_both (Determines k ∷ []) ms a b c ok (follow_one k a b is) f

-- ---- literals

module _ (ps : List Param) (ix : List LinearExpression) (v w : LinearExpression) where
  literal_mentions : length ix ≡ 2 → v ≡ get_or ix 0 v → w ≡ get_or ix 1 w → index_mentions ps head.Literal ix ≡ mention ps w ∷ mention ps v ∷ []
  literal_mentions two p q = go ix two p q
    where
      go : (ix : List LinearExpression) → length ix ≡ 2 → v ≡ get_or ix 0 v → w ≡ get_or ix 1 w → index_mentions ps head.Literal ix ≡ mention ps w ∷ mention ps v ∷ []
      go [] two p q = absurd (omega (arith, two))
      go (a ∷ []) two p q = absurd (omega (arith, two))
      go (a ∷ b ∷ []) two p q = λ i. mention ps (sym q i) ∷ mention ps (sym p i) ∷ []
      go (a ∷ b ∷ c ∷ xs) two p q = absurd (omega (arith, two))

  pub follow_literal : (a b c : List ℕ) (ok : Bool) → length ix ≡ 2 → v ≡ get_or ix 0 v → w ≡ get_or ix 1 w → Follows (mention ps w ∷ []) a b true → Follows (mention ps v ∷ []) b c ok → Follows (index_mentions ps head.Literal ix) a c ok
  follow_literal a b c ok two p q f g = subst (λ (ms : List Mention). Follows ms a c ok) (sym (literal_mentions two p q)) (follow_both (mention ps w ∷ []) (mention ps v ∷ []) a b c ok f g)

  pub follow_no_literal : (a b : List ℕ) → length ix ≡ 2 → v ≡ get_or ix 0 v → w ≡ get_or ix 1 w → Follows (mention ps w ∷ []) a b false → Follows (index_mentions ps head.Literal ix) a b false
  follow_no_literal a b two p q f = subst (λ (ms : List Mention). Follows ms a b false) (sym (literal_mentions two p q)) (follow_not (mention ps w ∷ []) (mention ps v ∷ []) a b f)

-- ---- what a call answers

-- each answer of a call that follows
pub follow_ok : {F : Type 0} (P Q : Bool → Type 0) → ((ok : Bool) → P ok → Q ok) → (r : Result Bool F) → IfOk r P → IfOk r Q
follow_ok P Q more (Ok b) h = more b h
follow_ok P Q more (Err e) h = tt

-- all items are done
pub follow_all : {X : Type 0} (f : X → List Mention) (xs : List X) (k : ℕ) (a b : List ℕ) (ok : Bool) → length xs ≤ k → Follows (flat_map f (take k xs)) a b ok → Follows (flat_map f xs) a b ok
follow_all f xs k a b ok le h = subst (λ (ms : List Mention). Follows ms a b ok) (ap (flat_map f) (go xs k le)) h
  where
    go : {X : Type 0} (xs : List X) (k : ℕ) → length xs ≤ k → take k xs ≡ xs
    go [] zero le = refl
    go [] (suc k) le = refl
    go (x ∷ xs) zero le = absurd (omega (arith, le))
    go (x ∷ xs) (suc k) le = ap (λ ys. x ∷ ys) (go xs k (omega (arith, le)))
