-- The sort of a node by those of its arguments.
use Rattle.std.proofs.Common.{◌≡◌, ℕ, List, [], ◌∷◌, ◌++◌, map, flat_map, false, refl, ap, ◌∙◌, subst}
use Rattle.std.specs.Prelude.{Option, Some, None, if◌then◌else◌}
use Rattle.std.specs.Option.{option_map, option_and_then}
use Rattle.rare_linear.specs.Linears.{LinearExpression}
use Rattle.rare_sort.specs.Each.{Each, EachPair}
use Rattle.rare_sort.specs.Trees.{node}
use Rattle.rare_sort.specs.Families.{family}
use Rattle.rare_sort.specs.SortRules.{SortRule, sort_rule}
use Rattle.rare_sort.specs.declared.sort.Signature.{Signature}
use Rattle.rare_sort.specs.Sorting.{One, Sorting, Scope, some_list, place_sort, all_of, least_count, places, place_rule, with_rule, sorted_here, sorting_step, sorting, IsOne, HasSort}
use Rattle.rare_sort.specs.declared.sort.Sort.{Sort}
use Rattle.rare_sort.specs.declared.head.Head.{Head}
use Rattle.rare_sort.specs.declared.tree.Tree.{Tree, fold-roll-Tree}
use Rattle.rare_sort.proofs.Options.{map_some}

pub sorting-node : (c : Scope) (h : Head) (ix : List LinearExpression) (ts : List Tree) →
    sorting c (node h ix ts) ≡ option_and_then (sorted_here c h ix) (all_of (map (sorting c) ts))
sorting-node c h ix ts = fold-roll-Tree (Option Sorting) (sorting_step c) (record { head = h; indices = ix; args = ts })

-- ---- lists

pub Each-append : {X : Type 0} (P : X → Type 0) (xs ys : List X) → Each P xs → Each P ys → Each P (xs ++ ys)
Each-append P [] ys h k = k
Each-append P (x ∷ xs) ys h k = (h.0, Each-append P xs ys h.1 k)

pub Each-front : {X : Type 0} (P : X → Type 0) (xs ys : List X) → Each P (xs ++ ys) → Each P xs
Each-front P [] ys h = tt
Each-front P (x ∷ xs) ys h = (h.0, Each-front P xs ys h.1)

pub Each-back : {X : Type 0} (P : X → Type 0) (xs ys : List X) → Each P (xs ++ ys) → Each P ys
Each-back P [] ys h = h
Each-back P (x ∷ xs) ys h = Each-back P xs ys h.1

pub EachPair-append : {X Y : Type 0} (R : X → Y → Type 0) (xs us : List X) (ys vs : List Y) → EachPair R xs ys → EachPair R us vs → EachPair R (xs ++ us) (ys ++ vs)
EachPair-append R [] us [] vs h k = k
EachPair-append R [] us (y ∷ ys) vs h k = absurd h
EachPair-append R (x ∷ xs) us [] vs h k = absurd h
EachPair-append R (x ∷ xs) us (y ∷ ys) vs h k = (h.0, EachPair-append R xs us ys vs h.1 k)

-- all of a list of options are there: pair by pair
pub all_found : {X Y : Type 0} (f : X → Option Y) (xs : List X) (ys : List Y) → all_of (map f xs) ≡ Some ys → EachPair (λ x y. f x ≡ Some y) xs ys
all_found f [] [] e = tt
all_found f [] (y ∷ ys) e = cc
all_found f (x ∷ xs) ys e = go (f x) refl (λ zs. all_found f xs zs) e
  where
    tail : (y : _) (zs ys : List _) → f x ≡ Some y → y ∷ zs ≡ ys → EachPair (λ x y. f x ≡ Some y) xs zs → EachPair (λ x y. f x ≡ Some y) (x ∷ xs) ys
    tail y zs ys here is h = subst (EachPair (λ x y. f x ≡ Some y) (x ∷ xs)) is (here, h)

    go : (o : Option _) → f x ≡ o → ((zs : List _) → all_of (map f xs) ≡ Some zs → EachPair (λ x y. f x ≡ Some y) xs zs) → all_of (o ∷ map f xs) ≡ Some ys → EachPair (λ x y. f x ≡ Some y) (x ∷ xs) ys
    go None here ih e = cc
    go (Some y) here ih e =
        let q = map_some (λ zs. y ∷ zs) (all_of (map f xs)) ys e in
        tail y q.0 ys here q.2 (ih q.0 q.1)

pub found_all : {X Y : Type 0} (f : X → Option Y) (xs : List X) (ys : List Y) → EachPair (λ x y. f x ≡ Some y) xs ys → all_of (map f xs) ≡ Some ys
found_all f [] [] h = refl
found_all f [] (y ∷ ys) h = absurd h
found_all f (x ∷ xs) [] h = absurd h
found_all f (x ∷ xs) (y ∷ ys) h = rw h.0 (ap (option_map (λ zs. y ∷ zs)) (found_all f xs ys h.1))

-- ---- a node whose arguments are trees with sorts

-- what is found for arguments with these sorts
pub record AreFound (Q : LinearExpression → Type 0) (c : Scope) (ts : List Tree) (ss : List Sort) : Type 0 where
  pub sortings : List Sorting
  pub found : all_of (map (sorting c) ts) ≡ Some sortings
  pub are : places sortings ≡ map (λ s. One s) ss
  pub same : Each IsOne (flat_map (λ x. x.alike) sortings)
  pub met : Each Q (flat_map (λ x. x.needs) sortings)

pub are_found : (Q : LinearExpression → Type 0) (c : Scope) (ts : List Tree) (ss : List Sort) → EachPair (HasSort Q c) ts ss → AreFound Q c ts ss
are_found Q c [] [] h = record { sortings = []; found = refl; are = refl; same = tt; met = tt }
are_found Q c [] (s ∷ ss) h = absurd h
are_found Q c (t ∷ ts) [] h = absurd h
are_found Q c (t ∷ ts) (s ∷ ss) h =
    let rest = are_found Q c ts ss h.1 in
    let this : Sorting = record { place = One s; alike = h.0.alike; needs = h.0.needs } in record {
      sortings = this ∷ rest.sortings;
      found = rw h.0.found (ap (option_map (λ zs. this ∷ zs)) rest.found);
      are = ap (λ z. One s ∷ z) rest.are;
      same = Each-append IsOne h.0.alike (flat_map (λ x. x.alike) rest.sortings) h.0.same rest.same;
      met = Each-append Q h.0.needs (flat_map (λ x. x.needs) rest.sortings) h.0.met rest.met;
    }

no_list : (ss : List Sort) → some_list (map (λ s. One s) ss) ≡ false
no_list [] = refl
no_list (s ∷ ss) = no_list ss

their_sorts : (h : Head) (ss : List Sort) → all_of (map (place_sort h) (map (λ s. One s) ss)) ≡ Some ss
their_sorts h [] = refl
their_sorts h (s ∷ ss) = ap (option_map (λ zs. s ∷ zs)) (their_sorts h ss)

-- the rule of an application to single trees is that of its family
pub single_rule : (symbols : ℕ → Option Signature) (h : Head) (ix : List LinearExpression) (ss : List Sort) →
    place_rule symbols h ix (map (λ s. One s) ss) ≡ sort_rule symbols 2 (family h) ix ss
single_rule symbols h ix ss =
    ap (option_and_then (sort_rule symbols (least_count (map (λ s. One s) ss)) (family h) ix)) (their_sorts h ss)
    ∙ ap (λ b. sort_rule symbols (if b then 1 else 2) (family h) ix ss) (no_list ss)

-- the head is that of an application
abbrev pub Applies : Scope → Head → Type 0
Applies c h = (ix : List LinearExpression) (xs : List Sorting) → sorted_here c h ix xs ≡ option_map (with_rule c xs) (place_rule c.symbols h ix (places xs))

pub sorted_node : (Q : LinearExpression → Type 0) (c : Scope) (h : Head) → Applies c h → (ix : List LinearExpression) (ts : List Tree) (ss : List Sort) (r : SortRule) →
    EachPair (HasSort Q c) ts ss → sort_rule c.symbols 2 (family h) ix ss ≡ Some r → Each IsOne r.alike → Each Q r.needs → Each Q (c.own r.sort) → HasSort Q c (node h ix ts) r.sort
sorted_node Q c h applies ix ts ss r sorted rule same needs own =
    let f = are_found Q c ts ss sorted in record {
      alike = flat_map (λ x. x.alike) f.sortings ++ r.alike;
      needs = flat_map (λ x. x.needs) f.sortings ++ (r.needs ++ c.own r.sort);
      found =
          sorting-node c h ix ts
          ∙ ap (option_and_then (sorted_here c h ix)) f.found
          ∙ applies ix f.sortings
          ∙ ap (λ ps. option_map (with_rule c f.sortings) (place_rule c.symbols h ix ps)) f.are
          ∙ ap (option_map (with_rule c f.sortings)) (single_rule c.symbols h ix ss ∙ rule);
      same = Each-append IsOne (flat_map (λ x. x.alike) f.sortings) r.alike f.same same;
      met = Each-append Q (flat_map (λ x. x.needs) f.sortings) (r.needs ++ c.own r.sort) f.met (Each-append Q r.needs (c.own r.sort) needs own);
    }

-- ---- what holds of all that a tree asks for

pub Each-map : {X : Type 0} (P Q : X → Type 0) → ((x : X) → P x → Q x) → (xs : List X) → Each P xs → Each Q xs
Each-map P Q f [] h = tt
Each-map P Q f (x ∷ xs) h = (f x h.0, Each-map P Q f xs h.1)

pub sort_more : (P Q : LinearExpression → Type 0) → ((n : LinearExpression) → P n → Q n) → (c : Scope) (t : Tree) (s : Sort) → HasSort P c t s → HasSort Q c t s
sort_more P Q f c t s h = record { alike = h.alike; needs = h.needs; found = h.found; same = h.same; met = Each-map P Q f h.needs h.met }
