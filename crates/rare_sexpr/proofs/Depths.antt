-- What is read nests at most 5,000 lists deep.
use Rattle.std.proofs.Common.{◌≡◌, ℕ, zero, suc, ◌+◌, ◌≤◌, Bool, true, false, List, [], ◌∷◌, ◌++◌, map, length, take, drop, nat_lt, if◌then◌else◌, Option, Some, None, refl, ap, sym, subst, arith}
use Rattle.std.proofs.lemmas.Bool.Decides.{nat_tests}
use Rattle.rare_base.specs.declared.answers.Place.{Place}
use Rattle.rare_base.specs.Answers.{Refusal}
use Rattle.rare_sexpr.specs.declared.tree.AtomKind.{AtomKind}
use Rattle.rare_sexpr.specs.declared.tree.Sexpr.{Sexpr}
use Rattle.rare_sexpr.specs.declared.stack.Opened.{Opened}
use Rattle.rare_sexpr.specs.Tree.{depth, atom_of, list_of}
use Rattle.rare_sexpr.specs.Commands.{Commands, put_first, refused}
use Rattle.rare_sexpr.specs.Streams.{Stream, unless_refused, commands_left}
use Rattle.rare_sexpr.specs.inner.Words.{Token, opens, closes, atom, wrong, between, words}
use Rattle.rare_sexpr.specs.inner.Reading.{added, commands}
use Rattle.rare_sexpr.proofs.Counting.{deepest, depth_list}

abbrev pub IsShallow : Sexpr → Type 0
IsShallow e = depth e ≤ 5001

abbrev pub Each : (Sexpr → Type 0) → List Sexpr → Type 0
Each P [] = Unit {0}
Each P (e ∷ items) = P e × Each P items

each_append : (P : Sexpr → Type 0) (xs ys : List Sexpr) → Each P xs → Each P ys → Each P (xs ++ ys)
each_append P [] ys h k = k
each_append P (x ∷ xs) ys h k = (h.0, each_append P xs ys h.1 k)

-- an item in so many open lists
abbrev pub Fits : ℕ → Sexpr → Type 0
Fits n e = depth e + n ≤ 5001

-- at most 5,000 lists are open, and their items fit
abbrev pub AreShallow : List Opened → List Sexpr → Type 0
AreShallow [] items = Unit {0}
AreShallow (o ∷ os) items = (length (o ∷ os) ≤ 5000) × (o.before ≤ length items) × Each (Fits (length (o ∷ os))) (drop o.before items) × AreShallow os (take o.before items)

deepest_fits : (n : ℕ) (items : List Sexpr) → n ≤ 5001 → Each (Fits n) items → deepest (map depth items) + n ≤ 5001
deepest_fits n [] le all = omega arith
deepest_fits n (e ∷ items) le all = omega (arith, deepest_fits n items le all.1, all.0)

drop_whole : (items : List Sexpr) → drop (length items) items ≡ []
drop_whole [] = refl
drop_whole (x ∷ items) = drop_whole items

take_whole : (items : List Sexpr) → take (length items) items ≡ items
take_whole [] = refl
take_whole (x ∷ items) = ap (λ l. x ∷ l) (take_whole items)

drop_more_items : (n : ℕ) (xs ys : List Sexpr) → n ≤ length xs → drop n (xs ++ ys) ≡ drop n xs ++ ys
drop_more_items zero xs ys le = refl
drop_more_items (suc n) [] ys le = absurd (omega (arith, le))
drop_more_items (suc n) (x ∷ xs) ys le = drop_more_items n xs ys (omega (arith, le))

take_more_items : (n : ℕ) (xs ys : List Sexpr) → n ≤ length xs → take n (xs ++ ys) ≡ take n xs
take_more_items zero xs ys le = refl
take_more_items (suc n) [] ys le = absurd (omega (arith, le))
take_more_items (suc n) (x ∷ xs) ys le = ap (λ l. x ∷ l) (take_more_items n xs ys (omega (arith, le)))

length_more_items : (xs ys : List Sexpr) → length (xs ++ ys) ≡ length xs + length ys
length_more_items [] ys = omega arith
length_more_items (x ∷ xs) ys = omega (arith, length_more_items xs ys)

all_added : (os : List Opened) (items : List Sexpr) (e : Sexpr) (next : List Opened → List Sexpr → Commands) → AreShallow os items → Fits (length os) e →
    ((o : List Opened) (i : List Sexpr) → AreShallow o i → Each IsShallow (next o i).list) → Each IsShallow (added os items e next).list
all_added [] items e next all fits rest = (omega (arith, fits), rest [] [] tt)
all_added (o ∷ os) items e next all fits rest =
    rest (o ∷ os) (items ++ e ∷ []) (
      all.0,
      omega (arith, all.1, length_more_items items (e ∷ [])),
      subst (Each (Fits (length (o ∷ os)))) (sym (drop_more_items o.before items (e ∷ []) all.1)) (each_append (Fits (length (o ∷ os))) (drop o.before items) (e ∷ []) all.2 (fits, tt)),
      subst (AreShallow os) (sym (take_more_items o.before items (e ∷ []) all.1)) all.3,
    )

all_if : (b : Bool) (x y : Commands) → (b ≡ true → Each IsShallow x.list) → Each IsShallow y.list → Each IsShallow (if b then x else y).list
all_if true x y h k = h refl
all_if false x y h k = k

atom_fits : (os : List Opened) (items : List Sexpr) → AreShallow os items → (p : Place) (k : AtomKind) (text : List ℕ) → Fits (length os) (atom_of p k text)
atom_fits [] items all p k text = omega arith
atom_fits (o ∷ os) items all p k text = omega (arith, all.0)

below : (n : ℕ) → nat_lt n 5000 ≡ true → n + 1 ≤ 5000
below n h = grind (arith, nat_tests)

pub all_commands : (os : List Opened) (items : List Sexpr) (ts : List Token) → AreShallow os items → Each IsShallow (commands os items ts).list
all_commands [] items [] all = tt
all_commands (o ∷ os) items [] all = tt
all_commands os items (opens p ∷ ts) all =
    let o : Opened = record { place = p; before = length items } in
    all_if (nat_lt (length os) 5000) (commands (o ∷ os) items ts) (refused p _)
    (λ h. all_commands (o ∷ os) items ts
    (omega (arith, below (length os) h), omega arith, subst (Each (Fits (length (o ∷ os)))) (sym (drop_whole items)) tt, subst (AreShallow os) (sym (take_whole items)) all)) tt
all_commands [] items (closes p ∷ ts) all = tt
all_commands (o ∷ os) items (closes p ∷ ts) all =
    all_added os (take o.before items) (list_of o.place (drop o.before items)) (λ l i. commands l i ts) all.3
    (omega (arith, depth_list o.place (drop o.before items), deepest_fits (length (o ∷ os)) (drop o.before items) (omega (arith, all.0)) all.2))
    (λ l i a. all_commands l i ts a)
all_commands os items (atom p k text ∷ ts) all = all_added os items (atom_of p k text) (λ l i. commands l i ts) all (atom_fits os items all p k text) (λ l i a. all_commands l i ts a)
all_commands os items (wrong p r ∷ ts) all = tt

all_left : (r : Option Refusal) (p : Place) (bytes : List ℕ) → Each IsShallow (unless_refused r p bytes).list
all_left (Some r) p bytes = tt
all_left None p bytes = all_commands [] [] (words between p bytes) tt

-- a command that is left
pub first_shallow : (s : Stream) (more : List ℕ) (e : Sexpr) (c : Commands) → commands_left s more ≡ put_first e c → IsShallow e
first_shallow s more e c is =
    let P : Commands → Type 0 = λ x. Each IsShallow x.list in
    (subst P is (all_left s.refusal s.place (s.rest ++ more))).0
