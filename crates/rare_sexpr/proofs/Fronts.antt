-- Which bytes were taken.
use Rattle.std.proofs.Common.{◌≡◌, ℕ, zero, suc, ◌+◌, ◌-◌, ◌<◌, ◌≤◌, List, [], ◌∷◌, ◌++◌, length, take, drop, refl, ap, sym, ◌∙◌, arith, append_assoc, length-drop}
use Rattle.rare_base.specs.declared.answers.Place.{Place}
use Rattle.rare_sexpr.specs.declared.tree.Sexpr.{Sexpr}
use Rattle.rare_sexpr.specs.Bytes.{behind}
use Rattle.rare_sexpr.specs.inner.States.{TextState, Takes, Reads, GivesCommand}
use Rattle.rare_sexpr.specs.inner.States as states
use Rattle.rare_sexpr.proofs.Lists.{take_front, behind_append}
use Rattle.rare_sexpr.proofs.Moves.{drop_twice}

-- bytes between two places
pub record Leads (p : Place) (bytes : List ℕ) (q : Place) (rest : List ℕ) : Type 0 where
  pub front : List ℕ
  pub split : bytes ≡ front ++ rest
  pub place : q ≡ behind p front

pub take_drop : (n : ℕ) (xs : List ℕ) → xs ≡ take n xs ++ drop n xs
take_drop zero xs = refl
take_drop (suc n) [] = refl
take_drop (suc n) (x ∷ xs) = ap (λ l. x ∷ l) (take_drop n xs)

pub leads_more : (p : Place) (a : List ℕ) (q : Place) (b : List ℕ) (r : Place) (c : List ℕ) → Leads p a q b → Leads q b r c → Leads p a r c
leads_more p a q b r c h k = record {
  front = h.front ++ k.front;
  split = h.split ∙ ap (λ l. h.front ++ l) k.split ∙ sym (append_assoc h.front k.front c);
  place = k.place ∙ ap (λ x. behind x k.front) h.place ∙ sym (behind_append p h.front k.front);
}

takes_front : (s t : TextState) → Takes s t → Leads s.place s.bytes t.place t.bytes
takes_front s t (states.gap _ _ passed at place passes lists items) = record { front = passed; split = at; place = place }
takes_front s t (states.opens _ _ b plain at is few to) = record { front = b ∷ []; split = at; place = ap (λ x. x.place) to }
takes_front s t (states.closes _ _ b o q os plain at is lists to) = record { front = b ∷ []; split = at; place = ap (λ x. x.place) to }
takes_front s t (states.atom _ _ k n o os h lists to) =
    record { front = take n s.bytes; split = take_drop n s.bytes ∙ ap (λ x. take n s.bytes ++ x.bytes) (sym to); place = ap (λ x. x.place) to }

pub reads_front : (s t : TextState) → Reads s t → Leads s.place s.bytes t.place t.bytes
reads_front s t (states.stays _) = record { front = []; split = refl; place = refl }
reads_front s t (states.goes _ u _ r k) = leads_more s.place s.bytes u.place u.bytes t.place t.bytes (reads_front s u r) (takes_front u t k)

pub gives_front : (s : TextState) (e : Sexpr) (p : Place) (rest : List ℕ) → GivesCommand s e p rest → Leads s.place s.bytes p rest
gives_front s e p rest (states.atom _ k n h none) = record { front = take n s.bytes; split = take_drop n s.bytes; place = refl }
gives_front s e p rest (states.closes _ b _ o plain at is lists) = record { front = b ∷ []; split = at; place = refl }

length_more : (xs ys : List ℕ) → length (xs ++ ys) ≡ length xs + length ys
length_more [] ys = omega arith
length_more (x ∷ xs) ys = omega (arith, length_more xs ys)

pub take_exact : (n : ℕ) (xs ys : List ℕ) → length xs ≡ n → take n (xs ++ ys) ≡ xs
take_exact zero [] ys e = refl
take_exact zero (x ∷ xs) ys e = absurd (omega (arith, e))
take_exact (suc n) [] ys e = absurd (omega (arith, e))
take_exact (suc n) (x ∷ xs) ys e = ap (λ l. x ∷ l) (take_exact n xs ys (omega (arith, e)))

-- the bytes of a buffer between two numbers
abbrev pub between : List ℕ → ℕ → ℕ → List ℕ
between items start at = take (at - start) (drop start items)

pub between_split : (items : List ℕ) (start at : ℕ) → start ≤ at → drop start items ≡ between items start at ++ drop at items
between_split items start at le =
    let e : start + (at - start) ≡ at = omega (arith, le) in
    take_drop (at - start) (drop start items) ∙ ap (λ l. between items start at ++ l) (drop_twice (at - start) start items ∙ ap (λ n. drop n items) e)

pub front_between : (items : List ℕ) (start at : ℕ) (more front : List ℕ) → start ≤ at → at ≤ length items → drop start items ++ more ≡ front ++ (drop at items ++ more) → front ≡ between items start at
front_between items start at more front le within e =
    let n = at - start in
    let len : length front ≡ n = omega (arith, ap length e, length_more (drop start items) more, length_more front (drop at items ++ more), length_more (drop at items) more, length-drop start items, length-drop at items, le, within) in
    let short : n ≤ length (drop start items) = omega (arith, length-drop start items, le, within) in
    sym (take_exact n front (drop at items ++ more) len) ∙ ap (take n) (sym e) ∙ take_front n (drop start items) more short

length_take : (n : ℕ) (xs : List ℕ) → n ≤ length xs → length (take n xs) ≡ n
length_take zero xs le = refl
length_take (suc n) [] le = absurd (omega (arith, le))
length_take (suc n) (x ∷ xs) le = omega (arith, length_take n xs (omega (arith, le)))

pub between_some : (items : List ℕ) (start at : ℕ) → start < at → at ≤ length items → 0 < length (between items start at)
between_some items start at some within = omega (arith, some, within, length-drop start items, length_take (at - start) (drop start items) (omega (arith, length-drop start items, some, within)))
