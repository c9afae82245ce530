-- What a word does to the open lists.
use Rattle.std.proofs.Common.{◌≡◌, ℕ, zero, suc, ◌+◌, ◌<◌, ◌≤◌, ◌==◌, Bool, true, false, List, [], ◌∷◌, ◌++◌, length, take, drop, get_or, nat_lt, reverse, refl, ap, sym, ◌∙◌, subst, arith, Some, Option, None, slice_get, length-drop}
use Rattle.std.proofs.lemmas.List.{drop_more, reverse-append}
use Rattle.std.proofs.lemmas.Bool.Decides.{nat_tests}
use Rattle.rare_base.specs.declared.answers.Place.{Place}
use Rattle.rare_base.specs.declared.answers.Reason.{Reason}
use Rattle.rare_base.specs.declared.answers.Reason.TheVariants.{Unbalanced, BadCharacter, TooDeep}
use Rattle.rare_sexpr.specs.declared.tree.AtomKind.{AtomKind}
use Rattle.rare_sexpr.specs.declared.tree.Sexpr.{Sexpr}
use Rattle.rare_sexpr.specs.declared.bytes.Class.TheVariants.{Open, Close, Other}
use Rattle.rare_sexpr.specs.declared.stack.Opened.{Opened}
use Rattle.rare_sexpr.specs.declared.stack.Stack.{Stack}
use Rattle.rare_sexpr.specs.declared.parser.Mode.TheVariants as mode
use Rattle.rare_sexpr.specs.declared.parser.Parser.{Parser}
use Rattle.rare_sexpr.specs.declared.word.Found.TheVariants as found
use Rattle.rare_sexpr.specs.Tree.{atom_of, list_of}
use Rattle.rare_sexpr.specs.Bytes.{after, behind}
use Rattle.rare_sexpr.specs.inner.Classes.{class}
use Rattle.rare_sexpr.specs.inner.Scan.{Word, whole, bad, cut, scan, begins_part}
use Rattle.rare_sexpr.specs.inner.Words.{text_of_word}
use Rattle.rare_sexpr.specs.inner.Wording.{Comes, IsWord}
use Rattle.rare_sexpr.specs.inner.Stacks.{empty_stack, IsAdded, IsClosed}
use Rattle.rare_sexpr.specs.inner.Reading.{outermost}
use Rattle.rare_sexpr.specs.inner.States.{TextState, Takes, Reads, GivesCommand, Refuses, HasAtom, HasWord, atom_in}
use Rattle.rare_sexpr.specs.inner.States as states
use Rattle.rare_sexpr.specs.inner.Parsing.{passed_byte, is_comment, state_at, AreItems, IsParsing, HasPassed, HasGone, HasCommand, IsFaulty}
use Rattle.rare_sexpr.proofs.Lists.{take_front, drop_front, first_front, longer}
use Rattle.rare_sexpr.proofs.Blanks.{after_line, after_column}

pub reverse_last : (xs : List Opened) (o : Opened) → reverse (xs ++ o ∷ []) ≡ o ∷ reverse xs
reverse_last xs o = reverse-append xs (o ∷ [])

length_snoc : (xs : List Opened) (o : Opened) → length (xs ++ o ∷ []) ≡ length xs + 1
length_snoc [] o = refl
length_snoc (x ∷ xs) o = omega (arith, length_snoc xs o)

pub length_reverse : (xs : List Opened) → length (reverse xs) ≡ length xs
length_reverse [] = refl
length_reverse (x ∷ xs) = let e : reverse (x ∷ xs) ≡ reverse xs ++ x ∷ [] = reverse-append (x ∷ []) xs in omega (arith, ap length e, length_snoc (reverse xs) x, length_reverse xs)

drop_byte : (bytes : List ℕ) (at : ℕ) (more : List ℕ) → at < length bytes → drop at bytes ++ more ≡ get_or bytes at 0 ∷ (drop (at + 1) bytes ++ more)
drop_byte bytes at more lt = ap (λ xs. xs ++ more) (drop_more bytes at 0 lt)

drop_some : (bytes : List ℕ) (at : ℕ) → at < length bytes → 0 < length (drop at bytes)
drop_some bytes at lt = omega (arith, length-drop at bytes)

below : (n : ℕ) → n < 5000 → nat_lt n 5000 ≡ true
below n lt = grind (arith, nat_tests)

not_below : (n : ℕ) → 5000 ≤ n → nat_lt n 5000 ≡ false
not_below n le = grind (arith, nat_tests)

items_open : (os : List Opened) (items : List Sexpr) (p : Place) → AreItems os items → AreItems (record { place = p; before = length items } ∷ os) items
items_open [] items p is = ap length is
items_open (o ∷ os) items p is = is

byte_passed : (bytes : List ℕ) (old : Parser) (stack : Stack) → old.at < length bytes → HasPassed bytes old (passed_byte bytes (record old { stack = stack }))
byte_passed bytes old stack lt =
    let b = get_or bytes old.at 0 in
    record { begin = omega arith; within = omega arith; line = omega (arith, after_line b old.place); column = omega (arith, after_column b old.place) }

byte_parsing : (bytes : List ℕ) (old : Parser) (stack : Stack) → IsParsing bytes old → old.at < length bytes → AreItems (reverse stack.opened) stack.items → IsParsing bytes (passed_byte bytes (record old { stack = stack }))
byte_parsing bytes old stack h lt items =
    let b = get_or bytes old.at 0 in
    record { within = omega arith; line = omega (arith, h.line, after_line b old.place); column = omega (arith, h.column, after_column b old.place); mode = tt; items = items }

-- a `(`
pub open_goes : (bytes : List ℕ) (told : Bool) (old : Parser) → IsParsing bytes old → old.at < length bytes → is_comment old.mode ≡ false → class (get_or bytes old.at 0) ≡ Open → length old.stack.opened < 5000 →
    HasGone bytes told old (passed_byte bytes (record old { stack = record old.stack { opened = old.stack.opened ++ (record { place = old.place; before = length old.stack.items }) ∷ [] } }))
open_goes bytes told old h lt between is few =
    let o : Opened = record { place = old.place; before = length old.stack.items } in
    let stack : Stack = record old.stack { opened = old.stack.opened ++ o ∷ [] } in
    let new : Parser = passed_byte bytes (record old { stack = stack }) in
    let b = get_or bytes old.at 0 in
    record {
      parsing = byte_parsing bytes old stack h lt (subst (λ os. AreItems os old.stack.items) (sym (reverse_last old.stack.opened o)) (items_open (reverse old.stack.opened) old.stack.items old.place h.items));
      passed = byte_passed bytes old stack lt;
      reads = λ more _. states.goes (state_at old bytes more) (state_at old bytes more) (state_at new bytes more) (states.stays (state_at old bytes more))
          (states.opens (state_at old bytes more) (state_at new bytes more) b between (drop_byte bytes old.at more lt) is (ap (λ n. nat_lt n 5000) (length_reverse old.stack.opened) ∙ below (length old.stack.opened) few)
          (ap (λ os. record { opens = os; items = old.stack.items; in_comment = false; place = after b old.place; bytes = drop (old.at + 1) bytes ++ more }) (reverse_last old.stack.opened o)));
    }

pub open_deep : (bytes : List ℕ) (told : Bool) (old : Parser) → old.at < length bytes → is_comment old.mode ≡ false → class (get_or bytes old.at 0) ≡ Open → 5000 ≤ length old.stack.opened → IsFaulty bytes told old old.place TooDeep
open_deep bytes told old lt between is many = λ more _.
    let s = state_at old bytes more in
    (s, states.stays s, states.deep s (get_or bytes old.at 0) (drop (old.at + 1) bytes ++ more) between (drop_byte bytes old.at more lt) is (ap (λ n. nat_lt n 5000) (length_reverse old.stack.opened) ∙ not_below (length old.stack.opened) many))

-- a `)`
pub close_alone : (bytes : List ℕ) (told : Bool) (old : Parser) → old.at < length bytes → is_comment old.mode ≡ false → class (get_or bytes old.at 0) ≡ Close → old.stack.opened ≡ [] → IsFaulty bytes told old old.place Unbalanced
close_alone bytes told old lt between is none = λ more _.
    let s = state_at old bytes more in
    (s, states.stays s, states.closed s (get_or bytes old.at 0) (drop (old.at + 1) bytes ++ more) between (drop_byte bytes old.at more lt) is (ap reverse none))

pub empty_of : (s : Stack) → s.opened ≡ [] → s.items ≡ [] → s ≡ empty_stack
empty_of s o i = ap (λ x. record { opened = x; items = s.items }) o ∙ ap (λ x. record { opened = []; items = x }) i

take_none : (n : ℕ) (items : List Sexpr) → n ≡ 0 → take n items ≡ []
take_none n items e = ap (λ m. take m items) e

pub close_command : (bytes : List ℕ) (told : Bool) (old : Parser) (e x : Sexpr) (mid new : Stack) → IsParsing bytes old → old.at < length bytes → is_comment old.mode ≡ false → class (get_or bytes old.at 0) ≡ Close →
    IsClosed old.stack e mid → IsAdded mid e (Some x) new → HasCommand bytes told old x (passed_byte bytes (record old { stack = new }))
close_command bytes told old e x mid new h lt between is c a =
    let b = get_or bytes old.at 0 in
    let one : reverse old.stack.opened ≡ c.list ∷ [] = ap reverse (c.opened ∙ ap (λ os. os ++ c.list ∷ []) a.0) in
    let first : c.list.before ≡ 0 = subst (λ os. AreItems os old.stack.items) one h.items in
    record {
      further = omega arith;
      passed = byte_passed bytes old new lt;
      empty = a.2 ∙ empty_of mid a.0 (c.items ∙ take_none c.list.before old.stack.items first);
      between = refl;
      gives = λ more _.
          let s = state_at old bytes more in
          (s, states.stays s, subst (λ y. GivesCommand s y (after b old.place) (drop (old.at + 1) bytes ++ more)) (sym (a.1 ∙ c.closed)) (states.closes s b (drop (old.at + 1) bytes ++ more) c.list between (drop_byte bytes old.at more lt) is one));
    }

items_closed : (o q : Opened) (os : List Opened) (items others : List Sexpr) → AreItems (o ∷ q ∷ os) items → AreItems (q ∷ os) others
items_closed o q [] items others is = is
items_closed o q (x ∷ os) items others is = items_closed q x os items others is

not_empty : (xs : List Opened) → (length xs == 0) ≡ false → reverse xs ≡ [] → ⊥
not_empty [] full e = cc
not_empty (x ∷ xs) full e = let l : length (reverse (x ∷ xs)) ≡ 0 = ap length e in absurd (omega (arith, l, length_reverse (x ∷ xs)))

close_inside : (bytes : List ℕ) (told : Bool) (old : Parser) (e : Sexpr) (mid new : Stack) (ys : List Opened) → IsParsing bytes old → old.at < length bytes → is_comment old.mode ≡ false → class (get_or bytes old.at 0) ≡ Close →
    (c : IsClosed old.stack e mid) → (a : IsAdded mid e None new) → reverse mid.opened ≡ ys → HasGone bytes told old (passed_byte bytes (record old { stack = new }))
close_inside bytes told old e mid new [] h lt between is c a none = absurd (not_empty mid.opened a.0 none)
close_inside bytes told old e mid new (q ∷ os) h lt between is c a some =
    let b = get_or bytes old.at 0 in
    let opens : reverse old.stack.opened ≡ c.list ∷ q ∷ os = ap reverse c.opened ∙ reverse_last mid.opened c.list ∙ ap (λ y. c.list ∷ y) some in
    let items : new.items ≡ take c.list.before old.stack.items ++ list_of c.list.place (drop c.list.before old.stack.items) ∷ [] =
    ap (λ y. y.items) a.1 ∙ ap (λ y. y ++ e ∷ []) c.items ∙ ap (λ y. take c.list.before old.stack.items ++ y ∷ []) c.closed in
    let outer : reverse new.opened ≡ q ∷ os = ap (λ y. reverse y.opened) a.1 ∙ some in
    record {
      parsing = byte_parsing bytes old new h lt (subst (λ y. AreItems y new.items) (sym outer) (items_closed c.list q os old.stack.items new.items (subst (λ y. AreItems y old.stack.items) opens h.items)));
      passed = byte_passed bytes old new lt;
      reads = λ more _.
          let s = state_at old bytes more in
          let rest = drop (old.at + 1) bytes ++ more in
          states.goes s s (state_at (passed_byte bytes (record old { stack = new })) bytes more) (states.stays s)
          (states.closes s (state_at (passed_byte bytes (record old { stack = new })) bytes more) b c.list q os between (drop_byte bytes old.at more lt) is opens
          (ap (λ y. record { opens = y; items = new.items; in_comment = false; place = after b old.place; bytes = rest }) outer
          ∙ ap (λ y. record { opens = q ∷ os; items = y; in_comment = false; place = after b old.place; bytes = rest }) items));
    }

pub close_goes : (bytes : List ℕ) (told : Bool) (old : Parser) (e : Sexpr) (mid new : Stack) → IsParsing bytes old → old.at < length bytes → is_comment old.mode ≡ false → class (get_or bytes old.at 0) ≡ Close →
    IsClosed old.stack e mid → IsAdded mid e None new → HasGone bytes told old (passed_byte bytes (record old { stack = new }))
close_goes bytes told old e mid new h lt between is c a = close_inside bytes told old e mid new (reverse mid.opened) h lt between is c a refl

-- an atom
atom_state : (bytes : List ℕ) (told : Bool) (old : Parser) (w : Word) (more : List ℕ) → is_comment old.mode ≡ false → 0 < length (drop old.at bytes) → Comes (drop old.at bytes) told w → (told ≡ true → more ≡ []) → HasAtom (state_at old bytes more) w
atom_state bytes told old w more between some c none =
    let rest = drop old.at bytes in
    record {
      between = between;
      part = c.0;
      begins = ap begins_part (first_front rest more some) ∙ c.1;
      comes = ap (scan c.0 1) (drop_front 1 rest more (omega (arith, some))) ∙ c.2 more none;
      some = longer 1 rest more (omega (arith, some));
    }

pub word_state : (bytes : List ℕ) (told : Bool) (old : Parser) (k : AtomKind) (n : ℕ) (more : List ℕ) → is_comment old.mode ≡ false → IsWord (drop old.at bytes) told (found.Atom k n) → (told ≡ true → more ≡ []) → HasWord (state_at old bytes more) k n
word_state bytes told old k n more between w none =
    record { atom = atom_state bytes told old (whole k n) more between (omega (arith, w.0, w.1)) w.2 none; some = w.0; within = longer n (drop old.at bytes) more w.1 }

-- the word in the buffer
slice_word : (bytes : List ℕ) (at n : ℕ) (more : List ℕ) → n ≤ length (drop at bytes) → take n (drop at bytes ++ more) ≡ take n (drop at bytes)
slice_word bytes at n more le = take_front n (drop at bytes) more le

pub drop_twice : (n at : ℕ) (bytes : List ℕ) → drop n (drop at bytes) ≡ drop (at + n) bytes
drop_twice n zero bytes = let e : n ≡ 0 + n = omega arith in ap (λ k. drop k bytes) e
drop_twice zero (suc at) [] = let e : suc at + 0 ≡ suc at = omega arith in ap (λ k. drop k []) (sym e)
drop_twice (suc n) (suc at) [] = let e : suc at + suc n ≡ suc (at + suc n) = omega arith in ap (λ k. drop k []) (sym e)
drop_twice n (suc at) (b ∷ bytes) = drop_twice n at bytes ∙ (let e : suc at + n ≡ suc (at + n) = omega arith in ap (λ k. drop k (b ∷ bytes)) (sym e))

pub rest_word : (bytes : List ℕ) (at n : ℕ) (more : List ℕ) → n ≤ length (drop at bytes) → drop n (drop at bytes ++ more) ≡ drop (at + n) bytes ++ more
rest_word bytes at n more le = drop_front n (drop at bytes) more le ∙ ap (λ xs. xs ++ more) (drop_twice n at bytes)

pub refused_word : (bytes : List ℕ) (told : Bool) (old : Parser) (r : Reason) → old.at < length bytes → is_comment old.mode ≡ false → IsWord (drop old.at bytes) told (found.Cut r) → IsFaulty bytes told old old.place r
refused_word bytes told old r lt between w = λ more none.
    let s = state_at old bytes more in
    (s, states.stays s, states.end s r (atom_state bytes told old (cut r) more between (drop_some bytes old.at lt) w.1 none))

pub refused_byte : (bytes : List ℕ) (told : Bool) (old : Parser) (n : ℕ) (p : Place) → is_comment old.mode ≡ false → IsWord (drop old.at bytes) told (found.Bad n) → p ≡ behind old.place (take n (drop old.at bytes)) → IsFaulty bytes told old p BadCharacter
refused_byte bytes told old n p between w is = λ more none.
    let s = state_at old bytes more in
    let le : n ≤ length (drop old.at bytes) = omega (arith, w.0) in (
      s,
      states.stays s,
      subst (λ q. Refuses s q BadCharacter) (ap (behind old.place) (slice_word bytes old.at n more le) ∙ sym is)
          (states.byte s n (atom_state bytes told old (bad n) more between (omega (arith, w.0)) w.1 none)),
    )

pub refused_first : (bytes : List ℕ) (told : Bool) (old : Parser) → old.at < length bytes → is_comment old.mode ≡ false → class (get_or bytes old.at 0) ≡ Other → IsFaulty bytes told old old.place BadCharacter
refused_first bytes told old lt between is = λ more none.
    let s = state_at old bytes more in
    (s, states.stays s, states.no_word s (get_or bytes old.at 0) (drop (old.at + 1) bytes ++ more) between (drop_byte bytes old.at more lt) is)

-- behind an atom
abbrev pub behind_word : List ℕ → Parser → ℕ → Stack → Parser
behind_word bytes old n stack = record { at = old.at + n; place = behind old.place (take n (drop old.at bytes)); mode = mode.Between; stack = stack }

-- lines and columns rise by at most one a byte
pub behind_line : (p : Place) (bs : List ℕ) → (behind p bs).line ≤ p.line + length bs
behind_line p [] = omega arith
behind_line p (b ∷ bs) = omega (arith, behind_line (after b p) bs, after_line b p)

pub behind_column : (p : Place) (bs : List ℕ) → (behind p bs).column ≤ p.column + length bs
behind_column p [] = omega arith
behind_column p (b ∷ bs) = omega (arith, behind_column (after b p) bs, after_column b p)

take_length : (n : ℕ) (xs : List ℕ) → n ≤ length xs → length (take n xs) ≡ n
take_length zero xs le = refl
take_length (suc n) [] le = absurd (omega (arith, le))
take_length (suc n) (x ∷ xs) le = omega (arith, take_length n xs (omega (arith, le)))

word_passed : (bytes : List ℕ) (old : Parser) (n : ℕ) (stack : Stack) → old.at ≤ length bytes → n ≤ length (drop old.at bytes) → HasPassed bytes old (behind_word bytes old n stack)
word_passed bytes old n stack within le =
    let word = take n (drop old.at bytes) in
    let len : length word ≡ n = take_length n (drop old.at bytes) le in
    record {
      begin = omega arith;
      within = omega (arith, le, length-drop old.at bytes);
      line = omega (arith, behind_line old.place word, len);
      column = omega (arith, behind_column old.place word, len);
    }

pub atom_command : (bytes : List ℕ) (told : Bool) (old : Parser) (k : AtomKind) (n : ℕ) (text : List ℕ) (x : Sexpr) (new : Stack) → IsParsing bytes old → is_comment old.mode ≡ false → IsWord (drop old.at bytes) told (found.Atom k n) →
    text ≡ text_of_word k (take n (drop old.at bytes)) → IsAdded old.stack (atom_of old.place k text) (Some x) new → HasCommand bytes told old x (behind_word bytes old n new)
atom_command bytes told old k n text x new h between w is a =
    let word = take n (drop old.at bytes) in
    record {
      further = omega (arith, w.0);
      passed = word_passed bytes old n new h.within w.1;
      empty = a.2 ∙ empty_of old.stack a.0 (subst (λ os. AreItems os old.stack.items) (ap reverse a.0) h.items);
      between = refl;
      gives = λ more none.
          let s = state_at old bytes more in
          let same = slice_word bytes old.at n more w.1 in (
            s,
            states.stays s,
            subst (λ y. GivesCommand s y (behind old.place word) (drop (old.at + n) bytes ++ more)) (sym (a.1 ∙ ap (atom_of old.place k) is))
                (subst (λ y. GivesCommand s (atom_of old.place k (text_of_word k y)) (behind old.place y) (drop (old.at + n) bytes ++ more)) same
                (subst (λ y. GivesCommand s (atom_in s k n) (behind old.place (take n s.bytes)) y) (rest_word bytes old.at n more w.1)
                (states.atom s k n (word_state bytes told old k n more between w none) (ap reverse a.0)))),
          );
    }

items_more : (o : Opened) (os : List Opened) (items others : List Sexpr) → AreItems (o ∷ os) items → AreItems (o ∷ os) others
items_more o [] items others is = is
items_more o (q ∷ os) items others is = items_more q os items others is

atom_inside : (bytes : List ℕ) (told : Bool) (old : Parser) (k : AtomKind) (n : ℕ) (text : List ℕ) (new : Stack) (ys : List Opened) → IsParsing bytes old → is_comment old.mode ≡ false → IsWord (drop old.at bytes) told (found.Atom k n) →
    text ≡ text_of_word k (take n (drop old.at bytes)) → IsAdded old.stack (atom_of old.place k text) None new → reverse old.stack.opened ≡ ys → HasGone bytes told old (behind_word bytes old n new)
atom_inside bytes told old k n text new [] h between w is a none = absurd (not_empty old.stack.opened a.0 none)
atom_inside bytes told old k n text new (o ∷ os) h between w is a some =
    let word = take n (drop old.at bytes) in
    let outer : reverse new.opened ≡ o ∷ os = ap (λ y. reverse y.opened) a.1 ∙ some in
    let passed = word_passed bytes old n new h.within w.1 in
    record {
      parsing = record {
        within = passed.within;
        line = omega (arith, h.line, passed.line, passed.begin);
        column = omega (arith, h.column, passed.column, passed.begin);
        mode = tt;
        items = subst (λ y. AreItems y new.items) (sym outer) (items_more o os old.stack.items new.items (subst (λ y. AreItems y old.stack.items) some h.items));
      };
      passed = passed;
      reads = λ more none.
          let s = state_at old bytes more in
          let t = state_at (behind_word bytes old n new) bytes more in
          let same = slice_word bytes old.at n more w.1 in
          let rest = drop (old.at + n) bytes ++ more in
          states.goes s s t (states.stays s) (states.atom s t k n o os (word_state bytes told old k n more between w none) some
          (ap (λ y. record { opens = y; items = new.items; in_comment = false; place = behind old.place word; bytes = rest }) (outer ∙ sym some)
          ∙ ap (λ y. record { opens = s.opens; items = y.items; in_comment = false; place = behind old.place word; bytes = rest }) a.1
          ∙ ap (λ y. record { opens = s.opens; items = old.stack.items ++ atom_of old.place k y ∷ []; in_comment = false; place = behind old.place word; bytes = rest }) is
          ∙ ap (λ y. record { opens = s.opens; items = old.stack.items ++ atom_of old.place k (text_of_word k y) ∷ []; in_comment = false; place = behind old.place y; bytes = rest }) (sym same)
          ∙ ap (λ y. record { opens = s.opens; items = s.items ++ atom_in s k n ∷ []; in_comment = false; place = behind old.place (take n s.bytes); bytes = y }) (sym (rest_word bytes old.at n more w.1))));
    }

pub atom_goes : (bytes : List ℕ) (told : Bool) (old : Parser) (k : AtomKind) (n : ℕ) (text : List ℕ) (new : Stack) → IsParsing bytes old → is_comment old.mode ≡ false → IsWord (drop old.at bytes) told (found.Atom k n) →
    text ≡ text_of_word k (take n (drop old.at bytes)) → IsAdded old.stack (atom_of old.place k text) None new → HasGone bytes told old (behind_word bytes old n new)
atom_goes bytes told old k n text new h between w is a = atom_inside bytes told old k n text new (reverse old.stack.opened) h between w is a refl

-- the place of the outermost open list
outermost_behind : (xs : List Opened) (o : Opened) (p : Place) → outermost (xs ++ o ∷ []) p ≡ o.place
outermost_behind [] o p = refl
outermost_behind (x ∷ xs) o p = outermost_behind xs o x.place

pub outermost_first : (xs : List Opened) (o : Opened) (p : Place) → slice_get xs 0 ≡ Some o → outermost (reverse xs) p ≡ o.place
outermost_first [] o p is = absurd (grind arith)
outermost_first (x ∷ xs) o p is =
    let e : x ≡ o = grind arith in
    ap (λ l. outermost l p) (reverse-append (x ∷ []) xs) ∙ outermost_behind (reverse xs) x p ∙ ap (λ y. y.place) e

pub some_first : (xs : List Opened) (o : Opened) → slice_get xs 0 ≡ Some o → 0 < length xs
some_first [] o is = absurd (grind arith)
some_first (x ∷ xs) o is = omega arith

pub no_items : (xs : List Opened) → (length xs == 0) ≡ true → xs ≡ []
no_items [] e = refl
no_items (x ∷ xs) e = absurd (grind (arith, nat_tests))

-- the first of the bytes that are left
pub first_left : (bytes : List ℕ) (at : ℕ) → at < length bytes → get_or (drop at bytes) 0 0 ≡ get_or bytes at 0
first_left bytes at lt = ap (λ l. get_or l 0 0) (drop_more bytes at 0 lt)

pub added_some : (old : Stack) (e : Sexpr) (o : Option Sexpr) (x : Sexpr) (new : Stack) → IsAdded old e o new → o ≡ Some x → IsAdded old e (Some x) new
added_some old e o x new h is = subst (λ y. IsAdded old e y new) is h

pub added_none : (old : Stack) (e : Sexpr) (o : Option Sexpr) (new : Stack) → IsAdded old e o new → o ≡ None → IsAdded old e None new
added_none old e o new h is = subst (λ y. IsAdded old e y new) is h
