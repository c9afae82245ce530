-- Names by ids and names by trees, as terms grow.
use Rattle.std.proofs.Common.{◌≡◌, ℕ, suc, ◌<◌, ◌≤◌, Bool, true, false, List, [], ◌∷◌, ◌++◌, map, length, bytes_eq, ◌||◌, Option, Some, None, refl, ap, sym, ◌∙◌, arith, length-append, append_assoc, subst, if◌then◌else◌}
use Rattle.std.proofs.Math.ListN.{get_or-append}
use Rattle.std.proofs.lemmas.List.{map-append, append-nil}
use Rattle.std.proofs.lemmas.List.Elements.{All-append, All-push}
use Rattle.std.specs.Option.{is_none}
use Rattle.rare_sort.specs.Ids.{tree_at, trees_at, AreIds, Extends}
use Rattle.rare_sort.specs.Trees.{node}
use Rattle.rare_sort.specs.DeclaredSorts.{widths}
use Rattle.rare_sort.specs.declared.declarations.Declarations.{Declarations}
use Rattle.rare_sort.specs.declared.head.Head.TheVariants.{True}
use Rattle.rare_sort.specs.declared.tree.TermId.{TermId}
use Rattle.rare_sort.specs.declared.tree.Tree.{Tree}
use Rattle.rare_term.specs.State.{State, Grows}
use Rattle.rare_scope.specs.declared.meaning.Meaning.{Meaning}
use Rattle.rare_scope.specs.declared.meaning.Meaning.TheVariants as meaning
use Rattle.rare_scope.specs.Names.{Held, Meant, a_term, found, found_from, names_of, meant, IsMeant, AreMeant}
use Rattle.rare_scope.specs.Reserved.{is_among}
use Rattle.rare_term_text.specs.TermText.{is_bound}

pub tree_kept : (old new : List Tree) (i : ℕ) → Extends old new → i < length old → tree_at new i ≡ tree_at old i
tree_kept old new i g lt = ap (λ ts. tree_at ts i) g.1 ∙ get_or-append old g.0 (node True [] []) i lt

kept_meant : (old new : State) (m : Meaning) → Grows old new → IsMeant old m → meant new.trees m ≡ meant old.trees m
kept_meant old new (meaning.Sort k) g is = refl
kept_meant old new (meaning.Width k) g is = refl
kept_meant old new (meaning.Symbol k) g is = refl
kept_meant old new (meaning.Term id) g is = ap a_term (tree_kept old.trees new.trees id.0 g.trees is)

-- names keep their meaning as terms grow
pub names_kept : (old new : State) (held : Held) → Grows old new → AreMeant old held → names_of new.trees held ≡ names_of old.trees held
names_kept old new [] g are = refl
names_kept old new (n ∷ held) g are =
    ap (λ m. (n.0, m) ∷ names_of new.trees held) (kept_meant old new n.1 g (are 0 n (omega arith)))
    ∙ ap (λ ns. (n.0, meant old.trees n.1) ∷ ns) (names_kept old new held g (λ k d lt. are (suc k) d (omega arith)))

pub trees_kept : (old new : List Tree) (ids : List TermId) → Extends old new → AreIds (length old) ids → trees_at new ids ≡ trees_at old ids
trees_kept old new [] g a = refl
trees_kept old new (id ∷ ids) g a =
    ap (λ t. t ∷ trees_at new ids) (tree_kept old new id.0 g (a 0 id (omega arith)))
    ∙ ap (λ ts. tree_at old id.0 ∷ ts) (trees_kept old new ids g (λ k d lt. a (suc k) d (omega arith)))

pub longer : (old new : List Tree) → Extends old new → length old ≤ length new
longer old new g = omega (arith, ap length g.1, length-append old g.0)

one_kept : (old new : State) (m : Meaning) → Grows old new → IsMeant old m → IsMeant new m
one_kept old new (meaning.Sort k) g is = subst (λ (d : Declarations). k < d.sorts) (sym g.declared) is
one_kept old new (meaning.Width k) g is = subst (λ (d : Declarations). k < widths d) (sym g.declared) is
one_kept old new (meaning.Symbol k) g is = subst (λ (d : Declarations). k < length d.symbols) (sym g.declared) is
one_kept old new (meaning.Term id) g is = omega (arith, is, longer old.trees new.trees g.trees)

-- names stay those of the terms
pub are_kept : (old new : State) (held : Held) → Grows old new → AreMeant old held → AreMeant new held
are_kept old new held g are k d lt = one_kept old new _ g (are k d lt)

pub grows_on : (a b c : State) → Grows a b → Grows b c → Grows a c
grows_on a b c g h = record {
  trees = (g.trees.0 ++ h.trees.0, h.trees.1 ∙ ap (λ ts. ts ++ h.trees.0) g.trees.1 ∙ append_assoc a.trees g.trees.0 h.trees.0);
  declared = h.declared ∙ g.declared;
}

pub grows_not : (s : State) → Grows s s
grows_not s = record { trees = ([], sym (append-nil s.trees)); declared = refl }

pub trees_push : (ts : List Tree) (ids : List TermId) (id : TermId) → trees_at ts (ids ++ id ∷ []) ≡ trees_at ts ids ++ tree_at ts id.0 ∷ []
trees_push ts [] id = refl
trees_push ts (x ∷ ids) id = ap (λ us. tree_at ts x.0 ∷ us) (trees_push ts ids id)

pub ids_more : (old new : List Tree) (ids : List TermId) (id : TermId) → Extends old new → AreIds (length old) ids → id.0 < length new → AreIds (length new) (ids ++ id ∷ [])
ids_more old new ids id g a lt =
    let le = longer old new g in
    All-push (λ i. i.0 < length new) ids id (λ k d at. let h = a k d at in omega (arith, le, h)) lt

-- whether a name is bound, by ids or by trees
pub bound_by : (ts : List Tree) (held : Held) (name : List ℕ) → is_bound (names_of ts held) name ≡ is_among (map (λ n. n.0) held) name
bound_by ts [] name = refl
bound_by ts (n ∷ held) name = ap (λ b. bytes_eq name n.0 || b) (bound_by ts held name)

none_from : (ts : List Tree) (name : List ℕ) (a : Option Meant) (m : Option Meaning) (held : Held) → is_none a ≡ is_none m → is_none (found_from name a (names_of ts held)) ≡ is_none (found_from name m held)
none_from ts name a m [] same = same
none_from ts name a m (n ∷ held) same = at (bytes_eq name n.0) (λ b k. none_from ts name b k held)
  where
    at : (b : Bool) → ((c : Option Meant) (k : Option Meaning) → is_none c ≡ is_none k → is_none (found_from name c (names_of ts held)) ≡ is_none (found_from name k held)) →
        is_none (found_from name (if b then Some (meant ts n.1) else a) (names_of ts held)) ≡ is_none (found_from name (if b then Some n.1 else m) held)
    at true go = go (Some (meant ts n.1)) (Some n.1) refl
    at false go = go a m same

-- whether a name stands for nothing, by ids or by trees
pub none_found : (ts : List Tree) (held : Held) (name : List ℕ) → is_none (found (names_of ts held) name) ≡ is_none (found held name)
none_found ts held name = none_from ts name None None held refl

-- names that a `let` binds over others
pub names_over : (old now : State) (outside more : Held) → Grows old now → AreMeant old outside → names_of now.trees (outside ++ more) ≡ names_of old.trees outside ++ names_of now.trees more
names_over old now outside more g are =
    map-append (λ n. (n.0, meant now.trees n.1)) outside more ∙ ap (λ ns. ns ++ names_of now.trees more) (names_kept old now outside g are)

pub over_assoc : (ts : List Tree) (scope bound more : Held) → names_of ts (scope ++ (bound ++ more)) ≡ names_of ts ((scope ++ bound) ++ more)
over_assoc ts scope bound more = ap (names_of ts) (sym (append_assoc scope bound more))

pub are_over : (old now : State) (scope bound more : Held) → Grows old now → AreMeant old (scope ++ bound) → AreMeant now more → AreMeant now (scope ++ (bound ++ more))
are_over old now scope bound more g are both =
    subst (λ (held : Held). AreMeant now held) (append_assoc scope bound more) (All-append (λ n. IsMeant now n.1) (scope ++ bound) more (are_kept old now (scope ++ bound) g are) both)

-- one binding more
pub are_more : (old now : State) (held : Held) (name : List ℕ) (id : TermId) → Grows old now → AreMeant old held → id.0 < length now.trees → AreMeant now (held ++ (name, meaning.Term id) ∷ [])
are_more old now held name id g are lt = All-push (λ n. IsMeant now n.1) held (name, meaning.Term id) (are_kept old now held g are) lt

pub names_more : (old now : State) (held : Held) (name : List ℕ) (id : TermId) → Grows old now → AreMeant old held →
    names_of now.trees (held ++ (name, meaning.Term id) ∷ []) ≡ names_of old.trees held ++ (name, a_term (tree_at now.trees id.0)) ∷ []
names_more old now held name id g are = names_over old now held ((name, meaning.Term id) ∷ []) g are

pub are_pushed : (s : State) (held : Held) (name : List ℕ) (m : Meaning) → AreMeant s held → IsMeant s m → AreMeant s (held ++ (name, m) ∷ [])
are_pushed s held name m are is = All-push (λ n. IsMeant s n.1) held (name, m) are is
