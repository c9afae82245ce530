-- Reads that follow one another.
use Rattle.std.proofs.Common.{◌≡◌, ◌≢◌, ℕ, zero, suc, ◌+◌, ◌≤◌, List, [], ◌∷◌, ◌++◌, map, Option, Some, None, IfSome, refl, sym, ◌∙◌, ap, subst, append_assoc}
use Rattle.std.specs.List.{last_or}
use Rattle.rare_base.specs.Reads.{Read, read_of, room_at, most_file_bytes, Added, AsksNext, Follows, InTurn, FoundEnd, ReadInTurn, ReadToEnd}
use Rattle.std.proofs.lemmas.List.{append-nil}

-- ---- reads that were told

added_nothing : (told : Option (List Read)) → Added told told []
added_nothing None = tt
added_nothing (Some before) = sym (append-nil before)

pub added_more : (a b c : Option (List Read)) (reads more : List Read) → Added a b reads → Added b c more → Added a c (reads ++ more)
added_more a b None reads more h h' = tt
added_more a None (Some after) reads more h h' = absurd h'
added_more None (Some b) (Some after) reads more h h' = absurd h
added_more (Some a) (Some b) (Some after) reads more h h' = h' ∙ ap (λ x. x ++ more) h ∙ append_assoc a reads more

-- ---- files in turn

follows_map : (gave : Option ℕ) (reads : List Read) (A B : Type 0) (P Q : ℕ → Type 0) → (A → B) → ((n : ℕ) → P n → Q n) → Follows gave reads A P → Follows gave reads B Q
follows_map None reads A B P Q f g h = h
follows_map (Some zero) reads A B P Q f g h = f h
follows_map (Some (suc n)) reads A B P Q f g h = g (suc n) h

no_files : (names : List (List ℕ)) (reads : List Read) → InTurn [] 0 reads → InTurn names 0 reads
no_files names [] h = tt
no_files names (r ∷ reads) h = absurd h

-- reads of one file are reads of this and further files
in_turn_wider : (name : List ℕ) (names : List (List ℕ)) (at : ℕ) (reads : List Read) → InTurn (name ∷ []) at reads → InTurn (name ∷ names) at reads
in_turn_wider name names at [] h = tt
in_turn_wider name names at (r ∷ reads) h = (
  h.0,
  follows_map r.gave reads (InTurn [] 0 reads) (InTurn names 0 reads) (λ n. InTurn (name ∷ []) (at + n) reads) (λ n. InTurn (name ∷ names) (at + n) reads)
      (no_files names reads) (λ n. in_turn_wider name names (at + n) reads) h.1,
)

only_end : (gave : Option ℕ) (names : List (List ℕ)) (later : List Read) (P : ℕ → Type 0) → Some gave ≡ Some (Some 0) → InTurn names 0 later → Follows gave later (InTurn names 0 later) P
only_end None names later P e l = cc
only_end (Some zero) names later P e l = l
only_end (Some (suc n)) names later P e l = cc

on_more : (gave : Option ℕ) (name : List ℕ) (names : List (List ℕ)) (at : ℕ) (s : Read) (reads later : List Read) →
    ((n : ℕ) → InTurn (name ∷ []) (at + n) (s ∷ reads) → InTurn (name ∷ names) (at + n) ((s ∷ reads) ++ later)) →
    Follows gave (s ∷ reads) (InTurn [] 0 (s ∷ reads)) (λ n. InTurn (name ∷ []) (at + n) (s ∷ reads)) →
    Follows gave ((s ∷ reads) ++ later) (InTurn names 0 ((s ∷ reads) ++ later)) (λ n. InTurn (name ∷ names) (at + n) ((s ∷ reads) ++ later))
on_more None name names at s reads later f h = cc
on_more (Some zero) name names at s reads later f h = absurd h
on_more (Some (suc n)) name names at s reads later f h = f (suc n) h

-- behind the end of one file come the reads of the further files
in_turn_then : (name : List ℕ) (names : List (List ℕ)) (at : ℕ) (reads later : List Read) → InTurn (name ∷ []) at reads → FoundEnd reads → InTurn names 0 later →
    InTurn (name ∷ names) at (reads ++ later)
in_turn_then name names at [] later h e l = cc
in_turn_then name names at (r ∷ []) later h e l = (h.0, only_end r.gave names later (λ n. InTurn (name ∷ names) (at + n) later) e l)
in_turn_then name names at (r ∷ s ∷ reads) later h e l =
    (h.0, on_more r.gave name names at s reads later (λ n f. in_turn_then name names (at + n) (s ∷ reads) later f e l) h.1)

pub none_in_turn : (told : Option (List Read)) (names : List (List ℕ)) → ReadInTurn told told names
none_in_turn told names = record { reads = []; told = added_nothing told; turn = tt }

pub one_in_turn : (before after : Option (List Read)) (name : List ℕ) (names : List (List ℕ)) → ReadInTurn before after (name ∷ []) → ReadInTurn before after (name ∷ names)
one_in_turn before after name names h = record { reads = h.reads; told = h.told; turn = in_turn_wider name names 0 h.reads h.turn }

pub then_in_turn : (before between after : Option (List Read)) (name : List ℕ) (names : List (List ℕ)) → ReadToEnd before between name → ReadInTurn between after names →
    ReadInTurn before after (name ∷ names)
then_in_turn before between after name names h h' = record {
  reads = h.reads ++ h'.reads;
  told = added_more before between after h.reads h'.reads h.told h'.told;
  turn = in_turn_then name names 0 h.reads h'.reads h.turn h.end h'.turn;
}

-- ---- the reads of one file, read by read

-- whatever follows in turn at this place follows on these reads
abbrev pub Reaches : List ℕ → List Read → ℕ → Type 0
Reaches name reads at = (more : List Read) → InTurn (name ∷ []) at more → InTurn (name ∷ []) 0 (reads ++ more)

pub asks_next : (name : List ℕ) (at room : ℕ) (gave : Option ℕ) → at ≤ most_file_bytes → room ≡ room_at at → IfSome gave (λ n. n ≤ room) →
    AsksNext name at (read_of name at room gave)
asks_next name at room gave within piece bound = record { file = refl; place = refl; within = within; piece = piece; bound = bound }

-- reads up to here
pub reaches_here : (name : List ℕ) (reads : List Read) (at : ℕ) → Reaches name reads at → InTurn (name ∷ []) 0 reads
reaches_here name reads at h = subst (InTurn (name ∷ []) 0) (append-nil reads) (h [] tt)

-- one read more, that gave no byte or failed
pub reaches_end : (name : List ℕ) (reads : List Read) (at room : ℕ) → Reaches name reads at → AsksNext name at (read_of name at room (Some 0)) →
    InTurn (name ∷ []) 0 (reads ++ read_of name at room (Some 0) ∷ [])
reaches_end name reads at room h next = h (read_of name at room (Some 0) ∷ []) (next, tt)

pub reaches_failure : (name : List ℕ) (reads : List Read) (at room : ℕ) → Reaches name reads at → AsksNext name at (read_of name at room None) →
    InTurn (name ∷ []) 0 (reads ++ read_of name at room None ∷ [])
reaches_failure name reads at room h next = h (read_of name at room None ∷ []) (next, refl)

-- one read more, that gave bytes
pub reaches_on : (name : List ℕ) (reads : List Read) (at room n : ℕ) → Reaches name reads at → AsksNext name at (read_of name at room (Some n)) → n ≢ 0 →
    Reaches name (reads ++ read_of name at room (Some n) ∷ []) (at + n)
reaches_on name reads at room zero h next some more m = absurd (some refl)
reaches_on name reads at room (suc n) h next some more m =
    let e = append_assoc reads (read_of name at room (Some (suc n)) ∷ []) more in
    subst (InTurn (name ∷ []) 0) (sym e) (h (read_of name at room (Some (suc n)) ∷ more) (next, m))

last_appended : {A : Type 0} (o : Option A) (xs : List A) (x : A) → last_or o (xs ++ x ∷ []) ≡ Some x
last_appended o [] x = refl
last_appended o (y ∷ xs) x = last_appended (Some y) xs x

gave_appended : (reads : List Read) (r : Read) → map (λ r. r.gave) (reads ++ r ∷ []) ≡ map (λ r. r.gave) reads ++ r.gave ∷ []
gave_appended [] r = refl
gave_appended (s ∷ reads) r = ap (λ gs. s.gave ∷ gs) (gave_appended reads r)

pub found_end : (name : List ℕ) (reads : List Read) (at room : ℕ) → FoundEnd (reads ++ read_of name at room (Some 0) ∷ [])
found_end name reads at room =
    ap (last_or None) (gave_appended reads (read_of name at room (Some 0))) ∙ last_appended None (map (λ r. r.gave) reads) (Some 0)
