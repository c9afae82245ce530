-- Bytes that are read and written piece by piece.
use Rattle.std.proofs.Common.{◌≡◌, ℕ, ◌+◌, ◌≤◌, List, ◌++◌, length, take, drop, Option, Some, None, IfSome, refl, sym, ◌∙◌, ap, arith, append_assoc, length-append}
use Rattle.std.proofs.Math.Seq.{take-add}
use Rattle.std.proofs.lemmas.List.{length-take-le, take-append-le}
use Rattle.rare_base.specs.Outside.{ReadsAt, grown}

-- what was read of a text is its front
pub record IsFront (all read : List ℕ) : Type 0 where
  pub within : length read ≤ length all
  pub front : read ≡ take (length read) all

pub grown_more : (was : Option (List ℕ)) (bytes : List ℕ) (at n : ℕ) →
    grown (grown was (take at bytes)) (take n (drop at bytes)) ≡ grown was (take (at + n) bytes)
grown_more None bytes at n = refl
grown_more (Some w) bytes at n = ap Some (append_assoc w (take at bytes) (take n (drop at bytes)) ∙ ap (λ s. w ++ s) (sym (take-add at n bytes)))

front_more : (all read buf : List ℕ) (n : ℕ) → IsFront all read → ReadsAt all (length read) n buf → n ≤ length buf → IsFront all (read ++ take n buf)
front_more all read buf n h r le =
    let len : length (read ++ take n buf) ≡ length read + n = length-append read (take n buf) ∙ ap (λ k. length read + k) (length-take-le n buf le) in
    record {
      within = omega (arith, r.within, h.within, len);
      front = ap (λ s. s ++ take n buf) h.front ∙ ap (λ s. take (length read) all ++ s) r.bytes ∙ sym (take-add (length read) n all) ∙ ap (λ k. take k all) (sym len);
    }

pub reads_more : (told : Option (List ℕ)) (read buf : List ℕ) (n : ℕ) → IfSome told (λ all. IsFront all read) →
    IfSome told (λ all. ReadsAt all (length read) n buf) → n ≤ length buf → IfSome told (λ all. IsFront all (read ++ take n buf))
reads_more None read buf n h r le = tt
reads_more (Some all) read buf n h r le = front_more all read buf n h r le

pub piece_len : (new read buf rest : List ℕ) (n : ℕ) → new ≡ read ++ take n (buf ++ rest) → n ≤ length buf → length new ≡ length read + n
piece_len new read buf rest n e le =
    ap length e ∙ length-append read (take n (buf ++ rest)) ∙ ap (λ k. length read + k) (ap length (take-append-le n buf rest le) ∙ length-take-le n buf le)

pub reads_piece : (told : Option (List ℕ)) (new read buf rest : List ℕ) (n : ℕ) → IfSome told (λ all. IsFront all read) →
    IfSome told (λ all. ReadsAt all (length read) n buf) → new ≡ read ++ take n (buf ++ rest) → n ≤ length buf → IfSome told (λ all. IsFront all new)
reads_piece told new read buf rest n h r e le =
    let f : new ≡ read ++ take n buf = e ∙ ap (λ s. read ++ s) (take-append-le n buf rest le) in
    rw f (reads_more told read buf n h r le)
