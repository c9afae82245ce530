use Rattle.std.proofs.Common.{◌≡◌, ◌∙◌, ap, arith, subst, sym, length, drop, take, min, IfSome, List, [], ◌∷◌, ℕ, ◌+◌, ◌-◌, ◌<◌, ◌≤◌, Option, Some, None}
use Rattle.std.proofs.lemmas.List.{length-append, length-drop, length-take}
use Rattle.rare_base.specs.Outside.{ReadsAt}
use Rattle.rare_base.proofs.OutsideLemmas.{reads_piece, piece_len}
use Rattle.rare_base.specs.Reads.{read_of, Added, AsksNext}
use Rattle.rare_base.proofs.ReadsLemmas.{asks_next, Reaches, added_more, reaches_here, reaches_end, reaches_failure, reaches_on, found_end}
use Rattle.rare_base.proofs.outside.read_whole.Goals as goal

-- what is asked at this place
asks : (name buf : List ℕ) (at room : ℕ) (gave : Option ℕ) → 0 < room → room ≡ min 65536 (268435457 - at) → length buf ≡ 65536 → IfSome gave (λ n. n ≤ length (take room buf)) →
    AsksNext name at (read_of name at (length (take room buf)) gave)
asks name buf at room gave some is len bound = asks_next name at (length (take room buf)) gave (omega (arith, some, is)) (omega (arith, length-take room buf, is, len)) bound

pub returns-then-at-gt-LONGEST-clause-reads : goal.returns-then-at-gt-LONGEST-clause-reads
returns-then-at-gt-LONGEST-clause-reads g c =
    let was = c.loop-buf.invariant.reads in
    record { reads = was.0; told = was.1; turn = reaches_here c.args.name.now was.0 (length c.loop-buf.text) was.2 }

pub returns-in-Err-clause-reads : goal.returns-in-Err-clause-reads
returns-in-Err-clause-reads g c =
    let was = c.loop-buf.invariant.reads in
    let at : length c.bytes-at.result.now ≡ length c.loop-buf.text = ap length c.bytes-at.ensures in
    let here : Reaches c.args.name.now was.0 (length c.bytes-at.result.now) = subst (Reaches c.args.name.now was.0) (sym at) was.2 in
    let next = asks c.args.name.now c.loop-buf.buf (length c.bytes-at.result.now) c.next_room-room.result None c.next_room-room.ensures.some c.next_room-room.ensures.piece c.loop-buf.invariant.room tt in
    record { reads = _; told = added_more _ _ _ was.0 _ was.1 c.in-Err.ensures.reads; turn = reaches_failure c.args.name.now was.0 _ _ here next }

pub returns-in-Ok-eq0-clause-reads : goal.returns-in-Ok-eq0-clause-reads
returns-in-Ok-eq0-clause-reads g c =
    let was = c.loop-buf.invariant.reads in
    let at : length c.bytes-at.result.now ≡ length c.loop-buf.text = ap length c.bytes-at.ensures in
    let here : Reaches c.args.name.now was.0 (length c.bytes-at.result.now) = subst (Reaches c.args.name.now was.0) (sym at) was.2 in
    let next = asks c.args.name.now c.loop-buf.buf (length c.bytes-at.result.now) c.next_room-room.result (Some 0) c.next_room-room.ensures.some c.next_room-room.ensures.piece c.loop-buf.invariant.room (omega arith) in
    let P : ℕ → Type 0 = λ n. Added (g.L.Library.reads c.loop-buf.files) (g.L.Library.reads c.read.new.self) (read_of c.args.name.now (length c.bytes-at.result.now) (length (take c.next_room-room.result c.loop-buf.buf)) (Some n) ∷ []) in
    let told = subst P c.in-Ok-eq0.field-0-test c.in-Ok-eq0.ensures.reads in
    record { reads = _; told = added_more _ _ _ was.0 _ was.1 told; turn = reaches_end c.args.name.now was.0 _ _ here next }

pub returns-in-Ok-eq0-clause-end : goal.returns-in-Ok-eq0-clause-end
returns-in-Ok-eq0-clause-end g c =
    let was = c.loop-buf.invariant.reads in
    let at : length c.bytes-at.result.now ≡ length c.loop-buf.text = ap length c.bytes-at.ensures in
    let here : Reaches c.args.name.now was.0 (length c.bytes-at.result.now) = subst (Reaches c.args.name.now was.0) (sym at) was.2 in
    let next = asks c.args.name.now c.loop-buf.buf (length c.bytes-at.result.now) c.next_room-room.result (Some 0) c.next_room-room.ensures.some c.next_room-room.ensures.piece c.loop-buf.invariant.room (omega arith) in
    let P : ℕ → Type 0 = λ n. Added (g.L.Library.reads c.loop-buf.files) (g.L.Library.reads c.read.new.self) (read_of c.args.name.now (length c.bytes-at.result.now) (length (take c.next_room-room.result c.loop-buf.buf)) (Some n) ∷ []) in
    let told = subst P c.in-Ok-eq0.field-0-test c.in-Ok-eq0.ensures.reads in
    record { reads = _; told = added_more _ _ _ was.0 _ was.1 told; turn = reaches_end c.args.name.now was.0 _ _ here next; end = found_end c.args.name.now was.0 _ _ }

pub returns-in_default-clause-reads : goal.returns-in_default-clause-reads
returns-in_default-clause-reads g c =
    let was = c.loop-buf.invariant.reads in
    let at : length c.bytes-at.result.now ≡ length c.loop-buf.text = ap length c.bytes-at.ensures in
    let here : Reaches c.args.name.now was.0 (length c.bytes-at.result.now) = subst (Reaches c.args.name.now was.0) (sym at) was.2 in
    let got : length c.read.new.buf ≡ length (take c.next_room-room.result c.loop-buf.buf) = c.read.auto.buf in
    let next = asks c.args.name.now c.loop-buf.buf (length c.bytes-at.result.now) c.next_room-room.result (Some c.in-Ok.n) c.next_room-room.ensures.some c.next_room-room.ensures.piece c.loop-buf.invariant.room (omega (arith, c.in-Ok.ensures.bound, got)) in
    let more = reaches_on c.args.name.now was.0 _ _ c.in-Ok.n here next c.in-Ok.n-test.1 in
    record { reads = _; told = added_more _ _ _ was.0 _ was.1 c.in-Ok.ensures.reads; turn = reaches_here c.args.name.now _ _ more }

pub loop-buf-preserved : goal.loop-buf-preserved
loop-buf-preserved g c =
    let n = c.in-Ok.n in
    let le = c.in-Ok.ensures.bound in
    let len = piece_len c.append.new.self c.loop-buf.text c.read.new.buf (drop c.next_room-room.result c.loop-buf.buf) n c.in-Ok-append.ensures.ok le in
    let at : length c.bytes-at.result.now ≡ length c.loop-buf.text = ap length c.bytes-at.ensures in
    let got : length c.read.new.buf ≡ length (take c.next_room-room.result c.loop-buf.buf) = c.read.auto.buf in
    let took : length (take c.next_room-room.result c.loop-buf.buf) ≤ c.next_room-room.result = omega (arith, length-take c.next_room-room.result c.loop-buf.buf) in
    let bytes : IfSome (g.L.Library.text c.loop-buf.files c.args.name.now) (λ all. ReadsAt all (length c.bytes-at.result.now) n c.read.new.buf) = c.in-Ok.ensures.bytes in
    let P : Option (List ℕ) → Type 0 = λ told. IfSome told (λ all. ReadsAt all (length c.bytes-at.result.now) n c.read.new.buf) in
    let Q : ℕ → Type 0 = λ k. IfSome (g.L.Library.text c.args.files.now c.args.name.now) (λ all. ReadsAt all k n c.read.new.buf) in
    let told = subst Q at (subst P (c.loop-buf.invariant.texts c.args.name.now) bytes) in
    let was = c.loop-buf.invariant.reads in
    let here : Reaches c.args.name.now was.0 (length c.bytes-at.result.now) = subst (Reaches c.args.name.now was.0) (sym at) was.2 in
    let next = asks c.args.name.now c.loop-buf.buf (length c.bytes-at.result.now) c.next_room-room.result (Some n) c.next_room-room.ensures.some c.next_room-room.ensures.piece c.loop-buf.invariant.room (omega (arith, le, got)) in
    let more = reaches_on c.args.name.now was.0 _ _ n here next c.in-Ok.n-test.1 in
    let reached : length c.bytes-at.result.now + n ≡ length c.append.new.self = omega (arith, at, len) in
    record {
      short = omega (arith, len, c.next_room-room.ensures);
      room = length-append c.read.new.buf (drop c.next_room-room.result c.loop-buf.buf) ∙ omega (arith, length-take c.next_room-room.result c.loop-buf.buf, length-drop c.next_room-room.result c.loop-buf.buf, c.next_room-room.ensures);
      front = reads_piece (g.L.Library.text c.args.files.now c.args.name.now) c.append.new.self c.loop-buf.text c.read.new.buf (drop c.next_room-room.result c.loop-buf.buf) n c.loop-buf.invariant.front told c.in-Ok-append.ensures.ok le;
      texts = λ w. c.in-Ok.ensures.texts w ∙ c.loop-buf.invariant.texts w;
      reads = (_, added_more _ _ _ was.0 _ was.1 c.in-Ok.ensures.reads, subst (Reaches c.args.name.now _) reached more);
      quiet = λ w. c.in-Ok.ensures.quiet w ∙ c.loop-buf.invariant.quiet w;
    }
