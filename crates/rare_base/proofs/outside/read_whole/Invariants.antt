use Rattle.std.proofs.Common.{◌≡◌, ℕ, ◌+◌, ◌-◌, ◌^◌, ◌≤◌, List, length, IfSome}
use Rattle.rare_base.proofs.OutsideLemmas.{IsFront}
use Rattle.rare_base.specs.Reads.{Read, Added}
use Rattle.rare_base.proofs.ReadsLemmas.{Reaches}
use Rattle.rare_base.proofs.outside.read_whole.Given as goal

abbrev pub invariant-loop-buf : goal.invariant-loop-buf
invariant-loop-buf g l = record {
  short : length l.text ≤ 2 ^ 28 + 1;
  room : length l.buf ≡ 65536;
  front : IfSome (g.L.Library.text l.fn.files l.name) (λ all. IsFront all l.text);
  texts : (w : List ℕ) → g.L.Library.text l.files w ≡ g.L.Library.text l.fn.files w;
  reads : (reads : List Read) × Added (g.L.Library.reads l.fn.files) (g.L.Library.reads l.files) reads × Reaches l.name reads (length l.text);
  quiet : (w : List ℕ) → g.L.Library.faults l.files w ≡ g.L.Library.faults l.fn.files w;
}

abbrev pub decreases-loop-buf : goal.decreases-loop-buf
decreases-loop-buf g l = 2 ^ 28 + 2 - length l.text
