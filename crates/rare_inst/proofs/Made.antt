-- What is made of applications, and terms that grow.
use Rattle.std.proofs.Common.{◌≡◌, ℕ, suc, ◌<◌, ◌≤◌, List, [], ◌∷◌, ◌++◌, length, refl, sym, ap, ◌∙◌, arith, inl, inr, length-append, append_assoc}
use Rattle.std.proofs.lemmas.List.{append-nil}
use Rattle.std.proofs.Math.ListN.{get_or-append}
use Rattle.rare_sort.specs.Ids.{tree_at, trees_at, AreIds, Extends}
use Rattle.rare_sort.specs.Trees.{node}
use Rattle.rare_sort.specs.declared.head.Head.TheVariants.{True}
use Rattle.rare_sort.specs.declared.tree.TermId.{TermId}
use Rattle.rare_sort.specs.declared.tree.Tree.{Tree}
use Rattle.rare_term.specs.State.{State, AddsAtMost, Grows}

pub adds_grow : (t : Tree) (old new : State) → AddsAtMost t old new → Grows old new
adds_grow t old new h = record {
  trees = elim h.trees [ inl e ↦ ([], e ∙ sym (append-nil old.trees)) | inr e ↦ (t ∷ [], e) ];
  declared = h.declared;
}

pub tree_kept : (old new : List Tree) (i : ℕ) → Extends old new → i < length old → tree_at new i ≡ tree_at old i
tree_kept old new i g lt = ap (λ ts. tree_at ts i) g.1 ∙ get_or-append old g.0 (node True [] []) i lt

pub trees_kept : (old new : List Tree) (ids : List TermId) → Extends old new → AreIds (length old) ids → trees_at new ids ≡ trees_at old ids
trees_kept old new [] g a = refl
trees_kept old new (id ∷ ids) g a =
    ap (λ t. t ∷ trees_at new ids) (tree_kept old new id.0 g (a 0 id (omega arith)))
    ∙ ap (λ ts. tree_at old id.0 ∷ ts) (trees_kept old new ids g (λ k d lt. a (suc k) d (omega arith)))

pub longer : (old new : List Tree) → Extends old new → length old ≤ length new
longer old new g = omega (arith, ap length g.1, length-append old g.0)

pub grows_on : (a b c : State) → Grows a b → Grows b c → Grows a c
grows_on a b c g h = record {
  trees = (g.trees.0 ++ h.trees.0, h.trees.1 ∙ ap (λ ts. ts ++ h.trees.0) g.trees.1 ∙ append_assoc a.trees g.trees.0 h.trees.0);
  declared = h.declared ∙ g.declared;
}

pub grows_not : (s : State) → Grows s s
grows_not s = record { trees = ([], sym (append-nil s.trees)); declared = refl }
