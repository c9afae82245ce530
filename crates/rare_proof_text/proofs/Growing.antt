-- What is read over the names of a problem, as terms grow.
use Rattle.std.proofs.Common.{◌≡◌, length}
use Rattle.rare_sort.specs.declared.declarations.Declarations.{Declarations}
use Rattle.rare_term.specs.State.{State, Grows}
use Rattle.rare_scope.specs.Names.{Held, Names, names_of, AreMeant}
use Rattle.rare_term_text.proofs.Naming.{names_kept}
use Rattle.rare_proof.proofs.Growing.{tree_kept}
use Rattle.rare_proof.specs.Sided.{AreSides}
use Rattle.rare_proof.specs.declared.sides.Sides.{Sides}
use Rattle.rare_proof_text.specs.inner.Parts.{pair_at}

-- what declarations and names give stays
pub read_kept : {A : Type 0} (f : Declarations → Names → A) (old new : State) (held : Held) → Grows old new → AreMeant old held →
    f new.declared (names_of new.trees held) ≡ f old.declared (names_of old.trees held)
read_kept f old new held g are = let names = names_kept old new held g are in λ i. f (g.declared i) (names i)

pub pair_kept : (old new : State) (s : Sides) → Grows old new → AreSides (length old.trees) s → pair_at new.trees s ≡ pair_at old.trees s
pair_kept old new s g are =
    let left = tree_kept old new g s.left.0 are.left in
    let right = tree_kept old new g s.right.0 are.right in
    λ i. (left i, right i)
