use Rattle.std.proofs.Common.{◌≡◌, ◌==◌, true, false, List, [], ◌∷◌, length, sym, ◌∙◌, refl, subst, IfOk, Bool, arith}
use Rattle.std.proofs.lemmas.Bool.Decides.{nat_tests}
use Rattle.rare_linear.specs.Linears.{LinearExpression}
use Rattle.rare_sort.specs.declared.declarations.Declarations.{Declarations}
use Rattle.rare_sort.specs.declared.family.Family.{Family}
use Rattle.rare_sort.specs.declared.family.Family.TheVariants as kind
use Rattle.rare_sort.specs.declared.ruling.Ruling.TheVariants.{Ill}
use Rattle.rare_sort.specs.declared.sort.Sort.{Sort}
use Rattle.rare_sort.specs.Ids.{sorts_at}
use Rattle.rare_sort.specs.Rulings.{ruling_of_family}
use Rattle.rare_sort.proofs.ruling.of_family.Goals as goal

is_no_index : (ix : List LinearExpression) (b : Bool) → b ≡ (length ix == 0) → b ≡ true → [] ≡ ix
is_no_index [] b e t = refl
is_no_index (i ∷ ix) b e t =
    let f : (length (i ∷ ix) == 0) ≡ false = grind (arith, nat_tests) in
    let g : true ≡ false = sym t ∙ e ∙ f in cc

-- the other families have no indices
no_rule : (d : Declarations) (f : Family) (i : LinearExpression) (ix : List LinearExpression) (ss : List Sort) →
    (f ≡ kind.Extract → ⊥) → (f ≡ kind.Extend → ⊥) → (f ≡ kind.Rotate → ⊥) → (f ≡ kind.Repeat → ⊥) → (f ≡ kind.Bits → ⊥) → (f ≡ kind.Literal → ⊥) →
    Ill ≡ ruling_of_family d f (i ∷ ix) ss
no_rule d kind.Extract i ix ss a b c e g h = absurd (a refl)
no_rule d kind.Extend i ix ss a b c e g h = absurd (b refl)
no_rule d kind.Rotate i ix ss a b c e g h = absurd (c refl)
no_rule d kind.Repeat i ix ss a b c e g h = absurd (e refl)
no_rule d kind.Bits i ix ss a b c e g h = absurd (g refl)
no_rule d kind.Literal i ix ss a b c e g h = absurd (h refl)
no_rule d f i ix ss a b c e g h = refl

other : (d : Declarations) (f : Family) (ix : List LinearExpression) (ss : List Sort) (b : Bool) → b ≡ (length ix == 0) → b ≡ false →
    ((i : LinearExpression) (more : List LinearExpression) → Ill ≡ ruling_of_family d f (i ∷ more) ss) → Ill ≡ ruling_of_family d f ix ss
other d f [] ss b e t h = cc
other d f (i ∷ ix) ss b e t h = h i ix

pub returns-in_default : goal.returns-in_default
returns-in_default c =
    subst (λ ix. IfOk c.ruling_of.result (λ r. r ≡ ruling_of_family c.args.declared.now c.args.family ix (sorts_at c.args.sorts.now c.args.args.now)))
    (is_no_index c.args.indices.now c.is_empty.result c.is_empty.ensures c.if-is_empty.true) c.ruling_of.ensures

pub returns-in_default-2 : goal.returns-in_default-2
returns-in_default-2 c =
    let n = c.in_default in
    let ss = sorts_at c.args.sorts.now c.args.args.now in
    other c.args.declared.now c.args.family c.args.indices.now ss c.is_empty.result c.is_empty.ensures c.if-is_empty.false
    (λ i ix. no_rule c.args.declared.now c.args.family i ix ss n.not-Extract n.not-Extend n.not-Rotate n.not-Repeat n.not-Bits n.not-Literal)
