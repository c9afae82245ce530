-- A node as the code types it is the node of the definition.
use Rattle.std.proofs.Common.{◌≡◌, ℕ, Bool, true, false, not, List, [], ◌∷◌, ◌++◌, map, flat_map, length, Option, Some, None, Ok, Err, refl, sym, ap, ◌∙◌, append_assoc, if◌then◌else◌}
use Rattle.std.specs.Prelude.{nat_le}
use Rattle.std.specs.Option.{option_map, option_and_then}
use Rattle.std.proofs.lemmas.List.{append-nil}
use Rattle.rare_linear.specs.Linears.{LinearExpression}
use Rattle.rare_sort.specs.Families.{family}
use Rattle.rare_sort.specs.Rulings.{all_one, all_within, formed_widths}
use Rattle.rare_sort.specs.SortRules.{SortRule, gives, basic_sort, outcome_sort, each_is, counts, width, array_parts, total, product, less_one, sort_rule}
use Rattle.rare_sort.specs.Sorting.{Place, One, Sorting, all_of, place_sort, places, least_count}
use Rattle.rare_sort.specs.Trees.{head_of, indices_of, args_of}
use Rattle.rare_sort.specs.declared.family.Family.{Family}
use Rattle.rare_sort.specs.declared.family.Family.TheVariants as kind
use Rattle.rare_sort.specs.declared.head.Head.{Head}
use Rattle.rare_sort.specs.declared.head.Head.TheVariants as head
use Rattle.rare_sort.specs.declared.sort.Sort.{Sort, BitVec, Bool as BoolSort}
use Rattle.rare_sort.specs.declared.tree.Tree.{Tree}
use Rattle.rare_sort.specs.declared.tree.Tree.TheFolds.{fold_out-Tree}
use Rattle.rare_sort.proofs.Options.{if_some, map_some}
use Rattle.rare_rule.specs.RuleSorting.{sorting_of}
use Rattle.rare_rule.specs.declared.param.Param.{Param}
use Rattle.rare_type.specs.FirstCase.{Typing, and_then, unless, each_typed, some_never_holds, differs_from, asking, is_named_product, application_by, application, node_at, node_step, typed_tree}
use Rattle.rare_type.specs.declared.error.TypeError.TheVariants as case
use Rattle.rare_type.specs.inner.Steps.{all_bounded, ruled_sort, family_needs, or_clash, asked, slice_asks, sort_applied, sorts_applied, head_applied, args_from, node_by}

-- ---- what a rule of sorts asks for

plain : (b : Bool) (s : Sort) (es : List (Sort × Sort)) (r : SortRule) → (if b then (Some (gives s es [])) else None) ≡ Some r → r.needs ≡ []
plain b s es r e = ap (λ x. x.needs) (sym (if_some b (gives s es []) r e).1)

mapped : {X : Type 0} (f : X → SortRule) (ns : List LinearExpression) → ((x : X) → (f x).needs ≡ ns) → (o : Option X) (r : SortRule) → option_map f o ≡ Some r → r.needs ≡ ns
mapped f ns h o r e = let q = map_some f o r e in ap (λ x. x.needs) (sym q.2) ∙ h q.0

plain_map : {X : Type 0} (b : Bool) (f : X → SortRule) → ((x : X) → (f x).needs ≡ []) → (o : Option X) (r : SortRule) → (if b then (option_map f o) else None) ≡ Some r → r.needs ≡ []
plain_map true f h o r e = mapped f [] h o r e
plain_map false f h o r e = cc

of_some : (x r : SortRule) → Some x ≡ Some r → r.needs ≡ x.needs
of_some x r e = cc

pub needs_are : (least : ℕ) (f : Family) (ix : List LinearExpression) (ss : List Sort) (r : SortRule) → sort_rule (λ k. None) least f ix ss ≡ Some r → r.needs ≡ family_needs f ix ss
needs_are least (kind.Fixed c s t) [] ss r e = plain (counts c least (length ss)) (basic_sort t) (each_is (basic_sort s) ss) r e
needs_are least kind.Alike [] (s ∷ ss) r e = plain (nat_le least (length (s ∷ ss))) BoolSort (each_is s ss) r e
needs_are least kind.Choice [] (c ∷ s ∷ t ∷ []) r e = of_some _ r e
needs_are least kind.Select [] (m ∷ k ∷ []) r e = mapped _ [] (λ p. refl) (array_parts m) r e
needs_are least kind.Store [] (m ∷ k ∷ v ∷ []) r e = mapped _ [] (λ p. refl) (array_parts m) r e
needs_are least (kind.BitVectors c o) [] (s ∷ ss) r e = plain_map (counts c least (length (s ∷ ss))) (λ w. gives (outcome_sort o w) (each_is s ss) []) (λ w. refl) (width s) r e
needs_are least kind.Concat [] ss r e = plain_map (nat_le least (length ss)) (λ w. gives (BitVec w) [] []) (λ w. refl) (total ss) r e
needs_are least kind.Extract (j ∷ i ∷ []) (s ∷ []) r e = let q = map_some _ (width s) r e in ap (λ x. x.needs) (sym q.2) ∙ ap (slice_asks (j ∷ i ∷ [])) (sym q.1)
needs_are least kind.Extend (k ∷ []) (s ∷ []) r e = mapped _ (k ∷ []) (λ m. refl) (width s) r e
needs_are least kind.Rotate (k ∷ []) (s ∷ []) r e = mapped _ (k ∷ []) (λ m. refl) (width s) r e
needs_are least kind.Repeat (k ∷ []) (s ∷ []) r e = mapped _ (less_one k ∷ []) (λ w. refl) (option_and_then (λ m. product k m) (width s)) r e
needs_are least kind.Bits (w ∷ []) [] r e = of_some _ r e
needs_are least kind.Literal (v ∷ w ∷ []) [] r e = of_some _ r e
needs_are least (kind.Symbol k) [] ss r e = cc
needs_are least (kind.Symbol k) (i ∷ ix) ss r e = cc
needs_are least f ix ss r e = cc

-- ---- an application

asking_is : (p : Place) (before own : List LinearExpression) → asking p before own ≡ and_then (all_bounded own) (λ own. asked p before own)
asking_is p before own = go (all_within own)
  where
    go : (b : Bool) →
        unless case.TooLarge (not b) (unless case.NeverHolds (some_never_holds own) (Ok (sorting_of p (before ++ own)))) ≡ and_then (unless case.TooLarge (not b) (Ok own)) (λ own. asked p before own)
    go true = refl
    go false = refl

-- as `application_by`, by the sorts that the arguments count as
abbrev ruled : Option Sort → Family → List Sort → List LinearExpression → Option SortRule → Typing Sorting
ruled root f ss before None = Err case.Clash
ruled root f ss before (Some r) =
    unless case.Clash (not (all_one r.alike)) (
    unless case.TooLarge (not (all_within (formed_widths f ss r.sort))) (
    unless case.Clash (differs_from root r.sort) (
    asking (One r.sort) before r.needs)))

ruled_is : (root : Option Sort) (least : ℕ) (f : Family) (ix : List LinearExpression) (before : List LinearExpression) (ss : List Sort) →
    ruled root f ss before (sort_rule (λ k. None) least f ix ss) ≡ sorts_applied root least f ix before ss
ruled_is root least f ix before ss = go (sort_rule (λ k. None) least f ix ss) refl
  where
    by : (r : SortRule) → r.needs ≡ family_needs f ix ss → (a b : Bool) →
        unless case.Clash (not a) (unless case.TooLarge (not b) (unless case.Clash (differs_from root r.sort) (asking (One r.sort) before r.needs)))
        ≡ and_then (unless case.Clash (not a) (unless case.TooLarge (not b) (Ok r.sort))) (λ s. sort_applied root f ix ss before s)
    by r is true true =
        ap (λ t. unless case.Clash (differs_from root r.sort) t) (ap (asking (One r.sort) before) is ∙ asking_is (One r.sort) before (family_needs f ix ss))
    by r is true false = refl
    by r is false b = refl

    go : (q : Option SortRule) → sort_rule (λ k. None) least f ix ss ≡ q → ruled root f ss before q ≡ and_then (ruled_sort f ss q) (λ s. sort_applied root f ix ss before s)
    go None e = refl
    go (Some r) e = by r (needs_are least f ix ss r e) (all_one r.alike) (all_within (formed_widths f ss r.sort))

pub application_is : (root : Option Sort) (h : Head) (ix : List LinearExpression) (xs : List Sorting) → application root h ix xs ≡ head_applied root h ix (places xs) (flat_map (λ x. x.needs) xs)
application_is root h ix xs = ap (λ t. unless case.NonLinear (is_named_product h ix (places xs)) t) (go (all_of (map (place_sort h) (places xs))) refl)
  where
    by : (ss : List Sort) → all_of (map (place_sort h) (places xs)) ≡ Some ss → (q : Option SortRule) → application_by root h xs q ≡ ruled root (family h) ss (flat_map (λ x. x.needs) xs) q
    by ss e None = refl
    by ss e (Some r) = rw e refl

    go : (o : Option (List Sort)) → all_of (map (place_sort h) (places xs)) ≡ o →
        application_by root h xs (option_and_then (sort_rule (λ k. None) (least_count (places xs)) (family h) ix) o)
        ≡ and_then (or_clash o) (λ ss. sorts_applied root (least_count (places xs)) (family h) ix (flat_map (λ x. x.needs) xs) ss)
    go None e = refl
    go (Some ss) e =
        by ss e (sort_rule (λ k. None) (least_count (places xs)) (family h) ix ss)
        ∙ ruled_is root (least_count (places xs)) (family h) ix (flat_map (λ x. x.needs) xs) ss

-- ---- a node

module _ (ps : List Param) (hole root : Option Sort) where
  node_is : (h : Head) (ix : List LinearExpression) (xs : List Sorting) → node_at ps hole root h ix xs ≡ node_by ps hole root h ix (places xs) (flat_map (λ x. x.needs) xs)
  node_is (head.Param k) ix xs = refl
  node_is head.Hole ix xs = refl
  node_is h ix xs = application_is root h ix xs

  -- a head that is neither a parameter nor the hole applies
  pub node_applies : (h : Head) → ((k : ℕ) → h ≡ head.Param k → ⊥) → (h ≡ head.Hole → ⊥) → (ix : List LinearExpression) (pl : List Place) (before : List LinearExpression) →
      node_by ps hole root h ix pl before ≡ head_applied root h ix pl before
  node_applies (head.Param k) p q ix pl before = absurd (p k refl)
  node_applies head.Hole p q ix pl before = absurd (q refl)
  node_applies h p q ix pl before = refl

-- ---- arguments

abbrev Asked : Type 0
Asked = List Place × List LinearExpression

joins : (x : Sorting) (pl : List Place) (ns : List LinearExpression) (t : Typing (List Sorting)) →
    and_then {B = Asked} t (λ xs. Ok ((pl ++ x.place ∷ []) ++ places xs, (ns ++ x.needs) ++ flat_map (λ x. x.needs) xs))
    ≡ and_then {B = Asked} (and_then t (λ ys. Ok (x ∷ ys))) (λ xs. Ok (pl ++ places xs, ns ++ flat_map (λ x. x.needs) xs))
joins x pl ns (Err k) = refl
joins x pl ns (Ok ys) = λ i. Ok (append_assoc pl (x.place ∷ []) (places ys) i, append_assoc ns x.needs (flat_map (λ x. x.needs) ys) i)

args_are : (pl : List Place) (ns : List LinearExpression) (ts : List (Typing Sorting)) →
    args_from pl ns ts ≡ and_then {B = Asked} (each_typed ts) (λ xs. Ok (pl ++ places xs, ns ++ flat_map (λ x. x.needs) xs))
args_are pl ns [] = ap Ok (λ i. (sym (append-nil pl) i, sym (append-nil ns) i))
args_are pl ns (Err k ∷ ts) = refl
args_are pl ns (Ok x ∷ ts) = args_are (pl ++ x.place ∷ []) (ns ++ x.needs) ts ∙ joins x pl ns (each_typed ts)

pub map_twice : {A B C : Type 0} (f : A → B) (g : B → C) (xs : List A) → map g (map f xs) ≡ map (λ x. g (f x)) xs
map_twice f g [] = refl
map_twice f g (x ∷ xs) = ap (λ ys. g (f x) ∷ ys) (map_twice f g xs)

module _ (ps : List Param) (hole : Option Sort) where
  -- the typing of a tree, by that of its arguments
  pub typed-out : (t : Tree) (root : Option Sort) →
      typed_tree ps hole t root ≡ and_then (each_typed (map (λ u. typed_tree ps hole u None) (args_of t))) (node_at ps hole root (head_of t) (indices_of t))
  typed-out t root =
      ap (λ f. f root) (fold_out-Tree (Option Sort → Typing Sorting) (node_step ps hole) t)
      ∙ ap (λ ts. and_then (each_typed ts) (node_at ps hole root (head_of t) (indices_of t))) (map_twice (typed_tree ps hole) (λ f. f None) (args_of t))

  by_places : (root : Option Sort) (h : Head) (ix : List LinearExpression) (t : Typing (List Sorting)) →
      and_then t (node_at ps hole root h ix) ≡ and_then {A = Asked} (and_then t (λ xs. Ok (places xs, flat_map (λ x. x.needs) xs))) (λ a. node_by ps hole root h ix a.0 a.1)
  by_places root h ix (Err k) = refl
  by_places root h ix (Ok xs) = node_is ps hole root h ix xs

  pub typed_by : (t : Tree) (root : Option Sort) →
      typed_tree ps hole t root ≡ and_then (args_from [] [] (map (λ u. typed_tree ps hole u None) (args_of t))) (λ a. node_by ps hole root (head_of t) (indices_of t) a.0 a.1)
  typed_by t root =
      typed-out t root
      ∙ by_places root (head_of t) (indices_of t) (each_typed (map (λ u. typed_tree ps hole u None) (args_of t)))
      ∙ ap (λ a. and_then a (λ a. node_by ps hole root (head_of t) (indices_of t) a.0 a.1)) (sym (args_are [] [] (map (λ u. typed_tree ps hole u None) (args_of t))))
