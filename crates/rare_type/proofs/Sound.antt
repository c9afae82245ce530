-- A rule that is typed types.
use Rattle.std.proofs.Common.{◌≡◌, Bool, true, false, not, ◌&&◌, ◌||◌, List, [], ◌∷◌, ◌++◌, map, flat_map, Option, Some, None, Ok, refl, sym, ap, ◌∙◌, subst}
use Rattle.std.specs.Option.{option_map, option_and_then}
use Rattle.std.proofs.lemmas.List.{append-nil}
use Rattle.rare_linear.specs.Linears.{LinearExpression}
use Rattle.rare_sort.specs.Each.{Each}
use Rattle.rare_sort.specs.Rulings.{all_one}
use Rattle.rare_sort.specs.SortRules.{SortRule}
use Rattle.rare_sort.specs.Sorting.{Place, One, Many, Wide, Sorting, Scope, all_of, place_rule, places, with_rule, sorted_here, sorting, IsOne}
use Rattle.rare_sort.specs.Trees.{node}
use Rattle.rare_sort.specs.declared.head.Head.{Head}
use Rattle.rare_sort.specs.declared.head.Head.TheVariants as head
use Rattle.rare_sort.specs.declared.sort.Sort.{Sort}
use Rattle.rare_sort.specs.declared.tree.Tree.{Tree}
use Rattle.rare_sort.proofs.SamenessLemmas.{sort_eq-Decides}
use Rattle.rare_sort.proofs.SortingLemmas.{sorting-node, Each-append}
use Rattle.rare_rule.specs.RuleSorting.{sorting_of, rule_scope, kind_sorting}
use Rattle.rare_rule.specs.Params.{kind_at}
use Rattle.rare_rule.specs.declared.param.Param.{Param}
use Rattle.rare_type.specs.FirstCase.{Typing, and_then, each_typed, asking, application_by, application, occurrence_at, occurrence, node_at, typed_tree}
use Rattle.rare_sort.specs.Sorting.{IsShaped}
use Rattle.rare_sort.specs.declared.sort.Sort.{Bool as BoolSort}
use Rattle.rare_linear.specs.declared.constraint.Constraint.{Constraint}
use Rattle.rare_linear.specs.Linears.{Part, parts_value}
use Rattle.rare_linear.specs.EntailmentTest.{is_within, has_no_minus, has_part, is_entailed}
use Rattle.rare_linear.proofs.EntailmentTestLemmas.{is_within-Decides}
use Rattle.rare_type.proofs.Following.{entailed_is}
use Rattle.std.proofs.lemmas.Int.{ints}
use Rattle.std.proofs.Common.{arith, ◌+ℤ◌, if◌then◌else◌}
use Rattle.std.specs.List.{list_any}
use Rattle.std.specs.Prelude.{ℤ, pos, int_le}
use Rattle.rare_sort.specs.SortRules.{no_names}
use Rattle.rare_rule.specs.Params.{rule_lows}
use Rattle.rare_rule.specs.RuleSorting.{TypesAs, FitsContext, IsTyped, premise_needs, context_needs, rule_needs, at_least_zero, constraints_after, all_have_names, Types}
use Rattle.rare_rule.specs.declared.rule.Rule.{Rule}
use Rattle.rare_sort.specs.Sameness.{linear_eq}
use Rattle.rare_type.specs.FirstCase.{floors, premises_typed, context_typed, rest_typed, sides_typed, typed_sort, rule_typing, never_holds}
use Rattle.rare_type.proofs.TreeCases.{both, neither, then_is, unless_is, not_false, AreFine, fine_append, Meets, meets, typed-node, scope, by_nodes, kind_alike, hole_alike}

pub one_each : (es : List (Sort × Sort)) → all_one es ≡ true → Each IsOne es
one_each [] h = tt
one_each (e ∷ es) h = let x = both _ _ h in ((sort_eq-Decides e.0 e.1).0 x.0, one_each es x.1)

-- what is asked for is there, and none of it never holds
asking_tells : (p : Place) (before own : List LinearExpression) (y : Sorting) → asking p before own ≡ Ok y → (sorting_of p (before ++ own) ≡ y) × AreFine own
asking_tells p before own y h =
    let a = unless_is _ _ _ y h in
    let b = unless_is _ _ _ y a.1 in
    (is (sorting_of p (before ++ own)) b.1, record { possible = b.0; within = not_false _ a.0 })
  where
    is : (x : Sorting) → ◌≡◌ {A = Typing Sorting} (Ok x) (Ok y) → x ≡ y
    is x e = cc

none_fine : AreFine []
none_fine = record { possible = refl; within = refl }

-- ---- an application

pub record Applied (root : Option Sort) (h : Head) (ix : List LinearExpression) (xs : List Sorting) (y : Sorting) : Type 0 where
  pub rule : SortRule
  pub found : place_rule (λ k. None) h ix (places xs) ≡ Some rule
  pub same : Each IsOne rule.alike
  pub is : sorting_of (One rule.sort) (flat_map (λ x. x.needs) xs ++ rule.needs) ≡ y
  pub fine : AreFine rule.needs
  pub meets : Meets root (One rule.sort)

pub application_tells : (root : Option Sort) (h : Head) (ix : List LinearExpression) (xs : List Sorting) (y : Sorting) → application root h ix xs ≡ Ok y → Applied root h ix xs y
application_tells root h ix xs y e = go (place_rule (λ k. None) h ix (places xs)) refl (unless_is _ _ _ y e).1
  where
    go : (o : Option SortRule) → place_rule (λ k. None) h ix (places xs) ≡ o → application_by root h xs o ≡ Ok y → Applied root h ix xs y
    go None is t = cc
    go (Some r) is t =
        let a = unless_is _ _ _ y t in
        let b = unless_is _ _ _ y a.1 in
        let c = unless_is _ _ _ y b.1 in
        let d = asking_tells (One r.sort) (flat_map (λ x. x.needs) xs) r.needs y c.1 in record {
          rule = r;
          found = is;
          same = one_each r.alike (not_false _ a.0);
          is = d.0;
          fine = d.1;
          meets = meets root r.sort c.0;
        }

-- ---- a tree

-- the tree has this sorting
pub record Sorted (c : Scope) (root : Option Sort) (t : Tree) (y : Sorting) : Type 0 where
  pub alike : List (Sort × Sort)
  pub found : sorting c t ≡ Some (record { place = y.place; alike = alike; needs = y.needs })
  pub same : Each IsOne alike
  pub fine : AreFine y.needs
  pub meets : Meets root y.place

pub record AreSorted (c : Scope) (ts : List Tree) (xs : List Sorting) : Type 0 where
  pub sortings : List Sorting
  pub found : all_of (map (sorting c) ts) ≡ Some sortings
  pub places : places sortings ≡ places xs
  pub needs : flat_map (λ x. x.needs) sortings ≡ flat_map (λ x. x.needs) xs
  pub same : Each IsOne (flat_map (λ x. x.alike) sortings)
  pub fine : AreFine (flat_map (λ x. x.needs) xs)

module _ (ps : List Param) (hole : Option Sort) where
  abbrev Is : Tree → Type 0
  Is t = (root : Option Sort) (y : Sorting) → typed_tree ps hole t root ≡ Ok y → Sorted (scope ps hole) root t y

  args_tell : (ts : List Tree) (xs : List Sorting) → Each Is ts → each_typed (map (λ u. typed_tree ps hole u None) ts) ≡ Ok xs → AreSorted (scope ps hole) ts xs
  args_tell [] [] c e = record { sortings = []; found = refl; places = refl; needs = refl; same = tt; fine = none_fine }
  args_tell [] (x ∷ xs) c e = cc
  args_tell (t ∷ ts) xs c e =
      let a = then_is (typed_tree ps hole t None) (λ y. and_then (each_typed (map (λ u. typed_tree ps hole u None) ts)) (λ ys. Ok (y ∷ ys))) xs e in
      let b = then_is (each_typed (map (λ u. typed_tree ps hole u None) ts)) (λ ys. Ok (a.0 ∷ ys)) xs a.2 in
      let is : a.0 ∷ b.0 ≡ xs = cc (b.2) in
      let first = c.0 None a.0 a.1 in
      let rest = args_tell ts b.0 c.1 b.1 in
      let this : Sorting = record { place = a.0.place; alike = first.alike; needs = a.0.needs } in
      subst (AreSorted (scope ps hole) (t ∷ ts)) is (record {
        sortings = this ∷ rest.sortings;
        found = rw first.found (ap (option_map (λ zs. this ∷ zs)) rest.found);
        places = ap (λ z. a.0.place ∷ z) rest.places;
        needs = ap (λ z. a.0.needs ++ z) rest.needs;
        same = Each-append IsOne first.alike (flat_map (λ x. x.alike) rest.sortings) first.same rest.same;
        fine = fine_append a.0.needs (flat_map (λ x. x.needs) b.0) first.fine rest.fine;
      })

  -- an occurrence, by what it stands for
  place_tells : (root : Option Sort) (p : Place) (own : List LinearExpression) (y : Sorting) → occurrence_at root p own ≡ Ok y →
      (sorting_of p own ≡ y) × AreFine own × Meets root p
  place_tells root (One s) own y e =
      let a = unless_is _ _ _ y e in
      let b = asking_tells (One s) [] own y a.1 in
      (b.0, b.1, meets root s a.0)
  place_tells None (Many s k) own y e = let b = asking_tells (Many s k) [] own y e in (b.0, b.1, tt)
  place_tells None (Wide k) own y e = let b = asking_tells (Wide k) [] own y e in (b.0, b.1, tt)
  place_tells (Some t) (Many s k) own y e = cc
  place_tells (Some t) (Wide k) own y e = cc

  occurs : (root : Option Sort) (t : Tree) (o : Option Sorting) (y : Sorting) → sorting (scope ps hole) t ≡ o → ((z : Sorting) → o ≡ Some z → z ≡ sorting_of z.place z.needs) →
      occurrence root o ≡ Ok y → Sorted (scope ps hole) root t y
  occurs root t None y found alike e = cc
  occurs root t (Some z) y found alike e =
      let p = place_tells root z.place z.needs y e in
      subst (Sorted (scope ps hole) root t) p.0 (record {
        alike = [];
        found = found ∙ ap Some (alike z refl);
        same = tt;
        fine = p.1;
        meets = p.2;
      })

  abbrev Applies : Head → Type 0
  Applies h = (ix : List LinearExpression) (zs : List Sorting) → sorted_here (scope ps hole) h ix zs ≡ option_map (with_rule (scope ps hole) zs) (place_rule (λ k. None) h ix (places zs))

  applies : (h : Head) → Applies h → (root : Option Sort) (ix : List LinearExpression) (ts : List Tree) (xs : List Sorting) (y : Sorting) → AreSorted (scope ps hole) ts xs →
      application root h ix xs ≡ Ok y → Sorted (scope ps hole) root (node h ix ts) y
  applies h apply root ix ts xs y args e =
      let a = application_tells root h ix xs y e in
      subst (Sorted (scope ps hole) root (node h ix ts)) a.is (record {
        alike = flat_map (λ x. x.alike) args.sortings ++ a.rule.alike;
        found =
            sorting-node (scope ps hole) h ix ts
            ∙ ap (option_and_then (sorted_here (scope ps hole) h ix)) args.found
            ∙ apply ix args.sortings
            ∙ ap (λ q. option_map (with_rule (scope ps hole) args.sortings) (place_rule (λ k. None) h ix q)) args.places
            ∙ ap (option_map (with_rule (scope ps hole) args.sortings)) a.found
            ∙ (λ i. Some (record {
              place = One a.rule.sort;
              alike = flat_map (λ x. x.alike) args.sortings ++ a.rule.alike;
              needs = args.needs i ++ append-nil a.rule.needs i;
            }));
        same = Each-append IsOne (flat_map (λ x. x.alike) args.sortings) a.rule.alike args.same a.same;
        fine = fine_append (flat_map (λ x. x.needs) xs) a.rule.needs args.fine a.fine;
        meets = a.meets;
      })

  here : (h : Head) (root : Option Sort) (ix : List LinearExpression) (ts : List Tree) (xs : List Sorting) (y : Sorting) → AreSorted (scope ps hole) ts xs →
      node_at ps hole root h ix xs ≡ Ok y → Sorted (scope ps hole) root (node h ix ts) y
  here (head.Param k) root ix ts xs y args e =
      occurs root (node (head.Param k) ix ts) (option_and_then (kind_sorting k) (kind_at ps k)) y
      (sorting-node (scope ps hole) (head.Param k) ix ts ∙ ap (option_and_then (sorted_here (scope ps hole) (head.Param k) ix)) args.found)
      (λ z. kind_alike k (kind_at ps k) z) e
  here head.Hole root ix ts xs y args e =
      occurs root (node head.Hole ix ts) (option_map (λ s. sorting_of (One s) []) hole) y
      (sorting-node (scope ps hole) head.Hole ix ts ∙ ap (option_and_then (sorted_here (scope ps hole) head.Hole ix)) args.found)
      (λ z. hole_alike hole z) e
  here h root ix ts xs y args e = applies h (λ ix zs. refl) root ix ts xs y args e

  at_node : (h : Head) (ix : List LinearExpression) (ts : List Tree) → Each Is ts → Is (node h ix ts)
  at_node h ix ts c root y e =
      let a = then_is _ (node_at ps hole root h ix) y (sym (typed-node ps hole h ix ts root) ∙ e) in
      here h root ix ts a.0 y (args_tell ts a.0 c a.1) a.2

  pub tree_tells : (t : Tree) → Is t
  tree_tells = by_nodes Is at_node

-- ---- the parts of a rule

every : {X : Type 0} (xs : List X) → Each (λ x. Unit {0}) xs
every [] = tt
every (x ∷ xs) = (tt, every xs)

-- a tree of this sort, that asks for this
record HasShape (c : Scope) (t : Tree) (s : Sort) (ns : List LinearExpression) : Type 0 where
  shape : IsShaped c t s
  needs : shape.needs ≡ ns
  fine : AreFine ns

shaped : (c : Scope) (root : Option Sort) (t : Tree) (y : Sorting) (s : Sort) → Sorted c root t y → y.place ≡ One s → HasShape c t s y.needs
shaped c root t y s h e = record {
  shape = record {
    alike = h.alike;
    needs = y.needs;
    found = h.found ∙ (λ i. Some (record { place = e i; alike = h.alike; needs = y.needs }));
    same = h.same;
    met = every y.needs;
  };
  needs = refl;
  fine = h.fine;
}

module _ (r : Rule) where
  record HavePremises (ts : List Tree) (ns : List LinearExpression) : Type 0 where
    shapes : Each (λ p. TypesAs r p BoolSort) ts
    needs : premise_needs r ts shapes ≡ ns
    fine : AreFine ns

  premises_tell : (ts : List Tree) (ns : List LinearExpression) → premises_typed r.params ts ≡ Ok ns → HavePremises ts ns
  premises_tell [] ns e = let is : [] ≡ ns = cc in subst (HavePremises []) is (record { shapes = tt; needs = refl; fine = none_fine })
  premises_tell (t ∷ ts) ns e =
      let a = then_is (typed_tree r.params None t (Some BoolSort)) (λ x. and_then (premises_typed r.params ts) (λ ns. Ok (x.needs ++ ns))) ns e in
      let b = then_is (premises_typed r.params ts) (λ ns. Ok (a.0.needs ++ ns)) ns a.2 in
      let is : a.0.needs ++ b.0 ≡ ns = cc (b.2) in
      let s = tree_tells r.params None t (Some BoolSort) a.0 a.1 in
      let first = shaped (rule_scope r.params None) (Some BoolSort) t a.0 BoolSort s s.meets in
      let rest = premises_tell ts b.0 b.1 in
      subst (HavePremises (t ∷ ts)) is (record {
        shapes = (first.shape, rest.shapes);
        needs = (λ i. first.needs i ++ rest.needs i);
        fine = fine_append a.0.needs b.0 first.fine rest.fine;
      })

  record HasContext (c : Option Tree) (s : Sort) (ns : List LinearExpression) : Type 0 where
    fits : FitsContext r c s
    needs : context_needs r c s fits ≡ ns
    fine : AreFine ns

  context_tells : (c : Option Tree) (s : Sort) (ns : List LinearExpression) → context_typed r.params s c ≡ Ok ns → HasContext c s ns
  context_tells None s ns e = let is : [] ≡ ns = cc in subst (HasContext None s) is (record { fits = tt; needs = refl; fine = none_fine })
  context_tells (Some t) s ns e =
      let a = then_is (typed_tree r.params (Some s) t (Some s)) (λ x. Ok x.needs) ns e in
      let is : a.0.needs ≡ ns = cc (a.2) in
      let z = tree_tells r.params (Some s) t (Some s) a.0 a.1 in
      let h = shaped (rule_scope r.params (Some (sorting_of (One s) []))) (Some s) t a.0 s z z.meets in
      subst (HasContext (Some t) s) is (record { fits = h.shape; needs = h.needs; fine = h.fine })

  record HaveSides (ns : List LinearExpression) : Type 0 where
    typed : IsTyped r
    needs : rule_needs r typed ≡ ns
    fine : AreFine (floors r.bounds) → AreFine ns

  sort_of : (p : Place) (s : Sort) → typed_sort p ≡ Ok s → p ≡ One s
  sort_of (One t) s e = let is : t ≡ s = cc in ap One is
  sort_of (Many t k) s e = cc
  sort_of (Wide k) s e = cc

  sides_tell : (ns : List LinearExpression) → sides_typed r ≡ Ok ns → HaveSides ns
  sides_tell ns e =
      let l = then_is (typed_tree r.params None r.left None) _ ns e in
      let s = then_is (typed_sort l.0.place) _ ns l.2 in
      let rest = then_is (rest_typed r s.0) _ ns s.2 in
      let whole : floors r.bounds ++ (l.0.needs ++ rest.0) ≡ ns = cc (rest.2) in
      let p = then_is (premises_typed r.params r.premises) _ rest.0 rest.1 in
      let x = then_is (typed_tree r.params None r.right (Some s.0)) _ rest.0 p.2 in
      let c = then_is (context_typed r.params s.0 r.context) _ rest.0 x.2 in
      let behind : p.0 ++ (x.0.needs ++ c.0) ≡ rest.0 = cc (c.2) in
      let left = shaped (rule_scope r.params None) None r.left l.0 s.0 (tree_tells r.params None r.left None l.0 l.1) (sort_of l.0.place s.0 s.1) in
      let y = tree_tells r.params None r.right (Some s.0) x.0 x.1 in
      let right = shaped (rule_scope r.params None) (Some s.0) r.right x.0 s.0 y y.meets in
      let premises = premises_tell r.premises p.0 p.1 in
      let context = context_tells r.context s.0 c.0 c.1 in
      let end : AreFine rest.0 = subst AreFine behind (fine_append p.0 (x.0.needs ++ c.0) premises.fine (fine_append x.0.needs c.0 right.fine context.fine)) in
      subst HaveSides whole (record {
        typed = record { sort = s.0; left = left.shape; right = right.shape; context = context.fits; premises = premises.shapes };
        needs = (λ i. floors r.bounds ++ (left.needs i ++ ((λ j. premises.needs j ++ (right.needs j ++ context.needs j)) ∙ behind) i));
        fine = λ h. fine_append (floors r.bounds) (l.0.needs ++ rest.0) h (fine_append l.0.needs rest.0 left.fine end);
      })

-- ---- constraints

module _ (params : List Param) where
  -- a number that is fine follows by itself
  follows : (e : LinearExpression) → is_within e ≡ true → never_holds e ≡ false → e.parts ≡ [] → is_entailed (rule_lows params) [] e ≡ true
  follows e within fine none =
      entailed_is params e ((is_within-Decides e).0 within)
      ∙ ap (λ ps. has_no_minus ps && int_le (pos 0) (e.constant +ℤ parts_value (rule_lows params) ps)) none
      ∙ ap (int_le (pos 0)) (zero_more e.constant)
      ∙ not_false (int_le (pos 0) e.constant) (ap (λ ps. no_names ps && not (int_le (pos 0) e.constant)) (sym none) ∙ fine)
    where
      zero_more : (z : ℤ) → z +ℤ pos 0 ≡ z
      zero_more z = omega (arith, ints)

  all_named : (before es : List LinearExpression) → AreFine es → all_have_names (constraints_after (rule_lows params) before es) ≡ true
  all_named before [] h = refl
  all_named before (e ∷ es) h =
      let w = both _ _ h.within in
      let p = neither _ _ h.possible in
      let rest : AreFine es = record { possible = p.1; within = w.1 } in
      go (is_entailed (rule_lows params) [] e) (list_any (linear_eq e) before) (e.parts) (follows e w.0 p.0) (all_named before es rest) (all_named (e ∷ before) es rest) refl refl
    where
      go : (a b : Bool) (ps : List Part) → (e.parts ≡ [] → is_entailed (rule_lows params) [] e ≡ true) →
          all_have_names (constraints_after (rule_lows params) before es) ≡ true → all_have_names (constraints_after (rule_lows params) (e ∷ before) es) ≡ true →
          is_entailed (rule_lows params) [] e ≡ a → e.parts ≡ ps →
          all_have_names (if a || b then (constraints_after (rule_lows params) before es) else (at_least_zero e ∷ constraints_after (rule_lows params) (e ∷ before) es)) ≡ true
      go true b ps f old new is parts = old
      go false true ps f old new is parts = old
      go false false [] f old new is parts = let t : false ≡ true = sym is ∙ f parts in cc
      go false false (p ∷ ps) f old new is parts = ap (λ qs. has_part qs && all_have_names (constraints_after (rule_lows params) (e ∷ before) es)) parts ∙ new

pub sound : (r : Rule) (cs : List Constraint) → rule_typing r ≡ Ok cs → Types r cs
sound r cs e =
    let w = unless_is _ _ _ cs e in
    let n = unless_is _ _ _ cs w.1 in
    let q = then_is (sides_typed r) (λ ns. Ok (constraints_after (rule_lows r.params) [] ns)) cs n.1 in
    let is : constraints_after (rule_lows r.params) [] q.0 ≡ cs = cc (q.2) in
    let s = sides_tell r q.0 q.1 in record {
      typed = s.typed;
      same = sym is ∙ ap (constraints_after (rule_lows r.params) []) (sym s.needs);
      possible = ap all_have_names (sym is) ∙ all_named r.params [] q.0 (s.fine (record { possible = n.0; within = not_false _ w.0 }));
    }
