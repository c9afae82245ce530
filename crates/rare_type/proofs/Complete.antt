-- A rule in form that types is typed, but for what leaves i128.
use Rattle.std.proofs.Common.{◌≡◌, ℕ, Bool, true, false, not, ◌&&◌, ◌||◌, ◌⊎◌, inl, inr, List, [], ◌∷◌, ◌++◌, map, flat_map, length, Option, Some, None, Ok, Err, arith, refl, sym, ap, ◌∙◌, subst, nat_eq, if◌then◌else◌}
use Rattle.std.specs.Prelude.{ℤ, pos, int_le, ◌+ℤ◌}
use Rattle.std.specs.List.{list_any}
use Rattle.std.specs.Option.{option_map, option_and_then}
use Rattle.std.proofs.lemmas.List.{append-nil}
use Rattle.std.proofs.lemmas.Bool.{eqb-true}
use Rattle.std.proofs.lemmas.Int.{ints}
use Rattle.rare_linear.specs.Linears.{Part, LinearExpression, parts_value}
use Rattle.rare_linear.specs.EntailmentTest.{has_part, has_no_minus, is_entailed}
use Rattle.rare_linear.specs.declared.constraint.Constraint.{Constraint}
use Rattle.rare_linear.proofs.EntailmentTestLemmas.{is_entailed-Decides}
use Rattle.rare_sort.specs.Each.{Each}
use Rattle.rare_sort.specs.Rulings.{all_one}
use Rattle.rare_sort.specs.Sameness.{linear_eq}
use Rattle.rare_sort.specs.SortRules.{SortRule, is_number, no_names, product, width}
use Rattle.rare_sort.specs.Sorting.{Place, One, Many, Wide, Sorting, all_of, place_rule, places, with_rule, sorted_here, sorting, IsOne, IsShaped}
use Rattle.rare_sort.specs.Trees.{node}
use Rattle.rare_sort.specs.declared.head.Head.{Head}
use Rattle.rare_sort.specs.declared.head.Head.TheVariants as head
use Rattle.rare_sort.specs.declared.sort.Sort.{Sort, Bool as BoolSort}
use Rattle.rare_sort.specs.declared.tree.Tree.{Tree}
use Rattle.rare_sort.proofs.Options.{map_some, then_some}
use Rattle.rare_sort.proofs.SamenessLemmas.{sort_eq-Decides, linear_eq-Decides}
use Rattle.rare_sort.proofs.SortingLemmas.{sorting-node, Each-front, Each-back}
use Rattle.rare_rule.specs.Nodes.{Node, walk, nodes_in}
use Rattle.rare_rule.specs.NodeForms.{all_nodes, is_operator_of_rules, has_its_arguments, is_node_form}
use Rattle.rare_rule.specs.Params.{kind_at, rule_lows}
use Rattle.rare_rule.specs.Rules.{IsInForm, context_parts, side_nodes, context_nodes}
use Rattle.rare_rule.specs.RuleSorting.{sorting_of, kind_sorting, TypesAs, FitsContext, IsTyped, premise_needs, context_needs, rule_needs, at_least_zero, constraints_after, all_have_names, Types}
use Rattle.rare_rule.specs.declared.param.Param.{Param}
use Rattle.rare_rule.specs.declared.rule.Rule.{Rule}
use Rattle.rare_rule.proofs.Walks.{walk-node}
use Rattle.rare_type.specs.FirstCase.{Typing, and_then, unless, each_typed, never_holds, some_never_holds, differs_from, asking, have_names, is_named_product, application_by, application, occurrence_at, occurrence, node_at, typed_tree, floors, premises_typed, context_typed, rest_typed, sides_typed, rule_typing}
use Rattle.rare_type.specs.declared.error.TypeError.TheVariants as case
use Rattle.rare_type.proofs.Following.{entailed_is}
use Rattle.rare_type.proofs.TreeCases.{both, neither, never_append, Meets, typed-node, scope, by_nodes}

-- ---- what is reached, but for what leaves i128

abbrev pub Reached : {A : Type 0} → Typing A → A → Type 0
Reached t x = (t ≡ Ok x) ⊎ (t ≡ Err case.TooLarge)

goes_on : {A B : Type 0} (t : Typing A) (f : A → Typing B) (x : A) (y : B) → Reached t x → Reached (f x) y → Reached (and_then t f) y
goes_on t f x y (inl e) (inl g) = inl (ap (λ z. and_then z f) e ∙ g)
goes_on t f x y (inl e) (inr g) = inr (ap (λ z. and_then z f) e ∙ g)
goes_on t f x y (inr e) r = inr (ap (λ z. and_then z f) e)

-- behind a test that isn't met
past : {A : Type 0} (c : _) (b : Bool) (t : Typing A) (x : A) → b ≡ false → Reached t x → Reached (unless c b t) x
past c true t x h r = cc
past c false t x h r = r

-- behind the test of i128
past_limit : {A : Type 0} (b : Bool) (t : Typing A) (x : A) → Reached t x → Reached (unless case.TooLarge b t) x
past_limit true t x r = inr refl
past_limit false t x r = r

asking_reached : (p : Place) (before own : List LinearExpression) → some_never_holds own ≡ false → Reached (asking p before own) (sorting_of p (before ++ own))
asking_reached p before own h = past_limit _ _ _ (past case.NeverHolds _ _ _ h (inl refl))

all_are_one : (es : List (Sort × Sort)) → Each IsOne es → all_one es ≡ true
all_are_one [] h = refl
all_are_one (e ∷ es) h = rw ((sort_eq-Decides e.0 e.1).1 h.0, all_are_one es h.1) refl

same_root : (root : Option Sort) (s : Sort) → Meets root (One s) → differs_from root s ≡ false
same_root None s h = refl
same_root (Some t) s h = let is : s ≡ t = cc (h) in ap not ((sort_eq-Decides s t).1 is)

-- ---- an application

no_names_either : (a b : Bool) (x y w : LinearExpression) → (if a then (Some x) else (if b then (Some y) else None)) ≡ Some w → not (a || b) ≡ false
no_names_either true b x y w t = refl
no_names_either false true x y w t = refl
no_names_either false false x y w t = cc

no_product : (h : Head) (ix : List LinearExpression) (ps : List Place) (r : SortRule) → place_rule (λ k. None) h ix ps ≡ Some r → is_named_product h ix ps ≡ false
no_product head.Repeat (k ∷ []) (One s ∷ []) r e =
    let p = map_some _ (option_and_then (λ m. product k m) (width s)) r e in
    let q = then_some (λ m. product k m) (width s) p.0 p.1 in
    ap (have_names k) q.1 ∙ no_names_either (is_number k) (is_number q.0) _ _ _ q.2
no_product h ix ps r e = refl

application_reached : (root : Option Sort) (h : Head) (ix : List LinearExpression) (xs : List Sorting) (r : SortRule) → place_rule (λ k. None) h ix (places xs) ≡ Some r → Each IsOne r.alike →
    some_never_holds r.needs ≡ false → Meets root (One r.sort) → Reached (application root h ix xs) (sorting_of (One r.sort) (flat_map (λ x. x.needs) xs ++ r.needs))
application_reached root h ix xs r is same possible meets =
    past case.NonLinear _ _ _ (no_product h ix (places xs) r is) (
    subst (λ o. Reached (application_by root h xs o) (sorting_of (One r.sort) (flat_map (λ x. x.needs) xs ++ r.needs))) (sym is) (
    past case.Clash _ _ _ (ap not (all_are_one r.alike same)) (
    past_limit _ _ _ (
    past case.Clash _ _ _ (same_root root r.sort meets) (
    asking_reached (One r.sort) (flat_map (λ x. x.needs) xs) r.needs possible)))))

place_reached : (root : Option Sort) (p : Place) (own : List LinearExpression) → some_never_holds own ≡ false → Meets root p → Reached (occurrence_at root p own) (sorting_of p own)
place_reached root (One s) own h m = past case.Clash _ _ _ (same_root root s m) (asking_reached (One s) [] own h)
place_reached None (Many s k) own h m = asking_reached (Many s k) [] own h
place_reached None (Wide k) own h m = asking_reached (Wide k) [] own h
place_reached (Some t) (Many s k) own h m = cc
place_reached (Some t) (Wide k) own h m = cc

-- ---- nodes in form

and_both : (b c : Bool) → b ≡ true → c ≡ true → (b && c) ≡ true
and_both b c p q = rw (p, q) refl

all_append : (test : Node → Bool) (xs ys : List Node) → all_nodes test (xs ++ ys) ≡ true → (all_nodes test xs ≡ true) × (all_nodes test ys ≡ true)
all_append test [] ys h = (refl, h)
all_append test (x ∷ xs) ys h =
    let a = both _ _ h in
    let b = all_append test xs ys a.1 in
    (and_both (test x) (all_nodes test xs) a.0 b.0, b.1)

abbrev bare : Sorting → Sorting
bare z = sorting_of z.place z.needs

same_places : (zs : List Sorting) → places (map bare zs) ≡ places zs
same_places [] = refl
same_places (z ∷ zs) = ap (λ ps. z.place ∷ ps) (same_places zs)

same_needs : (zs : List Sorting) → flat_map (λ x. x.needs) (map bare zs) ≡ flat_map (λ x. x.needs) zs
same_needs [] = refl
same_needs (z ∷ zs) = ap (λ ns. z.needs ++ ns) (same_needs zs)

module _ (ps : List Param) (hole : Option Sort) where
  abbrev pub AreFormed : List Node → Type 0
  AreFormed ns = all_nodes (is_node_form ps) ns ≡ true

  -- what the sorting of a tree says is reached
  pub record IsFound (root : Option Sort) (t : Tree) (z : Sorting) : Type 0 where
    pub parent : Option Head
    pub formed : AreFormed ((walk t).nodes parent)
    pub found : sorting (scope ps hole) t ≡ Some z
    pub same : Each IsOne z.alike
    pub possible : some_never_holds z.needs ≡ false
    pub meets : Meets root z.place

  abbrev pub Reaches : Tree → Type 0
  Reaches t = (root : Option Sort) (z : Sorting) → IsFound root t z → Reached (typed_tree ps hole t root) (sorting_of z.place z.needs)

  record AreFound (parent : Option Head) (ts : List Tree) (zs : List Sorting) : Type 0 where
    formed : AreFormed (flat_map (λ w. w.nodes parent) (map walk ts))
    found : all_of (map (sorting (scope ps hole)) ts) ≡ Some zs
    same : Each IsOne (flat_map (λ x. x.alike) zs)
    possible : some_never_holds (flat_map (λ x. x.needs) zs) ≡ false

  args_reached : (parent : Option Head) (ts : List Tree) (zs : List Sorting) → Each Reaches ts → AreFound parent ts zs →
      Reached (each_typed (map (λ u. typed_tree ps hole u None) ts)) (map bare zs)
  args_reached parent [] [] c h = inl refl
  args_reached parent [] (z ∷ zs) c h = let bad = h.found in cc
  args_reached parent (t ∷ ts) zs c h = go (sorting (scope ps hole) t) refl h.found (λ ys. args_reached parent ts ys c.1)
    where
      step : (z : Sorting) (ys : List Sorting) → sorting (scope ps hole) t ≡ Some z → all_of (map (sorting (scope ps hole)) ts) ≡ Some ys → z ∷ ys ≡ zs →
          ((ys : List Sorting) → AreFound parent ts ys → Reached (each_typed (map (λ u. typed_tree ps hole u None) ts)) (map bare ys)) →
          Reached (each_typed (map (λ u. typed_tree ps hole u None) (t ∷ ts))) (map bare zs)
      step z ys here there is rest =
          let formed = all_append (is_node_form ps) ((walk t).nodes parent) (flat_map (λ w. w.nodes parent) (map walk ts)) h.formed in
          let same : Each IsOne (z.alike ++ flat_map (λ x. x.alike) ys) = subst (λ l. Each IsOne (flat_map (λ (x : Sorting). x.alike) l)) (sym is) h.same in
          let all : some_never_holds (z.needs ++ flat_map (λ x. x.needs) ys) ≡ false = ap (λ l. some_never_holds (flat_map (λ (x : Sorting). x.needs) l)) is ∙ h.possible in
          let possible = neither _ _ (sym (never_append z.needs (flat_map (λ x. x.needs) ys)) ∙ all) in
          let first = c.0 None z (record { parent = parent; formed = formed.0; found = here; same = Each-front IsOne z.alike (flat_map (λ x. x.alike) ys) same; possible = possible.0; meets = tt }) in
          let others = rest ys (record { formed = formed.1; found = there; same = Each-back IsOne z.alike (flat_map (λ x. x.alike) ys) same; possible = possible.1 }) in
          subst (λ l. Reached (each_typed (map (λ u. typed_tree ps hole u None) (t ∷ ts))) (map bare l)) is
          (goes_on (typed_tree ps hole t None) (λ x. and_then (each_typed (map (λ u. typed_tree ps hole u None) ts)) (λ xs. Ok (x ∷ xs))) (sorting_of z.place z.needs) (map bare (z ∷ ys)) first
          (goes_on (each_typed (map (λ u. typed_tree ps hole u None) ts)) (λ xs. Ok (sorting_of z.place z.needs ∷ xs)) (map bare ys) (map bare (z ∷ ys)) others (inl refl)))

      go : (o : Option Sorting) → sorting (scope ps hole) t ≡ o → all_of (o ∷ map (sorting (scope ps hole)) ts) ≡ Some zs →
          ((ys : List Sorting) → AreFound parent ts ys → Reached (each_typed (map (λ u. typed_tree ps hole u None) ts)) (map bare ys)) →
          Reached (each_typed (map (λ u. typed_tree ps hole u None) (t ∷ ts))) (map bare zs)
      go None here e rest = cc
      go (Some z) here e rest = let q = map_some (λ ys. z ∷ ys) (all_of (map (sorting (scope ps hole)) ts)) zs e in step z q.0 here q.1 q.2 rest

  own_form : (h : Head) (ix : List LinearExpression) (ts : List Tree) (parent : Option Head) → AreFormed ((walk (node h ix ts)).nodes parent) →
      AreFormed (flat_map (λ w. w.nodes (Some h)) (map walk ts)) × (has_its_arguments h (map (λ w. w.root) (map walk ts)) ≡ true)
  own_form h ix ts parent f =
      let g : AreFormed (flat_map (λ w. w.nodes (Some h)) (map walk ts) ++ (record { head = h; indices = ix; parent = parent; args = map (λ w. w.root) (map walk ts) } ∷ []))
      = subst (λ w. AreFormed (w.nodes parent)) (walk-node h ix ts) f in
      let a = all_append (is_node_form ps) (flat_map (λ w. w.nodes (Some h)) (map walk ts)) _ g in
      let b = both _ _ a.1 in
      (a.0, (both (is_operator_of_rules ps h) _ b.0).1)

  no_args : (ts : List Tree) → nat_eq (length (map (λ w. w.root) (map walk ts))) 0 ≡ true → ts ≡ []
  no_args [] h = refl
  no_args (t ∷ ts) h = absurd (omega (arith, eqb-true _ _ h))

  -- a parameter or the hole, which has no arguments
  alone : (h : Head) (ix : List LinearExpression) (ts : List Tree) (root : Option Sort) (z : Sorting) (o : Option Sorting) → ts ≡ [] → sorted_here (scope ps hole) h ix [] ≡ o →
      node_at ps hole root h ix [] ≡ occurrence root o → IsFound root (node h ix ts) z → Reached (typed_tree ps hole (node h ix ts) root) (sorting_of z.place z.needs)
  alone h ix ts root z o none here occurs f =
      let is : o ≡ Some z = sym here ∙ sym (ap (λ us. option_and_then (sorted_here (scope ps hole) h ix) (all_of (map (sorting (scope ps hole)) us))) none) ∙ sym (sorting-node (scope ps hole) h ix ts) ∙ f.found in
      let typed : typed_tree ps hole (node h ix ts) root ≡ occurrence_at root z.place z.needs
      = typed-node ps hole h ix ts root ∙ ap (λ us. and_then (each_typed (map (λ u. typed_tree ps hole u None) us)) (node_at ps hole root h ix)) none ∙ occurs ∙ ap (occurrence root) is in
      subst (λ t. Reached t (sorting_of z.place z.needs)) (sym typed) (place_reached root z.place z.needs f.possible f.meets)

  abbrev Applies : Head → Type 0
  Applies h =
      (ix : List LinearExpression) → ((zs : List Sorting) → sorted_here (scope ps hole) h ix zs ≡ option_map (with_rule (scope ps hole) zs) (place_rule (λ k. None) h ix (places zs)))
      × ((root : Option Sort) (xs : List Sorting) → node_at ps hole root h ix xs ≡ application root h ix xs)

  applies : (h : Head) → Applies h → (ix : List LinearExpression) (ts : List Tree) → Each Reaches ts → Reaches (node h ix ts)
  applies h apply ix ts c root z f =
      let q = then_some (sorted_here (scope ps hole) h ix) (all_of (map (sorting (scope ps hole)) ts)) z (sym (sorting-node (scope ps hole) h ix ts) ∙ f.found) in
      let zs = q.0 in
      let w = map_some (with_rule (scope ps hole) zs) (place_rule (λ k. None) h ix (places zs)) z (sym ((apply ix).0 zs) ∙ q.2) in
      let r = w.0 in
      let same : Each IsOne (flat_map (λ (x : Sorting). x.alike) zs ++ r.alike) = subst (λ (y : Sorting). Each IsOne y.alike) (sym w.2) f.same in
      let needs : flat_map (λ (x : Sorting). x.needs) zs ++ (r.needs ++ []) ≡ z.needs = ap (λ (y : Sorting). y.needs) w.2 in
      let possible = neither _ _ (sym (never_append (flat_map (λ x. x.needs) zs) (r.needs ++ [])) ∙ ap some_never_holds needs ∙ f.possible) in
      let place : One r.sort ≡ z.place = ap (λ (y : Sorting). y.place) w.2 in
      let xs = map bare zs in
      let args = args_reached (Some h) ts zs c (record {
        formed = (own_form h ix ts f.parent f.formed).0;
        found = q.1;
        same = Each-front IsOne (flat_map (λ x. x.alike) zs) r.alike same;
        possible = possible.0;
      }) in
      let this = application_reached root h ix xs r (ap (place_rule (λ k. None) h ix) (same_places zs) ∙ w.1) (Each-back IsOne (flat_map (λ x. x.alike) zs) r.alike same)
      (ap some_never_holds (sym (append-nil r.needs)) ∙ possible.1) (subst (Meets root) (sym place) f.meets) in
      let whole : sorting_of (One r.sort) (flat_map (λ x. x.needs) xs ++ r.needs) ≡ sorting_of z.place z.needs
      = (λ i. sorting_of (place i) ((ap (λ ns. ns ++ r.needs) (same_needs zs) ∙ ap (λ ns. flat_map (λ (x : Sorting). x.needs) zs ++ ns) (sym (append-nil r.needs)) ∙ needs) i)) in
      subst (λ t. Reached t (sorting_of z.place z.needs)) (sym (typed-node ps hole h ix ts root)) (
      goes_on (each_typed (map (λ u. typed_tree ps hole u None) ts)) (node_at ps hole root h ix) xs (sorting_of z.place z.needs) args (
      subst (λ t. Reached t (sorting_of z.place z.needs)) (sym ((apply ix).1 root xs)) (
      subst (Reached (application root h ix xs)) whole this)))

  at_node : (h : Head) (ix : List LinearExpression) (ts : List Tree) → Each Reaches ts → Reaches (node h ix ts)
  at_node (head.Param k) ix ts c root z f =
      alone (head.Param k) ix ts root z (option_and_then (kind_sorting k) (kind_at ps k)) (no_args ts (own_form (head.Param k) ix ts f.parent f.formed).1) refl refl f
  at_node head.Hole ix ts c root z f =
      alone head.Hole ix ts root z (option_map (λ s. sorting_of (One s) []) hole) (no_args ts (own_form head.Hole ix ts f.parent f.formed).1) refl refl f
  at_node h ix ts c root z f = applies h (λ ix. (λ zs. refl, λ root xs. refl)) ix ts c root z f

  pub tree_reached : (t : Tree) → Reaches t
  tree_reached = by_nodes Reaches at_node

-- ---- what never holds is no constraint of a rule that types

module _ (params : List Param) where
  abbrev lows : ℕ → ℤ
  lows = rule_lows params

  has_names : (e : LinearExpression) → has_part e.parts ≡ true → never_holds e ≡ false
  has_names e h = go e.parts h
    where
      go : (ps : List Part) → has_part ps ≡ true → (no_names ps && not (int_le (pos 0) e.constant)) ≡ false
      go [] t = cc
      go (p ∷ ps) t = refl

  follows : (e : LinearExpression) → is_entailed lows [] e ≡ true → never_holds e ≡ false
  follows e h =
      let within = ((is_entailed-Decides lows [] e).0 h).within in
      go e.parts (sym (entailed_is params e within) ∙ h)
    where
      zero_more : (z : ℤ) → z +ℤ pos 0 ≡ z
      zero_more z = omega (arith, ints)

      go : (ps : List Part) → (has_no_minus ps && int_le (pos 0) (e.constant +ℤ parts_value lows ps)) ≡ true → (no_names ps && not (int_le (pos 0) e.constant)) ≡ false
      go [] t = ap not (sym (ap (int_le (pos 0)) (zero_more e.constant)) ∙ t)
      go (p ∷ ps) t = refl

  abbrev AllNamed : List LinearExpression → Type 0
  AllNamed es = Each (λ e. has_part e.parts ≡ true) es

  stood : (e : LinearExpression) (before : List LinearExpression) → AllNamed before → list_any (linear_eq e) before ≡ true → has_part e.parts ≡ true
  stood e [] n h = cc
  stood e (x ∷ xs) n h = go (linear_eq e x) refl h (stood e xs n.1)
    where
      go : (b : Bool) → linear_eq e x ≡ b → (b || list_any (linear_eq e) xs) ≡ true → (list_any (linear_eq e) xs ≡ true → has_part e.parts ≡ true) → has_part e.parts ≡ true
      go true is t f = ap (λ (y : LinearExpression). has_part y.parts) ((linear_eq-Decides e x).0 is) ∙ n.0
      go false is t f = f t

  none_never : (before es : List LinearExpression) → AllNamed before → all_have_names (constraints_after lows before es) ≡ true → some_never_holds es ≡ false
  none_never before [] n h = refl
  none_never before (e ∷ es) n h =
      go (is_entailed lows [] e) (list_any (linear_eq e) before) refl refl h (λ k. none_never before es n k) (λ m k. none_never (e ∷ before) es (m, n) k)
    where
      go : (a b : Bool) → is_entailed lows [] e ≡ a → list_any (linear_eq e) before ≡ b →
          all_have_names (if a || b then (constraints_after lows before es) else (at_least_zero e ∷ constraints_after lows (e ∷ before) es)) ≡ true →
          (all_have_names (constraints_after lows before es) ≡ true → some_never_holds es ≡ false) →
          (has_part e.parts ≡ true → all_have_names (constraints_after lows (e ∷ before) es) ≡ true → some_never_holds es ≡ false) →
          (never_holds e || some_never_holds es) ≡ false
      go true b is was t old new = ap (λ x. x || some_never_holds es) (follows e is) ∙ old t
      go false true is was t old new = ap (λ x. x || some_never_holds es) (has_names e (stood e before n was)) ∙ old t
      go false false is was t old new = let p = both _ _ t in ap (λ x. x || some_never_holds es) (has_names e p.0) ∙ new p.0 p.1

-- ---- rules

reached_at : (ps : List Param) (hole root : Option Sort) (t : Tree) (s : Sort) → all_nodes (is_node_form ps) ((walk t).nodes None) ≡ true → (h : IsShaped (scope ps hole) t s) →
    some_never_holds h.needs ≡ false → Meets root (One s) → Reached (typed_tree ps hole t root) (sorting_of (One s) h.needs)
reached_at ps hole root t s form h possible meets =
    tree_reached ps hole t root (record { place = One s; alike = h.alike; needs = h.needs })
    (record { parent = None; formed = form; found = h.found; same = h.same; possible = possible; meets = meets })

module _ (r : Rule) where
  abbrev AreInForm : List Node → Type 0
  AreInForm ns = all_nodes (is_node_form r.params) ns ≡ true

  premises_reached : (ts : List Tree) (hs : Each (λ p. TypesAs r p BoolSort) ts) → AreInForm (nodes_in ts) → some_never_holds (premise_needs r ts hs) ≡ false →
      Reached (premises_typed r.params ts) (premise_needs r ts hs)
  premises_reached [] hs form possible = inl refl
  premises_reached (t ∷ ts) hs form possible =
      let f = all_append (is_node_form r.params) ((walk t).nodes None) (nodes_in ts) form in
      let p = neither _ _ (sym (never_append hs.0.needs (premise_needs r ts hs.1)) ∙ possible) in
      goes_on (typed_tree r.params None t (Some BoolSort)) (λ x. and_then (premises_typed r.params ts) (λ ns. Ok (x.needs ++ ns))) (sorting_of (One BoolSort) hs.0.needs) (premise_needs r (t ∷ ts) hs)
      (reached_at r.params None (Some BoolSort) t BoolSort f.0 hs.0 p.0 refl)
      (goes_on (premises_typed r.params ts) (λ ns. Ok (hs.0.needs ++ ns)) (premise_needs r ts hs.1) (premise_needs r (t ∷ ts) hs) (premises_reached ts hs.1 f.1 p.1) (inl refl))

  context_reached : (c : Option Tree) (s : Sort) (h : FitsContext r c s) → AreInForm (nodes_in (context_parts c)) → some_never_holds (context_needs r c s h) ≡ false →
      Reached (context_typed r.params s c) (context_needs r c s h)
  context_reached None s h form possible = inl refl
  context_reached (Some t) s h form possible =
      let f = all_append (is_node_form r.params) ((walk t).nodes None) [] form in
      goes_on (typed_tree r.params (Some s) t (Some s)) (λ x. Ok x.needs) (sorting_of (One s) h.needs) h.needs (reached_at r.params (Some s) (Some s) t s f.0 h possible refl) (inl refl)

  sides_reached : (h : IsTyped r) → IsInForm r → some_never_holds (rule_needs r h) ≡ false → Reached (sides_typed r) (rule_needs r h)
  sides_reached h form possible =
      let f = all_append (is_node_form r.params) (side_nodes r) (context_nodes r) form.operators in
      let g = all_append (is_node_form r.params) (nodes_in r.premises) ((walk r.left).nodes None ++ (walk r.right).nodes None) f.0 in
      let k = all_append (is_node_form r.params) ((walk r.left).nodes None) ((walk r.right).nodes None) g.1 in
      let l = h.left.needs in
      let p = premise_needs r r.premises h.premises in
      let x = h.right.needs in
      let c = context_needs r r.context h.sort h.context in
      let n1 = neither _ _ (sym (never_append (floors r.bounds) (l ++ (p ++ (x ++ c)))) ∙ possible) in
      let n2 = neither _ _ (sym (never_append l (p ++ (x ++ c))) ∙ n1.1) in
      let n3 = neither _ _ (sym (never_append p (x ++ c)) ∙ n2.1) in
      let n4 = neither _ _ (sym (never_append x c) ∙ n3.1) in
      let rest : Reached (rest_typed r h.sort) (p ++ (x ++ c)) =
      goes_on (premises_typed r.params r.premises) _ p (p ++ (x ++ c)) (premises_reached r.premises h.premises g.0 n3.0) (
      goes_on (typed_tree r.params None r.right (Some h.sort)) _ (sorting_of (One h.sort) x) (p ++ (x ++ c)) (reached_at r.params None (Some h.sort) r.right h.sort k.1 h.right n4.0 refl) (
      goes_on (context_typed r.params h.sort r.context) _ c (p ++ (x ++ c)) (context_reached r.context h.sort h.context f.1 n4.1) (inl refl))) in
      goes_on (typed_tree r.params None r.left None) _ (sorting_of (One h.sort) l) (rule_needs r h) (reached_at r.params None None r.left h.sort k.0 h.left n2.0 tt) (
      goes_on (rest_typed r h.sort) _ (p ++ (x ++ c)) (rule_needs r h) rest (inl refl))

pub complete : (r : Rule) (cs : List Constraint) → IsInForm r → Types r cs → (rule_typing r ≡ Ok cs) ⊎ (rule_typing r ≡ Err case.TooLarge)
complete r cs form types =
    let ns = rule_needs r types.typed in
    let l = types.typed.left.needs in
    let possible = none_never r.params [] ns tt (ap all_have_names (sym types.same) ∙ types.possible) in
    let first = neither _ _ (sym (never_append (floors r.bounds) _) ∙ possible) in
    past_limit _ _ _ (
    past case.NeverHolds _ _ _ first.0 (
    goes_on (sides_typed r) _ ns cs (sides_reached r types.typed form possible) (inl (ap Ok (sym types.same)))))
