-- The parts of an instance that exist are well sorted.
use Rattle.std.proofs.Common.{◌≡◌, ℕ, zero, suc, ◌<◌, pos, List, [], ◌∷◌, map, length, get_or, refl, sym, ap, ◌∙◌, subst, arith, Option, Some, None, slice_get, Ok}
use Rattle.rare_linear.specs.Linears.{LinearExpression, substitute}
use Rattle.rare_linear.specs.Entailment.{IsEntailed}
use Rattle.rare_sort.specs.Each.{Each, EachPair}
use Rattle.rare_sort.specs.Ids.{tree_at}
use Rattle.rare_sort.specs.SortOf.{sort_of, IsTermOf}
use Rattle.rare_sort.specs.SortRules.{width_needs}
use Rattle.rare_sort.specs.Sorting.{One, Many, Wide, Sorting, IsShaped, problem_scope}
use Rattle.rare_sort.specs.declared.declarations.Declarations.{Declarations}
use Rattle.rare_sort.specs.declared.sort.Signature.{Signature}
use Rattle.rare_sort.specs.declared.sort.Sort.{Sort, Bool}
use Rattle.rare_sort.specs.declared.tree.Tree.{Tree, Tree-F, every-Tree}
use Rattle.rare_sort.proofs.Options.{then_some}
use Rattle.rare_sort.proofs.SortOfLaw.{has_its}
use Rattle.rare_sort.proofs.SortingLemmas.{sort_more}
use Rattle.rare_rule.specs.Params.{kind_at}
use Rattle.rare_rule.specs.RuleSorting.{sorting_of, kind_sorting, rule_scope, TypesAs, FitsContext}
use Rattle.rare_rule.specs.TypedRule.{TypedRule}
use Rattle.rare_rule.specs.declared.param.Param.{Param}
use Rattle.rare_rule.specs.declared.param.ParamKind.{ParamKind}
use Rattle.rare_rule.specs.declared.param.ParamKind.TheVariants as kind
use Rattle.rare_rule.specs.declared.rule.Rule.{Rule}
use Rattle.rare_inst.specs.Arguments.{Argument}
use Rattle.rare_inst.specs.Instance.{Side, LeftSide, OtherSide, instance, instance_fault, unless_faulty, part_of, result_in, result_of, with_right}
use Rattle.rare_inst.specs.InstanceLaws.{IsProblemTerm, IsInstance, InstancesAreSorted}
use Rattle.rare_inst.specs.Substituting.{TreeGroup, Substitution, put_sort}
use Rattle.rare_inst.specs.declared.fault.InstFault.{InstFault}
use Rattle.rare_inst.proofs.Admitted.{AreWords, Suits, Term, put_for, normal_numbers, group_terms, suits}
use Rattle.rare_inst.proofs.Everywhere.{every_more}
use Rattle.rare_inst.proofs.Existing.{instance_terms, joined_elsewhere, joined_left}
use Rattle.rare_inst.proofs.Faults.{IsFine, all_fine}
use Rattle.rare_inst.proofs.Filling.{word}
use Rattle.rare_inst.proofs.Growing.{Good, IsGrown, IsJoinedAt, grows}
use Rattle.rare_inst.proofs.Holes.{hole_exists}
use Rattle.rare_inst.proofs.NormalLemmas.{IsNormalForm}
use Rattle.rare_inst.proofs.PutRule.{put-width}

module _ (d : Declarations) where
  abbrev symbols : ℕ → Option Signature
  symbols k = slice_get d.symbols k

  shape : (t : Tree) (s : Sort) → IsTermOf d t s → Good symbols t s
  shape t s h = sort_more (IsEntailed (λ k. pos 1) d.constraints) (λ n. Unit {0}) (λ n e. tt) (problem_scope symbols) t s h

  alike_shapes : (s : Sort) (ts : List Tree) → Each (λ t. Term d t s) ts → EachPair (Good symbols) ts (map (λ t. s) ts)
  alike_shapes s [] h = tt
  alike_shapes s (t ∷ ts) h = (shape t s h.0, alike_shapes s ts h.1)

  alike : (s : Sort) (ts : List Tree) → Each (λ u. u ≡ s) (map (λ t. s) ts)
  alike s [] = tt
  alike s (t ∷ ts) = (refl, alike s ts)

  word_shapes : (ts : List Tree) (ws : List LinearExpression) → AreWords d ts ws → EachPair (Good symbols) ts (map word ws)
  word_shapes [] [] h = tt
  word_shapes [] (w ∷ ws) h = absurd h
  word_shapes (t ∷ ts) [] h = absurd h
  word_shapes (t ∷ ts) (w ∷ ws) h = (shape t (word w) h.0.0, word_shapes ts ws h.1)

  word_forms : (ts : List Tree) (ws : List LinearExpression) → AreWords d ts ws → Each IsNormalForm ws
  word_forms [] [] h = tt
  word_forms [] (w ∷ ws) h = absurd h
  word_forms (t ∷ ts) [] h = absurd h
  word_forms (t ∷ ts) (w ∷ ws) h = (h.0.1, word_forms ts ws h.1)

  -- ---- one part

  module _ (a : Substitution) (normal : (k : ℕ) → IsNormalForm (a.number k)) where
    abbrev put : Sort → Sort
    put s = put_sort a.number a.sort s

    abbrev Grown : TreeGroup → Sorting → Type 0
    Grown g r = IsGrown symbols a normal g r.place

    -- an argument that obeys the rules fills the place of its parameter
    suited : (k : ℕ) (c : ParamKind) (r : Sorting) → Suits d put c (a.number k) (a.sort k) (a.group k) → kind_sorting k c ≡ Some r → Grown (a.group k) r
    suited k (kind.Term s) r h e =
        let same : sorting_of (One s) (width_needs s) ≡ r = cc in
        subst (Grown (a.group k)) same
        (record { sorts = put s ∷ []; shaped = subst (λ (g : TreeGroup). EachPair (Good symbols) g.trees (put s ∷ [])) (sym h.1) (shape h.0 (put s) h.2, tt); fills = refl })
    suited k (kind.List s) r h e =
        let same : sorting_of (Many s k) (width_needs s) ≡ r = cc in
        subst (Grown (a.group k)) same
        (record {
          sorts = map (λ t. put s) (a.group k).trees;
          shaped = alike_shapes (put s) (a.group k).trees h.each;
          fills = (h.element, alike (put s) (a.group k).trees, λ w q. h.total (substitute a.number w) (put-width a.number a.sort s w q));
        })
    suited k kind.WideList r h e =
        let same : sorting_of (Wide k) [] ≡ r = cc in
        subst (Grown (a.group k)) same
        (record {
          sorts = map word h.widths;
          shaped = word_shapes (a.group k).trees h.widths h.are;
          fills = (h.widths, refl, word_forms (a.group k).trees h.widths h.are, h.total);
        })
    suited k kind.SortName r h e = cc
    suited k kind.Width r h e = cc
    suited k kind.Index r h e = cc

    -- one term of the sort that s becomes
    pub record IsPart (g : TreeGroup) (s : Sort) (u : Tree) : Type 0 where
      pub only : g.trees ≡ u ∷ []
      pub sorted : IsTermOf d u (put s)

    sort_is : (u : Tree) (s : Sort) → Good symbols u s → IsProblemTerm d u → IsTermOf d u s
    sort_is u s g h =
        let e : One s ≡ One (sort_of d.symbols u) = has_its d.symbols u _ g.found in
        let same : sort_of d.symbols u ≡ s = cc in
        subst (IsTermOf d u) same h

    one_term : (g : TreeGroup) (s : Sort) → IsGrown symbols a normal g (One s) → Each (IsProblemTerm d) g.trees → (u : Tree) × IsPart g s u
    one_term g s h terms = go g.trees refl h.sorts h.fills h.shaped terms
      where
        go : (ts : List Tree) → g.trees ≡ ts → (ss : List Sort) → ss ≡ put s ∷ [] → EachPair (Good symbols) ts ss → Each (IsProblemTerm d) ts → (u : Tree) × IsPart g s u
        go [] e [] f sh terms = cc
        go [] e (x ∷ ss) f sh terms = absurd sh
        go (u ∷ us) e [] f sh terms = absurd sh
        go (u ∷ v ∷ us) e (x ∷ []) f sh terms = absurd sh.1
        go (u ∷ v ∷ us) e (x ∷ y ∷ ss) f sh terms = cc
        go (u ∷ []) e (x ∷ y ∷ ss) f sh terms = absurd sh.1
        go (u ∷ []) e (x ∷ []) f sh terms =
            let same : x ≡ put s = cc in
            (u, record { only = e; sorted = sort_is u (put s) (subst (Good symbols u) same sh.0) terms.0 })

    module _ (ps : List Param) (suits : (k : ℕ) (c : ParamKind) → kind_at ps k ≡ Some c → Suits d put c (a.number k) (a.sort k) (a.group k))
        (groups : (k : ℕ) → Each (IsProblemTerm d) (a.group k).trees) (hole : Option Sorting) (hole_grows : (r : Sorting) → hole ≡ Some r → Grown a.hole r)
        (side : Side) (in_hole : Option InstFault) (hole_terms : in_hole ≡ None → Each (IsProblemTerm d) a.hole.trees) where
      joined : (s : Side) (x : Tree-F Tree) → IsFine d ps a s in_hole x → IsJoinedAt a x
      joined LeftSide = joined_left d ps a in_hole
      joined OtherSide = joined_elsewhere d ps a in_hole

      pub all_joined : (t : Tree) → instance_fault d ps a side in_hole t ≡ None → every-Tree (IsJoinedAt a) t
      all_joined t e = every_more (IsFine d ps a side in_hole) (IsJoinedAt a) (joined side) t (all_fine d ps a side in_hole t e)

      pub part_grown : (t : Tree) (s : Sort) → IsShaped (rule_scope ps hole) t s → instance_fault d ps a side in_hole t ≡ None → IsGrown symbols a normal (instance a t) (One s)
      part_grown t s h e =
          grows symbols a normal (rule_scope ps hole).params hole (λ s. [])
          (λ k r q. let c = then_some (kind_sorting k) (kind_at ps k) r q in suited k c.0 r (suits k c.0 c.1) c.2)
          hole_grows t _ h.found h.same (all_joined t e)

      pub part_terms : (t : Tree) → instance_fault d ps a side in_hole t ≡ None → Each (IsProblemTerm d) (instance a t).trees
      part_terms t e = instance_terms d ps a side in_hole groups hole_terms t (all_fine d ps a side in_hole t e)

      pub part : (t : Tree) (s : Sort) → IsShaped (rule_scope ps hole) t s → instance_fault d ps a side in_hole t ≡ None → (u : Tree) × IsPart (instance a t) s u
      part t s h e = one_term (instance a t) s (part_grown t s h e) (part_terms t e)

-- ---- the parts of a rule

-- what exists has no fault
pub exists : (o : Option InstFault) (g : TreeGroup) (u : Tree) → unless_faulty o g ≡ Ok u → (o ≡ None) × (tree_at g.trees 0 ≡ u)
exists None g u e = (refl, cc)
exists (Some f) g u e = cc

pub each_at : {X : Type 0} (P : X → Type 0) (xs : List X) → Each P xs → (k : ℕ) (x : X) → k < length xs → P (get_or xs k x)
each_at P [] h k x lt = absurd (omega arith)
each_at P (y ∷ ys) h zero x lt = h.0
each_at P (y ∷ ys) h (suc k) x lt = each_at P ys h.1 k x (omega arith)

module _ (d : Declarations) (t : TypedRule) (args : List Argument) (i : IsInstance d t args) where
  abbrev pub putting : Substitution
  putting = put_for d t args i.arguments

  abbrev pub normals : (k : ℕ) → IsNormalForm (putting.number k)
  normals = normal_numbers d t args i.arguments

  abbrev r : Rule
  r = t.rule

  abbrev pub Is : TreeGroup → Sort → Tree → Type 0
  Is g s u = IsPart d putting normals g s u

  no_hole : (x : Sorting) → None ≡ Some x → IsGrown (slice_get d.symbols) putting normals putting.hole x.place
  no_hole x e = cc

  pub whole : (side : Side) (p : Tree) (s : Sort) → TypesAs r p s → instance_fault d r.params putting side None p ≡ None → (u : Tree) × Is (instance putting p) s u
  whole side p s h e = part d putting normals r.params (suits d t args i.arguments i.admitted) (group_terms d t args i.arguments) None no_hole side None (λ q. tt) p s h e

  -- a term is the only one of its place
  only_is : (g : TreeGroup) (s : Sort) (u v : Tree) → Is g s u → tree_at g.trees 0 ≡ v → Is g s v
  only_is g s u v h e = let same : u ≡ v = ap (λ ts. tree_at ts 0) (sym h.only) ∙ e in subst (Is g s) same h

  pub one_part : (side : Side) (p : Tree) (s : Sort) → TypesAs r p s → (u : Tree) → part_of d r args side p ≡ Ok u → Is (instance putting p) s u
  one_part side p s h u e =
      let q = exists (instance_fault d r.params putting side None p) (instance putting p) u e in
      let w = whole side p s h q.0 in
      only_is (instance putting p) s w.0 u w.1 q.1

  -- ---- the result

  abbrev pub at_hole : Substitution
  at_hole = with_right r putting

  abbrev right_fault : Option InstFault
  right_fault = instance_fault d r.params putting OtherSide None r.right

  abbrev pub hole_sorting : Option Sorting
  hole_sorting = Some (sorting_of (One i.typed.typing.typed.sort) [])

  abbrev pub context_fault : Tree → Option InstFault
  context_fault c = instance_fault d r.params at_hole OtherSide right_fault c

  -- the right side in the hole
  pub right_grown : right_fault ≡ None → (x : Sorting) → hole_sorting ≡ Some x → IsGrown (slice_get d.symbols) at_hole normals at_hole.hole x.place
  right_grown e x q =
      let inner = part_grown d putting normals r.params (suits d t args i.arguments i.admitted) (group_terms d t args i.arguments) None no_hole OtherSide None (λ q. tt) r.right i.typed.typing.typed.sort i.typed.typing.typed.right e in
      let same : sorting_of (One i.typed.typing.typed.sort) [] ≡ x = cc in
      subst (λ (z : Sorting). IsGrown (slice_get d.symbols) at_hole normals at_hole.hole z.place) same (record { sorts = inner.sorts; shaped = inner.shaped; fills = inner.fills })

  pub right_terms : right_fault ≡ None → Each (IsProblemTerm d) at_hole.hole.trees
  right_terms e = part_terms d putting normals r.params (suits d t args i.arguments i.admitted) (group_terms d t args i.arguments) None no_hole OtherSide None (λ q. tt) r.right e

  pub in_context : (c : Tree) → FitsContext r (Some c) i.typed.typing.typed.sort → right_fault ≡ None → context_fault c ≡ None → (u : Tree) × Is (instance at_hole c) i.typed.typing.typed.sort u
  in_context c h e q =
      let w = part d at_hole normals r.params (suits d t args i.arguments i.admitted) (group_terms d t args i.arguments) hole_sorting (right_grown e) OtherSide right_fault right_terms c i.typed.typing.typed.sort h q in
      (w.0, record { only = w.1.only; sorted = w.1.sorted })

  -- what the right side, or the context, becomes
  abbrev pub result_group : Option Tree → TreeGroup
  result_group None = instance putting r.right
  result_group (Some c) = instance at_hole c

  result_by : (c : Option Tree) → r.context ≡ c → FitsContext r c i.typed.typing.typed.sort → (u : Tree) → result_in d r args c ≡ Ok u → Is (result_group c) i.typed.typing.typed.sort u
  result_by None is h u e = one_part OtherSide r.right i.typed.typing.typed.sort i.typed.typing.typed.right u e
  result_by (Some c) is h u e =
      let q = exists (context_fault c) (instance at_hole c) u e in
      let right = hole_exists d r at_hole OtherSide right_fault i.typed.form c is q.0 in
      let w = in_context c h right q.0 in
      only_is (instance at_hole c) i.typed.typing.typed.sort w.0 u w.1 q.1

  pub result_part : (u : Tree) → result_of d r args ≡ Ok u → Is (result_group r.context) i.typed.typing.typed.sort u
  result_part u e = result_by r.context refl i.typed.typing.typed.context u e

pub instances_sorted : InstancesAreSorted
instances_sorted d t args i = record {
  sort = put_sort (putting d t args i).number (putting d t args i).sort i.typed.typing.typed.sort;
  left = λ u e. (one_part d t args i LeftSide t.rule.left i.typed.typing.typed.sort i.typed.typing.typed.left u e).sorted;
  premises = λ k u lt e.
      (one_part d t args i OtherSide (tree_at t.rule.premises k) Bool (each_at (λ p. TypesAs t.rule p Bool) t.rule.premises i.typed.typing.typed.premises k _ lt) u e).sorted;
  result = λ u e. (result_part d t args i u e).sorted;
}
