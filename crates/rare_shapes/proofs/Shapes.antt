-- The shapes of rules hold for each operator whose arguments may be lists.
use Rattle.std.proofs.Common.{◌≡◌, ℕ, suc, List, [], ◌∷◌, ◌∙◌}
use Rattle.std.specs.Prelude.{ℤ}
use Rattle.rare_sort.specs.declared.head.Head.{Head}
use Rattle.rare_sort.specs.declared.head.Head.TheVariants as head
use Rattle.rare_sort.specs.declared.tree.Tree.{Tree}
use Rattle.rare_meaning.specs.Values.{Value, ClosedSort, Fits}
use Rattle.rare_meaning.specs.Settings.{Setting}
use Rattle.rare_meaning.specs.Interpretations.{FunctionClass}
use Rattle.rare_meaning.proofs.MeaningLemmas.{meaning-node}
use Rattle.rare_rule.specs.Holds.{Holds, SuitAll, at_right}
use Rattle.rare_rule.specs.Written.{apply}
use Rattle.rare_shapes.specs.Operators.{total}
use Rattle.rare_shapes.specs.Totals.{IsTerm}
use Rattle.rare_shapes.specs.RuleShapes.{hole, Theme, term, terms, p1, p2, p3, p4, unit_rule, absorbing_rule, flat_rule, pair_rule, dup_rule, cancel_rule, swap_rule, de_morgan_rule}
use Rattle.rare_shapes.specs.ShapeLaws.{theme_sort, Skips, Operators, EachShapeHolds}
use Rattle.rare_shapes.proofs.Totals.{same_terms, value_at, term_param, total_unit, total_flat, total_absorbing, total_dup, total_cancel, total_compl, term_all, total_term, total_at, total_list, term_two}

-- the tree means this value of the sort, whatever the parameters are
abbrev pub IsConstant : Theme → Tree → (ClosedSort → Value) → Type 0
IsConstant θ t z = (names : ℕ → ClosedSort) (e : Setting) → IsTerm e (theme_sort θ e.number names) t (z (theme_sort θ e.number names))

-- what t is by the value of the first parameter
abbrev pub Gives : Theme → Tree → (ClosedSort → Value → Value) → Type 0
Gives θ t f = (names : ℕ → ClosedSort) (e : Setting) (v : Value) → IsTerm e (theme_sort θ e.number names) (p1 θ) v → IsTerm e (theme_sort θ e.number names) t (f (theme_sort θ e.number names) v)

-- a function of values that a head applies
abbrev pub Maps : Theme → Head → (ClosedSort → Value → Value) → Type 0
Maps θ h f = (names : ℕ → ClosedSort) (e : Setting) (t : Tree) (v : Value) → IsTerm e (theme_sort θ e.number names) t v → IsTerm e (theme_sort θ e.number names) (apply h (t ∷ [])) (f (theme_sort θ e.number names) v)

module _ (cl : FunctionClass) (θ : Theme) (skips : Skips θ) (h : Head) (os : Operators θ h) (n : List ℕ) where
  pub unit_holds : (t : Tree) → ((names : ℕ → ClosedSort) (e : Setting) → IsTerm e (theme_sort θ e.number names) t (os e.number names).unit) → Holds cl (unit_rule θ n h t) []
  unit_holds t is = record {
    same = λ e names counts c met.
        let s = theme_sort θ e.number names in
        let o = os e.number names in
        let k = skips names e _ c.suits in
        let a = total_at h s o k.0.0 in
        let b = total_at h s o k.1.0.0 in
        let x = total_list h s o e θ.first k.0.0 in
        let y = total_list h s o e (suc θ.first) k.1.0.0 in
        same_terms e e s _ _ _ _
        (term_all h s o e (p1 θ) (t ∷ p2 θ ∷ []) a (o.unit ∷ b ∷ []) (x, (total_term h s o e t o.unit (is names e), (y, tt))))
        (term_all h s o e (p1 θ) (p2 θ ∷ []) a (b ∷ []) (x, (y, tt)))
        (total_unit h s o a b);
  }

  pub absorbing_holds : (t : Tree) (z : ClosedSort → Value) → IsConstant θ t z →
      ((number : ℕ → ℤ) (names : ℕ → ClosedSort) (v : Value) → (os number names).op (z (theme_sort θ number names)) v ≡ z (theme_sort θ number names)) →
      Holds cl (absorbing_rule θ n h t) []
  absorbing_holds t z is absorbs = record {
    same = λ e names counts c met.
        let s = theme_sort θ e.number names in
        let o = os e.number names in
        let k = skips names e _ c.suits in
        let a = total_at h s o k.0.0 in
        let b = total_at h s o k.1.0.0 in
        same_terms e e s _ _ _ _
        (term_all h s o e (p1 θ) (t ∷ p2 θ ∷ []) a (z s ∷ b ∷ []) (total_list h s o e θ.first k.0.0, (total_term h s o e t (z s) (is names e), (total_list h s o e (suc θ.first) k.1.0.0, tt))))
        (is names e)
        (total_absorbing h s o (z s) a b (absorbs e.number names));
  }

  pub flat_holds : Holds cl (flat_rule θ n h) []
  flat_holds = record {
    same = λ e names counts c met.
        let s = theme_sort θ e.number names in
        let o = os e.number names in
        let k = skips names e _ c.suits in
        let a = total_at h s o k.0.0 in
        let b = total_at h s o k.1.0.0 in
        let d = total_at h s o k.1.1.0.0 in
        let x = total_list h s o e θ.first k.0.0 in
        let y = total_list h s o e (suc θ.first) k.1.0.0 in
        let z = total_list h s o e (suc (suc θ.first)) k.1.1.0.0 in
        let inner = term_all h s o e (p2 θ) [] b [] (y, tt) in
        same_terms e e s _ _ _ _
        (term_all h s o e (p1 θ) (apply h (p2 θ ∷ []) ∷ p3 θ ∷ []) a (total o (b ∷ []) ∷ d ∷ []) (x, (total_term h s o e _ _ inner, (z, tt))))
        (term_all h s o e (p1 θ) (p2 θ ∷ p3 θ ∷ []) a (b ∷ d ∷ []) (x, (y, (z, tt))))
        (total_flat h s o a b d);
  }

  pub swap_holds : Holds cl (swap_rule θ n h) []
  swap_holds = record {
    same = λ e names counts c met.
        let s = theme_sort θ e.number names in
        let o = os e.number names in
        let k = skips names e _ c.suits in
        let x = term_param e s θ.first k.0 in
        let y = term_param e s (suc θ.first) k.1.0 in
        let a = value_at k.0 in
        let b = value_at k.1.0 in
        same_terms e e s _ _ _ _ (term_two h s o e (p1 θ) (p2 θ) a b x y) (term_two h s o e (p2 θ) (p1 θ) b a y x) (o.comm a b);
  }

  -- the left side of a pair rule
  pair_left : (names : ℕ → ClosedSort) (e : Setting) (t : Tree) (x y : Value) → IsTerm e (theme_sort θ e.number names) (p1 θ) x → IsTerm e (theme_sort θ e.number names) t y →
      (k : SuitAll names e θ.first (term θ θ.x ∷ terms θ θ.xs ∷ terms θ θ.ys ∷ terms θ θ.zs ∷ [])) →
      IsTerm e (theme_sort θ e.number names) (apply h (p2 θ ∷ p1 θ ∷ p3 θ ∷ t ∷ p4 θ ∷ []))
      (total (os e.number names)
      (total_at h (theme_sort θ e.number names) (os e.number names) k.1.0.0
      ∷ x
      ∷ total_at h (theme_sort θ e.number names) (os e.number names) k.1.1.0.0
      ∷ y
      ∷ total_at h (theme_sort θ e.number names) (os e.number names) k.1.1.1.0.0
      ∷ []))
  pair_left names e t x y hx hy k =
      let s = theme_sort θ e.number names in
      let o = os e.number names in
      term_all h s o e (p2 θ) (p1 θ ∷ p3 θ ∷ t ∷ p4 θ ∷ []) (total_at h s o k.1.0.0) (x ∷ total_at h s o k.1.1.0.0 ∷ y ∷ total_at h s o k.1.1.1.0.0 ∷ []) (
        total_list h s o e (suc θ.first) k.1.0.0,
        (
          total_term h s o e (p1 θ) x hx,
          (total_list h s o e (suc (suc θ.first)) k.1.1.0.0, (total_term h s o e t y hy, (total_list h s o e (suc (suc (suc θ.first))) k.1.1.1.0.0, tt))),
        ),
      )

  pub dup_holds : ((number : ℕ → ℤ) (names : ℕ → ClosedSort) (v : Value) → Fits v (theme_sort θ number names) → (os number names).op v v ≡ v) → Holds cl (dup_rule θ n h) []
  dup_holds same = record {
    same = λ e names counts c met.
        let s = theme_sort θ e.number names in
        let o = os e.number names in
        let k = skips names e _ c.suits in
        let x = term_param e s θ.first k.0 in
        let v = value_at k.0 in
        let a = total_at h s o k.1.0.0 in
        let b = total_at h s o k.1.1.0.0 in
        let d = total_at h s o k.1.1.1.0.0 in
        same_terms e e s _ _ _ _
        (pair_left names e (p1 θ) v v x x k)
        (term_all h s o e (p2 θ) (p1 θ ∷ p3 θ ∷ p4 θ ∷ []) a (v ∷ b ∷ d ∷ []) (
          total_list h s o e (suc θ.first) k.1.0.0,
          (
            total_term h s o e (p1 θ) v x,
            (total_list h s o e (suc (suc θ.first)) k.1.1.0.0, (total_list h s o e (suc (suc (suc θ.first))) k.1.1.1.0.0, tt)),
          ),
        ))
        (total_dup h s o a v b d (same e.number names v x.fits));
  }

  pub cancel_holds : (t : Tree) (f : ClosedSort → Value → Value) → Gives θ t f →
      ((number : ℕ → ℤ) (names : ℕ → ClosedSort) (v : Value) → Fits v (theme_sort θ number names) → (os number names).op v (f (theme_sort θ number names) v) ≡ (os number names).unit) →
      Holds cl (cancel_rule θ n h t) []
  cancel_holds t f gives none = record {
    same = λ e names counts c met.
        let s = theme_sort θ e.number names in
        let o = os e.number names in
        let k = skips names e _ c.suits in
        let x = term_param e s θ.first k.0 in
        let v = value_at k.0 in
        let a = total_at h s o k.1.0.0 in
        let b = total_at h s o k.1.1.0.0 in
        let d = total_at h s o k.1.1.1.0.0 in
        same_terms e e s _ _ _ _
        (pair_left names e t v (f s v) x (gives names e v x) k)
        (term_all h s o e (p2 θ) (p3 θ ∷ p4 θ ∷ []) a (b ∷ d ∷ []) (
          total_list h s o e (suc θ.first) k.1.0.0,
          (total_list h s o e (suc (suc θ.first)) k.1.1.0.0, (total_list h s o e (suc (suc (suc θ.first))) k.1.1.1.0.0, tt)),
        ))
        (total_cancel h s o a v b (f s v) d (none e.number names v x.fits));
  }

  pub compl_holds : (t : Tree) (f : ClosedSort → Value → Value) → Gives θ t f → (r : Tree) (z : ClosedSort → Value) → IsConstant θ r z →
      ((number : ℕ → ℤ) (names : ℕ → ClosedSort) (v : Value) → Fits v (theme_sort θ number names) → (os number names).op v (f (theme_sort θ number names) v) ≡ z (theme_sort θ number names)) →
      ((number : ℕ → ℤ) (names : ℕ → ClosedSort) (v : Value) → (os number names).op (z (theme_sort θ number names)) v ≡ z (theme_sort θ number names)) →
      Holds cl (pair_rule θ n h t r) []
  compl_holds t f gives r z is whole absorbs = record {
    same = λ e names counts c met.
        let s = theme_sort θ e.number names in
        let o = os e.number names in
        let k = skips names e _ c.suits in
        let x = term_param e s θ.first k.0 in
        let v = value_at k.0 in
        same_terms e e s _ _ _ _
        (pair_left names e t v (f s v) x (gives names e v x) k)
        (is names e)
        (total_compl h s o (z s) (total_at h s o k.1.0.0) v (total_at h s o k.1.1.0.0) (f s v) (total_at h s o k.1.1.1.0.0) (whole e.number names v x.fits) (absorbs e.number names));
  }

  -- two operators that a third turns into one another: the right side stands in the hole of the context
  pub de_morgan_holds : (dual : Head) (ds : Operators θ dual) (inverse : Head) (f : ClosedSort → Value → Value) → Maps θ inverse f →
      ((number : ℕ → ℤ) (names : ℕ → ClosedSort) (v w : Value) → Fits v (theme_sort θ number names) → Fits w (theme_sort θ number names) →
      f (theme_sort θ number names) ((os number names).op v w) ≡ (ds number names).op (f (theme_sort θ number names) v) (f (theme_sort θ number names) w)) →
      Holds cl (de_morgan_rule θ n inverse h dual) []
  de_morgan_holds dual ds inverse f maps law = record {
    same = λ e names counts c met.
        let s = theme_sort θ e.number names in
        let o = os e.number names in
        let d = at_right e (de_morgan_rule θ n inverse h dual) in
        let k = skips names e _ c.suits in
        let x = term_param e s θ.first k.0 in
        let y = term_param e s (suc θ.first) k.1.0 in
        let v = value_at k.0 in
        let w = value_at k.1.0 in
        let a = total_at h s o k.1.1.0.0 in
        let z = total_list h s o e (suc (suc θ.first)) k.1.1.0.0 in
        let rest = term_all h s o e (p2 θ) (p3 θ ∷ []) w (a ∷ []) (total_term h s o e (p2 θ) w y, (z, tt)) in
        let right = maps names e _ _ rest in
        let inner : IsTerm d s hole (f s (total o (w ∷ a ∷ []))) = record { means = meaning-node d head.Hole [] [] ∙ right.means; fits = right.fits } in
        let all = term_all h s o e (p1 θ) (p2 θ ∷ p3 θ ∷ []) v (w ∷ a ∷ []) (total_term h s o e (p1 θ) v x, (total_term h s o e (p2 θ) w y, (z, tt))) in
        same_terms e d s _ _ _ _
        (maps names e _ _ all)
        (term_two dual s (ds e.number names) d _ hole _ _ (maps names d (p1 θ) v (term_param d s θ.first k.0)) inner)
        (law e.number names v (total o (w ∷ a ∷ [])) x.fits rest.fits);
  }

pub each_shape_holds : EachShapeHolds
each_shape_holds c θ h os skips = record {
  flat = λ n. flat_holds c θ skips h os n;
  swap = λ n. swap_holds c θ skips h os n;
  unit = λ n t is. unit_holds c θ skips h os n t is;
}
