-- An operator whose arguments may be lists: its total over all arguments.
use Rattle.std.proofs.Common.{◌≡◌, ℕ, List, [], ◌∷◌, ◌++◌, All, map, refl, ap, ◌∙◌, sym, subst}
use Rattle.std.specs.Prelude.{fold}
use Rattle.std.proofs.lemmas.List.{map-append}
use Rattle.std.proofs.lemmas.List.Elements.{All-nil, All-cons, All-head, All-tail, All-append}
use Rattle.rare_sort.specs.Each.{EachPair}
use Rattle.rare_sort.specs.Trees.{node}
use Rattle.rare_sort.specs.declared.head.Head.{Head}
use Rattle.rare_sort.specs.declared.head.Head.TheVariants as head
use Rattle.rare_sort.specs.declared.tree.Tree.{Tree}
use Rattle.rare_meaning.specs.Values.{Value, ClosedSort, Fits}
use Rattle.rare_meaning.specs.Settings.{Item, Group, Setting, item, one}
use Rattle.rare_meaning.specs.Splicing.{joined, values, gathered, lead_sort}
use Rattle.rare_meaning.specs.Meaning.{meaning}
use Rattle.rare_meaning.specs.Fitting.{IsOf}
use Rattle.rare_meaning.proofs.MeaningLemmas.{meaning-node}
use Rattle.rare_rule.specs.Holds.{IsOneOf, IsListOf}
use Rattle.rare_rule.specs.Written.{param}
use Rattle.rare_shapes.specs.Operators.{Operator, total}
use Rattle.rare_shapes.specs.Totals.{IsTerm, AreOf, HasTotal, ApplicationsHaveTotals}

-- two trees that mean one value
pub same_terms : (e d : Setting) (s : ClosedSort) (t u : Tree) (a b : Value) → IsTerm e s t a → IsTerm d s u b → a ≡ b → values (meaning e t).items ≡ values (meaning d u).items
same_terms e d s t u a b h k p = ap (λ (g : Group). values g.items) (h.means ∙ ap (λ v. one (item s v)) p ∙ sym k.means)

-- a term parameter
abbrev pub value_at : {s : ClosedSort} → {g : Group} → IsOneOf s g → Value
value_at h = h.only.0.value

pub term_param : (e : Setting) (s : ClosedSort) (k : ℕ) → (h : IsOneOf s (e.group k)) → IsTerm e s (param k) (value_at h)
term_param e s k h = record {
  means = meaning-node e (head.Param k) [] [] ∙ h.only.1 ∙ ap (λ (r : ClosedSort). one (item r (value_at h))) h.only.2.sorted;
  fits = h.only.2.fits;
}

module _ (h : Head) (s : ClosedSort) (o : Operator h s) where
  pub total-fits : (vs : List Value) → Fits (total o vs) s
  total-fits [] = o.unit_fits
  total-fits (v ∷ vs) = o.fits v (total o vs)

  pub neutral_right : (v : Value) → Fits v s → o.op v o.unit ≡ v
  neutral_right v f = o.comm v o.unit ∙ o.neutral v f

  total-append : (vs ws : List Value) → total o (vs ++ ws) ≡ o.op (total o vs) (total o ws)
  total-append [] ws = sym (o.neutral (total o ws) (total-fits ws))
  total-append (v ∷ vs) ws = ap (o.op v) (total-append vs ws) ∙ sym (o.assoc v (total o vs) (total o ws))

  -- the second of two arguments comes first
  pub swap : (a b c : Value) → o.op a (o.op b c) ≡ o.op b (o.op a c)
  swap a b c = sym (o.assoc a b c) ∙ ap (λ x. o.op x c) (o.comm a b) ∙ o.assoc b a c

  -- ---- equations of totals

  pub total_unit : (a b : Value) → total o (a ∷ o.unit ∷ b ∷ []) ≡ total o (a ∷ b ∷ [])
  total_unit a b = ap (o.op a) (o.neutral (total o (b ∷ [])) (total-fits (b ∷ [])))

  pub total_flat : (a b c : Value) → total o (a ∷ total o (b ∷ []) ∷ c ∷ []) ≡ total o (a ∷ b ∷ c ∷ [])
  total_flat a b c =
      ap (o.op a) (o.assoc b o.unit (total o (c ∷ [])) ∙ ap (o.op b) (o.neutral (total o (c ∷ [])) (total-fits (c ∷ []))))

  pub total_absorbing : (z a b : Value) → ((v : Value) → o.op z v ≡ z) → total o (a ∷ z ∷ b ∷ []) ≡ z
  total_absorbing z a b absorbs = ap (o.op a) (absorbs (total o (b ∷ []))) ∙ o.comm a z ∙ absorbs a

  pub total_swap : (a b : Value) → total o (a ∷ b ∷ []) ≡ total o (b ∷ a ∷ [])
  total_swap a b = swap a b o.unit

  -- two arguments are put together, in front of the others
  total_pair : (a x b y c : Value) → total o (a ∷ x ∷ b ∷ y ∷ c ∷ []) ≡ o.op (o.op x y) (total o (a ∷ b ∷ c ∷ []))
  total_pair a x b y c =
      let rest = o.op b (total o (c ∷ [])) in
      ap (λ r. o.op a (o.op x r)) (swap b y (total o (c ∷ [])))
      ∙ ap (o.op a) (sym (o.assoc x y rest))
      ∙ swap a (o.op x y) rest

  pub total_dup : (a x b c : Value) → o.op x x ≡ x → total o (a ∷ x ∷ b ∷ x ∷ c ∷ []) ≡ total o (a ∷ x ∷ b ∷ c ∷ [])
  total_dup a x b c same =
      total_pair a x b x c ∙ ap (λ r. o.op r (total o (a ∷ b ∷ c ∷ []))) same ∙ swap x a (total o (b ∷ c ∷ []))

  pub total_cancel : (a x b y c : Value) → o.op x y ≡ o.unit → total o (a ∷ x ∷ b ∷ y ∷ c ∷ []) ≡ total o (a ∷ b ∷ c ∷ [])
  total_cancel a x b y c none =
      total_pair a x b y c
      ∙ ap (λ r. o.op r (total o (a ∷ b ∷ c ∷ []))) none
      ∙ o.neutral (total o (a ∷ b ∷ c ∷ [])) (total-fits (a ∷ b ∷ c ∷ []))

  pub total_compl : (z a x b y c : Value) → o.op x y ≡ z → ((v : Value) → o.op z v ≡ z) → total o (a ∷ x ∷ b ∷ y ∷ c ∷ []) ≡ z
  total_compl z a x b y c whole absorbs =
      total_pair a x b y c ∙ ap (λ r. o.op r (total o (a ∷ b ∷ c ∷ []))) whole ∙ absorbs (total o (a ∷ b ∷ c ∷ []))

  -- ---- what an application means

  -- from the left it is the same total
  fold_total : (x : Value) (is : List Item) → Fits x s → All (IsOf s) is → fold o.op x (values is) ≡ o.op x (total o (values is))
  fold_total x [] f k = sym (neutral_right x f)
  fold_total x (i ∷ is) f k =
      fold_total (o.op x i.value) is (o.fits x i.value) (All-tail (IsOf s) i is k)
      ∙ o.assoc x i.value (total o (values is))

  -- collapse makes no difference: all arguments are put together, and the neutral value
  gathered_total : (is : List Item) → All (IsOf s) is → gathered s o.op o.unit is ≡ item s (total o (values is))
  gathered_total [] k = refl
  gathered_total (i ∷ []) k =
      let first = All-head (IsOf s) i [] k in
      ap (λ (r : ClosedSort). item r i.value) first.sorted ∙ ap (item s) (sym (neutral_right i.value first.fits))
  gathered_total (i ∷ j ∷ js) k =
      ap (item s) (fold_total i.value (j ∷ js) (All-head (IsOf s) i (j ∷ js) k).fits (All-tail (IsOf s) i (j ∷ js) k))

  lead_all : (r : ClosedSort) (is : List Item) → r ≡ s → All (IsOf s) is → lead_sort r is ≡ s
  lead_all r [] p k = p
  lead_all r (i ∷ is) p k = (All-head (IsOf s) i is k).sorted

  lead_joined : (r : ClosedSort) (is js : List Item) → lead_sort r is ≡ s → All (IsOf s) js → lead_sort r (is ++ js) ≡ s
  lead_joined r [] js p k = lead_all r js p k
  lead_joined r (i ∷ is) js p k = p

  all_joined : (e : Setting) (ts : List Tree) (vs : List Value) → EachPair (HasTotal h s o e) ts vs → All (IsOf s) (joined (map (meaning e) ts)).items
  all_joined e [] [] k = All-nil (IsOf s)
  all_joined e [] (v ∷ vs) k = absurd k
  all_joined e (t ∷ ts) [] k = absurd k
  all_joined e (t ∷ ts) (v ∷ vs) k = All-append (IsOf s) (meaning e t).items (joined (map (meaning e) ts)).items k.0.are.each (all_joined e ts vs k.1)

  joined_total : (e : Setting) (ts : List Tree) (vs : List Value) → EachPair (HasTotal h s o e) ts vs → total o (values (joined (map (meaning e) ts)).items) ≡ total o vs
  joined_total e [] [] k = refl
  joined_total e [] (v ∷ vs) k = absurd k
  joined_total e (t ∷ ts) [] k = absurd k
  joined_total e (t ∷ ts) (v ∷ vs) k =
      let first = (meaning e t).items in
      let rest = (joined (map (meaning e) ts)).items in
      ap (total o) (map-append (λ i. i.value) first rest)
      ∙ total-append (values first) (values rest)
      ∙ ap (λ x. o.op x (total o (values rest))) k.0.total
      ∙ ap (o.op v) (joined_total e ts vs k.1)

  -- an application means the total
  pub term_all : (e : Setting) (t : Tree) (ts : List Tree) (v : Value) (vs : List Value) → EachPair (HasTotal h s o e) (t ∷ ts) (v ∷ vs) → IsTerm e s (node h [] (t ∷ ts)) (total o (v ∷ vs))
  term_all e t ts v vs k =
      let g = joined (map (meaning e) (t ∷ ts)) in
      let rest = joined (map (meaning e) ts) in
      record {
        means =
            meaning-node e h [] (t ∷ ts)
            ∙ o.applies e g (lead_joined (meaning e t).element (meaning e t).items rest.items k.0.are.lead (all_joined e ts vs k.1))
            ∙ ap one (gathered_total g.items (all_joined e (t ∷ ts) (v ∷ vs) k))
            ∙ ap (λ x. one (item s x)) (joined_total e (t ∷ ts) (v ∷ vs) k);
        fits = total-fits (v ∷ vs);
      }

  -- one value is its own total
  pub total_term : (e : Setting) (t : Tree) (v : Value) → IsTerm e s t v → HasTotal h s o e t v
  total_term e t v k = record {
    are = subst (AreOf s) (sym k.means) (record {
      lead = refl;
      each = All-cons (IsOf s) (item s v) [] (record { sorted = refl; fits = k.fits }) (All-nil (IsOf s));
    });
    total = ap (λ (g : Group). total o (values g.items)) k.means ∙ neutral_right v k.fits;
  }

  -- a list parameter
  abbrev pub total_at : {g : Group} → IsListOf s g → Value
  total_at {g} k = total o (values g.items)

  pub total_list : (e : Setting) (j : ℕ) → (k : IsListOf s (e.group j)) → HasTotal h s o e (param j) (total_at k)
  total_list e j k =
      let same : e.group j ≡ meaning e (param j) = sym (meaning-node e (head.Param j) [] []) in
      record {
        are = subst (AreOf s) same (record { lead = lead_all (e.group j).element (e.group j).items k.element k.each; each = k.each });
        total = ap (λ (g : Group). total o (values g.items)) (sym same);
      }

  -- an application to two terms
  pub term_two : (e : Setting) (t u : Tree) (a b : Value) → IsTerm e s t a → IsTerm e s u b → IsTerm e s (node h [] (t ∷ u ∷ [])) (o.op a b)
  term_two e t u a b x y =
      subst (IsTerm e s (node h [] (t ∷ u ∷ []))) (ap (o.op a) (neutral_right b y.fits))
      (term_all e t (u ∷ []) a (b ∷ []) (total_term e t a x, (total_term e u b y, tt)))

pub applications_total : ApplicationsHaveTotals
applications_total h s o e t ts v vs k = term_all h s o e t ts v vs k
