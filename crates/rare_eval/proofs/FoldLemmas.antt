-- An operator on one argument more is the operator on what it made of the others, and that argument.
use Rattle.std.proofs.Common.{◌≡◌, ℕ, ◌+◌, ◌≤◌, ◌<◌, Bool, true, false, not, ◌&&◌, ◌||◌, List, [], ◌∷◌, ◌++◌, map, Option, Some, None, refl, sym, ap, ◌∙◌, arith, append_assoc, add_assoc, inl, inr}
use Rattle.std.proofs.lemmas.List.{append-nil}
use Rattle.std.proofs.lemmas.Bool.Decides.{leb_tells}
use Rattle.std.specs.Prelude.{ℤ, fold, if◌then◌else◌, nat_le, ◌⊎◌}
use Rattle.std.specs.List.{list_any}
use Rattle.rare_bits.specs.Bits.{concat}
use Rattle.rare_bits.proofs.PartsLemmas.{concat_assoc}
use Rattle.rare_sort.specs.declared.head.Head.{Head}
use Rattle.rare_sort.specs.declared.head.Head.TheVariants as head
use Rattle.rare_sort.proofs.Options.{if_some}
use Rattle.rare_meaning.specs.Values.{Value, Truths, Wholes, BitVectors, whole_of, width_of, bits_number}
use Rattle.rare_meaning.specs.Settings.{Item, item}
use Rattle.rare_meaning.specs.Splicing.{values}
use Rattle.rare_meaning.specs.Operators.{concat_two, concat_all, bits}
use Rattle.rare_eval.specs.Evaluation.{is_in_limits, all_in_limits, operator_item, is_zero, is_open, is_left_associative, prefixes, evaluated}
use Rattle.rare_eval.specs.inner.Cut.{limited}
use Rattle.rare_wide.specs.Widths.{most_bits}
use Rattle.rare_eval.specs.inner.Groups.{is_on_bits}
use Rattle.rare_eval.proofs.StepLemmas.{evaluated_plain, evaluated_bits, bits_in_limits}

fold_values : (op : Value → Value → Value) (v : Value) (is : List Item) (k : Item) → fold op v (values (is ++ k ∷ [])) ≡ op (fold op v (values is)) k.value
fold_values op v [] k = refl
fold_values op v (i ∷ is) k = fold_values op (op v i.value) is k

concat_two_assoc : (x y z : Item) → concat_two x (concat_two y z) ≡ concat_two (concat_two x y) z
concat_two_assoc x y z =
    let a = width_of x.sort in
    let b = width_of y.sort in
    let c = width_of z.sort in
    ap (λ w. bits w (concat (bits_number x.value) (b + c) (concat (bits_number y.value) c (bits_number z.value)))) (sym (add_assoc a b c))
    ∙ ap (bits (a + b + c)) (sym (concat_assoc b c (bits_number x.value) (bits_number y.value) (bits_number z.value)))

concat_more : (i : Item) (is : List Item) (k : Item) → concat_all ((i ∷ is) ++ k ∷ []) ≡ concat_two (concat_all (i ∷ is)) k
concat_more i [] k = refl
concat_more i (j ∷ is) k = ap (concat_two i) (concat_more j is k) ∙ concat_two_assoc i (concat_all (j ∷ is)) k

-- operators that take any number of arguments and are computed on two at a time
abbrev pub is_fold : Head → Bool
is_fold head.And = true
is_fold head.Or = true
is_fold head.Xor = true
is_fold head.Minus = true
is_fold head.Add = true
is_fold head.Mul = true
is_fold head.Div = true
is_fold head.BvAdd = true
is_fold head.BvMul = true
is_fold head.BvAnd = true
is_fold head.BvOr = true
is_fold head.BvXor = true
is_fold head.Concat = true
is_fold h = false

pub operator_more : (h : Head) → is_fold h ≡ true → (ns : List ℤ) (i j : Item) (is : List Item) (k : Item) →
    operator_item h ns (i ∷ j ∷ (is ++ k ∷ [])) ≡ operator_item h ns (operator_item h ns (i ∷ j ∷ is) ∷ k ∷ [])
operator_more head.And f ns i j is k = ap (item Truths) (fold_values _ _ is k)
operator_more head.Or f ns i j is k = ap (item Truths) (fold_values _ _ is k)
operator_more head.Xor f ns i j is k = ap (item Truths) (fold_values _ _ is k)
operator_more head.Minus f ns i j is k = ap (item Wholes) (fold_values _ _ is k)
operator_more head.Add f ns i j is k = ap (item Wholes) (fold_values _ _ is k)
operator_more head.Mul f ns i j is k = ap (item Wholes) (fold_values _ _ is k)
operator_more head.Div f ns i j is k = ap (item Wholes) (fold_values _ _ is k)
operator_more head.BvAdd f ns i j is k = ap (item (BitVectors (width_of i.sort))) (fold_values _ _ is k)
operator_more head.BvMul f ns i j is k = ap (item (BitVectors (width_of i.sort))) (fold_values _ _ is k)
operator_more head.BvAnd f ns i j is k = ap (item (BitVectors (width_of i.sort))) (fold_values _ _ is k)
operator_more head.BvOr f ns i j is k = ap (item (BitVectors (width_of i.sort))) (fold_values _ _ is k)
operator_more head.BvXor f ns i j is k = ap (item (BitVectors (width_of i.sort))) (fold_values _ _ is k)
operator_more head.Concat f ns i j is k = concat_more i (j ∷ is) k
operator_more h f ns i j is k = cc

-- ---- the limits

both_limits : (is js : List Item) → all_in_limits (is ++ js) ≡ (all_in_limits is && all_in_limits js)
both_limits [] js = refl
both_limits (i ∷ is) js = ap (λ b. is_in_limits i.value && b) (both_limits is js) ∙ regroup (is_in_limits i.value) (all_in_limits is) (all_in_limits js)
  where
    regroup : (a b c : Bool) → (a && (b && c)) ≡ ((a && b) && c)
    regroup true b c = refl
    regroup false b c = refl

map_append : {X Y : Type 0} (f : X → Y) (xs ys : List X) → map f (xs ++ ys) ≡ map f xs ++ map f ys
map_append f [] ys = refl
map_append f (x ∷ xs) ys = ap (λ zs. f x ∷ zs) (map_append f xs ys)

-- the prefixes of two lists joined
prefixes_more : (is js : List Item) → prefixes (is ++ js) ≡ prefixes is ++ map (λ ks. is ++ ks) (prefixes js)
prefixes_more [] js = sym (map_same (prefixes js))
  where
    map_same : (xss : List (List Item)) → map (λ ks. [] ++ ks) xss ≡ xss
    map_same [] = refl
    map_same (xs ∷ xss) = ap (λ yss. xs ∷ yss) (map_same xss)
prefixes_more (i ∷ is) js =
    ap (λ xss. (i ∷ []) ∷ map (λ ks. i ∷ ks) xss) (prefixes_more is js)
    ∙ ap (λ xss. (i ∷ []) ∷ xss) (map_append (λ ks. i ∷ ks) (prefixes is) (map (λ ks. is ++ ks) (prefixes js)) ∙ ap (λ xss. map (λ ks. i ∷ ks) (prefixes is) ++ xss) (map_twice (prefixes js)))
  where
    map_twice : (xss : List (List Item)) → map (λ ks. i ∷ ks) (map (λ ks. is ++ ks) xss) ≡ map (λ ks. (i ∷ is) ++ ks) xss
    map_twice [] = refl
    map_twice (xs ∷ xss) = ap (λ yss. (i ∷ (is ++ xs)) ∷ yss) (map_twice xss)

-- whether the results of all prefixes are within the limits
abbrev steps_hold : Head → List ℤ → List Item → Bool
steps_hold h ns is = all_in_limits (map (operator_item h ns) (prefixes is))

steps_more : (h : Head) (ns : List ℤ) (is : List Item) (k : Item) → steps_hold h ns (is ++ k ∷ []) ≡ (steps_hold h ns is && (is_in_limits (operator_item h ns (is ++ k ∷ [])).value && true))
steps_more h ns is k =
    ap (λ xss. all_in_limits (map (operator_item h ns) xss)) (prefixes_more is (k ∷ []))
    ∙ ap all_in_limits (map_append (operator_item h ns) (prefixes is) ((is ++ k ∷ []) ∷ []))
    ∙ both_limits (map (operator_item h ns) (prefixes is)) (operator_item h ns (is ++ k ∷ []) ∷ [])

no_steps : (h : Head) (ns : List ℤ) (is js : List Item) → steps_hold h ns is ≡ false → steps_hold h ns (is ++ js) ≡ false
no_steps h ns is js f =
    ap (λ xss. all_in_limits (map (operator_item h ns) xss)) (prefixes_more is js)
    ∙ ap all_in_limits (map_append (operator_item h ns) (prefixes is) (map (λ ks. is ++ ks) (prefixes js)))
    ∙ both_limits (map (operator_item h ns) (prefixes is)) (map (operator_item h ns) (map (λ ks. is ++ ks) (prefixes js)))
    ∙ ap (λ b. b && all_in_limits (map (operator_item h ns) (map (λ ks. is ++ ks) (prefixes js)))) f

evaluated_left : (h : Head) (ns : List ℤ) (is : List Item) → is_left_associative h ≡ true →
    evaluated h (Some ns) (Some is) ≡ (if (not (is_open h is) && steps_hold h ns is) then (Some (operator_item h ns is)) else None)
evaluated_left h ns is l = ap (λ b. if (not (is_open h is) && all_in_limits (map (operator_item h ns) (if b then (prefixes is) else (is ∷ [])))) then (Some (operator_item h ns is)) else None) l

-- ---- an argument more

some_same : {X : Type 0} (x y : X) → Some x ≡ Some y → x ≡ y
some_same x y e = cc

limited_some : (i x : Item) → limited i ≡ Some x → (i ≡ x) × (is_in_limits i.value ≡ true)
limited_some i x e = let f = if_some (is_in_limits i.value) i x e in (f.1, f.0)

plain_more : (h : Head) (ns : List ℤ) (i j : Item) (is : List Item) (k x : Item) → is_fold h ≡ true → ((js : List Item) → is_open h js ≡ false) → is_left_associative h ≡ false →
    evaluated h (Some ns) (Some (i ∷ j ∷ is)) ≡ Some x → evaluated h (Some ns) (Some (i ∷ j ∷ (is ++ k ∷ []))) ≡ evaluated h (Some ns) (Some (x ∷ k ∷ []))
plain_more h ns i j is k x f o l e =
    let q = limited_some (operator_item h ns (i ∷ j ∷ is)) x (sym (evaluated_plain h ns (i ∷ j ∷ is) (o _) l) ∙ e) in
    evaluated_plain h ns (i ∷ j ∷ (is ++ k ∷ [])) (o _) l
    ∙ ap limited (operator_more h f ns i j is k ∙ ap (λ y. operator_item h ns (y ∷ k ∷ [])) q.0)
    ∙ sym (evaluated_plain h ns (x ∷ k ∷ []) (o _) l)

both : (a b : Bool) → (a && b) ≡ true → (a ≡ true) × (b ≡ true)
both true b e = (refl, e)
both false b e = cc

map_map : {X Y Z : Type 0} (f : Y → Z) (g : X → Y) (xs : List X) → map f (map g xs) ≡ map (λ x. f (g x)) xs
map_map f g [] = refl
map_map f g (x ∷ xs) = ap (λ zs. f (g x) ∷ zs) (map_map f g xs)

-- the last of the prefixes is the whole list
last_holds : (f : List Item → Item) (i : Item) (is : List Item) → all_in_limits (map f (prefixes (i ∷ is))) ≡ true → is_in_limits (f (i ∷ is)).value ≡ true
last_holds f i [] e = (both (is_in_limits (f (i ∷ [])).value) true e).0
last_holds f i (j ∷ is) e =
    let rest = (both (is_in_limits (f (i ∷ [])).value) _ e).1 in
    last_holds (λ ks. f (i ∷ ks)) j is (ap all_in_limits (sym (map_map f (λ ks. i ∷ ks) (prefixes (j ∷ is)))) ∙ rest)

turned : (a : Bool) → not a ≡ true → a ≡ false
turned false e = refl
turned true e = cc

left_more : (h : Head) (ns : List ℤ) (i j : Item) (is : List Item) (k x : Item) → is_fold h ≡ true → is_left_associative h ≡ true →
    ((y : Item) → is_in_limits (operator_item h ns (y ∷ [])).value ≡ is_in_limits y.value) →
    (is_open h (i ∷ j ∷ is) ≡ false → is_open h (i ∷ j ∷ (is ++ k ∷ [])) ≡ is_open h (x ∷ k ∷ [])) →
    evaluated h (Some ns) (Some (i ∷ j ∷ is)) ≡ Some x → evaluated h (Some ns) (Some (i ∷ j ∷ (is ++ k ∷ []))) ≡ evaluated h (Some ns) (Some (x ∷ k ∷ []))
left_more h ns i j is k x f l alone o e =
    let F : Bool → Bool → Item → Option Item = λ a b y. if (not a && b) then (Some y) else None in
    let op : List Item → Item = operator_item h ns in
    let q = if_some (not (is_open h (i ∷ j ∷ is)) && steps_hold h ns (i ∷ j ∷ is)) (op (i ∷ j ∷ is)) x (sym (evaluated_left h ns (i ∷ j ∷ is) l) ∙ e) in
    let b = both (not (is_open h (i ∷ j ∷ is))) (steps_hold h ns (i ∷ j ∷ is)) q.0 in
    let x_in : is_in_limits x.value ≡ true = ap (λ y. is_in_limits y.value) (sym q.1) ∙ last_holds op i (j ∷ is) b.1 in
    let more : op (i ∷ j ∷ (is ++ k ∷ [])) ≡ op (x ∷ k ∷ []) = operator_more h f ns i j is k ∙ ap (λ y. op (y ∷ k ∷ [])) q.1 in
    let steps : steps_hold h ns (i ∷ j ∷ (is ++ k ∷ [])) ≡ (is_in_limits (op (x ∷ k ∷ [])).value && true) =
    steps_more h ns (i ∷ j ∷ is) k ∙ ap (λ t. t && (is_in_limits (op (i ∷ j ∷ (is ++ k ∷ []))).value && true)) b.1 ∙ ap (λ y. is_in_limits y.value && true) more in
    evaluated_left h ns (i ∷ j ∷ (is ++ k ∷ [])) l
    ∙ ap (λ a. F a (steps_hold h ns (i ∷ j ∷ (is ++ k ∷ []))) (op (i ∷ j ∷ (is ++ k ∷ [])))) (o (turned _ b.0))
    ∙ ap (λ t. F (is_open h (x ∷ k ∷ [])) t (op (i ∷ j ∷ (is ++ k ∷ [])))) steps
    ∙ ap (F (is_open h (x ∷ k ∷ [])) (is_in_limits (op (x ∷ k ∷ [])).value && true)) more
    ∙ ap (λ t. F (is_open h (x ∷ k ∷ [])) (t && (is_in_limits (op (x ∷ k ∷ [])).value && true)) (op (x ∷ k ∷ []))) (sym (alone x ∙ x_in))
    ∙ sym (evaluated_left h ns (x ∷ k ∷ []) l)

any_append : (is js : List Item) → list_any (λ j. is_zero (whole_of j.value)) (is ++ js) ≡ (list_any (λ j. is_zero (whole_of j.value)) is || list_any (λ j. is_zero (whole_of j.value)) js)
any_append [] js = refl
any_append (i ∷ is) js = ap (λ b. is_zero (whole_of i.value) || b) (any_append is js) ∙ regroup (is_zero (whole_of i.value)) _ _
  where
    regroup : (a b c : Bool) → (a || (b || c)) ≡ ((a || b) || c)
    regroup true b c = refl
    regroup false b c = refl

-- the value of an operator on one argument more
pub evaluated_more : (h : Head) → is_fold h ≡ true → (ns : List ℤ) (i j : Item) (is : List Item) (k x : Item) → evaluated h (Some ns) (Some (i ∷ j ∷ is)) ≡ Some x →
    evaluated h (Some ns) (Some (i ∷ j ∷ (is ++ k ∷ []))) ≡ evaluated h (Some ns) (Some (x ∷ k ∷ []))
evaluated_more head.And f ns i j is k x e = plain_more head.And ns i j is k x f (λ js. refl) refl e
evaluated_more head.Or f ns i j is k x e = plain_more head.Or ns i j is k x f (λ js. refl) refl e
evaluated_more head.Xor f ns i j is k x e = left_more head.Xor ns i j is k x f refl (λ y. refl) (λ o. refl) e
evaluated_more head.Minus f ns i j is k x e = left_more head.Minus ns i j is k x f refl (λ y. refl) (λ o. refl) e
evaluated_more head.Add f ns i j is k x e = left_more head.Add ns i j is k x f refl (λ y. refl) (λ o. refl) e
evaluated_more head.Mul f ns i j is k x e = left_more head.Mul ns i j is k x f refl (λ y. refl) (λ o. refl) e
evaluated_more head.Div f ns i j is k x e =
    left_more head.Div ns i j is k x f refl (λ y. refl) (λ o. any_append (j ∷ is) (k ∷ []) ∙ ap (λ b. b || list_any (λ y. is_zero (whole_of y.value)) (k ∷ [])) o) e
evaluated_more head.BvAdd f ns i j is k x e = plain_more head.BvAdd ns i j is k x f (λ js. refl) refl e
evaluated_more head.BvMul f ns i j is k x e = plain_more head.BvMul ns i j is k x f (λ js. refl) refl e
evaluated_more head.BvAnd f ns i j is k x e = plain_more head.BvAnd ns i j is k x f (λ js. refl) refl e
evaluated_more head.BvOr f ns i j is k x e = plain_more head.BvOr ns i j is k x f (λ js. refl) refl e
evaluated_more head.BvXor f ns i j is k x e = plain_more head.BvXor ns i j is k x f (λ js. refl) refl e
evaluated_more head.Concat f ns i j is k x e = plain_more head.Concat ns i j is k x f (λ js. refl) refl e
evaluated_more h f ns i j is k x e = cc

-- ---- no value, whatever follows

left_cut : (h : Head) (ns : List ℤ) (is js : List Item) → is_left_associative h ≡ true → (is_open h is ≡ true → is_open h (is ++ js) ≡ true) →
    evaluated h (Some ns) (Some is) ≡ None → evaluated h (Some ns) (Some (is ++ js)) ≡ None
left_cut h ns is js l o e = go (is_open h is) (steps_hold h ns is) refl refl (sym (evaluated_left h ns is l) ∙ e)
  where
    cut_by : (a b : Bool) → not a && b ≡ false → is_open h (is ++ js) ≡ a → steps_hold h ns (is ++ js) ≡ b → evaluated h (Some ns) (Some (is ++ js)) ≡ None
    cut_by a b f p q =
        evaluated_left h ns (is ++ js) l
        ∙ ap (λ t. if (not t && steps_hold h ns (is ++ js)) then (Some (operator_item h ns (is ++ js))) else None) p
        ∙ ap (λ t. if (not a && t) then (Some (operator_item h ns (is ++ js))) else None) q
        ∙ ap (λ t. if t then (Some (operator_item h ns (is ++ js))) else None) f

    none_and : (a : Bool) → (not a && false) ≡ false
    none_and true = refl
    none_and false = refl

    go : (a b : Bool) → is_open h is ≡ a → steps_hold h ns is ≡ b → (if (not a && b) then (Some (operator_item h ns is)) else None) ≡ None → evaluated h (Some ns) (Some (is ++ js)) ≡ None
    go true b p q e = cut_by true (steps_hold h ns (is ++ js)) refl (o p) refl
    go false true p q e = cc
    go false false p q e = cut_by (is_open h (is ++ js)) false (none_and (is_open h (is ++ js))) refl (no_steps h ns is js q)

wider : (i : Item) (is js : List Item) → width_of (concat_all (i ∷ is)).sort ≤ width_of (concat_all (i ∷ (is ++ js))).sort
wider i is [] = let e = ap (λ xs. width_of (concat_all (i ∷ xs)).sort) (append-nil is) in omega (arith, e)
wider i is (j ∷ js) =
    let h = wider i (is ++ j ∷ []) js in
    let e = ap (λ xs. width_of (concat_all (i ∷ xs)).sort) (append_assoc is (j ∷ []) js) in
    let f = ap (λ x. width_of x.sort) (concat_more i is j) in
    omega (arith, h, e, f)

over_limit : (w n : ℕ) → limited (bits w n) ≡ None → 1 ≤ w → most_bits < w
over_limit w n e low = go (leb_tells w most_bits)
  where
    go : ((nat_le w most_bits ≡ true) × (w ≤ most_bits)) ⊎ ((nat_le w most_bits ≡ false) × (most_bits < w)) → most_bits < w
    go (inl t) = absurd (let never : ⊥ = cc (e, ap (λ b. if b then (Some (bits w n)) else None) (bits_in_limits w n low t.1)) in never)
    go (inr t) = t.1

none_over : (w n : ℕ) → most_bits < w → limited (bits w n) ≡ None
none_over w n h = go (leb_tells w most_bits)
  where
    none_and : (a : Bool) → (a && false) ≡ false
    none_and true = refl
    none_and false = refl

    go : ((nat_le w most_bits ≡ true) × (w ≤ most_bits)) ⊎ ((nat_le w most_bits ≡ false) × (most_bits < w)) → limited (bits w n) ≡ None
    go (inl t) = absurd (omega (arith, h, t.1))
    go (inr t) = ap (λ b. if (nat_le 1 w && b) then (Some (bits w n)) else None) t.0 ∙ ap (λ b. if b then (Some (bits w n)) else None) (none_and (nat_le 1 w))

concat_cut : (ns : List ℤ) (i j : Item) (is js : List Item) → 1 ≤ width_of (concat_all (i ∷ j ∷ is)).sort →
    evaluated head.Concat (Some ns) (Some (i ∷ j ∷ is)) ≡ None → evaluated head.Concat (Some ns) (Some (i ∷ j ∷ (is ++ js))) ≡ None
concat_cut ns i j is js low e =
    let w = width_of (concat_all (i ∷ j ∷ is)).sort in
    let high = over_limit w _ (sym (evaluated_plain head.Concat ns (i ∷ j ∷ is) refl refl) ∙ e) low in
    let more = wider i (j ∷ is) js in
    evaluated_plain head.Concat ns (i ∷ j ∷ (is ++ js)) refl refl ∙ none_over (width_of (concat_all (i ∷ j ∷ (is ++ js))).sort) _ (omega (arith, high, more))

or_left : (a b : Bool) → a ≡ true → (a || b) ≡ true
or_left true b e = refl
or_left false b e = cc

-- an operator on bit vectors of one width has a value
never_bits : (h : Head) → is_on_bits h ≡ true → (ns : List ℤ) (is : List Item) (w n : ℕ) → operator_item h ns is ≡ bits w n → 1 ≤ w → w ≤ most_bits → evaluated h (Some ns) (Some is) ≡ None → ⊥
never_bits h p ns is w n e low high q = let never : ⊥ = cc (q, evaluated_bits h ns is (bits w n) p (bits_in_limits w n low high) e) in never

-- where there is no value after these arguments, there is none after more; x is what was made of those before the last
pub evaluated_cut : (h : Head) → is_fold h ≡ true → (ns : List ℤ) (i j : Item) (is : List Item) (k x : Item) (js : List Item) → is_in_limits x.value ≡ true →
    (is_on_bits h ≡ true → (1 ≤ width_of x.sort) × (width_of x.sort ≤ most_bits)) →
    operator_item h ns (i ∷ j ∷ is) ≡ operator_item h ns (x ∷ k ∷ []) →
    evaluated h (Some ns) (Some (x ∷ k ∷ [])) ≡ None → evaluated h (Some ns) (Some (i ∷ j ∷ is)) ≡ None → evaluated h (Some ns) (Some (i ∷ j ∷ (is ++ js))) ≡ None
evaluated_cut head.And f ns i j is k x js l w same q e = cc
evaluated_cut head.Or f ns i j is k x js l w same q e = cc
evaluated_cut head.Xor f ns i j is k x js l w same q e = absurd (let never : ⊥ = cc (q, ap (λ b. if (b && true) then (Some (operator_item head.Xor ns (x ∷ k ∷ []))) else None) l) in never)
evaluated_cut head.Minus f ns i j is k x js l w same q e = left_cut head.Minus ns (i ∷ j ∷ is) js refl (λ o. o) e
evaluated_cut head.Add f ns i j is k x js l w same q e = left_cut head.Add ns (i ∷ j ∷ is) js refl (λ o. o) e
evaluated_cut head.Mul f ns i j is k x js l w same q e = left_cut head.Mul ns (i ∷ j ∷ is) js refl (λ o. o) e
evaluated_cut head.Div f ns i j is k x js l w same q e = left_cut head.Div ns (i ∷ j ∷ is) js refl (λ o. any_append (j ∷ is) js ∙ or_left _ _ o) e
evaluated_cut head.BvAdd f ns i j is k x js l w same q e = absurd (never_bits head.BvAdd refl ns (x ∷ k ∷ []) (width_of x.sort) _ refl (w refl).0 (w refl).1 q)
evaluated_cut head.BvMul f ns i j is k x js l w same q e = absurd (never_bits head.BvMul refl ns (x ∷ k ∷ []) (width_of x.sort) _ refl (w refl).0 (w refl).1 q)
evaluated_cut head.BvAnd f ns i j is k x js l w same q e = absurd (never_bits head.BvAnd refl ns (x ∷ k ∷ []) (width_of x.sort) _ refl (w refl).0 (w refl).1 q)
evaluated_cut head.BvOr f ns i j is k x js l w same q e = absurd (never_bits head.BvOr refl ns (x ∷ k ∷ []) (width_of x.sort) _ refl (w refl).0 (w refl).1 q)
evaluated_cut head.BvXor f ns i j is k x js l w same q e = absurd (never_bits head.BvXor refl ns (x ∷ k ∷ []) (width_of x.sort) _ refl (w refl).0 (w refl).1 q)
evaluated_cut head.Concat f ns i j is k x js l w same q e = concat_cut ns i j is js (let r = ap (λ y. width_of y.sort) same in let a = (w refl).0 in omega (arith, r, a)) e
evaluated_cut h f ns i j is k x js l w same q e = cc
