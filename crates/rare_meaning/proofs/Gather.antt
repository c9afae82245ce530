-- An associative operator over all its arguments, for every operator whose arguments may be a list.
use Rattle.std.proofs.Common.{◌≡◌, List, [], ◌∷◌, ◌++◌, map, All, refl, ap, ◌∙◌, sym, subst}
use Rattle.std.specs.Prelude.{fold}
use Rattle.std.proofs.lemmas.List.Elements.{All-nil, All-cons, All-head, All-tail, All-append}
use Rattle.rare_meaning.specs.Values.{Value}
use Rattle.rare_meaning.specs.Splicing.{from_left}

-- numbers of a kind, as values
pub record Carrier (A : Type 0) : Type 0 where
  pub make : A → Value
  pub read : Value → A
  pub mul : A → A → A
  pub unit : A

abbrev pub op_of : {A : Type 0} → Carrier A → Value → Value → Value
op_of c a b = c.make (c.mul (c.read a) (c.read b))

abbrev pub unit_of : {A : Type 0} → Carrier A → Value
unit_of c = c.make c.unit

abbrev pub total : {A : Type 0} → Carrier A → List A → A
total c [] = c.unit
total c (x ∷ xs) = c.mul x (total c xs)

module _ (A : Type 0) (In : A → Type 0) (c : Carrier A) where
  pub record IsOperator : Type 0 where
    pub assoc : (x y z : A) → c.mul (c.mul x y) z ≡ c.mul x (c.mul y z)
    pub left : (x : A) → In x → c.mul c.unit x ≡ x
    pub right : (x : A) → In x → c.mul x c.unit ≡ x
    pub closed : (x y : A) → In x → In y → In (c.mul x y)
    pub unit_in : In c.unit
    pub read-make : (x : A) → c.read (c.make x) ≡ x

  -- the value is one of the kind
  pub record Is (v : Value) : Type 0 where
    pub made : c.make (c.read v) ≡ v
    pub is_in : In (c.read v)

  module _ (laws : IsOperator) where
    pub total_in : (vs : List Value) → All Is vs → In (total c (map c.read vs))
    total_in [] h = laws.unit_in
    total_in (v ∷ vs) h = laws.closed _ _ (All-head Is v vs h).is_in (total_in vs (All-tail Is v vs h))

    pub total-append : (xs ys : List Value) → All Is ys → total c (map c.read (xs ++ ys)) ≡ c.mul (total c (map c.read xs)) (total c (map c.read ys))
    total-append [] ys h = sym (laws.left _ (total_in ys h))
    total-append (x ∷ xs) ys h =
        ap (c.mul (c.read x)) (total-append xs ys h) ∙ sym (laws.assoc (c.read x) (total c (map c.read xs)) (total c (map c.read ys)))

    product_is : (x y : Value) → Is x → Is y → Is (op_of c x y)
    product_is x y hx hy =
        let m = c.mul (c.read x) (c.read y) in
        record { made = ap c.make (laws.read-make m); is_in = subst In (sym (laws.read-make m)) (laws.closed (c.read x) (c.read y) hx.is_in hy.is_in) }

    fold-total : (x : Value) (vs : List Value) → Is x → All Is vs → fold (op_of c) x vs ≡ c.make (c.mul (c.read x) (total c (map c.read vs)))
    fold-total x [] i h = sym i.made ∙ ap c.make (sym (laws.right (c.read x) i.is_in))
    fold-total x (w ∷ ws) i h =
        let first = All-head Is w ws h in
        fold-total (op_of c x w) ws (product_is x w i first) (All-tail Is w ws h)
        ∙ ap (λ r. c.make (c.mul r (total c (map c.read ws)))) (laws.read-make (c.mul (c.read x) (c.read w)))
        ∙ ap c.make (laws.assoc (c.read x) (c.read w) (total c (map c.read ws)))

    -- from which side the operator is applied makes no difference
    pub gathered-total : (vs : List Value) → All Is vs → from_left (op_of c) (unit_of c) vs ≡ c.make (total c (map c.read vs))
    gathered-total [] h = refl
    gathered-total (v ∷ vs) h = fold-total v vs (All-head Is v vs h) (All-tail Is v vs h)

    pub gathered_is : (vs : List Value) → All Is vs → Is (from_left (op_of c) (unit_of c) vs)
    gathered_is vs h =
        let e = gathered-total vs h in
        let back : c.read (from_left (op_of c) (unit_of c) vs) ≡ total c (map c.read vs) = ap c.read e ∙ laws.read-make _ in
        record { made = ap c.make back ∙ sym e; is_in = rw back (total_in vs h) }

    read_gathered : (vs : List Value) → All Is vs → c.read (from_left (op_of c) (unit_of c) vs) ≡ total c (map c.read vs)
    read_gathered vs h = ap c.read (gathered-total vs h) ∙ laws.read-make _

    -- a list of arguments in one argument's place
    pub gathered_flat : (xs ys zs : List Value) → All Is xs → All Is ys → All Is zs →
        from_left (op_of c) (unit_of c) (xs ++ from_left (op_of c) (unit_of c) ys ∷ zs) ≡ from_left (op_of c) (unit_of c) (xs ++ (ys ++ zs))
    gathered_flat xs ys zs hx hy hz =
        let gy = from_left (op_of c) (unit_of c) ys in
        let X = total c (map c.read xs) in
        let Z = total c (map c.read zs) in
        let tail = All-cons Is gy zs (gathered_is ys hy) hz in
        let rest = All-append Is ys zs hy hz in
        gathered-total (xs ++ gy ∷ zs) (All-append Is xs (gy ∷ zs) hx tail)
        ∙ ap c.make (total-append xs (gy ∷ zs) tail ∙ ap (λ r. c.mul X (c.mul r Z)) (read_gathered ys hy) ∙ ap (c.mul X) (sym (total-append ys zs hz)) ∙ sym (total-append xs (ys ++ zs) rest))
        ∙ sym (gathered-total (xs ++ (ys ++ zs)) (All-append Is xs (ys ++ zs) hx rest))

    -- an argument that is neutral
    pub gathered_unit : (xs zs : List Value) → All Is xs → All Is zs →
        from_left (op_of c) (unit_of c) (xs ++ unit_of c ∷ zs) ≡ from_left (op_of c) (unit_of c) (xs ++ zs)
    gathered_unit xs zs hx hz = gathered_flat xs [] zs hx (All-nil Is) hz

    -- with a product that may be turned round, an argument may come first
    pub total_pull : ((x y : A) → c.mul x y ≡ c.mul y x) → (xs zs : List Value) (v : Value) → All Is zs →
        total c (map c.read (xs ++ v ∷ zs)) ≡ c.mul (c.read v) (total c (map c.read (xs ++ zs)))
    total_pull comm [] zs v h = refl
    total_pull comm (x ∷ xs) zs v h =
        ap (c.mul (c.read x)) (total_pull comm xs zs v h)
        ∙ sym (laws.assoc (c.read x) (c.read v) (total c (map c.read (xs ++ zs))))
        ∙ ap (λ r. c.mul r (total c (map c.read (xs ++ zs)))) (comm (c.read x) (c.read v))
        ∙ laws.assoc (c.read v) (c.read x) (total c (map c.read (xs ++ zs)))
