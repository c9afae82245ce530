-- The bounds of a rule: what is written of those that were read is read back.
use Rattle.std.proofs.Common.{◌≡◌, ℕ, Bool, true, false, List, [], ◌∷◌, ◌++◌, map, None, Ok, refl, sym, ap, ◌∙◌, subst, arith, append_assoc, append-nil}
use Rattle.std.specs.Prelude.{pos, negsuc, ◌+ℤ◌, codes, if◌then◌else◌}
use Rattle.std.proofs.Math.IntN.{+ℤ_idr, *ℤ-zero}
use Rattle.std.specs.Fmt.{decimal, digits}
use Rattle.rare_base.specs.declared.answers.Reason.TheVariants as reason
use Rattle.rare_linear.specs.Linears.{LinearExpression, IsNormal, linear, number, with_parts}
use Rattle.rare_linear.specs.Entailment.{minus}
use Rattle.rare_linear.specs.declared.constraint.Constraint.{Constraint}
use Rattle.rare_linear.proofs.NormalForms.{with_parts-nil}
use Rattle.rare_sexpr.specs.declared.tree.AtomKind.TheVariants as atom
use Rattle.rare_sexpr.specs.declared.tree.Sexpr.{Sexpr}
use Rattle.rare_sexpr.specs.Tree.{kind_of, text_of, items_of}
use Rattle.rare_sort.specs.SortRules.{less_one}
use Rattle.rare_scope.specs.declared.relation.Relation.{Relation}
use Rattle.rare_scope.specs.declared.relation.Relation.TheVariants.{AtLeast, Above, AtMost, Below, Equal}
use Rattle.rare_scope.specs.ConstraintText.{relations, relation_or, relation_at, difference, floors, constraint_of, constraints_at}
use Rattle.rare_scope.specs.Entries.{entry}
use Rattle.rare_scope.specs.LinearText.{fitting, linear_at}
use Rattle.rare_scope.specs.Printing.{linear_text_by}
use Rattle.rare_scope.specs.Reading.{refused, go_on, is_list_kind, is_symbol_kind}
use Rattle.rare_scope.proofs.InOrder.{went, same_Ok}
use Rattle.rare_rule.specs.declared.param.Param.{Param}
use Rattle.rare_parse.specs.RuleNames.{rule_widths}
use Rattle.rare_parse.specs.RuleText.{bounds_of, floors_from, bounds_at}
use Rattle.rare_term_printing.specs.OperatorTexts.{list_text}
use Rattle.rare_rule_printing.specs.ConstraintPrinting.{number_text, constraint_text}
use Rattle.rare_rule_printing.specs.inner.RulePieces.{all_spaced}
use Rattle.rare_reread.specs.ReadsAs.{ReadsAs, RunsAs, IsListOf}
use Rattle.rare_reread.proofs.Atoms.{IsAtom, kind_is, text_is, list_kind, list_items, word_reads}
use Rattle.rare_reread.proofs.Joining.{Begins, nothing_runs, more_runs, list_reads}
use Rattle.rare_reread.proofs.Linears.{so_reads, so_runs, fits, number_reads}
use Rattle.rare_reread.proofs.Lists.{IsEnd, HasThree, three_read}
use Rattle.rare_rule_reread.proofs.NameSums.{minus_spoken, less_one_spoken}
use Rattle.rare_rule_reread.proofs.Spoken.{IsNameSpoken, Speaks, AllSpeak, AreSpoken, linear_speaks, linear_back}

-- an expression less 0
less_nothing : (l : LinearExpression) → IsNormal l.parts → minus l (number (pos 0)) ≡ l
less_nothing l normal =
    ap (λ c. linear c (with_parts l.parts [])) (ap (λ z. l.constant +ℤ z) (*ℤ-zero (negsuc 0)) ∙ +ℤ_idr l.constant) ∙ ap (linear l.constant) (with_parts-nil 0 l.parts normal)

module _ (ps : List Param) where
  abbrev Names : ℕ → Type 0
  Names = IsNameSpoken ps ps

  -- ---- written

  abbrev IsFloor : LinearExpression → Sexpr → Type 0
  IsFloor l x = constraints_at (rule_widths ps) x ≡ Ok (l ∷ [])

  abbrev IsExpression : LinearExpression → Sexpr → Type 0
  IsExpression l x = linear_at (rule_widths ps) x ≡ Ok l

  zero_text : decimal 0 ≡ codes "0"
  unfolding digits
  zero_text = refl

  zero_reads : ReadsAs 4 (codes "0") (IsExpression (number (pos 0)))
  zero_reads = so_reads 2 4 (decimal 0) (codes "0") (IsExpression (number (pos 0))) (IsExpression (number (pos 0))) (omega arith) zero_text (λ e g. g) (number_reads (rule_widths ps) (pos 0) (record { sfits = omega arith }))

  relation_is : (h : Sexpr) → IsAtom atom.Symbol (codes ">=") h → relation_at h ≡ Ok AtLeast
  relation_is h a = ap (relation_or h) (ap (λ k. if is_symbol_kind k then entry relations (text_of h) else None) (kind_is atom.Symbol (codes ">=") h a) ∙ ap (entry relations) (text_is atom.Symbol (codes ">=") h a))

  floor_again : (l : LinearExpression) → Speaks ps ps l → (x : Sexpr) → HasThree (IsAtom atom.Symbol (codes ">=")) (IsExpression l) (IsExpression (number (pos 0))) x → IsFloor l x
  floor_again l s x h =
      ap (constraint_of (rule_widths ps) x) h.items
      ∙ ap (λ q. go_on q (λ r. go_on (linear_at (rule_widths ps) h.second) (λ a. go_on (linear_at (rule_widths ps) h.third) (λ b. floors x a b r)))) (relation_is h.first h.is_first)
      ∙ ap (λ q. go_on q (λ a. go_on (linear_at (rule_widths ps) h.third) (λ b. floors x a b AtLeast))) h.is_second
      ∙ ap (λ q. go_on q (λ b. floors x l b AtLeast)) h.is_third
      ∙ ap (λ q. go_on q (λ d. Ok (d ∷ []))) (ap (fitting x) (less_nothing l s.kept.normal) ∙ fits x l s.kept.within)

  floor_reads : (l : LinearExpression) → Speaks ps ps l → ReadsAs 5 (constraint_text ps (record { floor = l })) (IsFloor l)
  floor_reads l s =
      let text = linear_text_by (number_text ps) l in
      so_reads 5 5 (40 ∷ (codes ">=" ++ (32 ∷ (text ++ (32 ∷ (codes "0" ++ 41 ∷ [])))))) (constraint_text ps (record { floor = l })) (HasThree (IsAtom atom.Symbol (codes ">=")) (IsExpression l) (IsExpression (number (pos 0)))) (IsFloor l) (omega arith) refl
      (floor_again l s)
      (three_read 4 (codes ">=") text (codes "0") (IsAtom atom.Symbol (codes ">=")) (IsExpression l) (IsExpression (number (pos 0))) (word_reads 4 (codes ">=") refl) (linear_back ps ps l s) zero_reads)

  -- constraints that are read as these floors, behind any
  abbrev AreFloors : List LinearExpression → List Sexpr → Type 0
  AreFloors ls xs = (done : List LinearExpression) → floors_from ps done xs ≡ Ok (done ++ ls)

  none_are : (xs : List Sexpr) → xs ≡ [] → AreFloors [] xs
  none_are xs none = subst (AreFloors []) (sym none) (λ done. ap Ok (sym (append-nil done)))

  more_are : (l : LinearExpression) (ls : List LinearExpression) (xs : List Sexpr) → Begins (IsFloor l) (AreFloors ls) xs → AreFloors (l ∷ ls) xs
  more_are l ls xs b =
      subst (AreFloors (l ∷ ls)) (sym b.both)
      (λ done. ap (λ q. go_on q (λ fs. floors_from ps (done ++ fs) b.items)) b.is ∙ b.are (done ++ l ∷ []) ∙ ap Ok (append_assoc done (l ∷ []) ls))

  abbrev texts : List LinearExpression → List (List ℕ)
  texts ls = map (constraint_text ps) (bounds_of ls)

  floors_run : (ls : List LinearExpression) → AllSpeak ps ps ls → RunsAs 5 (all_spaced (texts ls)) (AreFloors ls)
  floors_run [] speak = so_runs 5 5 [] [] IsEnd (AreFloors []) (omega arith) refl none_are (nothing_runs 5)
  floors_run (l ∷ ls) speak =
      let text = constraint_text ps (record { floor = l }) in
      so_runs 5 5 (32 ∷ (text ++ all_spaced (texts ls))) (all_spaced (texts (l ∷ ls))) (Begins (IsFloor l) (AreFloors ls)) (AreFloors (l ∷ ls)) (omega arith) refl (more_are l ls)
      (more_runs 5 text (all_spaced (texts ls)) (IsFloor l) (AreFloors ls) (floor_reads l speak.0) (floors_run ls speak.1))

  floors_list : (l : LinearExpression) (ls : List LinearExpression) (x : Sexpr) → IsListOf (IsFloor l) (AreFloors ls) x → bounds_at ps x ≡ Ok (bounds_of (l ∷ ls))
  floors_list l ls x i =
      let items : items_of x ≡ i.first ∷ i.items = ap items_of i.list ∙ list_items i.place (i.first ∷ i.items) in
      ap (λ b. if b then go_on (floors_from ps [] (items_of x)) (λ fs. Ok (bounds_of fs)) else refused x reason.BadForm) (ap is_list_kind (ap kind_of i.list ∙ list_kind i.place (i.first ∷ i.items)))
      ∙ ap (λ xs. go_on (floors_from ps [] xs) (λ fs. Ok (bounds_of fs))) items
      ∙ ap (λ q. go_on (go_on q (λ fs. floors_from ps fs i.items)) (λ fs. Ok (bounds_of fs))) i.is
      ∙ ap (λ q. go_on q (λ fs. Ok (bounds_of fs))) (i.are (l ∷ []))

  -- some bounds, in their list
  pub bounds_reads : (l : LinearExpression) (ls : List LinearExpression) → AllSpeak ps ps (l ∷ ls) → ReadsAs 6 (list_text (map (constraint_text ps) (bounds_of (l ∷ ls)))) (λ x. bounds_at ps x ≡ Ok (bounds_of (l ∷ ls)))
  bounds_reads l ls speak =
      let text = list_text (texts (l ∷ ls)) in
      so_reads 6 6 text text (IsListOf (IsFloor l) (AreFloors ls)) (λ x. bounds_at ps x ≡ Ok (bounds_of (l ∷ ls))) (omega arith) refl (floors_list l ls)
      (list_reads 5 (constraint_text ps (record { floor = l })) (all_spaced (texts ls)) (IsFloor l) (AreFloors ls) (floor_reads l speak.0) (floors_run ls speak.1))

  -- ---- read

  append_speak : (ls ms : List LinearExpression) → AllSpeak ps ps ls → AllSpeak ps ps ms → AllSpeak ps ps (ls ++ ms)
  append_speak [] ms g h = h
  append_speak (l ∷ ls) ms g h = (g.0, append_speak ls ms g.1 h)

  module _ (spoken : AreSpoken ps ps) where
    one_speaks : (l : LinearExpression) (fs : List LinearExpression) → Speaks ps ps l → ◌≡◌ {A = List LinearExpression} (l ∷ []) fs → AllSpeak ps ps fs
    one_speaks l fs s is = subst (AllSpeak ps ps) is (s, tt)

    -- a difference alone
    plain_floor : (e : Sexpr) (a b : LinearExpression) (fs : List LinearExpression) → Speaks ps ps a → Speaks ps ps b → go_on (difference e a b) (λ d. Ok (d ∷ [])) ≡ Ok fs → AllSpeak ps ps fs
    plain_floor e a b fs sa sb is =
        let d = went (difference e a b) (λ d. Ok (d ∷ [])) fs is in
        one_speaks d.0 fs (minus_spoken Names e a b d.0 d.1 sa sb) (same_Ok (d.0 ∷ []) fs d.2)

    -- a difference less one
    strict_floor : (e : Sexpr) (a b : LinearExpression) (fs : List LinearExpression) → Speaks ps ps a → Speaks ps ps b → go_on (go_on (difference e a b) (λ d. fitting e (less_one d))) (λ d. Ok (d ∷ [])) ≡ Ok fs → AllSpeak ps ps fs
    strict_floor e a b fs sa sb is =
        let f = went (go_on (difference e a b) (λ d. fitting e (less_one d))) (λ d. Ok (d ∷ [])) fs is in
        let d = went (difference e a b) (λ d. fitting e (less_one d)) f.0 f.1 in
        one_speaks f.0 fs (less_one_spoken Names e d.0 f.0 d.2 (minus_spoken Names e a b d.0 d.1 sa sb)) (same_Ok (f.0 ∷ []) fs f.2)

    floors_speak : (e : Sexpr) (a b : LinearExpression) (r : Relation) (fs : List LinearExpression) → Speaks ps ps a → Speaks ps ps b → floors e a b r ≡ Ok fs → AllSpeak ps ps fs
    floors_speak e a b AtLeast fs sa sb is = plain_floor e a b fs sa sb is
    floors_speak e a b AtMost fs sa sb is = plain_floor e b a fs sb sa is
    floors_speak e a b Above fs sa sb is = strict_floor e a b fs sa sb is
    floors_speak e a b Below fs sa sb is = strict_floor e b a fs sb sa is
    floors_speak e a b Equal fs sa sb is =
        let d = went (difference e a b) (λ d. go_on (difference e b a) (λ f. Ok (d ∷ f ∷ []))) fs is in
        let f = went (difference e b a) (λ f. Ok (d.0 ∷ f ∷ [])) fs d.2 in
        subst (AllSpeak ps ps) (same_Ok (d.0 ∷ f.0 ∷ []) fs f.2) (minus_spoken Names e a b d.0 d.1 sa sb, (minus_spoken Names e b a f.0 f.1 sb sa, tt))

    constraint_speaks : (e : Sexpr) (xs : List Sexpr) (fs : List LinearExpression) → constraint_of (rule_widths ps) e xs ≡ Ok fs → AllSpeak ps ps fs
    constraint_speaks e [] fs is = absurd cc
    constraint_speaks e (h ∷ []) fs is = absurd cc
    constraint_speaks e (h ∷ x ∷ []) fs is = absurd cc
    constraint_speaks e (h ∷ x ∷ y ∷ []) fs is =
        let r = went (relation_at h) (λ r. go_on (linear_at (rule_widths ps) x) (λ a. go_on (linear_at (rule_widths ps) y) (λ b. floors e a b r))) fs is in
        let a = went (linear_at (rule_widths ps) x) (λ a. go_on (linear_at (rule_widths ps) y) (λ b. floors e a b r.0)) fs r.2 in
        let b = went (linear_at (rule_widths ps) y) (λ b. floors e a.0 b r.0) fs a.2 in
        floors_speak e a.0 b.0 r.0 fs (linear_speaks ps ps spoken x a.0 a.1) (linear_speaks ps ps spoken y b.0 b.1) b.2
    constraint_speaks e (h ∷ x ∷ y ∷ z ∷ zs) fs is = absurd cc

    all_speak : (done : List LinearExpression) (xs : List Sexpr) (fs : List LinearExpression) → AllSpeak ps ps done → floors_from ps done xs ≡ Ok fs → AllSpeak ps ps fs
    all_speak done [] fs s is = subst (AllSpeak ps ps) (same_Ok done fs is) s
    all_speak done (x ∷ xs) fs s is =
        let f = went (constraints_at (rule_widths ps) x) (λ fs. floors_from ps (done ++ fs) xs) fs is in
        all_speak (done ++ f.0) xs fs (append_speak done f.0 s (constraint_speaks x (items_of x) f.0 f.1)) f.2

    -- the floors of bounds that were read
    pub bounds_speak : (e : Sexpr) (bs : List Constraint) → bounds_at ps e ≡ Ok bs → (fs : List LinearExpression) × AllSpeak ps ps fs × (bounds_of fs ≡ bs)
    bounds_speak e bs is = go (is_list_kind (kind_of e)) is
      where
        go : (b : Bool) → (if b then go_on (floors_from ps [] (items_of e)) (λ fs. Ok (bounds_of fs)) else refused e reason.BadForm) ≡ Ok bs → (fs : List LinearExpression) × AllSpeak ps ps fs × (bounds_of fs ≡ bs)
        go true is = let f = went (floors_from ps [] (items_of e)) (λ fs. Ok (bounds_of fs)) bs is in (f.0, all_speak [] (items_of e) f.0 tt f.1, same_Ok (bounds_of f.0) bs f.2)
        go false is = absurd cc
