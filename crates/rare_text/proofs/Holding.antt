-- A problem that is being read, with one declaration, constraint or rewrite more.
use Rattle.std.proofs.Common.{◌≡◌, ℕ, suc, ◌+◌, ◌<◌, ◌≤◌, pos, ◌≤ℤ◌, List, [], ◌∷◌, ◌++◌, map, length, refl, sym, ap, ◌∙◌, subst, arith, length-append, Ok, flat_map, get_or}
use Rattle.std.proofs.lemmas.Grind.{flat_map-append}
use Rattle.std.proofs.lemmas.List.{map-append}
use Rattle.std.proofs.lemmas.List.Elements.{All-push}
use Rattle.rare_linear.specs.Linears.{LinearExpression, NamesBelow, linear_value}
use Rattle.rare_linear.specs.declared.constraint.Constraint.{Constraint}
use Rattle.rare_sort.specs.DeclaredSorts.{widths}
use Rattle.rare_sort.specs.Ids.{tree_at}
use Rattle.rare_sort.specs.SortOf.{sort_of}
use Rattle.rare_sort.specs.declared.declarations.Declarations.{Declarations}
use Rattle.rare_sort.specs.declared.sort.Signature.{Signature}
use Rattle.rare_sort.specs.declared.sort.Sort.{Sort}
use Rattle.rare_sort.specs.declared.tree.TermId.{TermId}
use Rattle.rare_term.specs.Lawful.{IsLawful}
use Rattle.rare_term.specs.State.{State, one_constraint, one_sort, one_symbol, one_width, under, Grows}
use Rattle.rare_scope.specs.Names.{Held, a_term, a_sort, a_symbol, a_width, names_of, meant, IsMeant, names_with, sort_number, symbol_number, width_number}
use Rattle.rare_scope.specs.Reading.{Read}
use Rattle.rare_scope.specs.declared.meaning.Meaning.{Meaning}
use Rattle.rare_scope.specs.declared.meaning.Meaning.TheVariants as meaning
use Rattle.rare_text.specs.declared.problem.Problem.{Problem}
use Rattle.rare_text.specs.declared.problem.Rewrite.{Rewrite}
use Rattle.rare_text.specs.Problems.{StatedProblem, with_name, with_sort, with_symbol, with_width, with_floors, with_rewrite}
use Rattle.rare_text.specs.Samples.{AreSamples, sample_number}
use Rattle.rare_text.specs.Stated.{stated_problem, stated_rewrite}
use Rattle.rare_text.specs.inner.Standing.{AreCounted, IsProblemOf}
use Rattle.rare_text.proofs.AtSamples.{same_value, sample_before, sample_positive}
use Rattle.rare_text.proofs.Growing.{IsMore, more_terms, more_sorts, more_widths, more_constraints, more_symbols, names_meant, same_names, same_ids, same_rewrites, same_sorts}

-- the problem is one of these terms, and is the one that was read
abbrev pub Holds : State → Problem → StatedProblem → Type 0
Holds t q read = IsProblemOf t q × (◌≡◌ {A = Read StatedProblem} (Ok read) (Ok (stated_problem t q)))

moved : (read : StatedProblem) (t u : State) (q v : Problem) → t ≡ u → q ≡ v → Holds u v read → Holds t q read
moved read t u q v et eq h = subst (λ s. Holds s q read) (sym et) (subst (λ p. Holds u p read) (sym eq) h)

-- ---- counts

as_many : (n : List ℕ) (ks : List ℕ) → length (map (λ k. n) ks) ≡ length ks
as_many n [] = refl
as_many n (k ∷ ks) = ap suc (as_many n ks)

few_names : (number : Meaning → List ℕ) → ((m : Meaning) → length (number m) ≤ 1) → (held : Held) → length (names_with number held) ≤ length held
few_names number few [] = omega arith
few_names number few (x ∷ xs) =
    let n = length-append (map (λ k. x.0) (number x.1)) (names_with number xs) in
    let ih = few_names number few xs in
    omega (arith, n, as_many x.0 (number x.1), few x.1, ih)

one_sort_number : (m : Meaning) → length (sort_number m) ≤ 1
one_sort_number (meaning.Sort k) = omega arith
one_sort_number (meaning.Width k) = omega arith
one_sort_number (meaning.Symbol k) = omega arith
one_sort_number (meaning.Term id) = omega arith

one_symbol_number : (m : Meaning) → length (symbol_number m) ≤ 1
one_symbol_number (meaning.Sort k) = omega arith
one_symbol_number (meaning.Width k) = omega arith
one_symbol_number (meaning.Symbol k) = omega arith
one_symbol_number (meaning.Term id) = omega arith

one_width_number : (m : Meaning) → length (width_number m) ≤ 1
one_width_number (meaning.Sort k) = omega arith
one_width_number (meaning.Width k) = omega arith
one_width_number (meaning.Symbol k) = omega arith
one_width_number (meaning.Term id) = omega arith

-- no more is declared than there are names
pub few_sorts : (d : Declarations) (held : Held) → AreCounted d held → d.sorts ≤ length held
few_sorts d held c = omega (arith, few_names sort_number one_sort_number held, c.sorts)

pub few_symbols : (d : Declarations) (held : Held) → AreCounted d held → length d.symbols ≤ length held
few_symbols d held c = omega (arith, few_names symbol_number one_symbol_number held, c.symbols)

pub few_widths : (d : Declarations) (held : Held) → AreCounted d held → widths d ≤ length held
few_widths d held c = omega (arith, few_names width_number one_width_number held, c.widths)

one_name : (n : List ℕ) (ks : List ℕ) → length (map (λ k. n) ks ++ []) ≡ length ks
one_name n [] = refl
one_name n (k ∷ ks) = ap suc (one_name n ks)

counts : (number : Meaning → List ℕ) (held : Held) (n : List ℕ) (m : Meaning) →
    length (names_with number (held ++ (n, m) ∷ [])) ≡ length (names_with number held) + length (number m)
counts number held n m =
    let f : (List ℕ × Meaning) → List (List ℕ) = λ x. map (λ k. x.0) (number x.1) in
    ap length (flat_map-append f held ((n, m) ∷ []))
    ∙ length-append (flat_map f held) (f (n, m) ++ [])
    ∙ ap (λ k. length (flat_map f held) + k) (one_name n (number m))

abbrev pub with_meaning : Problem → List ℕ → Meaning → Problem
with_meaning p n m = record { rewrites = p.rewrites; scope = p.scope ++ (n, m) ∷ []; samples = p.samples }

module _ (s : State) (p : Problem) (held : IsProblemOf s p) where
  -- ---- terms

  pub terms_held : (t : State) → Grows s t → IsProblemOf t p × (stated_problem t p ≡ stated_problem s p)
  terms_held t g =
      let more = more_terms s t g in
      let names = same_names s t more p.scope held.meant in
      let rewrites = same_rewrites s t more p.rewrites held.ids in (
        record {
          meant = names_meant s t more p.scope held.meant;
          counted = subst (λ d. AreCounted d p.scope) (sym g.declared) held.counted;
          ids = same_ids s t more p.rewrites held.ids;
          sorted = same_sorts s t more p.rewrites held.ids held.sorted;
          samples = subst (λ d. AreSamples d p.samples) (sym g.declared) held.samples;
        },
        λ i. record { declared = g.declared i; names = names i; samples = p.samples; rewrites = rewrites i },
      )

  -- ---- a name

  module _ (t : State) (more : IsMore s t) (n : List ℕ) (m : Meaning) (is : IsMeant t m) where
    pub names_more : names_of t.trees (p.scope ++ (n, m) ∷ []) ≡ names_of s.trees p.scope ++ (n, meant t.trees m) ∷ []
    names_more =
        map-append (λ x. (x.0, meant t.trees x.1)) p.scope ((n, m) ∷ [])
        ∙ ap (λ ns. ns ++ (n, meant t.trees m) ∷ []) (same_names s t more p.scope held.meant)

    pub name_held : (samples : List ℕ) → AreCounted t.declared (p.scope ++ (n, m) ∷ []) → AreSamples t.declared samples →
        IsProblemOf t (record { rewrites = p.rewrites; scope = p.scope ++ (n, m) ∷ []; samples = samples })
    name_held samples count good = record {
      meant = All-push (λ x. IsMeant t x.1) p.scope (n, m) (names_meant s t more p.scope held.meant) is;
      counted = count;
      ids = same_ids s t more p.rewrites held.ids;
      sorted = same_sorts s t more p.rewrites held.ids held.sorted;
      samples = good;
    }

  pub sort_held : (t : State) (q : Problem) (n : List ℕ) (k : ℕ) → t ≡ under one_sort s → k ≡ s.declared.sorts → q ≡ with_meaning p n (meaning.Sort k) → Holds t q (with_sort n (stated_problem s p))
  sort_held t q n k et ek eq =
      let u = under one_sort s in
      let m : Meaning = meaning.Sort k in
      let more = more_sorts s in
      let c = held.counted in
      let is : IsMeant u m = omega (arith, ek) in
      moved (with_sort n (stated_problem s p)) t u q (with_meaning p n m) et eq (
        name_held u more n m is p.samples (record {
          sorts = omega (arith, counts sort_number p.scope n m, c.sorts);
          symbols = omega (arith, counts symbol_number p.scope n m, c.symbols);
          widths = omega (arith, counts width_number p.scope n m, c.widths);
        }) (record { one_each = held.samples.one_each; positive = held.samples.positive; allowed = held.samples.allowed }),
        λ i. Ok (record {
          declared = one_sort s.declared;
          names = (ap (λ j. names_of s.trees p.scope ++ (n, a_sort j) ∷ []) (sym ek) ∙ sym (names_more u more n m is)) i;
          samples = p.samples;
          rewrites = sym (same_rewrites s u more p.rewrites held.ids) i;
        }),
      )

  pub symbol_held : IsLawful s → (t : State) (q : Problem) (n : List ℕ) (args : List Sort) (gives : Sort) (k : ℕ) → t ≡ under (one_symbol (record { args = args; gives = gives })) s →
      k ≡ length s.declared.symbols → q ≡ with_meaning p n (meaning.Symbol k) → Holds t q (with_symbol n args gives (stated_problem s p))
  symbol_held l t q n args gives k et ek eq =
      let x : Signature = record { args = args; gives = gives } in
      let u = under (one_symbol x) s in
      let m : Meaning = meaning.Symbol k in
      let more = more_symbols s l x in
      let c = held.counted in
      let is : IsMeant u m = omega (arith, ek, length-append s.declared.symbols (x ∷ [])) in
      moved (with_symbol n args gives (stated_problem s p)) t u q (with_meaning p n m) et eq (
        name_held u more n m is p.samples (record {
          sorts = omega (arith, counts sort_number p.scope n m, c.sorts);
          symbols = omega (arith, counts symbol_number p.scope n m, c.symbols, length-append s.declared.symbols (x ∷ []));
          widths = omega (arith, counts width_number p.scope n m, c.widths);
        }) (record { one_each = held.samples.one_each; positive = held.samples.positive; allowed = held.samples.allowed }),
        λ i. Ok (record {
          declared = one_symbol x s.declared;
          names = (ap (λ j. names_of s.trees p.scope ++ (n, a_symbol j) ∷ []) (sym ek) ∙ sym (names_more u more n m is)) i;
          samples = p.samples;
          rewrites = sym (same_rewrites s u more p.rewrites held.ids) i;
        }),
      )

  pub term_held : (q : Problem) (n : List ℕ) (id : TermId) → id.0 < length s.trees → q ≡ with_meaning p n (meaning.Term id) → Holds s q (with_name n (a_term (tree_at s.trees id.0)) (stated_problem s p))
  term_held q n id lt eq =
      let m : Meaning = meaning.Term id in
      let c = held.counted in
      moved (with_name n (a_term (tree_at s.trees id.0)) (stated_problem s p)) s s q (with_meaning p n m) refl eq (
        record {
          meant = All-push (λ x. IsMeant s x.1) p.scope (n, m) held.meant lt;
          counted = record {
            sorts = omega (arith, counts sort_number p.scope n m, c.sorts);
            symbols = omega (arith, counts symbol_number p.scope n m, c.symbols);
            widths = omega (arith, counts width_number p.scope n m, c.widths);
          };
          ids = held.ids;
          sorted = held.sorted;
          samples = held.samples;
        },
        λ i. Ok (record {
          declared = s.declared;
          names = sym (map-append (λ x. (x.0, meant s.trees x.1)) p.scope ((n, m) ∷ [])) i;
          samples = p.samples;
          rewrites = map (stated_rewrite s.trees) p.rewrites;
        }),
      )

  -- ---- a width

  samples_more : IsLawful s → (n : ℕ) → 1 ≤ n → AreSamples (one_width s.declared) (p.samples ++ n ∷ [])
  samples_more l n le =
      let h = held.samples in
      let all = All-push (λ k. 1 ≤ k) p.samples n h.positive le in
      let same = sample_before p.samples n in record {
        one_each = omega (arith, length-append p.samples (n ∷ []), length-append s.declared.lows (1 ∷ []), h.one_each);
        positive = all;
        allowed = record {
          widths = λ k. sample_positive (p.samples ++ n ∷ []) k all;
          hold = λ k c lt.
              let floor : LinearExpression = (get_or s.declared.constraints k c).floor in
              let named : NamesBelow (length p.samples) floor.parts = subst (λ (w : ℕ). NamesBelow w floor.parts) (sym h.one_each) (l.declared.constraints k c lt) in
              subst (λ v. pos 0 ≤ℤ v) (same_value (length p.samples) (sample_number p.samples) (sample_number (p.samples ++ n ∷ [])) same floor named) (h.allowed.hold k c lt);
        };
      }

  pub width_held : IsLawful s → (t : State) (q : Problem) (n : List ℕ) (sample k : ℕ) → 1 ≤ sample → t ≡ under one_width s → k ≡ widths s.declared →
      q ≡ record { rewrites = p.rewrites; scope = p.scope ++ (n, meaning.Width k) ∷ []; samples = p.samples ++ sample ∷ [] } → Holds t q (with_width n sample (stated_problem s p))
  width_held l t q n sample k le et ek eq =
      let u = under one_width s in
      let m : Meaning = meaning.Width k in
      let more = more_widths s in
      let c = held.counted in
      let is : IsMeant u m = omega (arith, ek, length-append s.declared.lows (1 ∷ [])) in
      moved (with_width n sample (stated_problem s p)) t u q (record { rewrites = p.rewrites; scope = p.scope ++ (n, m) ∷ []; samples = p.samples ++ sample ∷ [] }) et eq (
        name_held u more n m is (p.samples ++ sample ∷ []) (record {
          sorts = omega (arith, counts sort_number p.scope n m, c.sorts);
          symbols = omega (arith, counts symbol_number p.scope n m, c.symbols);
          widths = omega (arith, counts width_number p.scope n m, c.widths, length-append s.declared.lows (1 ∷ []));
        }) (samples_more l sample le),
        λ i. Ok (record {
          declared = one_width s.declared;
          names = (ap (λ j. names_of s.trees p.scope ++ (n, a_width j) ∷ []) (sym ek) ∙ sym (names_more u more n m is)) i;
          samples = p.samples ++ sample ∷ [];
          rewrites = sym (same_rewrites s u more p.rewrites held.ids) i;
        }),
      )

  -- ---- a constraint

  pub floor_held : (t : State) (f : LinearExpression) → t ≡ under (one_constraint (record { floor = f })) s → pos 0 ≤ℤ linear_value (sample_number p.samples) f → Holds t p (with_floors (f ∷ []) (stated_problem s p))
  floor_held t f et le =
      let c : Constraint = record { floor = f } in
      let u = under (one_constraint c) s in
      let more = more_constraints s c in
      let h = held.samples in
      moved (with_floors (f ∷ []) (stated_problem s p)) t u p p et refl (
        record {
          meant = names_meant s u more p.scope held.meant;
          counted = record { sorts = held.counted.sorts; symbols = held.counted.symbols; widths = held.counted.widths };
          ids = held.ids;
          sorted = held.sorted;
          samples = record {
            one_each = h.one_each;
            positive = h.positive;
            allowed = record { widths = h.allowed.widths; hold = All-push (λ x. pos 0 ≤ℤ linear_value (sample_number p.samples) x.floor) s.declared.constraints c h.allowed.hold le };
          };
        },
        refl,
      )

  -- ---- a rewrite

  pub rewrite_held : (q : Problem) (r : Rewrite) → r.left.0 < length s.trees → r.right.0 < length s.trees →
      sort_of s.declared.symbols (tree_at s.trees r.left.0) ≡ sort_of s.declared.symbols (tree_at s.trees r.right.0) →
      q ≡ record { rewrites = p.rewrites ++ r ∷ []; scope = p.scope; samples = p.samples } → Holds s q (with_rewrite (stated_rewrite s.trees r) (stated_problem s p))
  rewrite_held q r left right same eq =
      moved (with_rewrite (stated_rewrite s.trees r) (stated_problem s p)) s s q (record { rewrites = p.rewrites ++ r ∷ []; scope = p.scope; samples = p.samples }) refl eq (
        record {
          meant = held.meant;
          counted = held.counted;
          ids = All-push (λ x. (x.left.0 < length s.trees) × (x.right.0 < length s.trees)) p.rewrites r held.ids (left, right);
          sorted = All-push (λ x. sort_of s.declared.symbols (tree_at s.trees x.left.0) ≡ sort_of s.declared.symbols (tree_at s.trees x.right.0)) p.rewrites r held.sorted same;
          samples = held.samples;
        },
        λ i. Ok (record {
          declared = s.declared;
          names = names_of s.trees p.scope;
          samples = p.samples;
          rewrites = sym (map-append (stated_rewrite s.trees) p.rewrites (r ∷ [])) i;
        }),
      )
