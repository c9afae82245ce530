-- The parameters of a rule, all: what is written of those that were read is read back.
use Rattle.std.proofs.Common.{◌≡◌, ℕ, suc, ◌+◌, Bool, true, false, cond, List, [], ◌∷◌, ◌++◌, map, length, bytes_eq, slice_get, Option, Some, None, Ok, refl, sym, ap, ◌∙◌, subst, arith, append_assoc, append-nil, length-append}
use Rattle.std.specs.Prelude.{if◌then◌else◌}
use Rattle.std.proofs.lemmas.Option.{none-some}
use Rattle.std.proofs.lemmas.Slice.Eq.{bytes_eq-Decides}
use Rattle.rare_base.specs.declared.answers.Reason.TheVariants as reason
use Rattle.rare_sexpr.specs.declared.tree.Sexpr.{Sexpr}
use Rattle.rare_sexpr.specs.Tree.{kind_of, items_of}
use Rattle.rare_scope.specs.Reading.{refused, go_on, is_list_kind}
use Rattle.rare_scope.proofs.InOrder.{went, same_Ok}
use Rattle.rare_rule.specs.Written.{declared_param, fresh_param}
use Rattle.rare_rule.specs.declared.param.Param.{Param}
use Rattle.rare_rule.specs.declared.param.ParamKind.{ParamKind}
use Rattle.rare_parse.specs.ParamText.{WrittenKind, brought, WrittenParam, written, param_at, params_from, params_at}
use Rattle.rare_parse.specs.RuleNames.{number_of_name}
use Rattle.rare_term_printing.specs.OperatorTexts.{list_text}
use Rattle.rare_rule_printing.specs.SortPrinting.{declaration_text, declared_texts, params_text}
use Rattle.rare_rule_printing.specs.inner.RulePieces.{all_spaced}
use Rattle.rare_reread.specs.ReadsAs.{ReadsAs, RunsAs}
use Rattle.rare_reread.proofs.Joining.{Begins, nothing_runs, more_runs}
use Rattle.rare_reread.proofs.Linears.{so_reads, so_runs}
use Rattle.rare_reread.proofs.Lists.{IsEnd}
use Rattle.rare_rule_reread.specs.Spelled.{IsSpelled}
use Rattle.rare_rule_reread.proofs.Growing.{one_more_spoken, AllTaken, taken_grows, fresh_spoken}
use Rattle.rare_rule_reread.proofs.ParamKinds.{kind_back}
use Rattle.rare_rule_reread.proofs.Pairs.{ItemsAs, no_items, first_items, so_items, HasItems, items_read}
use Rattle.rare_rule_reread.proofs.Params.{given, param_reads}
use Rattle.rare_rule_reread.proofs.ParamPlaces.{together, declared_place, fresh_place, taken_append, or_second, AllDeclared, AllFresh, brought_fresh}
use Rattle.rare_rule_reread.proofs.Places.{number_behind, none_among}
use Rattle.rare_rule_reread.proofs.Spelled.{AllSpelled, items_spelled}
use Rattle.rare_rule_reread.proofs.Spoken.{AreSpoken}

module _ (first : ℕ) (all : List Param) where
  -- ---- what is left

  record IsLater (ds fs : List Param) (xs : List Sexpr) : Type 0 where
    rest : List Param
    more : List Param
    count : length rest ≡ length xs
    same : all ≡ (ds ++ rest) ++ (fs ++ more)

  later : (ds fs : List Param) (xs : List Sexpr) → params_from first ds fs xs ≡ Ok all → IsLater ds fs xs
  later ds fs [] is = record {
    rest = [];
    more = [];
    count = refl;
    same = sym (same_Ok (ds ++ fs) all is) ∙ ap (λ rs. rs ++ fs) (sym (append-nil ds)) ∙ ap (λ rs. (ds ++ []) ++ rs) (sym (append-nil fs));
  }
  later ds fs (x ∷ xs) is =
      let p = went (param_at (first + length fs) ds x) (λ p. params_from first (ds ++ p.param ∷ []) (fs ++ p.brings) xs) all is in
      behind p.0 (later (ds ++ p.0.param ∷ []) (fs ++ p.0.brings) xs p.2)
    where
      behind : (p : WrittenParam) → IsLater (ds ++ p.param ∷ []) (fs ++ p.brings) xs → IsLater ds fs (x ∷ xs)
      behind p l = record { rest = p.param ∷ l.rest; more = p.brings ++ l.more; count = ap suc l.count; same = l.same ∙ together ds l.rest fs p.param p.brings l.more }

  -- ---- read again

  abbrev Again : List Param → List Param → List Sexpr → List Sexpr → Type 0
  Again ds fs xs ys = (length ys ≡ length xs) × (params_from first ds fs ys ≡ Ok all)

  -- the parameter of this name and kind
  abbrev IsParam : List Param → List Param → List ℕ → WrittenKind → Sexpr → Type 0
  IsParam ds fs text k y = param_at (first + length fs) ds y ≡ Ok (written text k)

  -- what is left behind it
  abbrev Later : List Param → List Param → List ℕ → WrittenKind → List Sexpr → List Sexpr → Type 0
  Later ds fs text k xs = Again (ds ++ declared_param text k.kind ∷ []) (fs ++ brought text k.brings) xs

  -- declarations one behind the other, the first behind no blank
  abbrev pub inside_text : List Param → List ℕ
  inside_text [] = []
  inside_text (p ∷ ps) = declaration_text all p ++ all_spaced (map (declaration_text all) ps)

  record IsRest (ds fs : List Param) (xs : List Sexpr) : Type 0 where
    rest : List Param
    more : List Param
    same : all ≡ (ds ++ rest) ++ (fs ++ more)
    declared : AllDeclared rest
    fresh : AllFresh more
    spoken : AreSpoken (ds ++ rest) all
    taken : AllTaken (ds ++ rest) (fs ++ more)
    runs : RunsAs 1005 (all_spaced (map (declaration_text all) rest)) (Again ds fs xs)
    inside : ItemsAs 1005 (inside_text rest) (Again ds fs xs)

  none_left : (ds fs : List Param) → AreSpoken ds all → AllTaken ds fs → params_from first ds fs [] ≡ Ok all → IsRest ds fs []
  none_left ds fs spoken taken is = record {
    rest = [];
    more = [];
    same = sym (same_Ok (ds ++ fs) all is) ∙ ap (λ rs. rs ++ fs) (sym (append-nil ds)) ∙ ap (λ rs. (ds ++ []) ++ rs) (sym (append-nil fs));
    declared = tt;
    fresh = tt;
    spoken = subst (λ ps. AreSpoken ps all) (sym (append-nil ds)) spoken;
    taken = subst (λ ps. AllTaken ps (fs ++ [])) (sym (append-nil ds)) (subst (AllTaken ds) (sym (append-nil fs)) taken);
    runs = so_runs 1005 1005 [] [] IsEnd (Again ds fs []) (omega arith) refl ends (nothing_runs 1005);
    inside = so_items 1005 [] [] IsEnd (Again ds fs []) refl ends (no_items 1005);
  }
    where
      ends : (ys : List Sexpr) → ys ≡ [] → Again ds fs [] ys
      ends ys none = subst (Again ds fs []) (sym none) (refl, is)

  one_before : (ds fs : List Param) (x : Sexpr) (xs : List Sexpr) (text : List ℕ) (k : WrittenKind) →
      ReadsAs 1005 (declaration_text all (declared_param text k.kind)) (λ y. param_at (first + length fs) ds y ≡ Ok (written text k)) →
      IsRest (ds ++ declared_param text k.kind ∷ []) (fs ++ brought text k.brings) xs → IsRest ds fs (x ∷ xs)
  one_before ds fs x xs text k reads r =
      let d = declared_param text k.kind in
      let bs = brought text k.brings in
      record {
        rest = d ∷ r.rest;
        more = bs ++ r.more;
        same = r.same ∙ together ds r.rest fs d bs r.more;
        declared = (refl, r.declared);
        fresh = brought_fresh text k.brings r.more r.fresh;
        spoken = subst (λ ps. AreSpoken ps all) (append_assoc ds (d ∷ []) r.rest) r.spoken;
        taken = subst (λ ps. AllTaken ps (fs ++ (bs ++ r.more))) (append_assoc ds (d ∷ []) r.rest) (subst (AllTaken ((ds ++ d ∷ []) ++ r.rest)) (append_assoc fs bs r.more) r.taken);
        runs =
            so_runs 1005 1005 (32 ∷ (declaration_text all d ++ all_spaced (map (declaration_text all) r.rest))) (all_spaced (map (declaration_text all) (d ∷ r.rest))) (Begins (IsParam ds fs text k) (Later ds fs text k xs)) (Again ds fs (x ∷ xs)) (omega arith) refl begins
            (more_runs 1005 (declaration_text all d) (all_spaced (map (declaration_text all) r.rest)) (IsParam ds fs text k) (Later ds fs text k xs) reads r.runs);
        inside =
            so_items 1005 (inside_text (d ∷ r.rest)) (inside_text (d ∷ r.rest)) (Begins (IsParam ds fs text k) (Later ds fs text k xs)) (Again ds fs (x ∷ xs)) refl begins
            (first_items 1005 (declaration_text all d) (all_spaced (map (declaration_text all) r.rest)) (IsParam ds fs text k) (Later ds fs text k xs) reads r.runs);
      }
    where
      begins : (ys : List Sexpr) → Begins (IsParam ds fs text k) (Later ds fs text k xs) ys → Again ds fs (x ∷ xs) ys
      begins ys b =
          subst (Again ds fs (x ∷ xs)) (sym b.both)
          (ap suc b.are.0, ap (λ q. go_on q (λ p. params_from first (ds ++ p.param ∷ []) (fs ++ p.brings) b.items)) b.is ∙ b.are.1)

  -- ---- one more that was read

  itself : (t : List ℕ) → bytes_eq t t ≡ true
  itself t = (bytes_eq-Decides t t).1 refl

  now_taken : (ds fs : List Param) (text : List ℕ) (k : WrittenKind) → number_of_name ds text ≡ None → AllTaken ds fs → AllTaken (ds ++ declared_param text k.kind ∷ []) (fs ++ brought text k.brings)
  now_taken ds fs text k new taken =
      let d = declared_param text k.kind in
      taken_append (ds ++ d ∷ []) fs (brought text k.brings) (taken_grows ds (d ∷ []) fs taken) (one k.brings)
    where
      one : (o : Option ParamKind) → AllTaken (ds ++ declared_param text k.kind ∷ []) (brought text o)
      one None = tt
      one (Some b) = ((length ds, number_behind ds (declared_param text k.kind) text new ∙ ap (λ b. cond b (Some (length ds)) None) (itself text)), tt)

  -- what it brings stands at its number
  brought_place : (ds fs : List Param) (xs : List Sexpr) (text : List ℕ) (k : WrittenKind) → length (ds ++ declared_param text k.kind ∷ []) + length xs ≡ first →
      IsLater (ds ++ declared_param text k.kind ∷ []) (fs ++ brought text k.brings) xs → (b : ParamKind) → k.brings ≡ Some b → slice_get all (first + length fs) ≡ Some (fresh_param text b)
  brought_place ds fs xs text k count l b is =
      let declared = (ds ++ declared_param text k.kind ∷ []) ++ l.rest in
      let n = length-append (ds ++ declared_param text k.kind ∷ []) l.rest in
      let m = l.count in
      fresh_place all declared fs l.more (fresh_param text b) first (l.same ∙ ap (λ o. declared ++ ((fs ++ brought text o) ++ l.more)) is) (omega (arith, n, m, count))

  one_more_count : (ds : List Param) (d : Param) (n : ℕ) → length (ds ++ d ∷ []) + n ≡ length ds + suc n
  one_more_count ds d n = let e = length-append ds (d ∷ []) in omega (arith, e)

  again : (ds fs : List Param) (xs : List Sexpr) → length ds + length xs ≡ first → AreSpoken ds all → AllTaken ds fs → AllSpelled xs → params_from first ds fs xs ≡ Ok all → IsRest ds fs xs
  again ds fs [] count spoken taken spelled is = none_left ds fs spoken taken is
  again ds fs (x ∷ xs) count spoken taken spelled is =
      let p = went (param_at (first + length fs) ds x) (λ p. params_from first (ds ++ p.param ∷ []) (fs ++ p.brings) xs) all is in
      let g = given (first + length fs) ds x p.0 spelled.0 p.1 in
      let d = declared_param g.text g.kind.kind in
      let bs = brought g.text g.kind.brings in
      let more : params_from first (ds ++ d ∷ []) (fs ++ bs) xs ≡ Ok all = ap (λ (q : WrittenParam). params_from first (ds ++ q.param ∷ []) (fs ++ q.brings) xs) g.is ∙ p.2 in
      let l = later (ds ++ d ∷ []) (fs ++ bs) xs more in
      let n : length (ds ++ d ∷ []) + length xs ≡ first = one_more_count ds d (length xs) ∙ count in
      let new : number_of_name ds g.text ≡ None = none_among ds g.text (or_second g.text (map (λ p. p.name) ds) g.new) in
      let b = kind_back ds all spoken (first + length fs) g.text g.bars new g.sort g.kind (brought_place ds fs xs g.text g.kind n l) g.read in
      let now : AreSpoken (ds ++ d ∷ []) all =
      one_more_spoken ds all d spoken (λ text same none. record { place = declared_place all ds l.rest ((fs ++ bs) ++ l.more) d l.same; declared = refl; bars = g.bars; size = b.size }) in
      one_before ds fs x xs g.text g.kind (param_reads (first + length fs) ds all g.text g.kind g.bars g.new b.single b.reads)
      (again (ds ++ d ∷ []) (fs ++ bs) xs n now (now_taken ds fs g.text g.kind new taken) spelled.1 more)

  -- ---- the list

  declared_is : (rest more : List Param) → AllDeclared rest → AllFresh more → declared_texts all (rest ++ more) ≡ map (declaration_text all) rest
  declared_is [] [] declared fresh = refl
  declared_is [] (p ∷ more) declared fresh = ap (λ b. if b then (declared_texts all more) else (declaration_text all p ∷ declared_texts all more)) fresh.0 ∙ declared_is [] more tt fresh.1
  declared_is (p ∷ rest) more declared fresh =
      ap (λ b. if b then (declared_texts all (rest ++ more)) else (declaration_text all p ∷ declared_texts all (rest ++ more))) declared.0
      ∙ ap (λ ts. declaration_text all p ∷ ts) (declared_is rest more declared.1 fresh)

  list_is : (rest : List Param) → 40 ∷ (inside_text rest ++ 41 ∷ []) ≡ list_text (map (declaration_text all) rest)
  list_is [] = refl
  list_is (p ∷ rest) = ap (λ t. 40 ∷ t) (append_assoc (declaration_text all p) (all_spaced (map (declaration_text all) rest)) (41 ∷ []))

-- parameters that are read back, over which names and sizes are written
pub record AreBack (ps : List Param) : Type 0 where
  pub reads : ReadsAs 1006 (params_text ps) (λ x. params_at x ≡ Ok ps)
  pub spoken : AreSpoken ps ps

none_spoken : (ps : List Param) → AreSpoken [] ps
none_spoken ps = record { names = λ text k is. absurd (none-some k is); sizes = λ text l is. absurd (none-some l is) }

list_again : (ps : List Param) (xs : List Sexpr) (x : Sexpr) → HasItems (Again (length xs) ps [] [] xs) x → params_at x ≡ Ok ps
list_again ps xs x h =
    ap (λ b. if b then params_from (length (items_of x)) [] [] (items_of x) else refused x reason.BadForm) (ap is_list_kind h.list)
    ∙ ap (λ n. params_from n [] [] (items_of x)) h.are.0 ∙ h.are.1

rest_back : (ps : List Param) (xs : List Sexpr) → IsRest (length xs) ps [] [] xs → AreBack ps
rest_back ps xs r = record {
  reads =
      so_reads 1006 1006 (40 ∷ (inside_text (length xs) ps r.rest ++ 41 ∷ [])) (params_text ps) (HasItems (Again (length xs) ps [] [] xs)) (λ x. params_at x ≡ Ok ps) (omega arith)
      (list_is (length xs) ps r.rest ∙ ap list_text (sym (ap (declared_texts ps) r.same ∙ declared_is (length xs) ps r.rest r.more r.declared r.fresh))) (list_again ps xs)
      (items_read 1005 (inside_text (length xs) ps r.rest) (Again (length xs) ps [] [] xs) r.inside);
  spoken = subst (λ qs. AreSpoken qs ps) (sym r.same) (fresh_spoken r.rest ps r.more r.spoken r.taken);
}

pub params_back : (e : Sexpr) (ps : List Param) → IsSpelled e → params_at e ≡ Ok ps → AreBack ps
params_back e ps spelled is = go (is_list_kind (kind_of e)) is
  where
    go : (b : Bool) → (if b then params_from (length (items_of e)) [] [] (items_of e) else refused e reason.BadForm) ≡ Ok ps → AreBack ps
    go true is = rest_back ps (items_of e) (again (length (items_of e)) ps [] [] (items_of e) (omega arith) (none_spoken ps) tt (items_spelled e spelled) is)
    go false is = absurd cc
