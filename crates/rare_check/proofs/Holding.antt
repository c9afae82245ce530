-- What a checker keeps as its terms and names grow.
use Rattle.std.proofs.Common.{◌≡◌, ℕ, ◌<◌, true, nat_eq, get_or, List, [], ◌∷◌, ◌++◌, Result, Ok, Err, OnOk, OnErr, length, take, refl, ap, sym, ◌∙◌, subst, arith, length-append}
use Rattle.std.proofs.lemmas.List.{append-nil, map-append, length-map, take-append-le}
use Rattle.std.proofs.lemmas.List.Elements.{All-push}
use Rattle.rare_sort.specs.declared.declarations.Declarations.{Declarations}
use Rattle.rare_sort.specs.declared.tree.TermId.{TermId}
use Rattle.rare_sort.specs.declared.tree.Tree.{Tree}
use Rattle.rare_term.specs.State.{State, Grows}
use Rattle.rare_scope.specs.Names.{Held, Meant, AreMeant, IsMeant, names_of, meant}
use Rattle.rare_scope.specs.declared.meaning.Meaning.{Meaning}
use Rattle.rare_scope.specs.declared.meaning.Meaning.TheVariants as meaning
use Rattle.rare_text.specs.Problems.{StatedRewrite}
use Rattle.rare_text.specs.declared.problem.Rewrite.{Rewrite}
use Rattle.rare_sexpr.specs.Commands.{Commands}
use Rattle.rare_sexpr.specs.declared.tree.Sexpr.{Sexpr}
use Rattle.std.specs.List.{list_any}
use Rattle.rare_rule.specs.Books.{BookRule}
use Rattle.rare_proof.specs.declared.step.Step.{Step}
use Rattle.rare_proof.specs.declared.step.StepRule.{StepRule}
use Rattle.rare_proof.specs.declared.step.StepRule.TheVariants as by
use Rattle.rare_meaning.specs.Interpretations.{FunctionClass}
use Rattle.rare_proof.specs.StepLaws.{ValidStepsAreTrue}
use Rattle.rare_proof.proofs.Growing.{concluded_kept, proof_kept}
use Rattle.rare_proof_text.specs.ProofText.{proof_command}
use Rattle.rare_proof_text.specs.ProofCommands.{ProofCommand}
use Rattle.rare_term_text.proofs.Naming.{are_kept, names_kept}
use Rattle.rare_check.specs.Checking.{Progress, answer_from}
use Rattle.rare_check.specs.declared.judged.Judged.{Judged}
use Rattle.rare_check.specs.inner.Judging.{AreNamedRules, IsJudged, IsNamedRule, bad_in, named_equations}
use Rattle.rare_check.specs.inner.Kept.{IsHeld, IsNotedBehind, Keeps, answer_with, stated_rewrites}
use Rattle.rare_check.specs.inner.Progress.{progress, progress_of}
use Rattle.rare_check.specs.inner.Truth.{AreSound}
use Rattle.rare_check.proofs.Growing.{rewrites_kept, sides_kept}
use Rattle.rare_check.proofs.Soundness.{named_true, true_progress}

-- ---- the terms grow

module _ (old new : State) (book : List BookRule) (j : Judged) (g : Grows old new) (h : IsJudged old book j) where
  pub progress_kept : progress_of new.trees j ≡ progress_of old.trees j
  progress_kept =
      ap (λ es. record { earlier = named_equations es j.ids j.places; concluded = j.concluded.keys; bad = bad_in j }) (concluded_kept old new g j.proof h.proof.are)

  pub judged_kept : IsJudged new book j
  judged_kept = record { matched = h.matched; within = h.within; proof = proof_kept old new g book j.proof h.proof }

module _ (old new : State) (book : List BookRule) (rewrites : List Rewrite) (scope : Held) (j : Judged) (g : Grows old new) (h : IsHeld old book rewrites scope j) where
  same_rewrites : stated_rewrites new rewrites ≡ stated_rewrites old rewrites
  same_rewrites = rewrites_kept old new g rewrites h.sides

  pub held_kept : IsHeld new book rewrites scope j
  held_kept = record {
    typed = h.typed;
    shipped = h.shipped;
    sides = sides_kept old new g rewrites h.sides;
    meant = are_kept old new scope g h.meant;
    steps = judged_kept old new book j g h.steps;
    rules = h.rules;
    sound =
        (let P : Declarations → Type 0 = λ d. AreSound d book (stated_rewrites new rewrites) j.named.keys j.concluded.keys in
        let Q : List StatedRewrite → Type 0 = λ rs. AreSound old.declared book rs j.named.keys j.concluded.keys in
        subst P (sym g.declared) (subst Q (sym same_rewrites) h.sound));
  }

  pub grows_keeps : Keeps old scope new scope rewrites
  grows_keeps = record {
    declared = g.declared;
    sides = same_rewrites;
    names = λ known le. ap (take known) (names_kept old new scope g h.meant);
    longer = omega arith;
  }

  pub answer_kept : (commands : Commands) → answer_with new book rewrites scope j commands ≡ answer_with old book rewrites scope j commands
  answer_kept commands =
      let names = names_kept old new scope g h.meant in
      let progress = progress_kept old new book j g h.steps in
      λ i. answer_from (g.declared i) book (same_rewrites i) (names i) (progress i) j.named.keys commands

  pub command_kept : (e : Sexpr) → proof_command new.declared (names_of new.trees scope) book e ≡ proof_command old.declared (names_of old.trees scope) book e
  command_kept e = let names = names_kept old new scope g h.meant in λ i. proof_command (g.declared i) (names i) book e

-- ---- a name more

abbrev one_name : List Tree → List ℕ × Meaning → List ℕ × Meant
one_name ts x = (x.0, meant ts x.1)

pub name_meant : (s : State) (scope : Held) (name : List ℕ) (id : TermId) → AreMeant s scope → id.0 < length s.trees → AreMeant s (scope ++ (name, meaning.Term id) ∷ [])
name_meant s scope name id are lt = All-push (λ n. IsMeant s n.1) scope (name, meaning.Term id) are lt

pub names_push : (ts : List Tree) (scope : Held) (name : List ℕ) (id : TermId) → names_of ts (scope ++ (name, meaning.Term id) ∷ []) ≡ names_of ts scope ++ (name, meant ts (meaning.Term id)) ∷ []
names_push ts scope name id = map-append (one_name ts) scope ((name, meaning.Term id) ∷ [])

pub push_keeps : (s : State) (scope grown more : Held) (rewrites : List Rewrite) → grown ≡ scope ++ more → Keeps s scope s grown rewrites
push_keeps s scope grown more rewrites is = record {
  declared = refl;
  sides = refl;
  names = λ known le.
      let n : length (names_of s.trees scope) ≡ length scope = length-map scope (one_name s.trees) in
      ap (λ held. take known (names_of s.trees held)) is ∙ ap (take known) (map-append (one_name s.trees) scope more)
      ∙ take-append-le known (names_of s.trees scope) (names_of s.trees more) (omega (arith, le, n));
  longer = (let n = ap length is ∙ length-append scope more in omega (arith, n));
}

pub same_keeps : (s : State) (scope grown : Held) (rewrites : List Rewrite) → grown ≡ scope → Keeps s scope s grown rewrites
same_keeps s scope grown rewrites is = push_keeps s scope grown [] rewrites (is ∙ sym (append-nil scope))

pub keeps_on : (a b c : State) (x y z : Held) (rewrites : List Rewrite) → Keeps a x b y rewrites → Keeps b y c z rewrites → Keeps a x c z rewrites
keeps_on a b c x y z rewrites g h = record {
  declared = h.declared ∙ g.declared;
  sides = h.sides ∙ g.sides;
  names = λ known le. h.names known (omega (arith, le, g.longer)) ∙ g.names known le;
  longer = omega (arith, g.longer, h.longer);
}

-- ---- a command more

-- what is named stays so where more is
rules_named : (old new : List ℕ) → ((k : ℕ) → list_any (nat_eq k) old ≡ true → list_any (nat_eq k) new ≡ true) → (steps : List Step) → AreNamedRules old steps → AreNamedRules new steps
rules_named old new more steps h = λ k d lt. one (get_or steps k d).by (h k d lt)
  where
    one : (r : StepRule) → IsNamedRule old r → IsNamedRule new r
    one by.Refl e = tt
    one by.Cong e = tt
    one by.Trans e = tt
    one by.Evaluate e = tt
    one (by.Rewrite k args) e = more k e

module _ (s : State) (book : List BookRule) (rewrites : List Rewrite) (scope grown : Held) where
  -- names stand for more
  pub held_over : (j : Judged) → IsHeld s book rewrites scope j → AreMeant s grown → IsHeld s book rewrites grown j
  held_over j h meant = record { typed = h.typed; shipped = h.shipped; sides = h.sides; meant = meant; steps = h.steps; rules = h.rules; sound = h.sound }

  -- rules are named that were not
  pub held_noted : (old new : Judged) → IsHeld s book rewrites scope old → IsNotedBehind old new → IsHeld s book rewrites scope new
  held_noted old new h more =
      let J : Judged → Type 0 = λ j. IsJudged s book j in
      let bare : Judged = record new { named = old.named } in
      let steps : IsJudged s book bare = subst J (sym more.same) h.steps in
      let concluded : old.concluded ≡ new.concluded = ap (λ (j : Judged). j.concluded) (sym more.same) in
      let proof : old.proof ≡ new.proof = ap (λ (j : Judged). j.proof) (sym more.same) in
      let P : List ℕ → Type 0 = λ keys. AreSound s.declared book (stated_rewrites s rewrites) new.named.keys keys in
      let R : List Step → Type 0 = λ ss. AreNamedRules new.named.keys ss in
      record {
        typed = h.typed;
        shipped = h.shipped;
        sides = h.sides;
        meant = h.meant;
        steps = record { matched = steps.matched; within = steps.within; proof = steps.proof };
        rules = subst R proof (rules_named old.named.keys new.named.keys more.more old.proof h.rules);
        sound = subst P (ap (λ x. x.keys) concluded) (λ c hold. h.sound c (λ k is at. hold k (more.more k is) at));
      }

  pub held_more : (old new : Judged) (a : ProofCommand) → ((c : FunctionClass) → ValidStepsAreTrue c s.declared book) → IsHeld s book rewrites scope old → AreMeant s grown → IsJudged s book new → AreNamedRules new.named.keys new.proof → new.named ≡ old.named →
      progress_of s.trees new ≡ progress s.declared book (stated_rewrites s rewrites) (progress_of s.trees old) a → IsHeld s book rewrites grown new
  held_more old new a law h meant steps rules named same =
      let P : Progress → Type 0 = λ q. AreSound s.declared book (stated_rewrites s rewrites) new.named.keys q.concluded in
      let N : List ℕ → Type 0 = λ ks. AreSound s.declared book (stated_rewrites s rewrites) ks (progress s.declared book (stated_rewrites s rewrites) (progress_of s.trees old) a).concluded in
      record {
        typed = h.typed;
        shipped = h.shipped;
        sides = h.sides;
        meant = meant;
        steps = steps;
        rules = rules;
        sound = subst P (sym same) (subst N (ap (λ x. x.keys) (sym named)) (λ c hold.
            true_progress c s.declared book (stated_rewrites s rewrites) (progress_of s.trees old) a
            (named_true c s.declared s book old.named.keys old refl (law c) (h.shipped c) hold h.steps h.rules) (h.sound c hold)));
      }

  -- the same progress
  pub held_same : (old new : Judged) → IsHeld s book rewrites scope old → AreMeant s grown → IsJudged s book new → AreNamedRules new.named.keys new.proof → new.named ≡ old.named →
      progress_of s.trees new ≡ progress_of s.trees old → IsHeld s book rewrites grown new
  held_same old new h meant steps rules named same =
      let P : Progress → Type 0 = λ q. AreSound s.declared book (stated_rewrites s rewrites) new.named.keys q.concluded in
      let N : List ℕ → Type 0 = λ ks. AreSound s.declared book (stated_rewrites s rewrites) ks old.concluded.keys in
      record {
        typed = h.typed;
        shipped = h.shipped;
        sides = h.sides;
        meant = meant;
        steps = steps;
        rules = rules;
        sound = subst P (sym same) (subst N (ap (λ x. x.keys) (sym named)) h.sound);
      }

-- ---- answers that may have failed

pub either_way : {A B : Type 0} (r : Result A B) (P : Type 0) → OnOk r P → OnErr r P → P
either_way (Ok x) P p q = p
either_way (Err y) P p q = q

pub both_ok : {A B : Type 0} (r : Result A B) (P Q : Type 0) → OnOk r P → OnOk r Q → OnOk r (P × Q)
both_ok (Ok x) P Q p q = (p, q)
both_ok (Err y) P Q p q = tt

pub both_err : {A B : Type 0} (r : Result A B) (P Q : Type 0) → OnErr r P → OnErr r Q → OnErr r (P × Q)
both_err (Ok x) P Q p q = tt
both_err (Err y) P Q p q = (p, q)
